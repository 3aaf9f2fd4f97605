use Rattle.std.proofs.Common.{◌≡◌, ◌≤◌, ◌<◌, ◌++◌, ◌-◌, ◌+◌, ◌^◌, ◌⊎◌, inl, inr, [], ℕ, ℤ, w64, to_z, of_z, length, get_or, drop, pos, ◌+ℤ◌, refl, sym, ◌∙◌, ap, subst, arith}
use Rattle.std.proofs.lemmas.Int.{ints}
use Rattle.std.proofs.lemmas.List.{length-drop, take_all}
use Rattle.life_base.specs.declared.cell.TheConstants.{MAX_LEVEL}
use Rattle.life_base.specs.declared.cell.Run.{Run}
use Rattle.life_strip.specs.declared.row.Row.{Row}
use Rattle.life_strip.specs.Blocks.{AddsCells}
use Rattle.life_strip.specs.Filling.{IsFilling}
use Rattle.life_strip.specs.Given.{AreNext, IsRunOnPlane, half_plane}
use Rattle.life_strip.specs.Open.{AreOpen, blocks_of}
use Rattle.life_strip.proofs.PlaneLemmas.{column_of_run}
use Rattle.life_strip.proofs.RunLemmas.{filling-more, filling-row, free-blocks, left-more, next-first, next-more, shut}
use Rattle.life_strip.proofs.plane.Plane.add_short_runs.Given.{Over}
use Rattle.life_strip.proofs.plane.Plane.add_short_runs.Goals as goal
use Rattle.life_strip.proofs.plane.Plane.add_short_runs.Goals.{After-then, Left-loop-index}
use Rattle.life_strip.proofs.plane.Plane.add_short_runs.Goals.{else-loop-index-test, then-loop-index-test+then-run-y, then-run-y-via-then-run-y, then-run-y-via-else-run-y+then-run-ne1, then-run-y-via-else-run-y+else-run-ne1+then-not-add}

-- a run in the place of one that isn't there
abbrev none : Run
none = record { x = pos 0; y = pos 0; len = 0; state = 0 }

-- a row with a block has no span
no-spans : (row : Row) → (row.blocks.items ≡ []) ⊎ (row.spans.items ≡ []) → 0 < row.blocks.len → row.spans.items ≡ []
no-spans row (inl e) some = absurd (let ok = row.blocks.ok.0 in let no = ap length e in omega (arith, ok, no, some))
no-spans row (inr e) some = e

-- a run in the row that was begun
row-here : (run : Run) (y : ℤ) (rows : ℕ) → IsRunOnPlane run.x run.y run.len → rows < 2 ^ MAX_LEVEL → y +ℤ pos half_plane ≡ pos rows
    → of_z w64 run.y ≡ of_z w64 y → run.y +ℤ pos half_plane ≡ pos rows
row-here run y rows inside few at same =
    let e : to_z w64 (of_z w64 run.y) ≡ to_z w64 (of_z w64 y) = ap (to_z w64) same in
    omega (arith, ints, e, at, few, inside.north, inside.south)

-- the column of a run, by the number that the code has
column_run : (run : Run) (column : ℕ) → IsRunOnPlane run.x run.y run.len → 1 ≤ run.len → pos column ≡ run.x +ℤ pos half_plane
    → pos column ≡ to_z w64 (of_z w64 run.x) +ℤ pos half_plane
column_run run column inside some e = omega (arith, ints, e, inside.west, inside.east, some)

pub loop-index-init : goal.loop-index-init
loop-index-init g c =
    let all = c.requires.filling.filled.row in
    let K = g.S.Squares.knows c.args._squares.now in
    let C = g.S.Squares.content c.args._squares.now in
    let spans = no-spans c.args.self.now.row all.one c.requires.some in
    record {
      within = omega arith;
      sound = c.new-row.ensures.sound;
      filling = λ row e f. filling-row K C c.args.self.now row
          (e ∙ c.new-row.ensures.blocks ∙ sym c.in-Some.ensures.items ∙ ap (λ v. v.items) c.replace-blocks.ensures.value) (f ∙ sym spans)
          c.args.log.now.runs c.requires.filling;
      next = c.requires.next;
      left = refl;
    }

pub add-requires-clause-sound : goal.add-requires-clause-sound
add-requires-clause-sound g c = c.loop-index.invariant.sound

pub add-requires-clause-before : goal.add-requires-clause-before
add-requires-clause-before g c column e =
    let K = g.S.Squares.knows c.args._squares.now in
    let C = g.S.Squares.content c.args._squares.now in
    let inv = c.loop-index.invariant in
    let plane = c.args.self.now in
    let is = c.requires.filling.filled in
    let old = shut c.loop-index.row inv.sound plane.row in
    let first = next-first c.loop-index.log.runs c.args.runs.now c.loop-index.index none c.loop-index-test.true inv.next in
    let run = get_or c.args.runs.now c.loop-index.index none in
    free-blocks K C plane old old c.loop-index.log.runs run (inv.filling old refl (no-spans plane.row is.row.one c.requires.some)) first.1 first.0 first.2
    (row-here run c.coordinate-y.result plane.rows first.1 is.most c.coordinate-y.ensures c.if-run-y.false) column
    (column_of_run run column first.1 first.0 e)

pub add-requires-clause-some : goal.add-requires-clause-some
add-requires-clause-some g c = (next-first c.loop-index.log.runs c.args.runs.now c.loop-index.index none c.loop-index-test.true c.loop-index.invariant.next).0

pub add-requires-clause-west : goal.add-requires-clause-west
add-requires-clause-west g c =
    let first = next-first c.loop-index.log.runs c.args.runs.now c.loop-index.index none c.loop-index-test.true c.loop-index.invariant.next in
    let west = first.1.west in
    let east = first.1.east in
    let some = first.0 in
    omega (arith, ints, west, east, some)

pub add-requires-clause-east : goal.add-requires-clause-east
add-requires-clause-east g c =
    let first = next-first c.loop-index.log.runs c.args.runs.now c.loop-index.index none c.loop-index-test.true c.loop-index.invariant.next in
    let west = first.1.west in
    let east = first.1.east in
    let some = first.0 in
    omega (arith, ints, west, east, some)

pub loop-index-preserved : goal.loop-index-preserved
loop-index-preserved g c =
    let K = g.S.Squares.knows c.args._squares.now in
    let C = g.S.Squares.content c.args._squares.now in
    let inv = c.loop-index.invariant in
    let plane = c.args.self.now in
    let is = c.requires.filling.filled in
    let spans = no-spans plane.row is.row.one c.requires.some in
    let old = shut c.loop-index.row inv.sound plane.row in
    let runs = c.loop-index.log.runs in
    let first = next-first runs c.args.runs.now c.loop-index.index none c.loop-index-test.true inv.next in
    let run = get_or c.args.runs.now c.loop-index.index none in
    let here = row-here run c.coordinate-y.result plane.rows first.1 is.most c.coordinate-y.ensures c.if-run-y.false in
    record {
      within = omega (arith, c.loop-index-test.true);
      sound = c.add.ensures.sound;
      filling = λ row e f. subst (λ z. IsFilling K C (record { runs = z; kept = record plane { row = row } })) (sym c.then.ensures)
          (filling-more K C plane old row runs run (inv.filling old refl spans) first.1 first.0 first.2 here spans (f ∙ sym spans) c.if-run-ne1.false
          (λ column at. subst (λ z. AddsCells (blocks_of c.loop-index.row) z column (column + run.len)) (sym e)
          (c.if-not-add.ensures.adds refl column (column_run run column first.1 first.0 at))));
      next = next-more runs c.then.result.runs c.args.runs.now c.loop-index.index none c.loop-index-test.true inv.next c.then.ensures;
      left = left-more _ runs c.then.result.runs c.args.runs.now c.loop-index.index none c.loop-index-test.true inv.left c.then.ensures;
    }

-- after the loop the blocks are those that the last turn began with
after : (g : Over) (c : Left-loop-index g) → AreOpen c.loop-index-test.row × (blocks_of c.loop-index-test.row ≡ blocks_of c.loop-index.row)
after g c = elim c.loop-index-test.branch [
  | else-loop-index-test w ↦ (subst AreOpen (sym w.row-is) c.loop-index.invariant.sound, ap blocks_of w.row-is)
  | then-loop-index-test+then-run-y w ↦ elim w.then-run-y.branch [
    | then-run-y-via-then-run-y v ↦ (subst AreOpen (sym (w.row-is ∙ v.row-is)) c.loop-index.invariant.sound, ap blocks_of (w.row-is ∙ v.row-is))
    | then-run-y-via-else-run-y+then-run-ne1 v ↦ (subst AreOpen (sym (w.row-is ∙ v.row-is)) c.loop-index.invariant.sound, ap blocks_of (w.row-is ∙ v.row-is))
    | then-run-y-via-else-run-y+else-run-ne1+then-not-add v ↦
        (subst AreOpen (sym (w.row-is ∙ v.row-is)) v.if-not-add.ensures.sound, ap blocks_of (w.row-is ∙ v.row-is) ∙ v.if-not-add.ensures.left refl)
  ]
]

pub close-requires : goal.close-requires
close-requires g c = (after g c).0

pub returns-clause-filling : goal.returns-clause-filling
returns-clause-filling g c =
    let left = after g (goal.at.returns-clause-filling g c).Left-loop-index in
    let plane = c.args.self.now in
    c.loop-index.invariant.filling (record plane.row { blocks = c.close.result }) (c.close.ensures ∙ left.1)
    (no-spans plane.row c.requires.filling.filled.row.one c.requires.some)

pub returns-clause-next : goal.returns-clause-next
returns-clause-next g c =
    subst (AreNext c.loop-index.log.runs)
    (sym (take_all (length c.args.runs.now - c.loop-index.index) (drop c.loop-index.index c.args.runs.now)
    (let n = length-drop c.loop-index.index c.args.runs.now in omega (arith, n))))
    c.loop-index.invariant.next

pub returns-clause-runs : goal.returns-clause-runs
returns-clause-runs g c =
    ap (λ z. c.loop-index.log.runs ++ z)
    (take_all (length c.args.runs.now - c.loop-index.index) (drop c.loop-index.index c.args.runs.now)
    (let n = length-drop c.loop-index.index c.args.runs.now in omega (arith, n)))
    ∙ c.loop-index.invariant.left
