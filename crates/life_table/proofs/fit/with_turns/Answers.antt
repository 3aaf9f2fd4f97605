use Rattle.std.proofs.Common.{◌≡◌, ℕ, ◌+◌, ◌-◌, ◌*◌, ◌/◌, ◌<◌, ◌∷◌, List, length, length-drop, map, take, drop, get_or, slice_index, ap, sym, ◌∙◌, subst, arith}
use Rattle.std.proofs.lemmas.Nat.Bits.{shr_and_one}
use Rattle.life_table.specs.Found.{Adds, SomeGives}
use Rattle.life_table.specs.Meaning.{GivesAs, state_of}
use Rattle.life_table.specs.declared.found.Found.{Found}
use Rattle.life_table.specs.declared.table.Entry.{Entry}
use Rattle.life_table.specs.declared.table.Entry.TheVariants as entries
use Rattle.life_table.proofs.Adding.{adds_none}
use Rattle.life_table.proofs.DecidingAt.{shape, rest_are}
use Rattle.life_table.proofs.Fitting.{no_turns_yet, image_more}
use Rattle.life_table.proofs.Pairing.{turn_directive}
use Rattle.life_table.proofs.Turning.{first_turns, turned_by, turns_more, turn_below, all_turns}
use Rattle.life_table.proofs.fit.with_turns.Goals as goal
use Rattle.life_table.proofs.fit.with_turns.Goals.{then-fits-r-eq1, else-fits-r-eq1}

pub loop-k-init : goal.loop-k-init
loop-k-init c = no_turns_yet c.args.site.now.vars.now c.args.line.now c.args.found

pub loop-k-preserved : goal.loop-k-preserved
loop-k-preserved c =
    let vars = c.args.site.now.vars.now in
    let line = c.args.line.now in
    let cells = c.args.site.now.cells.now in
    let others : List ℕ = drop 1 cells in
    let step = c.args.site.now.ways.step in
    let k = c.loop-k.k in
    let turned : List ℕ = slice_index cells 0 ∷ turned_by c.args.reflect others (k * step) in
    let more = λ (mid : Found) (added : Adds (GivesAs vars line turned) c.loop-k.found mid).
    subst (λ list. Adds (SomeGives vars line list) c.args.found mid) (sym (turns_more c.args.reflect cells step k))
    (image_more vars line (first_turns c.args.reflect cells step k) turned c.args.found c.loop-k.found mid c.loop-k.invariant added) in
    elim c.if-fits-r-eq1.branch [
      | then-fits-r-eq1 w ↦
          let whole : take (length c.as_slice-inputs.result.now) w.image_of-image.result ≡ turned = ap (λ n. take n w.image_of-image.result)
          (ap length c.as_slice-inputs.ensures ∙ c.requires.line.count) ∙ w.image_of-image.ensures in
          subst (λ f. Adds (SomeGives vars line (first_turns c.args.reflect cells step (k + 1))) c.args.found f) (sym w.found-is)
          (more w.with_image-found.result (subst (λ v. Adds (GivesAs vars line v) c.loop-k.found w.with_image-found.result) whole w.with_image-found.ensures))
      | else-fits-r-eq1 w ↦
          let seen : List Entry = c.as_slice-inputs.result.now in
          let first : Entry = get_or seen 0 (entries.Fixed 0) in
          let rest : List Entry = take (length seen - 1) (drop 1 seen) in
          let parts : line.inputs ≡ first ∷ rest = shape c.args.site.now line c.requires.site c.requires.line seen c.as_slice-inputs.ensures in
          let size : length others ≡ length cells - 1 = length-drop 1 cells in
          let same : length rest ≡ length others = omega (arith, size, c.requires.line.count, ap length parts) in
          let inside : k * step < length cells - 1 = turn_below (length cells - 1) step k c.requires.turns.positive
          (omega (arith, c.loop-k-test.true, c.requires.turns.turns)) in
          subst (λ f. Adds (SomeGives vars line (first_turns c.args.reflect cells step (k + 1))) c.args.found f) (sym w.found-is)
          (more c.loop-k.found (adds_none (GivesAs vars line turned)
          (λ s g. w.if-fits-r-eq1.false (shr_and_one c.turns_that_may_fit-fits.result (k * step)
          ∙ c.turns_that_may_fit-fits.ensures (k * step) (omega (arith, inside, c.requires.site.space))
          (turn_directive vars g.choice g.is_choice first rest (slice_index cells 0) others c.args.site.now.seen.now c.args.reflect (k * step)
          (rest_are c.args.site.now line c.requires.site c.requires.line seen c.as_slice-inputs.ensures) same (omega (arith, size, c.requires.site.space))
          (omega (arith, size, inside)) c.requires.site.seen
          (sym (ap (map (state_of g.choice)) parts) ∙ g.inputs))))
          c.loop-k.found))
    ]

pub returns : goal.returns
returns c =
    let end : c.loop-k.k ≡ (length c.args.site.now.cells.now - 1) / c.args.site.now.ways.step = omega (arith, c.requires.turns.turns) in
    subst (λ list. Adds (SomeGives c.args.site.now.vars.now c.args.line.now list) c.args.found c.loop-k.found)
    (all_turns c.args.reflect c.args.site.now.cells.now c.args.site.now.ways.step c.loop-k.k end) c.loop-k.invariant
