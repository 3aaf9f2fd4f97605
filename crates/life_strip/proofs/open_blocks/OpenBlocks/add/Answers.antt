use Rattle.std.proofs.Common.{◌≡◌, ℕ, ◌+◌, ◌++◌, ◌∷◌, [], pos, ◌+ℤ◌, ap, refl, sym, arith}
use Rattle.std.proofs.lemmas.Int.{ints}
use Rattle.life_base.proofs.Squares.{inside_offset}
use Rattle.life_strip.specs.Given.{half_plane}
use Rattle.life_strip.specs.Blocks.{AddsCells}
use Rattle.life_strip.specs.Open.{blocks_of}
use Rattle.life_strip.proofs.OpenLemmas.{adds-within, fits-within, last-begins}
use Rattle.life_strip.proofs.open_blocks.OpenBlocks.add.Goals as goal
use Rattle.life_strip.proofs.open_blocks.OpenBlocks.add.Goals.{After-bits_of_columns}

pub overflow_cast-from : goal.overflow_cast-from
overflow_cast-from c =
    let r = c.requires in
    let old = c.args.self.now in
    let a = inside_offset half_plane c.args.x r.west (omega (arith, ints, r.east, r.some)) in
    let begins = last-begins old.blocks.items old.last a.0 r.sound.blocks (r.before a.0 (sym a.1)) in
    omega (arith, ints, r.sound.west, begins, a.1)

pub overflow_add-self : goal.overflow_add-self
overflow_add-self c =
    let r = c.requires in
    let old = c.args.self.now in
    let a = inside_offset half_plane c.args.x r.west (omega (arith, ints, r.east, r.some)) in
    let before = r.before a.0 (sym a.1) in
    let begins = last-begins old.blocks.items old.last a.0 r.sound.blocks before in
    let fits = fits-within old.blocks.items old.last a.0 c.args.len r.sound.blocks before r.some (omega (arith, ints, a.1, r.east)) _
    c.if-from-len-le64.true (omega (arith, ints, r.sound.west, begins, a.1)) (omega arith) in
    omega (arith, fits, c.bits_of_columns.ensures)

-- the columns are added
adds : (c : After-bits_of_columns) (column : ℕ) → pos column ≡ c.args.x +ℤ pos half_plane
    → AddsCells (blocks_of c.args.self.now) (c.args.self.now.blocks.items ++ record {
      start = c.args.self.now.last.start;
      end = c.args.self.now.last.end;
      cells = c.args.self.now.last.cells + c.bits_of_columns.result;
    } ∷ []) column (column + c.args.len)
adds c column e =
    let r = c.requires in
    let old = c.args.self.now in
    let before = r.before column e in
    let begins = last-begins old.blocks.items old.last column r.sound.blocks before in
    adds-within old.blocks.items old.last column c.args.len r.sound.blocks before r.some (omega (arith, ints, e, r.east)) _ c.if-from-len-le64.true
    (omega (arith, ints, r.sound.west, begins, e)) _ refl refl (ap (λ z. old.last.cells + z) c.bits_of_columns.ensures)

pub returns-then-from-len-le64-clause-sound : goal.returns-then-from-len-le64-clause-sound
returns-then-from-len-le64-clause-sound c =
    let r = c.requires in
    let a = inside_offset half_plane c.args.x r.west (omega (arith, ints, r.east, r.some)) in
    record {
      blocks = (adds (goal.at.returns-then-from-len-le64-clause-sound c).After-bits_of_columns a.0 (sym a.1)).blocks;
      west = r.sound.west;
      space = r.sound.space;
    }

pub returns-then-from-len-le64-clause-adds : goal.returns-then-from-len-le64-clause-adds
returns-then-from-len-le64-clause-adds c t = adds (goal.at.returns-then-from-len-le64-clause-adds c).After-bits_of_columns
