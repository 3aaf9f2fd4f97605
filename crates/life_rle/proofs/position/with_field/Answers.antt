use Rattle.std.proofs.Common.{◌≡◌, ℕ, List, Result, true, false, Ok, sym, ap, ◌∙◌, rules, codes}
use Rattle.life_base.specs.declared.kind.Kind.{Kind}
use Rattle.life_base.specs.declared.cell.TheConstants.{MAX_LEVEL}
use Rattle.life_base.specs.Text.{begins_with}
use Rattle.life_base.specs.Numbers.{u64_of}
use Rattle.life_base.proofs.LineEnds.{all_behind}
use Rattle.life_rle.specs.declared.position.Position.{Position}
use Rattle.life_rle.specs.Position.{Field, Generation, position_with_field, and_then, corner_in}
use Rattle.life_rle.proofs.Fields.{field-corner, field-generation}
use Rattle.life_rle.proofs.position.with_field.Goals as goal

pub returns-then-begins_with : goal.returns-then-begins_with
returns-then-begins_with c =
    let e : begins_with c.args.field.now (codes "Pos=") ≡ true = search rules in
    let field : List ℕ = c.args.field.now in
    let F : Field → Result Position Kind = λ found. Ok (position_with_field c.args.position found) in
    c.with_corner.ensures ∙ ap (λ t. and_then (corner_in MAX_LEVEL t) F) (all_behind field 4) ∙ sym (field-corner MAX_LEVEL field F e)

pub returns-then-begins_with-2 : goal.returns-then-begins_with-2
returns-then-begins_with-2 c =
    let e : begins_with c.args.field.now (codes "Pos=") ≡ false = search rules in
    let e2 : begins_with c.args.field.now (codes "Gen=") ≡ true = search rules in
    let field : List ℕ = c.args.field.now in
    let F : Field → Result Position Kind = λ found. Ok (position_with_field c.args.position found) in
    c.with_generation.ensures ∙ ap (λ t. and_then (and_then (u64_of t) (λ n. Ok (Generation n))) F) (all_behind field 4)
    ∙ sym (field-generation MAX_LEVEL field F e e2)
