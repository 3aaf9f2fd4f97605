-- What a line before the header is, by its tests, and what that says of it.
use Rattle.std.proofs.Common.{◌≡◌, ◌⊎◌, ℕ, Bool, true, false, cond, List, refl, subst, inl, inr, Ok, Err, Result, codes}
use Rattle.life_base.specs.declared.kind.Kind.{Kind}
use Rattle.life_base.specs.declared.kind.Kind.TheVariants.{LineTooLong, NoHeader}
use Rattle.life_base.specs.declared.rule.Rule.{Rule}
use Rattle.life_base.specs.Text.{is_too_long, is_blank, begins_with}
use Rattle.life_rle.specs.declared.line.Opening.{Opening}
use Rattle.life_rle.specs.declared.line.Opening.TheVariants.{Comment, PositionLine, Header}
use Rattle.life_rle.specs.declared.position.Position.{Position}
use Rattle.life_rle.specs.Grammar.{opening_of}
use Rattle.life_rle.specs.Header.{header_of}
use Rattle.life_rle.specs.Position.{and_then, is_position_line, position_of}

-- what a line before the header is, by its tests and by what it would be of each kind
abbrev pub opened : Bool → Bool → Bool → Bool → Bool → Result Position Kind → Result Rule Kind → Result Opening Kind
opened a b c d e p h =
    cond a (Err LineTooLong)
    (cond b (Ok Comment)
    (cond c (and_then p (λ position. Ok (PositionLine position)))
    (cond d (Ok Comment) (cond e (and_then h (λ rule. Ok (Header rule))) (Err NoHeader)))))

-- what that says of the tests, and of what was read
abbrev pub IsOpenedAs : Bool → Bool → Bool → Bool → Result Position Kind → Result Rule Kind → Result Opening Kind → Type 0
IsOpenedAs a b c d p h (Ok Comment) = (a ≡ false) × ((b ≡ true) ⊎ ((d ≡ true) × (c ≡ false)))
IsOpenedAs a b c d p h (Ok (PositionLine position)) = (a ≡ false) × (c ≡ true) × (p ≡ Ok position)
IsOpenedAs a b c d p h (Ok (Header rule)) = (a ≡ false) × (h ≡ Ok rule)
IsOpenedAs a b c d p h (Err kind) = Unit {0}

opened-as : (a b c d e : Bool) (p : Result Position Kind) (h : Result Rule Kind) → IsOpenedAs a b c d p h (opened a b c d e p h)
opened-as true b c d e p h = tt
opened-as false true c d e p h = (refl, inl refl)
opened-as false false true d e (Ok x) h = (refl, refl, refl)
opened-as false false true d e (Err k) h = tt
opened-as false false false true e p h = (refl, inr (refl, refl))
opened-as false false false false true p (Ok r) = (refl, refl)
opened-as false false false false true p (Err k) = tt
opened-as false false false false false p h = tt

abbrev pub IsOpening : ℕ → List ℕ → Result Opening Kind → Type 0
IsOpening level line =
    IsOpenedAs (is_too_long line) (is_blank line) (is_position_line line) (begins_with line (codes "#")) (position_of level line) (header_of line)

pub opening-is : (level : ℕ) (line : List ℕ) (is : Result Opening Kind) → opening_of level line ≡ is → IsOpening level line is
opening-is level line is e =
    subst (IsOpening level line) e
    (opened-as (is_too_long line) (is_blank line) (is_position_line line) (begins_with line (codes "#")) (begins_with line (codes "x"))
    (position_of level line) (header_of line))
