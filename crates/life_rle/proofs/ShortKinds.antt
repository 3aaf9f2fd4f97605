-- The kinds of rule that a line breaks which isn't too long.
use Rattle.std.proofs.Common.{◌≡◌, Bool, true, false, not, ◌&&◌, refl}
use Rattle.life_base.specs.declared.kind.Kind.{Kind}
use Rattle.life_base.specs.declared.kind.Kind.TheVariants.{LineTooLong}
use Rattle.life_base.proofs.LineKinds.{is_length_kind}
use Rattle.life_base.proofs.Basics.{left_of_and}
use Rattle.life_rle.specs.Grammar.{is_rle_kind}

-- a kind of the format, and not that of a line that is too long
abbrev pub is_short_kind : Kind → Bool
is_short_kind kind = is_rle_kind kind && not (is_length_kind kind)

pub short_kind : (kind : Kind) → is_short_kind kind ≡ true → is_rle_kind kind ≡ true
short_kind kind h = left_of_and (is_rle_kind kind) (not (is_length_kind kind)) h

-- the kinds of a line, by whether it is too long
abbrev pub IsLineKind : Bool → Kind → Type 0
IsLineKind true kind = is_rle_kind kind ≡ true
IsLineKind false kind = is_short_kind kind ≡ true

pub short-line : (long : Bool) (kind : Kind) → is_short_kind kind ≡ true → IsLineKind long kind
short-line true kind h = short_kind kind h
short-line false kind h = h

pub line-rle : (long : Bool) (kind : Kind) → IsLineKind long kind → is_rle_kind kind ≡ true
line-rle true kind h = h
line-rle false kind h = short_kind kind h

pub only-long : (long : Bool) → IsLineKind long LineTooLong → long ≡ true
only-long true h = refl
only-long false h = cc
