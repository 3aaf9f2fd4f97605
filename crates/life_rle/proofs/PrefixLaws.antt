-- The laws of prefixes: what follows `!`, what a prefix is, and how it begins.
use Rattle.std.proofs.Common.{◌≡◌, ℕ, Bool, true, false, cond, List, [], ◌∷◌, ◌++◌, refl, sym, ap, ◌∙◌, subst, inl, inr, ◌⊎◌, Err, Result, append_assoc, codes, arith, if◌then◌else◌}
use Rattle.std.proofs.lemmas.Bool.Decides.{nat_tests}
use Rattle.life_base.specs.declared.kind.Kind.{Kind}
use Rattle.life_base.specs.declared.kind.Kind.TheVariants.{LineTooLong, NoHeader}
use Rattle.life_base.specs.Refusal.{Prefix}
use Rattle.life_base.specs.Text.{begins_with, is_too_long}
use Rattle.life_rle.specs.declared.line.Opening.{Opening}
use Rattle.life_rle.specs.Position.{default_position}
use Rattle.life_rle.specs.Pattern.{Rle}
use Rattle.life_rle.specs.Grammar.{opening_of, later_of, IsMarked, IsSomeRle, BreaksRle, before_header, by_form}
use Rattle.life_rle.specs.Decided.{LacksHeader, HasBroken}
use Rattle.life_rle.specs.PrefixLaws.{LinesAfterMarkAreFree, IsMarkDecided, PrefixesOfPrefixes, RlePrefixesAreFiles, BeginsAsRle, MacrocellLineBreaks, LongRleLinesBreak}
use Rattle.life_rle.proofs.Progress.{progress, open_step, progress-Refused, IsMarked-append}
use Rattle.life_rle.proofs.Refusal.{Goes, Goes-Prefix, Prefix-Goes, Goes-prefix, IsRle-Goes, IsPreamble-Prefix}
use Rattle.life_rle.proofs.Unique.{Breaks-unique, Breaks-no_more, Breaks-no_prefix, IsUnmarked-progress, IsMarked-progress}
use Rattle.life_rle.proofs.DecidedLaw.{decided}
use Rattle.life_rle.proofs.LineKinds.{Breaks-long}

-- ---- the mark

pub mark_is_decided : IsMarkDecided
mark_is_decided level lines file other u m = let x = IsUnmarked-progress level lines file u in let y = IsMarked-progress level lines other m in cc

-- ---- after the mark

pub lines_behind_mark_are_free : LinesAfterMarkAreFree
lines_behind_mark_are_free level lines more file m =
    let on : IsMarked level (lines ++ more) file = IsMarked-append level lines more file m in (
      on,
      λ line kind b. Breaks-no_more level (lines ++ more) line kind [] file b
          (inr (IsMarked-append level ((lines ++ more) ++ line ∷ []) [] file (IsMarked-append level (lines ++ more) (line ∷ []) file on))),
    )

-- ---- prefixes

pub prefixes_of_prefixes : PrefixesOfPrefixes
prefixes_of_prefixes level lines more p = Goes-Prefix level lines (Goes-prefix level lines more (Prefix-Goes level (lines ++ more) p))

-- none of its lines breaks a rule
prefix-broken : (level : ℕ) (lines : List (List ℕ)) → Prefix (IsSomeRle level) lines → HasBroken level lines → ⊥
prefix-broken level lines p b =
    Breaks-no_prefix level b.prefix b.line b.kind b.breaks
    (prefixes_of_prefixes level (b.prefix ++ b.line ∷ []) b.rest
    (subst (Prefix (IsSomeRle level)) (b.whole ∙ sym (append_assoc b.prefix (b.line ∷ []) b.rest)) p))

prefix-file : (level : ℕ) (lines : List (List ℕ)) → Prefix (IsSomeRle level) lines → IsSomeRle level lines ⊎ LacksHeader level lines ⊎ HasBroken level lines
    → IsSomeRle level lines ⊎ LacksHeader level lines
prefix-file level lines p (inl f) = inl f
prefix-file level lines p (inr (inl h)) = inr h
prefix-file level lines p (inr (inr b)) = absurd (prefix-broken level lines p b)

file-prefix : (level : ℕ) (lines : List (List ℕ)) → IsSomeRle level lines ⊎ LacksHeader level lines → Prefix (IsSomeRle level) lines
file-prefix level lines (inl f) = Goes-Prefix level lines (IsRle-Goes level lines f.0 f.1)
file-prefix level lines (inr h) = IsPreamble-Prefix level lines h.0 h.1

pub prefixes_are_files : RlePrefixesAreFiles
prefixes_are_files level lines = (λ p. prefix-file level lines p (decided level lines).0, file-prefix level lines)

-- ---- the first line of a macrocell file

pub first_of : (b : ℕ) (rest : List ℕ) → begins_with (b ∷ rest) (codes "[M2]") ≡ true → b ≡ 91
first_of b rest h = grind (arith, nat_tests)

abbrev refusal : Bool → Result Opening Kind
refusal long = cond long (Err LineTooLong) (Err NoHeader)

refused-by : (long : Bool) → refusal long ≡ Err (cond long LineTooLong NoHeader)
refused-by true = refl
refused-by false = refl

bracket-refused : (level : ℕ) (rest : List ℕ) → opening_of level (91 ∷ rest) ≡ Err (if is_too_long (91 ∷ rest) then LineTooLong else NoHeader)
bracket-refused level rest = refused-by (is_too_long (91 ∷ rest))

macrocell-refused : (level : ℕ) (line : List ℕ) → begins_with line (codes "[M2]") ≡ true
    → opening_of level line ≡ Err (if is_too_long line then LineTooLong else NoHeader)
macrocell-refused level [] h = cc
macrocell-refused level (b ∷ rest) h =
    let P : ℕ → Type 0 = λ c. opening_of level (c ∷ rest) ≡ Err (if is_too_long (c ∷ rest) then LineTooLong else NoHeader) in
    subst P (sym (first_of b rest h)) (bracket-refused level rest)

pub macrocell_line_breaks : MacrocellLineBreaks
macrocell_line_breaks level line h = before_header default_position refl (macrocell-refused level line h)

first-refused : (level : ℕ) (line : List ℕ) (lines : List (List ℕ)) (kind : Kind) → opening_of level line ≡ Err kind → Prefix (IsSomeRle level) (line ∷ lines)
    → ⊥
first-refused level line lines kind e p =
    let refused = ap (λ r. progress level (open_step default_position r) lines) e ∙ progress-Refused level kind lines in
    subst Goes refused (Prefix-Goes level (line ∷ lines) p)

pub begins_as_rle : BeginsAsRle
begins_as_rle level line lines p = by (begins_with line (codes "[M2]")) refl
  where
    by : (b : Bool) → begins_with line (codes "[M2]") ≡ b → b ≡ false
    by true e = absurd (first-refused level line lines (if is_too_long line then LineTooLong else NoHeader) (macrocell-refused level line e) p)
    by false e = refl

-- ---- a line that is too long

long-opening : (level : ℕ) (line : List ℕ) → is_too_long line ≡ true → opening_of level line ≡ Err LineTooLong
long-opening level line h = rw h refl

long-later : (line : List ℕ) → is_too_long line ≡ true → later_of line ≡ Err LineTooLong
long-later line h = rw h refl

long-Breaks : (level : ℕ) (prefix : List (List ℕ)) (line : List ℕ) → is_too_long line ≡ true → ((file : Rle) → IsMarked level prefix file → ⊥)
    → IsSomeRle level prefix ⊎ LacksHeader level prefix → BreaksRle level prefix line LineTooLong
long-Breaks level prefix line h n (inl (file, inl u)) = by_form file u (long-later line h)
long-Breaks level prefix line h n (inl (file, inr m)) = absurd (n file m)
long-Breaks level prefix line h n (inr p) = before_header p.0 p.1 (long-opening level line h)

pub long_lines_break : LongRleLinesBreak
long_lines_break level prefix line = (
  Breaks-long level prefix line,
  λ h p n kind.
      let b : BreaksRle level prefix line LineTooLong = long-Breaks level prefix line h n ((prefixes_are_files level prefix).0 p) in
      (λ other. Breaks-unique level prefix line kind LineTooLong other b, λ e. subst (BreaksRle level prefix line) (sym e) b),
)
