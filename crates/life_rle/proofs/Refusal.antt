-- The place of a fault: lines that break no rule can be continued, and the first line that breaks one is the place.
use Rattle.std.proofs.Common.{◌≡◌, ℕ, ◌+◌, ◌≤◌, List, [], ◌∷◌, ◌++◌, length, take, drop, true, false, min, ◌-◌, ◌^◌, refl, sym, ap, ◌∙◌, subst, inl, inr, Some, append_assoc, codes, arith, append-nil, take-append-drop, length-append}
use Rattle.std.proofs.lemmas.List.{take-append-le}
use Rattle.std.proofs.Math.Seq.{take-append_seam, get_or-append_seam}
use Rattle.std.specs.List.{slice_index_or}
use Rattle.life_base.specs.declared.kind.Kind.{Kind}
use Rattle.life_base.specs.declared.kind.Kind.TheVariants.{NoHeader}
use Rattle.life_base.specs.declared.fault.Fault.{Fault}
use Rattle.life_base.specs.Refusal.{Prefix, kept_lines, continuations, IsPlace}
use Rattle.life_rle.specs.declared.position.Position.{Position}
use Rattle.life_rle.specs.Position.{default_position}
use Rattle.life_base.specs.Rules.{default_rule}
use Rattle.life_rle.specs.Pattern.{Rle}
use Rattle.life_rle.specs.File.{RefusesRle}
use Rattle.life_rle.specs.Grammar.{IsPreamble, IsUnmarked, IsMarked, IsRle, IsSomeRle, BreaksRle, before_header, by_form, by_text, by_item}
use Rattle.life_rle.proofs.Progress.{Progress, Before, Begun, Ended, Refused, progress, start, Stands, progress-append, progress-Refused, header-IsUnmarked, lines-Stands}
use Rattle.life_rle.proofs.Unique.{IsUnmarked-progress, IsMarked-progress, Breaks-no_prefix, Breaks-no_more, IsPreamble-progress}

-- the lines break no rule
abbrev pub Goes : Progress → Type 0
Goes (Before position) = Unit {0}
Goes (Begun file) = Unit {0}
Goes (Ended file) = Unit {0}
Goes (Refused kind) = ⊥

Stands-Prefix : (level : ℕ) (lines : List (List ℕ)) (p : Progress) → Stands level lines p → Goes p → Prefix (IsSomeRle level) lines
Stands-Prefix level lines (Before position) h g
    = (false ∷ true ∷ [], (_, inl (header-IsUnmarked level lines position (codes "x = 1, y = 1") default_rule h refl)))
Stands-Prefix level lines (Begun file) h g = ([], (file, inl (subst (λ ls. IsUnmarked level ls file) (sym (append-nil lines)) h)))
Stands-Prefix level lines (Ended file) h g = ([], (file, inr (subst (λ ls. IsMarked level ls file) (sym (append-nil lines)) h)))
Stands-Prefix level lines (Refused kind) h g = absurd g

-- lines that break no rule can be continued
pub Goes-Prefix : (level : ℕ) (lines : List (List ℕ)) → Goes (progress level start lines) → Prefix (IsSomeRle level) lines
Goes-Prefix level lines g = Stands-Prefix level lines (progress level start lines) (lines-Stands level lines) g

Goes-prefix_at : (level : ℕ) (p : Progress) (ys : List (List ℕ)) → Goes (progress level p ys) → Goes p
Goes-prefix_at level (Before o) ys g = tt
Goes-prefix_at level (Begun f) ys g = tt
Goes-prefix_at level (Ended f) ys g = tt
Goes-prefix_at level (Refused k) ys g = subst Goes (progress-Refused level k ys) g

-- and so can their prefixes
pub Goes-prefix : (level : ℕ) (xs ys : List (List ℕ)) → Goes (progress level start (xs ++ ys)) → Goes (progress level start xs)
Goes-prefix level xs ys g = Goes-prefix_at level (progress level start xs) ys (subst Goes (progress-append level start xs ys) g)

pub IsRle-Goes : (level : ℕ) (lines : List (List ℕ)) (file : Rle) → IsRle level lines file → Goes (progress level start lines)
IsRle-Goes level lines file (inl b) = subst Goes (sym (IsUnmarked-progress level lines file b)) tt
IsRle-Goes level lines file (inr b) = subst Goes (sym (IsMarked-progress level lines file b)) tt

-- lines that can be continued, by whatever lines, break no rule
pub Prefix-Goes : (level : ℕ) (lines : List (List ℕ)) → Prefix (IsSomeRle level) lines → Goes (progress level start lines)
Prefix-Goes level lines p = Goes-prefix level lines (kept_lines p.0 continuations) (IsRle-Goes level (lines ++ kept_lines p.0 continuations) p.1.0 p.1.1)

pub Breaks-Goes : (level : ℕ) (prefix : List (List ℕ)) (line : List ℕ) (kind : Kind) → BreaksRle level prefix line kind → Goes (progress level start prefix)
Breaks-Goes level prefix line kind (before_header o h e) = subst Goes (sym (IsPreamble-progress level default_position o prefix h)) tt
Breaks-Goes level prefix line kind (by_form file h e) = subst Goes (sym (IsUnmarked-progress level prefix file h)) tt
Breaks-Goes level prefix line kind (by_text file items h form s sound) = subst Goes (sym (IsUnmarked-progress level prefix file h)) tt
Breaks-Goes level prefix line kind (by_item file items item rest h form s sound fault) = subst Goes (sym (IsUnmarked-progress level prefix file h)) tt

pub take-Goes : (level : ℕ) (k : ℕ) (prefix : List (List ℕ)) → Goes (progress level start prefix) → Goes (progress level start (take k prefix))
take-Goes level k prefix g =
    Goes-prefix level (take k prefix) (drop k prefix) (subst (λ ls. Goes (progress level start ls)) (sym (take-append-drop k prefix)) g)

-- the number of a line after a prefix
behind-length : (prefix : List (List ℕ)) (line : List ℕ) (rest : List (List ℕ)) → length (prefix ++ line ∷ rest) ≡ length prefix + 1 + length rest
behind-length prefix line rest = omega (arith, length-append prefix (line ∷ rest))

behind-whole : (lines prefix : List (List ℕ)) (line : List ℕ) (rest : List (List ℕ)) → lines ≡ prefix ++ line ∷ rest → take (length prefix + 1) lines ≡ prefix
    ++ line ∷ []
behind-whole lines prefix line rest e =
    let whole : lines ≡ (prefix ++ line ∷ []) ++ rest = e ∙ sym (append_assoc prefix (line ∷ []) rest) in
    let long : length prefix + 1 ≡ length (prefix ++ line ∷ []) = omega (arith, length-append prefix (line ∷ [])) in
    rw (whole, long) (take-append_seam (prefix ++ line ∷ []) rest)

-- the line that breaks a rule is the place
pub Breaks-IsPlace : (level : ℕ) (lines prefix : List (List ℕ)) (line : List ℕ) (rest : List (List ℕ)) (kind : Kind) → lines ≡ prefix ++ line ∷ rest
    → BreaksRle level prefix line kind → IsPlace (IsSomeRle level) lines (length prefix + 1)
Breaks-IsPlace level lines prefix line rest kind e b =
    let len : length lines ≡ length prefix + 1 + length rest = ap length e ∙ behind-length prefix line rest in
    record {
      counted = omega arith;
      within = omega arith;
      before = λ k h. let short : k ≤ length prefix = omega arith in
          let same : take k lines ≡ take k prefix = ap (take k) e ∙ take-append-le k prefix (line ∷ rest) short in
          subst (Prefix (IsSomeRle level)) (sym same) (Goes-Prefix level (take k prefix) (take-Goes level k prefix (Breaks-Goes level prefix line kind b)));
      here = λ _ p. Breaks-no_prefix level prefix line kind b (subst (Prefix (IsSomeRle level)) (behind-whole lines prefix line rest e) p);
    }

-- so the fault of such a line is the input's fault
pub Breaks-IsRefusal : (level : ℕ) (lines prefix : List (List ℕ)) (line : List ℕ) (rest : List (List ℕ)) (fault : Fault) → lines ≡ prefix ++ line ∷ rest
    → BreaksRle level prefix line fault.kind → fault.place.line ≡ min (length prefix + 1) (2 ^ 64 - 1) → RefusesRle level lines fault
Breaks-IsRefusal level lines prefix line rest fault e b at =
    let len : length lines ≡ length prefix + 1 + length rest = ap length e ∙ behind-length prefix line rest in
    let less : length prefix + 1 - 1 ≡ length prefix = omega arith in
    let fore : take (length prefix) lines ≡ prefix = ap (take (length prefix)) e ∙ take-append_seam prefix (line ∷ rest) in
    let item : slice_index_or lines (length prefix) [] ≡ line = ap (λ ls. slice_index_or ls (length prefix) []) e ∙ get_or-append_seam prefix line rest [] in
    record {
      refused = λ (file, h). Breaks-no_more level prefix line fault.kind rest file b
          (subst (λ ls. IsRle level ls file) (e ∙ sym (append_assoc prefix (line ∷ []) rest)) h);
      n = length prefix + 1;
      place = Breaks-IsPlace level lines prefix line rest fault.kind e b;
      line = at;
      at_line = λ _. subst (λ k. BreaksRle level (take k lines) (slice_index_or lines k []) fault.kind) (sym less)
          (subst (λ f. BreaksRle level f (slice_index_or lines (length prefix) []) fault.kind) (sym fore)
          (subst (λ l. BreaksRle level prefix l fault.kind) (sym item) b));
      at_end = λ h. absurd (omega arith);
    }

-- without a header the end of the input is the place
pub IsPreamble-Prefix : (level : ℕ) (lines : List (List ℕ)) (position : Position) → IsPreamble level default_position lines position
    → Prefix (IsSomeRle level) lines
IsPreamble-Prefix level lines position h = Stands-Prefix level lines (Before position) h tt

pub IsPreamble-refused : (level : ℕ) (lines : List (List ℕ)) (position : Position) → IsPreamble level default_position lines position → IsSomeRle level lines
    → ⊥
IsPreamble-refused level lines position h (file, inl b) = let x = IsPreamble-progress level default_position position lines h in
    let y = IsUnmarked-progress level lines file b in cc
IsPreamble-refused level lines position h (file, inr b) = let x = IsPreamble-progress level default_position position lines h in
    let y = IsMarked-progress level lines file b in cc

pub IsPreamble-IsRefusal : (level : ℕ) (lines : List (List ℕ)) (position : Position) (fault : Fault) → IsPreamble level default_position lines position
    → fault.kind ≡ NoHeader → fault.place.line ≡ min (length lines + 1) (2 ^ 64 - 1) → RefusesRle level lines fault
IsPreamble-IsRefusal level lines position fault h kind at = record {
  refused = IsPreamble-refused level lines position h;
  n = length lines + 1;
  place = record {
    counted = omega arith;
    within = omega arith;
    before = λ k h'. Goes-Prefix level (take k lines)
        (take-Goes level k lines (subst Goes (sym (IsPreamble-progress level default_position position lines h)) tt));
    here = λ long. absurd (omega arith);
  };
  line = at;
  at_line = λ long. absurd (omega arith);
  at_end = λ _. ap Some (sym kind);
}
