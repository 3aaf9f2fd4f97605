-- The laws of refused files and of their prefixes.
use Rattle.std.proofs.Common.{◌≡◌, ℕ, suc, ◌+◌, List, [], ◌∷◌, ◌++◌, length, take, get_or, sym, ap, ◌∙◌, subst, inl, inr, ◌⊎◌, arith, length-append}
use Rattle.std.proofs.Math.Seq.{take-suc, take-append_seam, get_or-append_seam}
use Rattle.life_base.specs.Refusal.{Prefix}
use Rattle.life_base.proofs.Refusals.{one_refusal}
use Rattle.life_rle.specs.File.{missing_rle_part}
use Rattle.life_rle.specs.Grammar.{IsSomeRle, BreaksRle}
use Rattle.life_rle.specs.Decided.{LacksHeader, HasBroken}
use Rattle.life_rle.specs.Laws.{BreaksForGood, IsUnbrokenRle, RlePrefixesAreUnbroken, RleFaultsAreUnique}
use Rattle.life_rle.proofs.Progress.{progress, start}
use Rattle.life_rle.proofs.Refusal.{Goes, IsRle-Goes, Breaks-Goes, Goes-Prefix, Prefix-Goes, take-Goes, IsPreamble-Prefix}
use Rattle.life_rle.proofs.Unique.{Breaks-unique, Breaks-no_more, Breaks-no_prefix}
use Rattle.life_rle.proofs.DecidedLaw.{decided}

pub broken_for_good : BreaksForGood
broken_for_good level prefix line kind b = (
  Goes-Prefix level prefix (Breaks-Goes level prefix line kind b),
  λ other o. Breaks-unique level prefix line other kind o b,
  λ more file h. Breaks-no_more level prefix line kind more file b h,
)

pub faults_are_unique : RleFaultsAreUnique
faults_are_unique level = one_refusal (IsSomeRle level) (BreaksRle level) missing_rle_part (λ prefix line a b. Breaks-unique level prefix line a b)

-- no line of a prefix breaks a rule
prefix-unbroken : (level : ℕ) (lines : List (List ℕ)) → Prefix (IsSomeRle level) lines → IsUnbrokenRle level lines
prefix-unbroken level lines p k kind h b =
    let more : Goes (progress level start (take (suc k) lines)) = take-Goes level (suc k) lines (Prefix-Goes level lines p) in
    let one : take (suc k) lines ≡ take k lines ++ get_or lines k [] ∷ [] = take-suc lines k [] h in
    Breaks-no_prefix level (take k lines) (get_or lines k []) kind b (subst (Prefix (IsSomeRle level)) one (Goes-Prefix level (take (suc k) lines) more))

-- a line that breaks a rule stands somewhere
broken-somewhere : (level : ℕ) (lines : List (List ℕ)) → HasBroken level lines → IsUnbrokenRle level lines → ⊥
broken-somewhere level lines b u =
    let n : ℕ = length b.prefix in
    let long : length lines ≡ n + suc (length b.rest) = ap length b.whole ∙ length-append b.prefix (b.line ∷ b.rest) in
    let fore : take n lines ≡ b.prefix = ap (take n) b.whole ∙ take-append_seam b.prefix (b.line ∷ b.rest) in
    let here : get_or lines n [] ≡ b.line = ap (λ (ls : List (List ℕ)). get_or ls n []) b.whole ∙ get_or-append_seam b.prefix b.line b.rest [] in
    u n b.kind (omega (arith, long))
    (subst (λ (f : List (List ℕ)). BreaksRle level f (get_or lines n []) b.kind) (sym fore)
    (subst (λ (l : List ℕ). BreaksRle level b.prefix l b.kind) (sym here) b.breaks))

unbroken-prefix : (level : ℕ) (lines : List (List ℕ)) → IsUnbrokenRle level lines → Prefix (IsSomeRle level) lines
unbroken-prefix level lines u = by (decided level lines).0
  where
    by : IsSomeRle level lines ⊎ LacksHeader level lines ⊎ HasBroken level lines → Prefix (IsSomeRle level) lines
    by (inl f) = Goes-Prefix level lines (IsRle-Goes level lines f.0 f.1)
    by (inr (inl h)) = IsPreamble-Prefix level lines h.0 h.1
    by (inr (inr b)) = absurd (broken-somewhere level lines b u)

pub prefixes_are_unbroken : RlePrefixesAreUnbroken
prefixes_are_unbroken level lines = (prefix-unbroken level lines, unbroken-prefix level lines)
