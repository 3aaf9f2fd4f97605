-- What one of the two formats says of lines that are or aren't a file, for files of either format.
use Rattle.std.proofs.Common.{inr, ◌≡◌, ℕ, ◌+◌, ◌-◌, ◌^◌, min, Bool, true, false, cond, List, [], ◌∷◌, ◌++◌, length, take, drop, get_or, refl, ap, sym, ◌∙◌, subst, arith, Option, Some, None, append_assoc, MatchBool, take-append-drop, length-append}
use Rattle.std.specs.List.{slice_index_or}
use Rattle.std.proofs.lemmas.List.{take-append-le}
use Rattle.std.proofs.Math.ListN.{get_or-append}
use Rattle.std.proofs.Math.Seq.{take-append_seam, get_or-append_seam}
use Rattle.life_base.specs.Refusal.{Prefix, kept_lines, continuations}
use Rattle.life_base.specs.declared.fault.Fault.{Fault}
use Rattle.life_base.specs.declared.kind.Kind.{Kind}
use Rattle.life_base.specs.declared.kind.Kind.TheVariants.{NoHeader}
use Rattle.life_mc.specs.Laws.{IsUnbrokenMacrocell}
use Rattle.life_mc.specs.Macrocell.{Macrocell}
use Rattle.life_mc.specs.Reading.{AreMacrocell, broken_rule, AcceptsMacrocell as IsSomeMacrocell}
use Rattle.life_mc.proofs.FormatLaws.{prefixes_are_unbroken}
use Rattle.life_rle.specs.Decided.{LacksHeader}
use Rattle.life_rle.specs.Grammar.{IsSomeRle, BreaksRle}
use Rattle.life_rle.proofs.DecidedLaw.{decided}
use Rattle.life_rle.proofs.FormatLaws.{broken_for_good}
use Rattle.life_rle.proofs.PrefixLaws.{prefixes_of_prefixes, prefixes_are_files}
use Rattle.life_pattern.specs.Files.{Says, as_macrocell, as_rle, Accepts, Breaks, RefusesLines, missing_file_part, is_macrocell}
use Rattle.life_pattern.specs.Universe.{Universe, macrocell_universe, rle_universe}
use Rattle.life_pattern.proofs.Formats.{macrocell-first, rle-first}
use Rattle.life_base.proofs.Basics.{true_false}

-- ---- prefixes

pub macrocell-prefix : (top : ℕ) (lines : List (List ℕ)) → Prefix (IsSomeMacrocell top) lines → Prefix (Accepts top) lines
macrocell-prefix top lines p = (p.0, (macrocell_universe p.1.0, as_macrocell p.1.0 p.1.1))

pub rle-prefix : (top : ℕ) (lines : List (List ℕ)) → Prefix (IsSomeRle top) lines → Prefix (Accepts top) lines
rle-prefix top lines p = (p.0, (rle_universe p.1.0, as_rle p.1.0 p.1.1))

-- no lines are a prefix
pub no_lines : (top : ℕ) → Prefix (Accepts top) []
no_lines top = macrocell-prefix top [] ((prefixes_are_unbroken top []).1 (λ k h. absurd (omega arith)))

unbroken-shorter : (top : ℕ) (lines more : List (List ℕ)) → IsUnbrokenMacrocell top (lines ++ more) → IsUnbrokenMacrocell top lines
unbroken-shorter top lines more u k h =
    let e : take k (lines ++ more) ≡ take k lines = take-append-le k lines more (omega arith) in
    let f : get_or (lines ++ more) k [] ≡ get_or lines k [] = get_or-append lines more [] k h in
    rw (← e, ← f) (u k (omega (arith, length-append lines more)))

-- the first lines of a prefix are one
pub shorter-prefix : (top : ℕ) (lines more : List (List ℕ)) → Prefix (Accepts top) (lines ++ more) → Prefix (Accepts top) lines
shorter-prefix top lines more p = by p.1.0 p.1.1
  where
    by : (u : Universe) → Says top ((lines ++ more) ++ kept_lines p.0 continuations) u → Prefix (Accepts top) lines
    by _ (as_macrocell file are) =
        macrocell-prefix top lines ((prefixes_are_unbroken top lines).1
        (unbroken-shorter top lines more ((prefixes_are_unbroken top (lines ++ more)).0 (p.0, (file, are)))))
    by _ (as_rle file is) = rle-prefix top lines (prefixes_of_prefixes top lines more (p.0, (file, is)))

pub consumed-prefix : (top k : ℕ) (lines : List (List ℕ)) → Prefix (Accepts top) lines → Prefix (Accepts top) (take k lines)
consumed-prefix top k lines p = shorter-prefix top (take k lines) (drop k lines) (subst (Prefix (Accepts top)) (sym (take-append-drop k lines)) p)

-- ---- a line that breaks a rule

-- lines after the first don't change the format
pub same-format : (prefix : List (List ℕ)) (line : List ℕ) (more : List (List ℕ)) → is_macrocell ((prefix ++ line ∷ []) ++ more)
    ≡ is_macrocell (prefix ++ line ∷ [])
same-format [] line more = refl
same-format (first ∷ prefix) line more = refl

pub none-some : (kind : Kind) (o : Option Kind) → o ≡ None → o ≡ Some kind → ⊥
none-some kind o e f = cc

-- after it there is no file
pub for_good : (top : ℕ) (prefix : List (List ℕ)) (line : List ℕ) (kind : Kind) (more : List (List ℕ)) → Breaks top prefix line kind
    → Accepts top ((prefix ++ line ∷ []) ++ more) → ⊥
for_good top prefix line kind more b a = by (is_macrocell (prefix ++ line ∷ [])) refl b a.0 a.1
  where
    at_once : (file : Macrocell) → AreMacrocell top ((prefix ++ line ∷ []) ++ more) file → broken_rule top prefix line ≡ Some kind → ⊥
    at_once file are h =
        let e : (prefix ++ line ∷ []) ++ more ≡ prefix ++ line ∷ more = append_assoc prefix (line ∷ []) more in
        let u : IsUnbrokenMacrocell top (prefix ++ line ∷ more) = subst (IsUnbrokenMacrocell top) e are.unbroken in
        let v = u (length prefix) (omega (arith, length-append prefix (line ∷ more))) in
        let w : broken_rule top prefix line ≡ None = rw (take-append_seam prefix (line ∷ more), get_or-append_seam prefix line more []) at v in
        none-some kind (broken_rule top prefix line) w h

    by : (m : Bool) → is_macrocell (prefix ++ line ∷ []) ≡ m → MatchBool m (broken_rule top prefix line ≡ Some kind) (BreaksRle top prefix line kind)
        → (u : Universe) → Says top ((prefix ++ line ∷ []) ++ more) u → ⊥
    by true e h _ (as_macrocell file are) = at_once file are h
    by true e h _ (as_rle file is) = rle-first top _ file is (same-format prefix line more ∙ e)
    by false e h _ (as_macrocell file are) = true_false _ (macrocell-first top _ file are) (same-format prefix line more ∙ e)
    by false e h _ (as_rle file is) = (broken_for_good top prefix line kind h).2 more file is

-- so it is the place of the refusal
pub line-refused : (top : ℕ) (lines prefix : List (List ℕ)) (line : List ℕ) (more : List (List ℕ)) (fault : Fault) → lines ≡ prefix ++ line ∷ more
    → Prefix (Accepts top) prefix
    → Breaks top prefix line fault.kind → fault.place.line ≡ min (length prefix + 1) (2 ^ 64 - 1) → RefusesLines top lines fault
line-refused top lines prefix line more fault e p b at =
    let len : length lines ≡ length prefix + 1 + length more = ap length e ∙ omega (arith, length-append prefix (line ∷ more)) in
    let split : lines ≡ (prefix ++ line ∷ []) ++ more = e ∙ sym (append_assoc prefix (line ∷ []) more) in
    let less : length prefix + 1 - 1 ≡ length prefix = omega arith in
    let fore : take (length prefix) lines ≡ prefix = ap (take (length prefix)) e ∙ take-append_seam prefix (line ∷ more) in
    let item : slice_index_or lines (length prefix) [] ≡ line = ap (λ (ls : List (List ℕ)). slice_index_or ls (length prefix) []) e
    ∙ get_or-append_seam prefix line more [] in
    let whole : take (length prefix + 1) lines ≡ prefix ++ line ∷ [] =
    (let long : length prefix + 1 ≡ length (prefix ++ line ∷ []) = omega (arith, length-append prefix (line ∷ [])) in
    rw (split, long) (take-append_seam (prefix ++ line ∷ []) more)) in
    record {
      refused = λ a. for_good top prefix line fault.kind more b (subst (Accepts top) split a);
      n = length prefix + 1;
      place = record {
        counted = omega arith;
        within = omega arith;
        before = λ k h.
            let same : take k lines ≡ take k prefix = ap (take k) e ∙ take-append-le k prefix (line ∷ more) (omega arith) in
            subst (Prefix (Accepts top)) (sym same) (consumed-prefix top k prefix p);
        here = λ h q. let r = subst (Prefix (Accepts top)) whole q in for_good top prefix line fault.kind (kept_lines r.0 continuations) b r.1;
      };
      line = at;
      at_line = λ h.
          subst (λ (k : ℕ). Breaks top (take k lines) (slice_index_or lines k []) fault.kind) (sym less)
          (subst (λ (f : List (List ℕ)). Breaks top f (slice_index_or lines (length prefix) []) fault.kind) (sym fore)
          (subst (λ (l : List ℕ). Breaks top prefix l fault.kind) (sym item) b));
      at_end = λ h. absurd (omega arith);
    }

-- the number of that line
pub line-refused-n : (top : ℕ) (lines prefix : List (List ℕ)) (line : List ℕ) (more : List (List ℕ)) (fault : Fault) (e : lines ≡ prefix ++ line ∷ more)
    (p : Prefix (Accepts top) prefix)
    (b : Breaks top prefix line fault.kind) (at : fault.place.line ≡ min (length prefix + 1) (2 ^ 64 - 1))
    → (line-refused top lines prefix line more fault e p b at).n ≡ length prefix + 1
unfolding line-refused
line-refused-n top lines prefix line more fault e p b at = refl

-- ---- lines without a header

-- the end of the input is the place
pub end-refused : (top : ℕ) (lines : List (List ℕ)) (fault : Fault) → LacksHeader top lines → is_macrocell lines ≡ false → fault.kind ≡ NoHeader
    → fault.place.line ≡ min (length lines + 1) (2 ^ 64 - 1) → RefusesLines top lines fault
end-refused top lines fault h format kind at = record {
  refused = λ a. by a.0 a.1;
  n = length lines + 1;
  place = record {
    counted = omega arith;
    within = omega arith;
    before = λ k l. consumed-prefix top k lines (rle-prefix top lines ((prefixes_are_files top lines).1 (inr h)));
    here = λ l q. absurd (omega arith);
  };
  line = at;
  at_line = λ l. absurd (omega arith);
  at_end = λ l. lacks;
}
  where
    by : (u : Universe) → Says top lines u → ⊥
    by _ (as_macrocell file are) = true_false _ (macrocell-first top lines file are) format
    by _ (as_rle file is) = (decided top lines).1 (file, is) h

    lacks : missing_file_part lines ≡ Some fault.kind
    lacks = ap (λ (b : Bool). cond b None (Some NoHeader)) format ∙ ap Some (sym kind)
