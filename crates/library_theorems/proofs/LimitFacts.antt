-- What a limit bounds: how many squares a store counts into which files were read by themselves.
use Rattle.std.proofs.Common.{◌≡◌, ◌≢◌, ◌⊎◌, inl, inr, ℕ, ◌<◌, ◌≤◌, ◌∙◌, false, true, List, [], length, AllPairs, Result, Ok, Err, sym, ap, subst, arith, Contains, IfOk, IsOk, OnOk}
use Rattle.std.proofs.lemmas.Bool.{cases_lt}
use Rattle.std.proofs.lemmas.List.Elements.{All-contains_itself}
use Rattle.life_base.specs.Kinds.{kind_number}
use Rattle.life_base.specs.Tree.{Tree, is_blank_tree}
use Rattle.life_base.specs.declared.fault.Fault.{Fault}
use Rattle.life_base.specs.declared.kind.Kind.TheVariants.{Full}
use Rattle.life_reader.specs.Calls.{ReadsInto}
use Rattle.life_pattern.specs.Store.{IsRead}
use Rattle.life_pattern.specs.declared.pattern.Pattern.{Pattern as LayerPattern}
use Rattle.life_quad.specs.Store.{Nodes, stored_squares}
use Rattle.claims.specs.Files.{pattern_of}
use Rattle.theorems.proofs.RefusalLaw.{accepted_is_ok, refuses_agree}
use Rattle.library_calls.specs.Comparing.{ComparesWithin, by_answer, SomeToReadBoth, RefusesEither}
use Rattle.library_calls.specs.Comparing as comparing
use Rattle.library_calls.specs.Texts.{Fits, NeedsMore, RefusesWithin, SomeToRead, squares_of_limit}
use Rattle.library_calls.specs.Reported.{Returns, by_text, by_fault}
use Rattle.library_calls.specs.declared.compared.Compared.{Compared}
use Rattle.library_calls.specs.declared.reported.Reported.{Reported}
use Rattle.library_calls.proofs.FormFacts.{read-both}
use Rattle.library_calls.proofs.NeedFacts.{HoldsNeeded, HoldsOnce, from-empty, longer, needs-more}

-- ---- calls that succeed

on_ok : {A P : Type 0} (r : Result A Fault) → IsOk r → OnOk r P → P
on_ok (Ok x) ok p = p
on_ok (Err fault) ok p = let bad : false ≡ true = ok in absurd cc

read_ok : (bytes : List ℕ) (store : Nodes) (r : Result LayerPattern Fault) → IsOk r → IfOk r (IsRead 62 bytes store) → IsOk (pattern_of bytes)
read_ok bytes store (Ok pattern) ok is = accepted_is_ok bytes (is.universe, is.reads)
read_ok bytes store (Err fault) ok is = let bad : false ≡ true = ok in absurd cc

not_refused : {P : Type 0} (bytes : List ℕ) (fault : Fault) → IsOk (pattern_of bytes) → pattern_of bytes ≡ Err fault → P
not_refused bytes fault ok e = let bad : false ≡ true = subst (λ r. IsOk r) e ok in absurd cc

-- ---- what a store counts

-- a store that holds each needed square once, and no others, counts no more than the limit where that suffices
within_limit : (Needs : (Tree → Type 0) → Type 0) (limit : ℕ) (store : Nodes) → HoldsOnce store → HoldsNeeded Needs store → Fits Needs limit
    → length (stored_squares store) ≤ squares_of_limit limit
within_limit Needs limit store once needed fits =
    let squares = stored_squares store in
    let Is = λ (t : Tree). (is_blank_tree t ≡ false) × Needs (λ u. u ≡ t) in
    let one : (t : Tree) → Contains squares t → Is t = λ t there. (once.live t there, needed t there) in
    elim (cases_lt (squares_of_limit limit) (length squares)) [
      | inl over ↦ absurd (fits (squares, once.distinct, (λ k d lt. one _ (All-contains_itself squares k d lt)), over))
      | inr short ↦ short
    ]

-- ---- a file

module _ (bytes : List ℕ) (limit count : ℕ) (old new : Nodes) (r : Result LayerPattern Fault) (ok : IsOk r) (empty : stored_squares old ≡ [])
    (reads : ReadsInto bytes old new r) (once : HoldsOnce new) (counted : count ≡ length (stored_squares new)) where
  pub text_within : Fits (SomeToRead bytes) limit → count ≤ squares_of_limit limit
  text_within fits =
      let most = within_limit (SomeToRead bytes) limit new once (from-empty (SomeToRead bytes) old new empty reads.adds) fits in
      subst (λ n. n ≤ squares_of_limit limit) (sym counted) most

  more : NeedsMore (SomeToRead bytes) (squares_of_limit limit) → squares_of_limit limit < count
  more needs = subst (λ n. squares_of_limit limit < n) (sym counted)
      (longer (SomeToRead bytes) (stored_squares new) (squares_of_limit limit) (on_ok r ok reads.all) needs)

  -- `Full` is reported of the file
  full_of_file : IfOk r (IsRead 62 bytes new) → (fault : Fault) → RefusesWithin limit bytes fault → kind_number fault.kind ≡ 21 → squares_of_limit limit < count
  full_of_file is fault (inl refuses) number = not_refused bytes fault (read_ok bytes new r ok is) (refuses_agree bytes fault refuses)
  full_of_file is fault (inr (inl memory)) number =
      let e : 22 ≡ 21 = sym (ap (λ (f : Fault). kind_number f.kind) memory) ∙ number in absurd (omega (arith, e))
  full_of_file is fault (inr (inr low)) number = more low.1.0

  pub text_full : {IsText : List ℕ → Type 0} (before after : List ℕ) (reported : Reported) → IfOk r (IsRead 62 bytes new)
      → Returns IsText (RefusesWithin limit bytes) before after reported → reported.status ≡ kind_number Full → squares_of_limit limit < count
  text_full before after reported is (by_text text t gives none) full = elim gives.1 [
    | inl copies ↦ let e : 0 ≡ 21 = sym copies.status ∙ full in absurd (omega (arith, e))
    | inr lacks ↦ let e : 64 ≡ 21 = sym lacks.status ∙ full in absurd (omega (arith, e))
  ]
  text_full before after reported is (by_fault fault why tells) full = full_of_file is fault why (sym tells.status ∙ full)

-- ---- two files

module _ (first second : List ℕ) (limit count : ℕ) (old mid new : Nodes) (r s : Result LayerPattern Fault) (ok : IsOk r) (also : IsOk s)
    (empty : stored_squares old ≡ []) (reads : ReadsInto first old mid r) (others : ReadsInto second mid new s) (once : HoldsOnce new)
    (counted : count ≡ length (stored_squares new)) where
  pub both_within : Fits (SomeToReadBoth first second) limit → count ≤ squares_of_limit limit
  both_within fits =
      let needed = from-empty (SomeToReadBoth first second) old new empty (read-both first second old mid new reads.adds others.adds) in
      subst (λ n. n ≤ squares_of_limit limit) (sym counted) (within_limit (SomeToReadBoth first second) limit new once needed fits)

  all_both : (t : Tree) → is_blank_tree t ≡ false → SomeToReadBoth first second (λ u. u ≡ t) → Contains (stored_squares new) t
  all_both t live (inl one) = others.keeps.stored t (on_ok r ok reads.all t live one)
  all_both t live (inr other) = on_ok s also others.all t live other

  more_both : NeedsMore (SomeToReadBoth first second) (squares_of_limit limit) → squares_of_limit limit < count
  more_both needs =
      subst (λ n. squares_of_limit limit < n) (sym counted) (longer (SomeToReadBoth first second) (stored_squares new) (squares_of_limit limit) all_both needs)

  full_of_both : IfOk r (IsRead 62 first mid) → IfOk s (IsRead 62 second new) → (fault : Fault) → RefusesEither limit first second fault
      → kind_number fault.kind ≡ 21 → squares_of_limit limit < count
  full_of_both one other fault (inl refuses) number = not_refused first fault (read_ok first mid r ok one) (refuses_agree first fault refuses)
  full_of_both one other fault (inr (inl h)) number = not_refused second fault (read_ok second new s also other) (refuses_agree second fault h.1)
  full_of_both one other fault (inr (inr (inl memory))) number =
      let e : 22 ≡ 21 = sym (ap (λ (f : Fault). kind_number f.kind) memory) ∙ number in absurd (omega (arith, e))
  full_of_both one other fault (inr (inr (inr low))) number = elim low.1.0 [
    | inl alone ↦ more_both (needs-more (SomeToRead first) (SomeToReadBoth first second) (squares_of_limit limit) (λ P some. inl some) alone)
    | inr both ↦ more_both both.1
  ]

  pub both_full : (reported : Compared) → IfOk r (IsRead 62 first mid) → IfOk s (IsRead 62 second new) → ComparesWithin limit first second reported
      → reported.status ≡ kind_number Full → squares_of_limit limit < count
  both_full reported one other (by_answer status line a b answer) full = let e : 0 ≡ 21 = sym status ∙ full in absurd (omega (arith, e))
  both_full reported one other (comparing.by_fault fault status line none why) full = full_of_both one other fault why (sym status ∙ full)
