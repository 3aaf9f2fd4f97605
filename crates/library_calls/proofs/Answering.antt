-- From what a call of the library answers to what its export tells.
use Rattle.std.proofs.Common.{◌≡◌, ℕ, ◌+◌, ◌<◌, ◌⊎◌, inl, inr, List, [], length, Option, Some, MatchOption, refl, sym, ap, ◌∙◌, subst, arith, Result, Ok, Err, IfOk, IfErr, OnOk, OnErr, ◌↔◌, Bool, true, false, IsTrue, if◌then◌else◌}
use Rattle.life_base.specs.Kinds.{kind_number}
use Rattle.life_base.specs.Refusal.{fault_of}
use Rattle.life_base.specs.declared.fault.Fault.{Fault}
use Rattle.life_base.specs.declared.kind.Kind.TheVariants.{Full, Memory}
use Rattle.life_base.specs.Tree.{Tree}
use Rattle.life_quad.specs.Store.{Nodes, stored_squares}
use Rattle.life_pattern.specs.Store.{IsShortageOf}
use Rattle.life_base.specs.declared.form.Form.TheVariants.{Placed}
use Rattle.library_calls.specs.Reported.{Reported, ReturnsText, ReturnsFault, Returns, by_text, by_fault}
use Rattle.library_calls.specs.Texts.{TellsText, IsLimitShortage, squares_of_limit}
use Rattle.library_calls.specs.Comparing.{Compared, ComparesWithin, comparison_of}
use Rattle.library_calls.specs.Comparing as placed
use Rattle.library_calls.specs.ComparingInForm.{ComparesInForm}
use Rattle.library_calls.specs.ComparingInForm as in_form
use Rattle.library_calls.proofs.Numbered.{no_text}

-- a text or a fault, reported
pub answered : {X : Type 0} (items : X → List ℕ) (IsText : List ℕ → Type 0) (IsFault : Fault → Type 0) (before after : List ℕ) (it : Reported)
    (r : Result X Fault) → IfOk r (λ x. IsText (items x)) → IfErr r IsFault → IfOk r (λ x. ReturnsText (items x) before after it) → IfOk r (λ _. it.line ≡ 0)
    → IfErr r (λ fault. ReturnsFault fault before after it) → Returns IsText IsFault before after it
answered items IsText IsFault before after it (Ok x) is why gives no_line tells = by_text (items x) is gives no_line
answered items IsText IsFault before after it (Err fault) is why gives no_line tells = by_fault fault why tells

-- two facts of one text
pub both : {X : Type 0} (P Q : X → Type 0) (r : Result X Fault) → IfOk r P → IfOk r Q → IfOk r (λ x. P x × Q x)
both P Q (Ok x) p q = (p, q)
both P Q (Err fault) p q = tt

-- a fact of whatever is answered
pub of-any : {X : Type 0} (P : Type 0) (r : Result X Fault) → P → IfOk r (λ _. P)
of-any P (Ok x) p = p
of-any P (Err fault) p = tt

-- why a call is refused, and what its store lacks where it has no space
pub and-lacks : {X Lack : Type 0} (P : Fault → Type 0) (r : Result X Fault) → IfErr r P → (r ≡ Err (fault_of Full) → Lack)
    → IfErr r (λ fault. P fault × (fault ≡ fault_of Full → Lack))
and-lacks P (Ok x) p lacks = tt
and-lacks P (Err fault) p lacks = (p, λ full. lacks (ap (λ (f : Fault). Err f) full))

-- refused memory is no full store
pub not-full : {P : Type 0} (fault : Fault) → fault ≡ fault_of Memory → fault ≡ fault_of Full → P
not-full fault memory full = let e : Memory ≡ Full = ap (λ (f : Fault). f.kind) (sym memory ∙ full) in absurd cc

-- a store that was empty, and had no space besides what it held, is tight
pub tight : (space : ℕ) (old new : Nodes) → stored_squares old ≡ [] → new.limit ≡ old.limit → old.limit < length (stored_squares old) + space
    → new.limit < space
tight space old new empty same low = let none : length (stored_squares old)
    ≡ 0 = ap (λ (squares : List Tree). length squares) empty in omega (arith, none, same, low)

-- so is one that has no space for squares that it held
pub tight-alone : (space : ℕ) (old new : Nodes) → new.limit ≡ old.limit → old.limit < 0 + space → new.limit < space
tight-alone space old new same low = omega (arith, same, low)

-- memory is wanted, or the store is full and its limit too low
pub wanted : (IsTooLow : ℕ → Type 0) (limit : ℕ) (store : Nodes) (fault : Fault) → store.limit ≡ squares_of_limit limit → IsShortageOf store fault
    → (fault ≡ fault_of Full → length (stored_squares store) ≡ store.limit → IsTooLow store.limit) → IsLimitShortage IsTooLow limit fault
wanted IsTooLow limit store fault is (inl memory) low = inl memory
wanted IsTooLow limit store fault is (inr (full, at)) low = inr (full, subst IsTooLow is (low full at))

-- what holds where a call succeeds, holds where a text is reported
pub where-reported : {X Holds : Type 0} (it : Reported) (r : Result X Fault) → OnOk r Holds → OnErr r (¬ TellsText it) → TellsText it → Holds
where-reported it (Ok x) holds none text = holds
where-reported it (Err fault) holds none text = absurd (none text)

-- no text is reported with the number of a fault
pub no-text : {P : Type 0} (it : Reported) (fault : Fault) → it.status ≡ kind_number fault.kind → TellsText it → P
no-text it fault is text = no_text it.status fault.kind is text

-- what holds of any answer that is an error
pub where-err : {X Holds : Type 0} (r : Result X Fault) → Holds → OnErr r Holds
where-err (Ok x) holds = tt
where-err (Err fault) holds = holds

-- and files are not compared either
pub not-compared : {P : Type 0} (it : Compared) (fault : Fault) → it ≡ comparison_of (kind_number fault.kind) 0 fault.place.line → it.status ≡ 0 → P
not-compared it fault is zero = no_text it.status fault.kind (ap (λ (c : Compared). c.status) is) (inl zero)

-- 1 is reported where the answer is yes, and 0 where it is no
abbrev number : Bool → ℕ
number answer = if answer then 1 else 0

pub is-answer : {P : Type 0} (answer : Bool) → IsTrue answer ↔ P → ((number answer ≡ 1) × P) ⊎ ((number answer ≡ 0) × (¬ P))
is-answer true agree = inl (refl, agree.0 refl)
is-answer false agree = inr (refl, λ p. let e : false ≡ true = agree.1 p in absurd cc)

-- two files that are compared where they lie
pub placed-compares : (limit : ℕ) (first second : List ℕ) (it : Compared) → ComparesInForm Placed limit first second it → ComparesWithin limit first second it
placed-compares limit first second it (in_form.by_answer status line one other small answer) = placed.by_answer status line one other answer
placed-compares limit first second it (in_form.by_fault fault status line is_same (inl why)) = placed.by_fault fault status line is_same why
placed-compares limit first second it (in_form.by_fault fault status line is_same (inr large)) = absurd large.1.related

-- a form that has the number, and none that has
pub at-form : {X : Type 0} (form : Option X) (A : Type 0) (B : X → Type 0) (x : X) → form ≡ Some x → B x → MatchOption form A B
at-form form A B x is b = subst (λ o. MatchOption o A B) (sym is) b
