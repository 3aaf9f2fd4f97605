-- What follows from two clauses of a call that says of each answer what it is.
use Rattle.std.proofs.Common.{◌≡◌, Result, Ok, Err, IfOk, OnOk, OnErr, IsErrAnd, ap}

pub if_ok_both : {T E A : Type 0} {P Q : T → Type 0} (r : Result T E) → ((x : T) → A → P x → Q x) → OnOk r A → IfOk r P → IfOk r Q
if_ok_both (Ok x) f a p = f x a p
if_ok_both (Err e) f a p = tt

pub if_ok_two : {T E : Type 0} {P Q R : T → Type 0} (r : Result T E) → ((x : T) → P x → Q x → R x) → IfOk r P → IfOk r Q → IfOk r R
if_ok_two (Ok x) f p q = f x p q
if_ok_two (Err e) f p q = tt

pub on_err_both : {T E P Q R : Type 0} (r : Result T E) → (P → Q → R) → OnErr r P → OnErr r Q → OnErr r R
on_err_both (Ok x) f p q = tt
on_err_both (Err e) f p q = f p q

pub on_err_any : {T E P : Type 0} (r : Result T E) → P → OnErr r P
on_err_any (Ok x) p = tt
on_err_any (Err e) p = p

pub ok_same : {T E : Type 0} (r : Result T E) (x y : T) → r ≡ Ok x → r ≡ Ok y → x ≡ y
ok_same r x y h k = cc

-- the refusal that is handed on
pub error_is : {T E : Type 0} {e : E} (r : Result T E) → IsErrAnd r (λ f. f ≡ e) → r ≡ Err e
error_is (Ok x) h = absurd h
error_is (Err f) h = ap Err h

-- the same refusal of another call
pub err_again : {T U E : Type 0} {x y : E} → ◌≡◌ {A = Result T E} (Err x) (Err y) → ◌≡◌ {A = Result U E} (Err x) (Err y)
err_again {x = x} {y = y} e = let same : x ≡ y = cc in ap Err same
