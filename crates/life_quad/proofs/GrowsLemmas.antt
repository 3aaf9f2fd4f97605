-- What calls leave in a store, one after the other, and refusals that are handed on.
use Rattle.std.proofs.Common.{◌≡◌, Result, Ok, Err, inl, IfErr, IsErrAnd}
use Rattle.life_base.specs.Tree.{Tree}
use Rattle.life_base.specs.declared.kind.Kind.{Kind}
use Rattle.life_base.specs.declared.kind.Kind.TheVariants.{Memory}
use Rattle.life_quad.specs.declared.id.Id.{Id}
use Rattle.life_quad.specs.declared.squares.Squares.{Ghosts}
use Rattle.life_quad.specs.Keeping.{AddsOnly}
use Rattle.life_quad.specs.Grows.{KeepsStore, Grows, GrowsOnly, MakesSquare}
use Rattle.life_quad.proofs.KeepingLemmas.{keeps-same, keeps-then, adds-none, adds-as, adds-then}
use Rattle.life_quad.proofs.MakingLemmas.{Joins, joined}
use Rattle.life_base.proofs.Results.{error_is, err_again}

module _ {X : Type 0} {S : Ghosts X} {A : Type 0} {N : (Tree → Type 0) → Type 0} (M : (Tree → Type 0) → Type 0) where
  -- a call after others
  pub grows-behind : {old mid new : X} {r : Result A Kind} → KeepsStore S old mid → AddsOnly S.stored M old mid → Grows S mid new r N
      → ((P : Tree → Type 0) → N P → M P) → Grows S old new r M
  grows-behind {new = new} keeps adds call more =
      record {
        keeps = keeps-then keeps call.keeps;
        refusals = call.refusals;
        needed = λ e. more (S.needs_node new) (call.needed e);
        adds = adds-then M adds call.adds (λ P a. a) more;
      }

  -- a call after another one
  pub grows-then : {B : Type 0} {L : (Tree → Type 0) → Type 0} {old mid new : X} {q : Result B Kind} {r : Result A Kind} → Grows S old mid q L
      → Grows S mid new r N → ((P : Tree → Type 0) → L P → M P) → ((P : Tree → Type 0) → N P → M P) → Grows S old new r M
  grows-then first call some more = grows-behind first.keeps (adds-as M first.adds some) call more

  -- the first call, or the only one
  pub grows-as : {old new : X} {r : Result A Kind} → Grows S old new r N → ((P : Tree → Type 0) → N P → M P) → Grows S old new r M
  grows-as {new = new} call more =
      record {
        keeps = call.keeps;
        refusals = call.refusals;
        needed = λ e. more (S.needs_node new) (call.needed e);
        adds = adds-as M call.adds more;
      }

  -- an answer after the call
  pub grows-ok : {B : Type 0} {old new : X} {r : Result A Kind} {x : B} → Grows S old new r N → ((P : Tree → Type 0) → N P → M P)
      → Grows S old new (Ok x) M
  grows-ok call more = record { keeps = call.keeps; refusals = tt; needed = λ e. absurd (cc); adds = adds-as M call.adds more }

  -- a refusal that is handed on
  pub grows-err : {B : Type 0} {old new : X} {e : Kind} {r : Result B Kind} → Grows {A = A} S old new (Err e) N → IsErrAnd r (λ y. y ≡ e)
      → ((P : Tree → Type 0) → N P → M P) → Grows S old new r M
  grows-err {new = new} {r = r} call reported more =
      let same = error_is r reported in
      record {
        keeps = call.keeps;
        refusals = rw same call.refusals;
        needed = λ h. more (S.needs_node new) (call.needed (err_again (rw same at h)));
        adds = adds-as M call.adds more;
      }

-- what other calls left in the store, and an answer, or a refusal for lack of memory
pub grows-still : {X : Type 0} {S : Ghosts X} {A : Type 0} (M : (Tree → Type 0) → Type 0) {old new : X} {r : Result A Kind} → KeepsStore S old new
    → AddsOnly S.stored M old new → IfErr r (λ e. e ≡ Memory) → Grows S old new r M
grows-still M {r = Ok x} keeps adds reported = record { keeps = keeps; refusals = tt; needed = λ e. absurd (cc); adds = adds }
grows-still M {r = Err x} keeps adds reported = record { keeps = keeps; refusals = inl reported; needed = λ e. absurd (cc); adds = adds }

-- the same of a store that no call has changed
pub grows-same : {X : Type 0} {S : Ghosts X} {A : Type 0} (M : (Tree → Type 0) → Type 0) (store : X) {r : Result A Kind} → IfErr r (λ e. e ≡ Memory)
    → Grows S store store r M
grows-same M store reported = grows-still M (keeps-same store) (adds-none M store) reported

-- a call that is refused for nothing but a square
pub only-grows : {X : Type 0} {S : Ghosts X} {A : Type 0} {N : (Tree → Type 0) → Type 0} {old new : X} {r : Result A Kind} → GrowsOnly S old new r N
    → Grows S old new r N
only-grows {r = Ok x} call = record { keeps = call.keeps; refusals = call.refusals; needed = λ e. cc; adds = call.adds }
only-grows {r = Err x} call = record { keeps = call.keeps; refusals = call.refusals; needed = λ e. call.needed; adds = call.adds }

-- a call that makes one square
pub made-grows : {X : Type 0} {S : Ghosts X} {old new : X} {t : Tree} {N : (Tree → Type 0) → Type 0} (r : Result Id Kind) → MakesSquare S old new t N r
    → Grows S old new r N
made-grows r call = only-grows (record { keeps = call.keeps; refusals = call.refusals; needed = call.needed; adds = call.adds })

-- a join after other calls
pub join-grows : {X : Type 0} {S : Ghosts X} {old mid new : X} {t : Tree} (M : (Tree → Type 0) → Type 0) (r : Result Id Kind)
    → KeepsStore S old mid → AddsOnly S.stored M old mid → Joins S.knows S.content S.stored S.most S.needs_node mid new t r
    → ((P : Tree → Type 0) → P t → M P) → Grows S old new r M
join-grows M r keeps adds join more = grows-behind M keeps adds (made-grows r (joined r join)) more

-- one that is refused, and this is passed on
pub join-refused : {X A : Type 0} {S : Ghosts X} {old mid new : X} {t : Tree} {e : Kind} (M : (Tree → Type 0) → Type 0) {r : Result A Kind}
    → KeepsStore S old mid → AddsOnly S.stored M old mid → Joins S.knows S.content S.stored S.most S.needs_node mid new t (Err e) → IsErrAnd r (λ y. y ≡ e)
    → ((P : Tree → Type 0) → P t → M P) → Grows S old new r M
join-refused {e = e} M keeps adds join reported more = grows-err M (join-grows M (Err e) keeps adds join more) reported (λ P a. a)
