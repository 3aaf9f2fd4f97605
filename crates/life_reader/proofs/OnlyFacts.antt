-- Calls that are refused for nothing but a square: one after the other, and refusals that are handed on.
use Rattle.std.proofs.Common.{◌≡◌, Result, Ok, IsErrAnd}
use Rattle.std.proofs.lemmas.Result.{on_err_weaker}
use Rattle.life_base.proofs.Results.{error_is}
use Rattle.life_base.specs.Tree.{Tree}
use Rattle.life_base.specs.declared.kind.Kind.{Kind}
use Rattle.life_quad.specs.Grows.{KeepsStore, GrowsOnly}
use Rattle.life_quad.specs.Keeping.{AddsOnly, IsShortageKind}
use Rattle.life_quad.specs.declared.squares.Squares.{Ghosts}
use Rattle.life_quad.proofs.KeepingLemmas.{keeps-same, keeps-then, adds-none, adds-as, adds-then}

module _ {X : Type 0} {S : Ghosts X} {A : Type 0} (M : (Tree → Type 0) → Type 0) where
  -- an answer that takes no square
  pub only-none : (store : X) {x : A} → GrowsOnly S store store (Ok x) M
  only-none store = record { keeps = keeps-same store; refusals = tt; needed = tt; adds = adds-none M store }

  -- the only call
  pub only-as : {N : (Tree → Type 0) → Type 0} {old new : X} {r : Result A Kind} → GrowsOnly S old new r N → ((P : Tree → Type 0) → N P → M P)
      → GrowsOnly S old new r M
  only-as {new = new} {r = r} call more =
      record {
        keeps = call.keeps;
        refusals = call.refusals;
        needed = on_err_weaker r (more (S.needs_node new)) call.needed;
        adds = adds-as M call.adds more;
      }

  -- a call after others
  pub only-behind : {N : (Tree → Type 0) → Type 0} {old mid new : X} {r : Result A Kind} → KeepsStore S old mid → AddsOnly S.stored M old mid
      → GrowsOnly S mid new r N
      → ((P : Tree → Type 0) → N P → M P) → GrowsOnly S old new r M
  only-behind {new = new} {r = r} keeps adds call more =
      record {
        keeps = keeps-then keeps call.keeps;
        refusals = call.refusals;
        needed = on_err_weaker r (more (S.needs_node new)) call.needed;
        adds = adds-then M adds call.adds (λ P a. a) more;
      }

  -- a call after others, by its clauses, whose refusal is handed on
  pub only-refused : {N : (Tree → Type 0) → Type 0} {old mid new : X} {e : Kind} (r : Result A Kind) → IsErrAnd r (λ f. f ≡ e) → KeepsStore S old mid
      → AddsOnly S.stored M old mid
      → KeepsStore S mid new → IsShortageKind (S.stored new) (S.most new) e → N (S.needs_node new) → AddsOnly S.stored N mid new
      → ((P : Tree → Type 0) → N P → M P) → GrowsOnly S old new r M
  only-refused {new = new} r reported first before keeps kinds needed adds more =
      let same = error_is r reported in
      record {
        keeps = keeps-then first keeps;
        refusals = rw same kinds;
        needed = rw same (more (S.needs_node new) needed);
        adds = adds-then M before adds (λ P a. a) more;
      }
