-- Calls that make squares in a store, by their clauses.
use Rattle.std.proofs.Common.{◌≡◌, ◌∙◌, ◌↔◌, ◌<◌, ℕ, List, [], ◌∷◌, ◌++◌, length, Result, Ok, Err, IfOk, OnOk, OnErr, sym, subst, IfErr, IsErrAnd}
use Rattle.std.proofs.lemmas.Result.{IfOk-weaker, on_err_weaker}
use Rattle.life_base.specs.declared.kind.Kind.{Kind}
use Rattle.life_base.specs.declared.kind.Kind.TheVariants.{Full, Memory}
use Rattle.life_base.specs.Tree.{Tree}
use Rattle.life_quad.specs.declared.id.Id.{Id}
use Rattle.life_quad.specs.Keeping.{KeepsSquares, AddsOnly, IsShortageKind, MakesSquares, MakesOneSquare}
use Rattle.life_quad.proofs.KeepingLemmas.{keeps-then, adds-then}
use Rattle.life_base.proofs.Results.{error_is}

module _ {S : Type 0} (knows : S → Id → Type 0) (content : S → Id → Tree) (stored : S → List Tree) (most : S → ℕ) where
  -- the clauses of a join that gives the square t, where `needs` says which squares need a node
  abbrev pub Joins : (needs : S → Tree → Type 0) (old new : S) (t : Tree) → Result Id Kind → Type 0
  Joins needs old new t r =
      record {
        known : IfOk r (knows new);
        square : IfOk r (λ id. content new id ≡ t);
        keeps : KeepsSquares knows content stored most old new;
        adds : AddsOnly stored (λ P. P t) old new;
        added : OnOk r (needs old t → stored new ≡ stored old ++ t ∷ []);
        there : OnOk r (¬ needs old t → stored new ≡ stored old);
        fresh : IfOk r (λ id. needs old t → ¬ knows old id);
        full : (r ≡ Err Full) ↔ (needs old t × (length (stored old) ≡ most old));
        space : r ≡ Err Memory → length (stored new) < most new;
        refusals : IfErr r (IsShortageKind (stored new) (most new));
        needed : OnErr r (needs old t);
        unchanged : OnErr r (new ≡ old);
      }

module _ {S : Type 0} {knows : S → Id → Type 0} {content : S → Id → Tree} {stored : S → List Tree} {most : S → ℕ} where
  -- an answer
  pub made : {T : Type 0} {Known Square : T → Type 0} {Needed : Type 0} {old new : S} (x : T) → Known x → Square x
      → KeepsSquares knows content stored most old new → MakesSquares knows content stored most old new Known Square Needed (Ok x)
  made x known square keeps =
      record { known = known; square = square; keeps = keeps; refusals = tt; space = λ f. absurd (cc); needed = tt }

  -- a refusal that is passed on
  pub refused : {T : Type 0} {old new : S} {needed : Type 0} {e : Kind} (known square : T → Type 0) (r : Result T Kind) → IsErrAnd r (λ f. f ≡ e)
      → KeepsSquares knows content stored most old new → IsShortageKind (stored new) (most new) e → (e ≡ Memory → length (stored new) < most new)
      → needed → MakesSquares knows content stored most old new known square needed r
  refused known square r reported keeps kinds space needed =
      let p = error_is r reported in
      record {
        known = rw p tt;
        square = rw p tt;
        keeps = keeps;
        refusals = rw p kinds;
        space = λ f. space (let same = sym p ∙ f in cc);
        needed = rw p needed;
      }

  module _ {needs : S → Tree → Type 0} where
    -- what a join makes
    pub joined : {old new : S} {t : Tree} (r : Result Id Kind) → Joins knows content stored most needs old new t r
        → MakesOneSquare knows content stored most needs old new t (λ P. P t) r
    joined {old} {new} {t} r j =
        record {
          known = j.known;
          square = j.square;
          keeps = j.keeps;
          adds = j.adds;
          refusals = j.refusals;
          space = j.space;
          needed =
              now r j.needed j.unchanged;
        }
      where
        now : (r : Result Id Kind) → OnErr r (needs old t) → OnErr r (new ≡ old) → OnErr r (needs new t)
        now (Ok id) before same = tt
        now (Err e) before same = subst (λ s. needs s t) (sym same) before

    -- calls that store no squares but such as they need, and end with a join
    pub joined-only : {old mid new : S} {t u : Tree} (Needs : (Tree → Type 0) → Type 0) (r : Result Id Kind)
        → KeepsSquares knows content stored most old mid → AddsOnly stored Needs old mid → Joins knows content stored most needs mid new t r → t ≡ u
        → ((P : Tree → Type 0) → P t → Needs P) → MakesOneSquare knows content stored most needs old new u Needs r
    joined-only {new = new} Needs r first before join is why =
        let last = joined r join in
        record {
          known = last.known;
          square = IfOk-weaker r _ _ (λ id same. same ∙ is) last.square;
          keeps = keeps-then first last.keeps;
          adds = adds-then Needs before last.adds (λ P a. a) why;
          refusals = last.refusals;
          space = last.space;
          needed = on_err_weaker r (why (needs new)) last.needed;
        }

    -- one of them is refused, and this is passed on
    pub refused-behind : {old mid new : S} {t u : Tree} {M : (Tree → Type 0) → Type 0} {e : Kind} (Needs : (Tree → Type 0) → Type 0) (r : Result Id Kind)
        → IsErrAnd r (λ f. f ≡ e) → KeepsSquares knows content stored most old mid → AddsOnly stored Needs old mid
        → MakesOneSquare knows content stored most needs mid new t M (Err e) → ((P : Tree → Type 0) → M P → Needs P)
        → MakesOneSquare knows content stored most needs old new u Needs r
    refused-behind {new = new} Needs r reported first before call why =
        let p = error_is r reported in
        record {
          known = rw p tt;
          square = rw p tt;
          keeps = keeps-then first call.keeps;
          adds = adds-then Needs before call.adds (λ P a. a) why;
          refusals = rw p call.refusals;
          space = λ f. call.space (sym p ∙ f);
          needed = rw p (why (needs new) call.needed);
        }

    pub refused-only : {old mid new : S} {t u : Tree} {e : Kind} (Needs : (Tree → Type 0) → Type 0) (r : Result Id Kind) → IsErrAnd r (λ f. f ≡ e)
        → KeepsSquares knows content stored most old mid → AddsOnly stored Needs old mid → Joins knows content stored most needs mid new t (Err e)
        → ((P : Tree → Type 0) → P t → Needs P) → MakesOneSquare knows content stored most needs old new u Needs r
    refused-only {e = e} Needs r reported first before join why = refused-behind Needs r reported first before (joined (Err e) join) why

  -- calls that end with a join, of whose square something is said
  pub joined-last : {old mid new : S} {t : Tree} {needed : Type 0} (needs : S → Tree → Type 0) (square : Tree → Type 0) (r : Result Id Kind)
      → KeepsSquares knows content stored most old mid → Joins knows content stored most needs mid new t r → square t → (needs new t → needed)
      → MakesSquares knows content stored most old new (knows new) (λ id. square (content new id)) needed r
  joined-last needs square r first join is why =
      let last = joined {needs = needs} r join in
      record {
        known = last.known;
        square = IfOk-weaker r _ _ (λ id same. subst square (sym same) is) last.square;
        keeps = keeps-then first last.keeps;
        refusals = last.refusals;
        space = last.space;
        needed = on_err_weaker r why last.needed;
      }
