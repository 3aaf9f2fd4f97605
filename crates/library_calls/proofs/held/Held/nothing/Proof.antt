-- A null pointer owns nothing.
use Rattle.std.proofs.Common.{None}
use Rattle.library_calls.proofs.Pointer.{[], ◌∷◌, refl, ftrue, null_ptr, nothing, ends_at, says, alloc_all, pass_all, free_all, look_at, sets, ‵, ◌⊛◌, ◌$◌, ◌∵◌, !, qed, done, keep, join, suffices, agg, enter, and_then, no_more, returns, proved, word, word_fits, holds}
use types.Run.{lit}
use Rattle.library_calls.specs.contracts.held.Held.nothing as f
use Rattle.library_calls.proofs.held.Held.nothing.Statement.{statement}
use Rattle.library_calls.proofs.held.Held.nothing.Code as code

pub nothing_spec : {M : Type 1} → statement M
nothing_spec 𝓤 𝓛 𝓜 𝓡 wired =
    let c = f.clauses 𝓛 𝓜.mem 𝓡.returns in
    proved 𝓛 f.ended tt c 𝓜 𝓡 tt f.Key.name code.function (code.unfolded 𝓤 𝓛.H 𝓜 𝓡 wired) (λ κs. tt) (λ κs. tt) (λ κs qs bounds a g are.
    qed 𝓛 ((‵ ftrue ⊛ ‵ ftrue) ∷ ‵ ftrue ∷ []) ∵ keep ! [] $ enter ! _ _ _ _ _ $ alloc_all ! (λ l. pass_all ! refl tt $
    sets ! (agg ! (and_then ! (lit ! tt) (no_more !))) refl (word_fits 𝓛 null_ptr) $ returns ! (look_at ! 0 refl) $ free_all ! refl $
    suffices ! _ (ends_at 𝓛 f.ended tt c ((κs, qs, bounds, a, tt), tt) (word null_ptr) (record { at = null_ptr; session = None }) tt tt) $
    says ! refl $ nothing ! $ holds ! null_ptr None $ nothing ! $ join ! $ nothing ! $ join ! $ done !))
