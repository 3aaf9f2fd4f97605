-- A log with more numbers. Assumes `Logic`.
use Rattle.std.proofs.Common.{◌≡◌, [], ◌∷◌, ◌++◌, refl, length}
use mir.Syntax.{named}
use denote.Builtin.{u64, SliceRefOf}
use denote.Signature.{plain}
use denote.Slice.{slice_val, shr_slice_Tells}
use Rattle.life_base.proofs.EmptyValues.{follows}
use Rattle.life_quad.specs.contracts.join_log.JoinLog as log
use Rattle.life_quad.specs.contracts.join_log.JoinLog.then as f
use Rattle.life_quad.proofs.join_log.JoinLog.then.Statement.{statement}
use Rattle.life_quad.proofs.join_log.JoinLog.then.Code as code

pub then_spec : {M : Type 1} → statement M
then_spec 𝓤 𝓛 𝓜 𝓡 wired =
    follows 𝓛 𝓜 𝓡 log.the_row log.struct.name (SliceRefOf (1 ∷ []) tt (plain (λ _. u64)) (λ _. tt)) _ (λ κs x. slice_val x.ref_ptr (length x.now))
    (λ κs d x. record { ids = d.ids ++ x.now }) (λ κs d x r. r.ids ≡ d.ids ++ x.now) _ f.Key.name (code.unfolded 𝓤 𝓛.H 𝓜 𝓡 wired)
    (λ κs x w. refl) (λ κs x. tt) (λ κs. shr_slice_Tells (named 1) κs.1.0 u64) (λ κs x is. (tt, (tt, (record { fits = is.0.1.0 }, tt))))
    (λ κs d x. refl) (λ d. refl)
