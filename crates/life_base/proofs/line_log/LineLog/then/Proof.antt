-- A log with one more line. Assumes `Logic`.
use Rattle.std.proofs.Common.{◌≡◌, [], ◌∷◌, ◌++◌, refl, length}
use mir.Syntax.{named}
use denote.Builtin.{u8, SliceRefOf}
use denote.Signature.{plain}
use denote.Slice.{slice_val, shr_slice_Tells}
use Rattle.life_base.proofs.EmptyValues.{follows}
use Rattle.life_base.specs.contracts.line_log.LineLog as log
use Rattle.life_base.specs.contracts.line_log.LineLog.then as f
use Rattle.life_base.proofs.line_log.LineLog.then.Statement.{statement}
use Rattle.life_base.proofs.line_log.LineLog.then.Code as code

pub then_spec : {M : Type 1} → statement M
then_spec 𝓤 𝓛 𝓜 𝓡 wired =
    follows 𝓛 𝓜 𝓡 log.the_row log.struct.name (SliceRefOf (1 ∷ []) tt (plain (λ _. u8)) (λ _. tt)) _ (λ κs x. slice_val x.ref_ptr (length x.now))
    (λ κs d x. record { lines = d.lines ++ x.now ∷ [] }) (λ κs d x r. r.lines ≡ d.lines ++ x.now ∷ []) _ f.Key.name (code.unfolded 𝓤 𝓛.H 𝓜 𝓡 wired)
    (λ κs x w. refl) (λ κs x. tt) (λ κs. shr_slice_Tells (named 1) κs.1.0 u8) (λ κs x is. (tt, (tt, (record { fits = is.0.1.0 }, tt))))
    (λ κs d x. refl) (λ d. refl)
