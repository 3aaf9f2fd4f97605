-- A log of no numbers. Assumes `Logic`.
use Rattle.std.proofs.Common.{◌≡◌, [], refl}
use Rattle.life_base.proofs.EmptyValues.{begins}
use Rattle.life_quad.specs.contracts.join_log.JoinLog as log
use Rattle.life_quad.specs.contracts.join_log.JoinLog.new as f
use Rattle.life_quad.proofs.join_log.JoinLog.new.Statement.{statement}
use Rattle.life_quad.proofs.join_log.JoinLog.new.Code as code

pub new_spec : {M : Type 1} → statement M
new_spec 𝓤 𝓛 𝓜 𝓡 wired =
    begins 𝓛 𝓜 𝓡 log.the_row log.struct.name (λ made. made.ids ≡ []) f.Key.name (code.unfolded 𝓤 𝓛.H 𝓜 𝓡 wired) (record { ids = [] }) refl refl
