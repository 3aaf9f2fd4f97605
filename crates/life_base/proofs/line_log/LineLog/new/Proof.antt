-- A log of no lines. Assumes `Logic`.
use Rattle.std.proofs.Common.{◌≡◌, [], refl}
use Rattle.life_base.proofs.EmptyValues.{begins}
use Rattle.life_base.specs.contracts.line_log.LineLog as log
use Rattle.life_base.specs.contracts.line_log.LineLog.new as f
use Rattle.life_base.proofs.line_log.LineLog.new.Statement.{statement}
use Rattle.life_base.proofs.line_log.LineLog.new.Code as code

pub new_spec : {M : Type 1} → statement M
new_spec 𝓤 𝓛 𝓜 𝓡 wired =
    begins 𝓛 𝓜 𝓡 log.the_row log.struct.name (λ made. made.lines ≡ []) f.Key.name (code.unfolded 𝓤 𝓛.H 𝓜 𝓡 wired) (record { lines = [] }) refl refl
