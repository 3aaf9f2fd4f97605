use Rattle.std.proofs.Common.{◌≡◌, ◌+◌, [], ◌∷◌, length, map}
use Rattle.std.specs.Option.{option_map_or}
use Rattle.life_base.specs.Text.{trim}
use Rattle.life_table.specs.Reading.{all_some, between_commas}
use Rattle.life_table.specs.Reader.{parts_left}
use Rattle.life_table.proofs.Listed.{united}
use Rattle.life_table.proofs.Values.{set_named}
use Rattle.life_table.proofs.entries.Scope.states_listed.Given as goal

abbrev pub invariant-loop-rest : goal.invariant-loop-rest
invariant-loop-rest l =
    united (0 ∷ 0 ∷ 0 ∷ 0 ∷ []) (all_some (map (set_named l.self.n_states l.self.vars.now) (between_commas l.list)))
    ≡ united l.states (all_some (map (set_named l.self.n_states l.self.vars.now) (map trim (parts_left l.rest))))

abbrev pub decreases-loop-rest : goal.decreases-loop-rest
decreases-loop-rest l = option_map_or (λ text. length text.now + 1) l.rest 0
