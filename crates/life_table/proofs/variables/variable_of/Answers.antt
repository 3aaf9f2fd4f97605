use Rattle.std.proofs.Common.{◌≡◌, ℕ, ◌-◌, List, length, take, drop, refl, sym, ◌∙◌, ◌==◌, Option, Some, None, option_map}
use Rattle.std.specs.List.{before_first, after_first}
use Rattle.life_base.specs.Text.{trim}
use Rattle.life_table.specs.Reading.{variable_states, variable_of}
use Rattle.life_table.specs.declared.table.Var.{Var}
use Rattle.life_base.proofs.LineEnds.{all_behind}
use Rattle.life_table.proofs.variables.variable_of.Goals as goal

-- the variable of a line by the name and the list around its equals sign
by_parts : (n_states : ℕ) (vars : List Var) (text before behind name list : List ℕ) (states : Option (List ℕ))
    → before ≡ before_first (λ b. b == 61) (take (length text - 3) (drop 3 text)) → behind ≡ after_first (λ b. b == 61) (take (length text - 3) (drop 3 text))
    → name ≡ trim before → list ≡ trim behind → states ≡ variable_states n_states vars name list
    → option_map (λ found. record { name = name; states = found }) states ≡ variable_of n_states vars text
unfolding variable_of
by_parts n_states vars text before behind name list states a b e f g = rw (g, e, f, a, b, all_behind text 3) refl

pub returns-in_default-clause-ok : goal.returns-in_default-clause-ok
returns-in_default-clause-ok c =
    by_parts c.args.n_states c.args.vars.now c.args.text.now _ _ _ _ None
    c.split_at_byte.ensures.before c.split_at_byte.ensures.behind c.trimmed-name.ensures c.trimmed.ensures
    (sym c.in_default.is ∙ c.variable_states.ensures)

pub returns-clause-ok : goal.returns-clause-ok
returns-clause-ok c = rw (c.from_vec.ensures, c.in_ok-bytes.ensures.items)
    (by_parts c.args.n_states c.args.vars.now c.args.text.now _ _ _ _ (Some c.in-Some.states)
    c.split_at_byte.ensures.before c.split_at_byte.ensures.behind c.trimmed-name.ensures c.trimmed.ensures
    (sym c.in-Some.is ∙ c.variable_states.ensures))
