use Rattle.std.proofs.Common.{◌≡◌, ◌+◌, ◌≤◌, ◌++◌, ◌∷◌, [], take, true, false, refl, ap, sym, ◌∙◌, subst, arith, List, All}
use Rattle.std.proofs.lemmas.List.{take_more}
use Rattle.std.proofs.lemmas.List.Elements.{All-cons}
use Rattle.life_table.specs.Valid.{is_variable}
use Rattle.life_table.specs.Taking.{IsGrouped, add_to}
use Rattle.life_table.specs.declared.groups.Group.{Group}
use Rattle.life_table.specs.declared.table.Entry.{Entry}
use Rattle.life_table.specs.declared.table.Entry.TheVariants as entries
use Rattle.life_table.proofs.Grouping.{grouped_add, grouped_skip, grouped_none, grouped_output, small_add, small_more, fixed_skip, centre_skip, centre_open, same_number}
use Rattle.life_table.proofs.groups.groups_in_order.Goals as goal
use Rattle.life_table.proofs.groups.groups_in_order.Goals.{in-Var+then-not-is_variable, in-Var+else-not-is_variable, in_default, in-Var-entry+then-not-is_variable-2, in-Var-entry+else-not-is_variable-2, in_default-entry}
use Rattle.life_base.proofs.Basics.{true_false}

pub loop-entry-init : goal.loop-entry-init
loop-entry-init c =
    elim c.match-output.branch [
      | in-Var+then-not-is_variable w ↦
          let open_output : is_variable w.in-Var.number c.args.first ≡ false = sym w.is_variable.ensures ∙ w.if-not-is_variable.true in
          let first_one : take c.match-output.count c.match-output.groups ≡ record { variable = w.in-Var.number; times = 0 }
          ∷ [] = ap (λ n. take n c.match-output.groups) w.count-is ∙ ap (take 1) w.groups-is in
          record {
            grouped = subst (IsGrouped c.args.first c.args.output []) (sym first_one)
                (grouped_output c.args.first c.args.output w.in-Var.number w.in-Var.is open_output);
            few = omega (arith, w.count-is);
            small = subst (All (λ (g : Group). g.times ≤ 0)) (sym first_one)
                (All-cons (λ (g : Group). g.times ≤ 0) (record { variable = w.in-Var.number; times = 0 }) [] (omega arith)
                (λ k d below. absurd (omega (arith, below))));
          }
      | in-Var+else-not-is_variable w ↦
          let settled_output : is_variable w.in-Var.number c.args.first ≡ true = sym w.is_variable.ensures ∙ w.if-not-is_variable.false in
          let none : take c.match-output.count c.match-output.groups ≡ [] = ap (λ n. take n c.match-output.groups) w.count-is in
          record {
            grouped = subst (IsGrouped c.args.first c.args.output []) (sym none)
                (grouped_none c.args.first c.args.output
                (λ i is open_i. true_false (is_variable i c.args.first)
                (ap (λ j. is_variable j c.args.first) (same_number i w.in-Var.number (sym is ∙ w.in-Var.is)) ∙ settled_output) open_i));
            few = omega (arith, w.count-is);
            small = subst (All (λ (g : Group). g.times ≤ 0)) (sym none) (λ k d below. absurd (omega (arith, below)));
          }
      | in_default w ↦
          let none : take c.match-output.count c.match-output.groups ≡ [] = ap (λ n. take n c.match-output.groups) w.count-is in
          record {
            grouped = subst (IsGrouped c.args.first c.args.output []) (sym none)
                (grouped_none c.args.first c.args.output (λ i is open_i. absurd (w.in_default.not-Var i is)));
            few = omega (arith, w.count-is);
            small = subst (All (λ (g : Group). g.times ≤ 0)) (sym none) (λ k d below. absurd (omega (arith, below)));
          }
    ]

pub loop-entry-preserved : goal.loop-entry-preserved
loop-entry-preserved c =
    let i = c.loop-entry.entry-index in
    let so_far : List Entry = take i c.args.inputs.now in
    let groups : List Group = take c.loop-entry.count c.loop-entry.groups in
    let more = take_more c.args.inputs.now i (entries.Fixed 0) c.loop-entry-test.true in
    elim c.match-entry.branch [
      | in-Var-entry+then-not-is_variable-2 w ↦
          let open_entry : is_variable w.in-Var-entry.number c.args.first ≡ false = sym w.is_variable-in-Var-entry.ensures ∙ w.if-not-is_variable-2.true in
          let added : take c.match-entry.count c.match-entry.groups ≡ add_to w.in-Var-entry.number groups =
          ap (λ n. take n c.match-entry.groups) w.count-is ∙ ap (take w.add_variable-count.result) w.groups-is ∙ w.add_variable-count.ensures.added in
          record {
            grouped = subst (λ es. IsGrouped c.args.first c.args.output es (take c.match-entry.count c.match-entry.groups))
                (sym (more ∙ ap (λ e. so_far ++ e ∷ []) w.in-Var-entry.is))
                (subst (IsGrouped c.args.first c.args.output (so_far ++ entries.Var w.in-Var-entry.number ∷ [])) (sym added)
                (grouped_add c.args.first c.args.output so_far groups c.loop-entry.invariant.grouped w.in-Var-entry.number open_entry));
            few = omega (arith, w.count-is, w.add_variable-count.ensures.count, c.loop-entry.invariant.few);
            small = subst (All (λ (g : Group). g.times ≤ i + 1)) (sym added)
                (small_add w.in-Var-entry.number i groups c.loop-entry.invariant.grouped.distinct c.loop-entry.invariant.small);
          }
      | in-Var-entry+else-not-is_variable-2 w ↦
          let settled_entry : is_variable w.in-Var-entry.number c.args.first ≡ true = sym w.is_variable-in-Var-entry.ensures ∙ w.if-not-is_variable-2.false in
          let same : take c.match-entry.count c.match-entry.groups ≡ groups = ap (λ n. take n c.match-entry.groups) w.count-is
          ∙ ap (take c.loop-entry.count) w.groups-is in
          record {
            grouped = subst (λ es. IsGrouped c.args.first c.args.output es (take c.match-entry.count c.match-entry.groups))
                (sym (more ∙ ap (λ e. so_far ++ e ∷ []) w.in-Var-entry.is))
                (subst (IsGrouped c.args.first c.args.output (so_far ++ entries.Var w.in-Var-entry.number ∷ [])) (sym same)
                (grouped_skip c.args.first c.args.output so_far groups c.loop-entry.invariant.grouped (entries.Var w.in-Var-entry.number)
                (centre_open c.args.first w.in-Var-entry.number settled_entry)
                (centre_skip c.args.first w.in-Var-entry.number settled_entry)));
            few = omega (arith, w.count-is, c.loop-entry.invariant.few);
            small = subst (All (λ (g : Group). g.times ≤ i + 1)) (sym same) (small_more i groups c.loop-entry.invariant.small);
          }
      | in_default-entry w ↦
          let same : take c.match-entry.count c.match-entry.groups ≡ groups = ap (λ n. take n c.match-entry.groups) w.count-is
          ∙ ap (take c.loop-entry.count) w.groups-is in
          record {
            grouped = subst (λ es. IsGrouped c.args.first c.args.output es (take c.match-entry.count c.match-entry.groups))
                (sym (more ∙ ap (λ e. so_far ++ e ∷ []) w.in_default-entry.is))
                (subst (IsGrouped c.args.first c.args.output (so_far ++ entries.Fixed w.in_default-entry.field-0 ∷ [])) (sym same)
                (grouped_skip c.args.first c.args.output so_far groups c.loop-entry.invariant.grouped (entries.Fixed w.in_default-entry.field-0)
                (λ choice t. refl)
                (fixed_skip c.args.first w.in_default-entry.field-0)));
            few = omega (arith, w.count-is, c.loop-entry.invariant.few);
            small = subst (All (λ (g : Group). g.times ≤ i + 1)) (sym same) (small_more i groups c.loop-entry.invariant.small);
          }
    ]
