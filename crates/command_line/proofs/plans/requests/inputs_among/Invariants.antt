use Rattle.std.proofs.Common.{◌≡◌, ◌≤◌, take, codes, count_by}
use Rattle.std.specs.Str.{bytes_eq}
use Rattle.command_line.proofs.plans.requests.inputs_among.Given as goal

abbrev pub invariant-loop-name : goal.invariant-loop-name
invariant-loop-name l = record {
  counted : l.count ≡ count_by (λ name. bytes_eq name.now (codes "-")) (take l.name-index l.names);
  small : l.count ≤ l.name-index;
}
