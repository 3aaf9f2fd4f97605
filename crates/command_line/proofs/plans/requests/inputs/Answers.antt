use Rattle.std.proofs.Common.{◌∙◌, ap, codes, count_by}
use Rattle.std.specs.Str.{bytes_eq}
use Rattle.clap.specs.Words.{found_of}
use Rattle.command_line.proofs.MatchesLemmas.{count_behind, values_found, values_missing}
use Rattle.command_line.proofs.plans.requests.inputs.Goals as goal

pub returns-in-Some : goal.returns-in-Some
returns-in-Some c =
    let found = values_found (found_of c.args.found.now) c.args.id.now c.in-Some.names.now (rw c.in-Some.is at c.get_strs.ensures) in
    c.inputs_among.ensures ∙ count_behind (λ text. bytes_eq text (codes "-")) c.in-Some.names.now ∙ ap (count_by (λ text. bytes_eq text (codes "-"))) found

pub returns-in-None : goal.returns-in-None
returns-in-None c =
    ap (count_by (λ text. bytes_eq text (codes "-")))
    (values_missing (found_of c.args.found.now) c.args.id.now (rw c.in-None.is at c.get_strs.ensures))
