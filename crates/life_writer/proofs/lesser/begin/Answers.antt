use Rattle.std.proofs.Common.{◌≡◌, length, arith}
use Rattle.life_mc.specs.Writing.{header_lines_text}
use Rattle.life_writer.proofs.LesserFacts.{holds-behind, is-within}
use Rattle.life_writer.proofs.lesser.begin.Goals as goal

pub returns-clause-holds : goal.returns-clause-holds
returns-clause-holds c =
    let long : c.len-end.result ≡ length c.args.best.items = omega (arith, c.len-end.ensures, c.args.best.ok.0) in
    holds-behind c.args.best.items
    (header_lines_text c.args.pattern.now.rule c.args.pattern.now.generation) c.append_prefix.new.out.items _ 0 c.len-end.result _
    c.in_ok-append_prefix.ensures.ok long (omega arith) c.decide-lesser.ensures

pub returns-clause-within : goal.returns-clause-within
returns-clause-within c = is-within _ _ _ c.decide-lesser.result c.decide-lesser.ensures
