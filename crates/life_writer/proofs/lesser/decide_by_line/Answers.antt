use Rattle.std.proofs.Common.{◌≡◌, length, arith}
use Rattle.life_mc.specs.Writing.{node_text}
use Rattle.life_writer.proofs.LesserFacts.{holds-behind, is-within}
use Rattle.life_writer.proofs.lesser.decide_by_line.Goals as goal

pub returns-clause-decided : goal.returns-clause-decided
returns-clause-decided c =
    let long : c.len-end.result ≡ length c.args.bytes.now.items = omega (arith, c.len-end.ensures, c.args.bytes.now.ok.0) in
    holds-behind c.args.bytes.now.items (node_text c.args.line.now) c.append_line.new.out.items _ c.args.count c.len-end.result _
    c.in_ok-append_line.ensures.ok long (omega (arith, c.requires, long)) c.decide.ensures

pub returns-clause-within : goal.returns-clause-within
returns-clause-within c = is-within _ _ _ c.decide.result c.decide.ensures
