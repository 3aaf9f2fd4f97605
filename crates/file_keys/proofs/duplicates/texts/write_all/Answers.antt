use Rattle.std.proofs.Common.{◌∙◌, ◌<◌, ap, false, length, rules}
use Rattle.std.proofs.lemmas.Result.{err_from_is_err_and}
use Rattle.file_keys.specs.Duplicates.{kept_groups, kept_names, next_names}
use Rattle.file_keys.specs.Groups.{printed_names}
use Rattle.file_keys.proofs.DuplicateLemmas.{left_names, left_next, printed_broken, printed_further, several_next, several_of}
use Rattle.file_keys.proofs.duplicates.texts.write_all.Goals as goal

pub returns-in_err-write_next-clause-text : goal.returns-in_err-write_next-clause-text
returns-in_err-write_next-clause-text g c =
    let p = err_from_is_err_and c.from_residual.result c.from_residual.ensures.1 in
    let some : 0 < length c.in-Some.group.now.more.items = search rules in
    rw p.1 (printed_broken _ _ _ c.args.zero (printed_names (kept_groups c.args.groups.now))
    (left_names c.loop-group.is_first (several_of c.loop-group.group-iterator)) (next_names c.loop-group.is_first (kept_names c.in-Some.group.now))
    (left_names false (several_of c.next.new.self)) c.loop-group.invariant.printed
    (ap (left_names c.loop-group.is_first) (ap several_of c.in-Some.ensures.steps ∙ several_next c.in-Some.group.now c.next.new.self some)
    ∙ left_next c.loop-group.is_first (kept_names c.in-Some.group.now) (several_of c.next.new.self))
    c.in_err-write_next.ensures.text)

pub loop-group-preserved-then-not-is_alone : goal.loop-group-preserved-then-not-is_alone
loop-group-preserved-then-not-is_alone g c =
    let some : 0 < length c.in-Some.group.now.more.items = search rules in
    record {
      works = c.in_ok-write_next.ensures.sink.works;
      stalled = c.in_ok-write_next.ensures.sink.stalled ∙ c.loop-group.invariant.stalled;
      printed = printed_further _ _ _ c.args.zero (printed_names (kept_groups c.args.groups.now))
          (left_names c.loop-group.is_first (several_of c.loop-group.group-iterator)) (next_names c.loop-group.is_first (kept_names c.in-Some.group.now))
          (left_names false (several_of c.next.new.self)) c.loop-group.invariant.printed
          (ap (left_names c.loop-group.is_first) (ap several_of c.in-Some.ensures.steps ∙ several_next c.in-Some.group.now c.next.new.self some)
          ∙ left_next c.loop-group.is_first (kept_names c.in-Some.group.now) (several_of c.next.new.self))
          c.in_ok-write_next.ensures.text;
    }
