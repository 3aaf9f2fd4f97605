use Rattle.std.proofs.Common.{◌≡◌, ◌⊎◌, ◌<◌, ℕ, take, arith, inl, inr, sym, subst, ◌∙◌, IsSomeAnd}
use Rattle.life_base.specs.declared.kind.Kind.TheVariants.{ReadFault}
use Rattle.life_base.specs.DeviceRuns.{source_run, optional_source_run, sink_run}
use Rattle.pattern_sources.specs.Faults.{fault_line}
use Rattle.theorems.proofs.StreamLaw.{appended}
use Rattle.program_theorems.proofs.AnswerLaw.{given_second, second_before, second_after, answered, first_ended, second_ended}
use Rattle.program_theorems.proofs.RefusalLaw.{origin_of, reason_of, cut_of, no_cause, held_by, some_failed, reported_of_some, same_status}
use Rattle.program_theorems.proofs.jobs.does_its_job.Goals as goal

pub work_seeded-requires-clause-second_given : goal.work_seeded-requires-clause-second_given
work_seeded-requires-clause-second_given g c = given_second c.args.run.now.task c.requires.second_given

pub returns-clause-done : goal.returns-clause-done
returns-clause-done g c =
    λ file other e f few.
    let done = c.work_seeded.ensures.done few in (
      done.text,
      answered c.layers_agree.ensures c.args.run.now.task _ _ _ done.text done.answer file other e
          (λ has. second_before g.B.Source.remaining c.args.run.now.second other f (c.requires.second_given.1 has)),
      λ held h. appended _ _ held done.text done.written h,
    )

pub returns-clause-whole : goal.returns-clause-whole
returns-clause-whole g c =
    λ file e few. let done = c.work_seeded.ensures.done few in first_ended c.args.run.now.task _ _ _ done.text done.answer file e

pub returns-clause-second_whole : goal.returns-clause-second_whole
returns-clause-second_whole g c =
    λ other has f few.
    let done = c.work_seeded.ensures.done few in
    let ended = second_ended c.args.run.now.task _ _ _ done.text done.answer other has
    (second_before g.B.Source.remaining c.args.run.now.second other f (c.requires.second_given.1 has)) in
    (second_after g.B.Source.remaining c.work_seeded.new.second ended.0, ended.1)

pub returns-clause-refused : goal.returns-clause-refused
returns-clause-refused g c =
    λ file other e f many.
    let first = source_run g.A.Source.remaining g.A.Source.failures c.args.run.now.first c.work_seeded.new.first in
    let second = optional_source_run g.B.Source.remaining g.B.Source.failures c.args.run.now.second c.work_seeded.new.second in
    let output = sink_run g.O.Sink.contents g.O.Sink.failures g.O.Sink.stalled c.args.run.now.out c.work_seeded.new.out in
    let reported = c.work_seeded.ensures.refused many in
    let reason = reason_of c.args.run.now.task first second output reported.0 file other e
    (λ has. second_before g.B.Source.remaining c.args.run.now.second other f (c.requires.second_given.1 has))
    ((g.A.Source.failures c.work_seeded.new.first ≡ 1) ⊎ IsSomeAnd c.work_seeded.new.second (λ b. g.B.Source.failures b ≡ 1))
    (λ failed. elim failed [ inl one ↦ inl one | inr two ↦ inr (some_failed g.B.Source.failures c.work_seeded.new.second two) ])
    (origin_of c.layers_agree.ensures c.args.run.now.task first second output reported.0 reported.2) in (
      fault_line reported.0,
      record {
        of_table = reason.of_table;
        fault = reported.0.fault;
        reason = reason.reason;
        unread = λ failed. elim failed [
          | inl one ↦ reported.4 one
          | inr two ↦ reported_of_some g.B.Source.failures c.work_seeded.new.second (reported.0.fault.kind ≡ ReadFault) reported.5 two
        ];
        unwritten = reported.6;
        status_is = reported.1 ∙ sym (same_status reported.0.fault.kind);
        line_is = reason.line;
      },
      λ heard h. held_by (sink_run g.E.Sink.contents g.E.Sink.failures g.E.Sink.stalled c.args.run.now.err c.work_seeded.new.err) heard
          (fault_line reported.0) reported.7 h,
    )

pub returns-clause-unwritten : goal.returns-clause-unwritten
returns-clause-unwritten g c =
    λ many works takes.
    let reported = c.work_seeded.ensures.refused many in
    let origin = origin_of c.layers_agree.ensures c.args.run.now.task _ _ _ reported.0 reported.2 in
    reported.3 (λ kind. no_cause _ _ (cut_of c.args.run.now.task _ _ _ reported.0 origin kind).cause works takes)

pub returns-clause-broken : goal.returns-clause-broken
returns-clause-broken g c =
    λ file other e f failed.
    let is = c.work_seeded.ensures.write_reported failed in
    let many : 1 < c.work_seeded.result = subst (λ (n : ℕ). 1 < n) (sym is) (omega arith) in
    let reported = c.work_seeded.ensures.refused many in
    let origin = origin_of c.layers_agree.ensures c.args.run.now.task _ _ _ reported.0 reported.2 in
    let cut = cut_of c.args.run.now.task _ _ _ reported.0 origin (reported.6 failed) in (
      is,
      (
        cut.status,
        cut.text,
        answered c.layers_agree.ensures c.args.run.now.task _ _ cut.status cut.text cut.answer file other e
            (λ has. second_before g.B.Source.remaining c.args.run.now.second other f (c.requires.second_given.1 has)),
        λ held h. (cut.written.count, appended _ _ held (take cut.written.count cut.text) cut.written.written h),
      ),
    )

pub returns-clause-unread : goal.returns-clause-unread
returns-clause-unread g c =
    λ failed. elim failed [
      | inl one ↦ c.work_seeded.ensures.first_reported one
      | inr two ↦ reported_of_some g.B.Source.failures c.work_seeded.new.second (c.work_seeded.result ≡ 3) c.work_seeded.ensures.second_reported two
    ]
