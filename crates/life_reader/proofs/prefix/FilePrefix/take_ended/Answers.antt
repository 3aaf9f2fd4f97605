use Rattle.life_reader.proofs.PrefixFacts.{keep-fault, no-length}
use Rattle.std.proofs.Common.{◌≡◌, ℕ, List, ◌++◌, length, sym, subst, arith}
use Rattle.std.proofs.lemmas.Bool.Decides.{nat_tests}
use Rattle.life_base.proofs.Results.{error_is}
use Rattle.life_quad.proofs.KeepingLemmas.{keeps-same, adds-none}
use Rattle.life_reader.specs.Prefixes.{IsOpenIn, TakesLine, TakesLineOf}
use Rattle.life_reader.specs.declared.progress.Progress.{Progress}
use Rattle.life_reader.proofs.Stored.{kept-no-space}
use Rattle.life_reader.proofs.prefix.FilePrefix.take_ended.Goals as goal

pub returns-then-is_empty-clause-takes : goal.returns-then-is_empty-clause-takes
returns-then-is_empty-clause-takes c =
    let kept : List ℕ = c.args.self.now.kept.items in
    let none : length kept ≡ 0 = grind (arith, nat_tests, c.if-is_empty.ensures) in
    subst (λ (k : List ℕ). TakesLine (k ++ c.args.end.now) c.args.store.now c.take_line.new.store c.args.self.now c.take_line.new.self c.take_line.result)
    (sym (no-length kept none)) c.take_line.ensures.takes

pub returns-in_err-keep-clause-takes : goal.returns-in_err-keep-clause-takes
returns-in_err-keep-clause-takes c =
    rw (error_is c.from_residual.result c.from_residual.ensures.1) (record {
      line_consumed = tt;
      fault = keep-fault c.args.store.now c.args.self.now.progress c.args.self.now.kept.items c.args.end.now c.args.self.now.ended c.in_err-keep.field-0.0
          c.requires.progress.begun c.requires.going c.in_err-keep.ensures.fault;
      stores = record { needed = λ e. absurd (kept-no-space c.in_err-keep.ensures.fault (cc)); adds = adds-none _ _; keeps = keeps-same _ };
    })

pub returns-clause-takes : goal.returns-clause-takes
returns-clause-takes c =
    let store = c.args.store.now in
    let new = c.take_kept.new.store in
    let after = c.take_kept.new.self in
    let result = c.take_kept.result in
    let progress = c.args.self.now.progress in
    let ended = c.args.self.now.ended in
    subst (λ (l : List ℕ). TakesLineOf l store new progress ended after.progress after.ended result) c.in_ok-keep.ensures.kept.0
    (subst (λ (n : ℕ). TakesLineOf c.keep.new.self.kept.items store new progress n after.progress after.ended result) c.keep.ensures.count
    (subst (λ (p : Progress). TakesLineOf c.keep.new.self.kept.items store new p c.keep.new.self.ended after.progress after.ended result)
    c.keep.ensures.progress c.take_kept.ensures.takes))

pub take_kept-requires : goal.take_kept-requires
take_kept-requires c = record { progress = subst (λ (p : Progress). IsOpenIn c.args.store.now p) (sym c.keep.ensures.progress) c.requires.progress }
