use Rattle.std.proofs.Common.{◌+◌, ◌<◌, length, subst, rules, OnOk}
use Rattle.life_base.specs.declared.cell.TheConstants.{MAX_LEVEL}
use Rattle.life_quad.specs.Store.{stored_squares}
use Rattle.life_reader.specs.Feeding.{Fed}
use Rattle.life_reader.specs.Needs.{LacksFor}
use Rattle.life_reader.specs.Space.{AddsFile, HoldsFile, HoldsOnly, sufficient_for}
use Rattle.life_reader.specs.Taking.{bytes_of}
use Rattle.life_reader.proofs.Adding.{file-tight}
use Rattle.life_reader.proofs.RunFacts.{file-full}
use Rattle.life_reader.proofs.reader.Reader.finish.Goals as goal

pub finish-answer-requires : goal.finish-answer-requires
finish-answer-requires c = record { prefix = record { is = search rules; stands = search rules } }

pub returns-clause-pattern : goal.returns-clause-pattern
returns-clause-pattern c = search rules

pub returns-clause-spent : goal.returns-clause-spent
returns-clause-spent c = search rules

pub returns-clause-ends : goal.returns-clause-ends
returns-clause-ends c =
    let call = c.finish-answer.ensures in
    record {
      all = subst (λ (v : Fed). OnOk c.finish-answer.result (HoldsFile v.bytes (stored_squares c.finish-answer.new.store))) c.self.view_is call.all;
      needed = λ e. subst (λ (v : Fed). LacksFor MAX_LEVEL v.bytes c.finish-answer.new.store) c.self.view_is (call.stores.needed e);
      adds = subst (λ (v : Fed). AddsFile v.bytes c.args.store.now c.finish-answer.new.store) c.self.view_is call.stores.adds;
      space = λ e base.
          subst (λ (v : Fed). HoldsOnly base v.bytes c.args.store.now → c.args.store.now.limit < length base + sufficient_for (length v.bytes)) c.self.view_is
          (file-tight base c.args.store.now c.finish-answer.new.store c.len.ensures.distinct (λ t there. (c.len.ensures.only t there).0)
          (file-full c.finish-answer.new.store (bytes_of c.self.inside.prefix.pieces.lines) c.finish-answer.result call.fault e)
          call.stores.keeps.limit _
          call.stores.adds (call.stores.needed e));
      keeps = call.stores.keeps;
    }
