use Rattle.std.proofs.Common.{◌≡◌, ℕ, ◌<◌, List, length, sym, subst, arith, OnOk}
use Rattle.std.proofs.lemmas.Bool.Decides.{nat_tests}
use Rattle.life_reader.specs.Taking.{IsEnd, bytes_of, consumed_lines}
use Rattle.life_reader.proofs.PrefixFacts.{whole-end, kept-end, kept-going, rest-lines, rest-fault, no-length}
use Rattle.life_reader.proofs.PatternFacts.{on-ok}
use Rattle.life_base.specs.declared.cell.TheConstants.{MAX_LEVEL}
use Rattle.life_quad.proofs.KeepingLemmas.{adds-as}
use Rattle.life_pattern.specs.Store.{IsNew}
use Rattle.life_reader.specs.Needs.{SomeOfFile, of_lines}
use Rattle.life_reader.proofs.prefix.FilePrefix.take_rest.Goals as goal

pub returns-then-is_empty-clause-end : goal.returns-then-is_empty-clause-end
returns-then-is_empty-clause-end c =
    let kept : List ℕ = c.args.self.now.kept.items in
    let none : length kept ≡ 0 = grind (arith, nat_tests, c.if-is_empty.ensures) in
    whole-end (bytes_of c.args.self.now.pieces.lines) kept c.args.self.now.ended c.args.self.now.progress c.requires.prefix.is (no-length kept none)

pub returns-clause-end : goal.returns-clause-end
returns-clause-end c =
    let kept : List ℕ = c.args.self.now.kept.items in
    let some : 0 < length kept = grind (arith, nat_tests, c.if-is_empty.ensures) in
    let kept_one : OnOk c.take_kept.result (IsEnd (bytes_of c.args.self.now.pieces.lines) c.take_kept.new.self.ended c.take_kept.new.self.progress) =
    on-ok c.take_kept.result c.take_kept.ensures.takes.line_consumed
    (λ line. kept-end (bytes_of c.args.self.now.pieces.lines) kept c.args.self.now.ended c.take_kept.new.self.ended c.args.self.now.progress
    c.take_kept.new.self.progress
    c.requires.prefix.is some line.progress.begun line.lines line.count) in
    kept_one

pub returns-clause-fault : goal.returns-clause-fault
returns-clause-fault c =
    let kept : List ℕ = c.args.self.now.kept.items in
    let some : 0 < length kept = grind (arith, nat_tests, c.if-is_empty.ensures) in
    rest-fault c.take_kept.result c.take_kept.new.store (bytes_of c.args.self.now.pieces.lines) kept c.args.self.now.ended c.args.self.now.progress
    c.requires.prefix.is some c.take_kept.ensures.takes.fault

pub take_kept-requires : goal.take_kept-requires
take_kept-requires c = record { progress = record { begun = c.requires.prefix.is.begun; stands = c.requires.prefix.stands } }

pub returns-then-is_empty-clause-stands : goal.returns-then-is_empty-clause-stands
returns-then-is_empty-clause-stands c = c.requires.prefix.stands

pub returns-clause-stands : goal.returns-clause-stands
returns-clause-stands c = on-ok c.take_kept.result c.take_kept.ensures.takes.line_consumed (λ line. line.progress.stands)

pub returns-clause-stores : goal.returns-clause-stores
returns-clause-stores c =
    let old = c.args.self.now in
    let bytes : List ℕ = bytes_of old.pieces.lines in
    let kept : List ℕ = old.kept.items in
    let some : 0 < length kept = grind (arith, nat_tests, c.if-is_empty.ensures) in
    let going = c.requires.prefix.is.going (kept-going bytes kept old.ended old.progress c.requires.prefix.is some) in
    let stores = c.take_kept.ensures.takes.stores in
    record {
      needed = λ e. subst (SomeOfFile MAX_LEVEL (IsNew c.take_kept.new.store)) (sym (rest-lines bytes kept old.ended (consumed_lines old.progress) going some))
          (of_lines (stores.needed e));
      adds = adds-as _ stores.adds
          (λ P s. subst (SomeOfFile MAX_LEVEL P) (sym (rest-lines bytes kept old.ended (consumed_lines old.progress) going some)) (of_lines s));
      keeps = stores.keeps;
    }
