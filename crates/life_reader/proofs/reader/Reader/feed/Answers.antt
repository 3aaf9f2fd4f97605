use Rattle.std.proofs.Common.{◌≡◌, ◌++◌, ◌+◌, ◌<◌, length, subst, rules}
use Rattle.life_base.specs.declared.cell.TheConstants.{MAX_LEVEL}
use Rattle.life_reader.specs.Feeding.{Fed}
use Rattle.life_base.specs.Lines.{whole_lines}
use Rattle.life_base.specs.Refusal.{fault_of}
use Rattle.life_base.specs.declared.kind.Kind.TheVariants.{Full}
use Rattle.life_reader.specs.Needs.{LacksForPrefix}
use Rattle.life_reader.specs.Space.{AddsLines, HoldsPrefix, sufficient_for}
use Rattle.life_reader.proofs.Adding.{prefix-tight}
use Rattle.life_reader.proofs.RunFacts.{prefix-full}
use Rattle.life_reader.specs.Taking.{bytes_of}
use Rattle.life_reader.proofs.PrefixFacts.{prefix-unrefused, over-keeps-none}
use Rattle.life_reader.proofs.reader.Reader.feed.Goals as goal
use Rattle.life_base.proofs.Results.{err_again}

pub returns-in-Ok-clause-bytes : goal.returns-in-Ok-clause-bytes
returns-in-Ok-clause-bytes c = search rules

pub returns-in-Ok-clause-prefix : goal.returns-in-Ok-clause-prefix
returns-in-Ok-clause-prefix c =
    let now = c.take_piece.new.self in
    prefix-unrefused (bytes_of now.pieces.lines) now.kept.items now.ended now.progress c.in-Ok.ensures.bytes.prefix.is

pub returns-in-Ok-clause-over : goal.returns-in-Ok-clause-over
returns-in-Ok-clause-over c =
    let now = c.take_piece.new.self in
    over-keeps-none (bytes_of now.pieces.lines) now.kept.items now.ended now.progress c.in-Ok.ensures.bytes.prefix.is

pub returns-in-Ok-clause-feeds : goal.returns-in-Ok-clause-feeds
returns-in-Ok-clause-feeds c =
    let call = c.take_piece.ensures in
    record {
      needed = λ e. absurd (cc);
      adds = subst (λ (v : Fed). AddsLines (whole_lines (v.bytes ++ c.args.piece.now)) c.args.store.now c.take_piece.new.store) c.self.view_is call.stores.adds;
      space = λ e. absurd (cc);
      keeps = call.stores.keeps;
    }

pub returns-in-Err-clause-feeds : goal.returns-in-Err-clause-feeds
returns-in-Err-clause-feeds c =
    let call = c.take_piece.ensures in
    record {
      needed = λ e. subst (λ (v : Fed). LacksForPrefix MAX_LEVEL (v.bytes ++ c.args.piece.now) c.take_piece.new.store) c.self.view_is
          (c.in-Err.ensures.stores.needed (err_again e));
      adds = subst (λ (v : Fed). AddsLines (whole_lines (v.bytes ++ c.args.piece.now)) c.args.store.now c.take_piece.new.store) c.self.view_is call.stores.adds;
      space = λ e base.
          let fault : c.in-Err.fault ≡ fault_of Full = cc in
          subst (λ (v : Fed). HoldsPrefix base v.bytes c.args.store.now
          → c.args.store.now.limit < length base + sufficient_for (length (v.bytes ++ c.args.piece.now)))
          c.self.view_is
          (prefix-tight base c.args.store.now c.take_piece.new.store c.len.ensures.distinct (λ t there. (c.len.ensures.only t there).0)
          (prefix-full c.take_piece.new.store _ c.in-Err.fault c.in-Err.ensures.fault fault) call.stores.keeps.limit _ c.args.piece.now
          call.stores.adds (c.in-Err.ensures.stores.needed (err_again e)));
      keeps = call.stores.keeps;
    }

pub take_piece-requires : goal.take_piece-requires
take_piece-requires c = record { prefix = record { is = search rules; stands = search rules } }

pub returns-in-Ok-clause-stands : goal.returns-in-Ok-clause-stands
returns-in-Ok-clause-stands c = c.in-Ok.ensures.bytes.prefix.stands
