use Rattle.std.proofs.Common.{◌≡◌, ℕ, List, ◌++◌, subst}
use Rattle.life_base.specs.Lines.{whole_lines}
use Rattle.life_quad.specs.Store.{Nodes}
use Rattle.life_quad.proofs.KeepingLemmas.{adds-none}
use Rattle.life_reader.specs.Space.{AddsLines}
use Rattle.life_reader.proofs.RunFacts.{want-of}
use Rattle.life_reader.proofs.runs.feed_piece.Goals as goal

-- the lines of a piece after the same bytes
behind : {old new : Nodes} {was bytes : List ℕ} (piece : List ℕ) → was ≡ bytes → AddsLines (whole_lines (was ++ piece)) old new
    → AddsLines (whole_lines (bytes ++ piece)) old new
behind {old} {new} piece e = subst (λ (b : List ℕ). AddsLines (whole_lines (b ++ piece)) old new) e

pub returns-in-Err-clause-want : goal.returns-in-Err-clause-want
returns-in-Err-clause-want c =
    want-of c.feed.new.store (c.args.reader.now.bytes ++ c.args.piece.now) c.in-Err.fault (c.in-Err.ensures.fault (c.requires c.in-None.is).0)
    (c.ends_at_once.ensures.0 c.if-ends_at_once.true)

pub returns-in-Err-clause-needed : goal.returns-in-Err-clause-needed
returns-in-Err-clause-needed c = λ e. (c.in-None.is, c.in-Err.ensures.feeds.needed (cc))

pub returns-in-Some-clause-adds : goal.returns-in-Some-clause-adds
returns-in-Some-clause-adds c = λ bytes is. adds-none _ c.args.store.now

pub returns-in-Ok-clause-adds : goal.returns-in-Ok-clause-adds
returns-in-Ok-clause-adds c = λ bytes is. behind c.args.piece.now (is c.in-None.is) c.feed.ensures.feeds.adds

pub returns-in-Err-clause-adds : goal.returns-in-Err-clause-adds
returns-in-Err-clause-adds c = λ bytes is. behind c.args.piece.now (is c.in-None.is) c.feed.ensures.feeds.adds

pub returns-in-Err-2-clause-adds : goal.returns-in-Err-2-clause-adds
returns-in-Err-2-clause-adds c = λ bytes is. behind c.args.piece.now (is c.in-None.is) c.feed.ensures.feeds.adds

pub returns-in-Err-clause-space : goal.returns-in-Err-clause-space
returns-in-Err-clause-space c = λ e. c.in-Err.ensures.feeds.space (cc)
