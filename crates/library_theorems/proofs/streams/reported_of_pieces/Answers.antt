use Rattle.std.proofs.Common.{◌++◌, ℕ, List, ◌∙◌, ap, sym, take}
use Rattle.theorems.specs.Joined.{all_bytes}
use Rattle.theorems.proofs.PieceLaw.{joined_more}
use Rattle.library_theorems.proofs.Pieces.{fed, took_more, reported_at_end}
use Rattle.library_theorems.proofs.streams.reported_of_pieces.Goals as goal

pub loop-piece-init : goal.loop-piece-init
loop-piece-init c = λ form limit begun. fed begun

pub loop-piece-preserved : goal.loop-piece-preserved
loop-piece-preserved c = λ form limit begun.
    let i = c.loop-piece.piece-index in
    let pieces = c.args.pieces.now in
    took_more form limit pieces i c.deref.result.now c.loop-piece.stream.held.session c.feed.new.stream.held.session
    (ap (λ (t : List ℕ). all_bytes (take i pieces) ++ t) (c.deref.ensures.value ∙ ap (λ v. v.items) c.piece-item.is)
    ∙ sym (joined_more pieces i c.piece-item.result c.loop-piece-test.true))
    (c.feed.ensures.feeds.takes form limit (all_bytes (take i pieces))) c.feed.ensures.feeds.stays.fault (c.loop-piece.invariant form limit begun)

pub returns : goal.returns
returns c = λ form limit begun.
    reported_at_end c.faults_stay.ensures form limit c.args.pieces.now c.loop-piece.piece-index c.loop-piece.stream.held.session
    c.finish-reported.new.stream.held.session _ _ _ c.loop-piece-test.false (c.finish-reported.ensures.finishes.ends form limit (all_bytes c.args.pieces.now))
    c.finish-reported.ensures.finishes.stays.fault c.finish-reported.ensures.tells (c.loop-piece.invariant form limit begun)
