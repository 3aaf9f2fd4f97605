use Rattle.std.proofs.Common.{◌≡◌, ◌%◌, ◌^◌, Bool, true, false, subst}
use Rattle.life_base.specs.Tree.{depth, IsFull}
use Rattle.life_quad.specs.declared.id.Id.{Id}
use Rattle.life_pieces.specs.Pieces.{IsOfLevel}
use Rattle.life_slide.specs.declared.margins.Margins.{Margins}
use Rattle.life_slide.specs.Margins.{IsSeenOrOther}
use Rattle.life_slide.specs.Pieces.{InBlock}
use Rattle.life_slide.proofs.SlideLemmas.{rest-less}
use Rattle.life_slide.proofs.SeenLemmas.{kept-at, seen-block, seen-same, seen_cells}
use Rattle.life_slide.proofs.seen.without_margins.Goals as goal

pub returns-clause-known : goal.returns-clause-known
returns-clause-known g c =
    let P : Id → Type 0 = IsOfLevel (g.S.Squares.knows c.args.squares.now) (g.S.Squares.content c.args.squares.now) c.args.level in
    let blank : P c.empty-blank.result = record { known = c.empty-blank.ensures.known; level = c.empty-blank.ensures.level } in
    let known = c.requires.known in
    record {
      nw = kept-at P c.seen_or_other.ensures.keeps _ _ _ c.seen_or_other.ensures.is known.nw blank;
      ne = kept-at P c.seen_or_other-2.ensures.keeps _ _ _ c.seen_or_other-2.ensures.is known.ne blank;
      sw = kept-at P c.seen_or_other-3.ensures.keeps _ _ _ c.seen_or_other-3.ensures.is known.sw blank;
      se = kept-at P c.seen_or_other-4.ensures.keeps _ _ _ c.seen_or_other-4.ensures.is known.se blank;
    }

pub returns-clause-seen : goal.returns-clause-seen
returns-clause-seen g c cells x y h =
    let k = c.args.level in
    let C = c.args.offset.columns in
    let R = c.args.offset.rows in
    let content = g.S.Squares.content c.args.squares.now in
    let full = g.met.S.Squares.full c.args.squares.now in
    let known = c.requires.known in
    let each : InBlock (λ id. IsFull (content id) × (depth (content id) ≡ k)) c.args.block.now = record {
      nw = (full _ known.nw.known, known.nw.level);
      ne = (full _ known.ne.known, known.ne.level);
      sw = (full _ known.sw.known, known.sw.level);
      se = (full _ known.se.known, known.se.level);
    } in
    let blank = c.empty-blank.result in
    let is = c.empty-blank.ensures.square in
    let side = c.side_of-side.ensures in
    let at = λ (east south : Bool) (m : Margins) (id other result : Id) (s : IsSeenOrOther east south (C % c.side_of-side.result)
    (R % c.side_of-side.result) c.side_of-side.result m id other result).
    subst (λ n. IsSeenOrOther east south (C % n) (R % n) n m id other result) side s in
    let a = at false false _ _ _ _ c.seen_or_other.ensures in
    let b = at true false _ _ _ _ c.seen_or_other-2.ensures in
    let d = at false true _ _ _ _ c.seen_or_other-3.ensures in
    let e = at true true _ _ _ _ c.seen_or_other-4.ensures in
    record {
      other = seen_cells content cells k x y (C % 2 ^ k) (R % 2 ^ k) c.args.block.now _ blank is _ _ _ _ each h a b d e;
      are = seen-block content cells k x y (C % 2 ^ k) (R % 2 ^ k) c.args.block.now _ blank is _ _ _ _ each h a b d e;
      same = seen-same content cells k x y (C % 2 ^ k) (R % 2 ^ k) c.args.block.now _ blank is _ _ _ _ each h a b d e
          (rest-less C k) (rest-less R k) c.margins_of-nw.ensures.margins c.margins_of-ne.ensures.margins c.margins_of-sw.ensures.margins
          c.margins_of-se.ensures.margins;
    }
