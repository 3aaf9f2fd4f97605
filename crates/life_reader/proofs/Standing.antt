-- A reader stands while a store keeps the squares of the Ids that it keeps.
use Rattle.std.proofs.Common.{◌≡◌, List, [], ◌∷◌, ◌++◌, get_or, refl, ap, ◌∙◌, arith, Contains, inl, inr}
use Rattle.std.proofs.lemmas.List.Elements.{Contains-append_left, Contains-append_right, Contains-get_or}
use Rattle.life_base.specs.Tree.{Tree, depth}
use Rattle.life_mc.specs.declared.line.Line.{Line}
use Rattle.life_quad.specs.Store.{Nodes}
use Rattle.life_quad.specs.declared.id.Id.{Id}
use Rattle.life_strip.specs.Picture.{IsSoundStrip}
use Rattle.life_strip.specs.Plane.{IsFilled}
use Rattle.life_strip.specs.Row.{IsRow}
use Rattle.life_strip.specs.declared.plane.Plane.{Plane}
use Rattle.life_strip.specs.declared.row.Row.{Row}
use Rattle.life_strip.specs.declared.spans.Strip.{Strip}
use Rattle.life_strip.proofs.PlaneLemmas.{cells-keep, filled-keeps}
use Rattle.life_reader.specs.Feeding.{IsPlaneId, IsKeptId}
use Rattle.life_pattern.specs.Store.{IsKnown, content}
use Rattle.life_reader.specs.Laws.{ReadersStand}
use Rattle.life_reader.specs.Taking.{StandsFor}
use Rattle.life_reader.specs.Filling.{AreSquaresOf}
use Rattle.life_reader.specs.declared.progress.Progress.{Progress}
use Rattle.life_reader.specs.declared.progress.Progress.TheVariants as progress
use Rattle.life_reader.proofs.WaitingFacts.{lines-stay}

pub squares-stay : {knew knows : Id → Type 0} {was now : Id → Tree} (lines : List Line) (ids : List Id) → ((id : Id) → knew id → knows id × (now id ≡ was id))
    → AreSquaresOf knew was lines ids → AreSquaresOf knows now lines ids
squares-stay lines ids k h = record {
  count = h.count;
  each = λ index id line at there.
      let one = h.each index id line at there in
      let e = k id one.0 in
      (e.0, e.1 ∙ one.1, ap depth e.1 ∙ one.2);
}

-- ---- the Ids that a reader keeps

-- each Id that is kept of runs has a property
module _ (knows keeps : Id → Type 0) (content : Id → Tree) (p : Plane) (each : (id : Id) → IsPlaneId p id → keeps id) where
  abbrev both : Id → Type 0
  both id = knows id × keeps id

  abbrev rows : List Row
  rows = p.pile.band.items ++ p.row ∷ []

  sound-both : (s : Strip) → Contains p.pile.strips.items s → IsSoundStrip knows content s → IsSoundStrip both content s
  sound-both s there h = record {
    squares = λ column id at. let one = h.squares column id at in ((one.0, each id (inl (s, column, there, at))), one.1);
    within = h.within;
    rises = h.rises;
  }

  row-both : (r : Row) → Contains rows r → IsRow knows content r → IsRow both content r
  row-both r there h = record {
    blocks = h.blocks;
    squares = λ column id at. let one = h.squares column id at in ((one.0, each id (inr (r, column, there, at))), one.1);
    within = h.within;
    rises = h.rises;
    one = h.one;
  }

  of-band : (r : Row) → Contains p.pile.band.items r → Contains rows r
  of-band r there = Contains-append_left p.pile.band.items (p.row ∷ []) r there

  filled-both : IsFilled knows content p → IsFilled both content p
  filled-both h = record {
    pile = record {
      strips = record {
        sound = λ k d lt. sound-both (get_or p.pile.strips.items k d) (Contains-get_or p.pile.strips.items k d lt) (h.pile.strips.sound k d lt);
        falling = h.pile.strips.falling;
      };
      lowest = h.pile.lowest;
      rows = λ k d lt. row-both (get_or p.pile.band.items k d) (of-band _ (Contains-get_or p.pile.band.items k d lt)) (h.pile.rows k d lt);
      few = h.pile.few;
    };
    row = row-both p.row (Contains-append_right p.pile.band.items (p.row ∷ []) p.row (0, omega arith, refl)) h.row;
    rows = h.rows;
    most = h.most;
  }

stays : (old new : Nodes) (p : Progress) → ((id : Id) → IsKeptId p id → IsKnown old id → IsKnown new id × (content new id ≡ content old id))
    → StandsFor (IsKnown old) (content old) p → StandsFor (IsKnown new) (content new) p
stays old new progress.Undecided k h = tt
stays old new (progress.Rle reader builder runs) k h =
    let keeps : Id → Type 0 = IsPlaneId builder.kept in
    let filled = filled-both (IsKnown old) keeps (content old) builder.kept (λ id there. there) h.filling.filled in
    let same = λ (id : Id) (b : IsKnown old id × keeps id). k id b.1 b.0 in
    record {
      are = h.are;
      filling = record {
        filled = filled-keeps {knows = λ id. IsKnown old id × keeps id} {knows' = IsKnown new} {old = content old} {new = content new} same builder.kept filled;
        cells = λ x y.
            cells-keep {knows = λ id. IsKnown old id × keeps id} {knows' = IsKnown new} {old = content old} {new = content new} same builder.kept filled x y
            ∙ h.filling.cells x y;
        order = h.filling.order;
        next = h.filling.next;
      };
    }
stays old new (progress.Macrocell reader ids waiting) k h = lines-stay reader.lines ids.items waiting.items k h

pub readers_stand : ReadersStand
readers_stand old new fed k h = stays old new fed.progress k h
