use Rattle.std.proofs.Common.{◌≡◌, ℕ, ◌+◌, ◌*◌, ◌^◌, ◌<◌, ◌≤◌, List, arith, sym, ◌∙◌, ap, subst}
use Rattle.life_base.specs.declared.cell.TheConstants.{MAX_LEVEL}
use Rattle.life_base.specs.Tree.{Tree, quad, depth, blank}
use Rattle.life_quad.specs.declared.id.Id.{Id}
use Rattle.life_quad.specs.Moves.{CanJoin}
use Rattle.life_strip.specs.declared.spans.Span.{Span}
use Rattle.life_strip.specs.declared.spans.StripPlace.{StripPlace}
use Rattle.life_strip.specs.declared.spans.TheConstants.{NEVER}
use Rattle.life_strip.specs.Strip.{quad_at, square_in, HaveColumns, IsAt, IsStrip, Rise}
use Rattle.life_strip.proofs.PlaceLemmas.{at-known, at-content, at-depth}
use Rattle.life_strip.proofs.spans.quarters_at.Goals as goal

-- the squares of two columns of two strips, by the places of the strips in each
module _ (K : Id → Type 0) (C : Id → Tree) (level : ℕ) (upper lower : List Span) (empty : Id) (column : ℕ) {n e s f : StripPlace} (u : IsStrip K C level upper)
    (l : IsStrip K C level lower) (known : K empty) (is_blank : C empty ≡ blank level) (hn : IsAt upper (2 * column) n) (he : IsAt upper (2 * column + 1) e)
    (hs : IsAt lower (2 * column) s) (hf : IsAt lower (2 * column + 1) f) (a b c d : Id) (nw : a ≡ square_in n empty (2 * column))
    (ne : b ≡ square_in e empty (2 * column + 1)) (sw : c ≡ square_in s empty (2 * column)) (se : d ≡ square_in f empty (2 * column + 1)) where
  -- they are the quarters of a square
  are_quarters : quad (C a) (C b) (C c) (C d) ≡ quad_at C level upper lower column
  are_quarters =
      let p = ap C nw ∙ at-content K C level upper u empty known is_blank (2 * column) n hn (2 * column) (omega arith) hn.beyond in
      let q = ap C ne ∙ at-content K C level upper u empty known is_blank (2 * column + 1) e he (2 * column + 1) (omega arith) he.beyond in
      let r = ap C sw ∙ at-content K C level lower l empty known is_blank (2 * column) s hs (2 * column) (omega arith) hs.beyond in
      let t = ap C se ∙ at-content K C level lower l empty known is_blank (2 * column + 1) f hf (2 * column + 1) (omega arith) hf.beyond in
      λ i. quad (p i) (q i) (r i) (t i)

  -- and may be joined
  may_join : level < MAX_LEVEL → CanJoin K C (record { nw = a; ne = b; sw = c; se = d })
  may_join low =
      let p : depth (C a) ≡ level = ap (λ z. depth (C z)) nw
      ∙ at-depth K C level upper u empty known is_blank (2 * column) n hn (2 * column) (omega arith) hn.beyond in
      let q : depth (C b) ≡ level = ap (λ z. depth (C z)) ne
      ∙ at-depth K C level upper u empty known is_blank (2 * column + 1) e he (2 * column + 1) (omega arith) he.beyond in
      let r : depth (C c) ≡ level = ap (λ z. depth (C z)) sw
      ∙ at-depth K C level lower l empty known is_blank (2 * column) s hs (2 * column) (omega arith) hs.beyond in
      let t : depth (C d) ≡ level = ap (λ z. depth (C z)) se
      ∙ at-depth K C level lower l empty known is_blank (2 * column + 1) f hf (2 * column + 1) (omega arith) hf.beyond in
      record {
        nw = subst K (sym nw) (at-known K C level upper u empty known is_blank (2 * column) n hn (2 * column) (omega arith) hn.beyond);
        ne = subst K (sym ne) (at-known K C level upper u empty known is_blank (2 * column + 1) e he (2 * column + 1) (omega arith) he.beyond);
        sw = subst K (sym sw) (at-known K C level lower l empty known is_blank (2 * column) s hs (2 * column) (omega arith) hs.beyond);
        se = subst K (sym se) (at-known K C level lower l empty known is_blank (2 * column + 1) f hf (2 * column + 1) (omega arith) hf.beyond);
        ne_level = q ∙ sym p;
        sw_level = r ∙ sym p;
        se_level = t ∙ sym p;
        space = omega (arith, p, low);
      }

-- a strip goes on to the eastern column
eastern : (spans : List Span) (column : ℕ) (p : StripPlace) → column ≤ 2 ^ MAX_LEVEL → HaveColumns spans → Rise spans → IsAt spans (2 * column) p
    → record {
      columns : HaveColumns spans;
      rises : Rise spans;
      place : (before : ℕ) × (before ≤ 2 * column + 1) × IsAt spans before p;
      reach : 2 * column + 1 ≤ p.end;
      column : 2 * column + 1 < NEVER;
    }
eastern spans column p inside columns rises at = let beyond = at.beyond in record {
  columns = columns;
  rises = rises;
  place = (2 * column, omega arith, at);
  reach = omega (arith, beyond);
  column = omega (arith, inside);
}

pub pass-north_east-requires : goal.pass-north_east-requires
pass-north_east-requires g c = let r = c.requires in eastern c.args.upper.now c.args.column c.args.north r.column r.upper_columns r.upper_rises r.north

pub pass-south_east-requires : goal.pass-south_east-requires
pass-south_east-requires g c = let r = c.requires in eastern c.args.lower.now c.args.column c.args.south r.column r.lower_columns r.lower_rises r.south

pub returns-clause-can_join : goal.returns-clause-can_join
returns-clause-can_join g c =
    let r = c.requires in
    may_join (g.S.Squares.knows c.args.squares.now) (g.S.Squares.content c.args.squares.now) c.args.level c.args.upper.now c.args.lower.now c.args.empty
    c.args.column r.upper r.lower r.known r.blank r.north c.pass-north_east.ensures.place r.south c.pass-south_east.ensures.place _ _ _ _
    c.square_of-nw.ensures c.square_of-ne.ensures c.square_of-sw.ensures c.square_of-se.ensures r.low

pub returns-clause-square : goal.returns-clause-square
returns-clause-square g c =
    let r = c.requires in
    are_quarters (g.S.Squares.knows c.args.squares.now) (g.S.Squares.content c.args.squares.now) c.args.level c.args.upper.now c.args.lower.now c.args.empty
    c.args.column r.upper r.lower r.known r.blank r.north c.pass-north_east.ensures.place r.south c.pass-south_east.ensures.place _ _ _ _
    c.square_of-nw.ensures c.square_of-ne.ensures c.square_of-sw.ensures c.square_of-se.ensures
