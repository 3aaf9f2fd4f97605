use Rattle.std.proofs.Common.{◌≡◌, ℕ, ◌+◌, ◌<◌, List, inl, inr, refl, sym, ◌∙◌, ap, subst, arith}
use Rattle.life_base.specs.declared.cell.TheConstants.{MAX_LEVEL}
use Rattle.life_base.specs.Tree.{Tree, quad, depth, blank as blank_of}
use Rattle.life_quad.specs.Keeping.{KeepsSquares, AddsOnly}
use Rattle.life_quad.specs.Moves.{AreQuarters, grown_square}
use Rattle.life_quad.specs.Refused.{SomePart}
use Rattle.life_quad.specs.declared.id.Id.{Id}
use Rattle.life_quad.specs.declared.moves.Quarters.{Quarters}
use Rattle.life_quad.proofs.RefusedLemmas.{grown_is, SomePart-grown}
use Rattle.life_quad.proofs.KeepingLemmas.{keeps-same, keeps-then, still, adds-none, adds-as, adds-then}
use Rattle.life_quad.proofs.MakingLemmas.{joined-only, refused-only}
use Rattle.life_quad.proofs.moves.grow.Goals as goal

-- a blank square and a quarter after calls that keep the squares of a store
kept : {S : Type 0} {knows : S → Id → Type 0} {content : S → Id → Tree} {stored : S → List Tree} {most : S → ℕ} {old new : S} {e q : Id} {level whole : ℕ}
    → KeepsSquares knows content stored most old new → knows old e → knows old q → depth (content old e) ≡ level → level + 1 ≡ whole
    → depth (content old q) + 1 ≡ whole → whole < MAX_LEVEL
    → record { blank : knows new e; quarter : knows new q; same : depth (content new q) ≡ depth (content new e); space : depth (content new e) < MAX_LEVEL }
kept k known_e known_q level one other high =
    let e = k.contents _ known_e in
    let q = k.contents _ known_q in
    let at = ap depth e.1 in
    record { blank = e.0; quarter = q.0; same = omega (arith, at, ap depth q.1, level, one, other); space = omega (arith, at, level, one, high) }

-- a square made of the two is the same before and after the calls
needs_before : {S : Type 0} {knows : S → Id → Type 0} {content : S → Id → Tree} {stored : S → List Tree} {most : S → ℕ} {old new : S} {e q : Id}
    (needs : Tree → Type 0) (f : Tree → Tree → Tree) → KeepsSquares knows content stored most old new → knows old e → knows old q
    → needs (f (content new e) (content new q)) → needs (f (content old e) (content old q))
needs_before needs f k known_e known_q = subst needs (λ i. f ((k.contents _ known_e).1 i) ((k.contents _ known_q).1 i))

-- what `grow` knows of the store that it is given: the quarters of a square, and a blank one with them
record Around {S : Type 0} (knows : S → Id → Type 0) (content : S → Id → Tree) (old : S) (id e : Id) (q : Quarters) : Type 0 where
  pub known : knows old e
  pub quarters : AreQuarters (knows old) (content old) (content old id) q
  pub square : content old id ≡ quad (content old q.nw) (content old q.ne) (content old q.sw) (content old q.se)
  pub side : content old e ≡ blank_of (depth (content old q.nw))

-- what the joins so far keep, and that they add nothing but what the grown square needs
record Behind {S : Type 0} (knows : S → Id → Type 0) (content : S → Id → Tree) (stored : S → List Tree) (most : S → ℕ) (t : Tree) (old new : S) : Type 0 where
  pub keeps : KeepsSquares knows content stored most old new
  pub adds : AddsOnly stored (λ P. SomePart P (grown_square t)) old new

module _ {S : Type 0} {knows : S → Id → Type 0} {content : S → Id → Tree} {o : S} {id e : Id} {q : Quarters} (a : Around knows content o id e q) where
  part : (P : Tree → Type 0) → SomePart P (quad (quad (content o e) (content o e) (content o e) (content o q.nw))
      (quad (content o e) (content o e) (content o q.ne) (content o e)) (quad (content o e) (content o q.sw) (content o e) (content o e))
      (quad (content o q.se) (content o e) (content o e) (content o e))) → SomePart P (grown_square (content o id))
  part = SomePart-grown _ _ _ _ _ _ a.square a.side

  needs_1 : (P : Tree → Type 0) → P (quad (content o e) (content o e) (content o e) (content o q.nw)) → SomePart P (grown_square (content o id))
  needs_1 P n = part P (inr (inl (inl n)))

  module _ {stored : S → List Tree} {most : S → ℕ} where
    module _ {s : S} (b : Behind knows content stored most (content o id) o s) where
      needs_2 : (P : Tree → Type 0) → P (quad (content s e) (content s e) (content s q.ne) (content s e)) → SomePart P (grown_square (content o id))
      needs_2 P n = part P (inr (inr (inl (inl (needs_before P (λ e q. quad e e q e) b.keeps a.known a.quarters.ne n)))))

      needs_3 : (P : Tree → Type 0) → P (quad (content s e) (content s q.sw) (content s e) (content s e)) → SomePart P (grown_square (content o id))
      needs_3 P n = part P (inr (inr (inr (inl (inl (needs_before P (λ e q. quad e q e e) b.keeps a.known a.quarters.sw n))))))

      needs_4 : (P : Tree → Type 0) → P (quad (content s q.se) (content s e) (content s e) (content s e)) → SomePart P (grown_square (content o id))
      needs_4 P n = part P (inr (inr (inr (inr (inl (needs_before P (λ e q. quad q e e e) b.keeps a.known a.quarters.se n))))))

      more : {new : S} {t : Tree} → ((P : Tree → Type 0) → P t → SomePart P (grown_square (content o id))) → KeepsSquares knows content stored most s new
          → AddsOnly stored (λ P. P t) s new → Behind knows content stored most (content o id) o new
      more why keeps adds = record { keeps = keeps-then b.keeps keeps; adds = adds-then _ b.adds adds (λ P a. a) why }

    -- one join, two, three and four
    module _ {s_1 : S} (k_1 : KeepsSquares knows content stored most o s_1)
        (a_1 : AddsOnly stored (λ P. P (quad (content o e) (content o e) (content o e) (content o q.nw))) o s_1) where
      behind_1 : Behind knows content stored most (content o id) o s_1
      behind_1 = record { keeps = k_1; adds = adds-as _ a_1 needs_1 }

      module _ {s_2 : S} (k_2 : KeepsSquares knows content stored most s_1 s_2)
          (a_2 : AddsOnly stored (λ P. P (quad (content s_1 e) (content s_1 e) (content s_1 q.ne) (content s_1 e))) s_1 s_2) where
        behind_2 : Behind knows content stored most (content o id) o s_2
        behind_2 = more behind_1 (needs_2 behind_1) k_2 a_2

        module _ {s_3 : S} (k_3 : KeepsSquares knows content stored most s_2 s_3)
            (a_3 : AddsOnly stored (λ P. P (quad (content s_2 e) (content s_2 q.sw) (content s_2 e) (content s_2 e))) s_2 s_3) where
          behind_3 : Behind knows content stored most (content o id) o s_3
          behind_3 = more behind_2 (needs_3 behind_2) k_3 a_3

around : {S : Type 0} (knows : S → Id → Type 0) (content : S → Id → Tree) {o : S} {id e : Id} {q : Quarters} {n : ℕ} → knows o e
    → record {
      square : content o id ≡ quad (content o q.nw) (content o q.ne) (content o q.sw) (content o q.se);
      quarters : AreQuarters (knows o) (content o) (content o id) q;
    } → content o e ≡ blank_of n → n ≡ depth (content o q.nw) → Around knows content o id e q
around knows content known d blank level = record { known = known; quarters = d.quarters; square = d.square; side = blank ∙ ap blank_of level }

pub join-requires : goal.join-requires
join-requires g c =
    let blank = c.empty-e.ensures in
    let d = c.divide.ensures in
    let side = blank.level ∙ c.level.ensures.level in
    record {
      nw = blank.known;
      ne = blank.known;
      sw = blank.known;
      se = d.quarters.nw;
      ne_level = refl;
      sw_level = refl;
      se_level = sym side;
      space = omega (arith, side, d.quarters.nw_level, c.requires.high);
    }

-- in whichever of the four places the quarter stands
pub join-requires-2 : goal.join-requires-2
join-requires-2 g c =
    let d = c.divide.ensures in
    let blank = c.empty-e.ensures in
    let side = blank.level ∙ c.level.ensures.level in
    let e = c.join.ensures.keeps.contents _ blank.known in
    let ne = c.join.ensures.keeps.contents _ d.quarters.ne in
    let level = ap depth ne.1 in
    let blank_level = ap depth e.1 in
    record {
      nw = assumption (e, ne);
      ne = assumption (e, ne);
      sw = assumption (e, ne);
      se = assumption (e, ne);
      ne_level = omega (arith, level, blank_level, side, d.quarters.nw_level, d.quarters.ne_level);
      sw_level = omega (arith, level, blank_level, side, d.quarters.nw_level, d.quarters.ne_level);
      se_level = omega (arith, level, blank_level, side, d.quarters.nw_level, d.quarters.ne_level);
      space = omega (arith, level, blank_level, side, d.quarters.nw_level, d.quarters.ne_level, c.requires.high);
    }

pub join-requires-3 : goal.join-requires-3
join-requires-3 g c =
    let d = c.divide.ensures in
    let k = kept (keeps-then c.join.ensures.keeps c.join-2.ensures.keeps) c.empty-e.ensures.known d.quarters.sw
    (c.empty-e.ensures.level ∙ c.level.ensures.level) d.quarters.nw_level d.quarters.sw_level c.requires.high in
    record { nw = k.blank; ne = k.quarter; sw = k.blank; se = k.blank; ne_level = k.same; sw_level = refl; se_level = refl; space = k.space }

pub join-requires-4 : goal.join-requires-4
join-requires-4 g c =
    let d = c.divide.ensures in
    let k = kept (keeps-then (keeps-then c.join.ensures.keeps c.join-2.ensures.keeps) c.join-3.ensures.keeps) c.empty-e.ensures.known d.quarters.se
    (c.empty-e.ensures.level ∙ c.level.ensures.level) d.quarters.nw_level d.quarters.se_level c.requires.high in
    let same = sym k.same in
    record { nw = k.quarter; ne = k.blank; sw = k.blank; se = k.blank; ne_level = same; sw_level = same; se_level = same; space = omega (arith, same, k.space) }

pub join-requires-5 : goal.join-requires-5
join-requires-5 g c =
    let d = c.divide.ensures in
    let blank = c.empty-e.ensures in
    let side = blank.level ∙ c.level.ensures.level in
    let keeps_1 = c.join.ensures.keeps in
    let keeps_2 = keeps-then keeps_1 c.join-2.ensures.keeps in
    let keeps_3 = keeps-then keeps_2 c.join-3.ensures.keeps in
    let north_west = c.in_ok-north_west.ensures in
    let north_east = c.in_ok-north_east.ensures in
    let south_west = c.in_ok-south_west.ensures in
    let south_east = c.in_ok-south_east.ensures in
    let later = keeps-then c.join-3.ensures.keeps c.join-4.ensures.keeps in
    let nw = still (keeps-then c.join-2.ensures.keeps later) north_west.known north_west.square in
    let ne = still later north_east.known north_east.square in
    let sw = still c.join-4.ensures.keeps south_west.known south_west.square in
    let level = ap depth nw.1 in
    record {
      nw = nw.0;
      ne = ne.0;
      sw = sw.0;
      se = south_east.known;
      ne_level = omega (arith, level, ap depth ne.1, ap depth (keeps_1.contents _ blank.known).1);
      sw_level = omega (arith, level, ap depth sw.1, ap depth (keeps_2.contents _ blank.known).1);
      se_level =
          omega (arith, level, ap depth south_east.square, ap depth (keeps_3.contents _ d.quarters.se).1, side, d.quarters.nw_level, d.quarters.se_level);
      space = omega (arith, level, side, d.quarters.nw_level, c.requires.high);
    }

pub returns-in_err-north_west : goal.returns-in_err-north_west
returns-in_err-north_west g c =
    let a = around g.S.Squares.knows g.S.Squares.content c.empty-e.ensures.known c.divide.ensures c.empty-e.ensures.square c.level.ensures.level in
    refused-only _ c.from_residual.result c.from_residual.ensures.1 (keeps-same c.args.squares.now)
    (adds-none _ c.args.squares.now) c.in_err-north_west.ensures (needs_1 a)

pub returns-in_err-north_east : goal.returns-in_err-north_east
returns-in_err-north_east g c =
    let a = around g.S.Squares.knows g.S.Squares.content c.empty-e.ensures.known c.divide.ensures c.empty-e.ensures.square c.level.ensures.level in
    let b_1 = behind_1 a c.join.ensures.keeps c.join.ensures.adds in
    refused-only _ c.from_residual-in_err-north_east.result c.from_residual-in_err-north_east.ensures.1 b_1.keeps b_1.adds
    c.in_err-north_east.ensures (needs_2 a b_1)

pub returns-in_err-south_west : goal.returns-in_err-south_west
returns-in_err-south_west g c =
    let a = around g.S.Squares.knows g.S.Squares.content c.empty-e.ensures.known c.divide.ensures c.empty-e.ensures.square c.level.ensures.level in
    let b_2 = behind_2 a c.join.ensures.keeps c.join.ensures.adds c.join-2.ensures.keeps c.join-2.ensures.adds in
    refused-only _ c.from_residual-in_err-south_west.result c.from_residual-in_err-south_west.ensures.1 b_2.keeps b_2.adds
    c.in_err-south_west.ensures (needs_3 a b_2)

pub returns-in_err-south_east : goal.returns-in_err-south_east
returns-in_err-south_east g c =
    let a = around g.S.Squares.knows g.S.Squares.content c.empty-e.ensures.known c.divide.ensures c.empty-e.ensures.square c.level.ensures.level in
    let b_3 = behind_3 a c.join.ensures.keeps c.join.ensures.adds c.join-2.ensures.keeps c.join-2.ensures.adds c.join-3.ensures.keeps
    c.join-3.ensures.adds in
    refused-only _ c.from_residual-in_err-south_east.result c.from_residual-in_err-south_east.ensures.1 b_3.keeps b_3.adds
    c.in_err-south_east.ensures (needs_4 a b_3)

pub returns : goal.returns
returns g c =
    let C = g.S.Squares.content in
    let a = around g.S.Squares.knows g.S.Squares.content c.empty-e.ensures.known c.divide.ensures c.empty-e.ensures.square c.level.ensures.level in
    let b_1 = behind_1 a c.join.ensures.keeps c.join.ensures.adds in
    let b_2 = more a b_1 (needs_2 a b_1) c.join-2.ensures.keeps c.join-2.ensures.adds in
    let b_3 = more a b_2 (needs_3 a b_2) c.join-3.ensures.keeps c.join-3.ensures.adds in
    let b_4 = more a b_3 (needs_4 a b_3) c.join-4.ensures.keeps c.join-4.ensures.adds in
    let north_west = c.in_ok-north_west.ensures in
    let north_east = c.in_ok-north_east.ensures in
    let south_west = c.in_ok-south_west.ensures in
    let blank_1 = (b_1.keeps.contents _ a.known).1 in
    let blank_2 = (b_2.keeps.contents _ a.known).1 in
    let blank_3 = (b_3.keeps.contents _ a.known).1 in
    let ne_1 = (b_1.keeps.contents _ a.quarters.ne).1 in
    let sw_2 = (b_2.keeps.contents _ a.quarters.sw).1 in
    let se_3 = (b_3.keeps.contents _ a.quarters.se).1 in
    let later = keeps-then c.join-3.ensures.keeps c.join-4.ensures.keeps in
    let nw = (still (keeps-then c.join-2.ensures.keeps later) north_west.known north_west.square).1 in
    let ne = (still later north_east.known north_east.square).1 ∙ (λ i. quad (blank_1 i) (blank_1 i) (ne_1 i) (blank_1 i)) in
    let sw = (still c.join-4.ensures.keeps south_west.known south_west.square).1 ∙ (λ i. quad (blank_2 i) (sw_2 i) (blank_2 i) (blank_2 i)) in
    let se = c.in_ok-south_east.ensures.square ∙ (λ i. quad (se_3 i) (blank_3 i) (blank_3 i) (blank_3 i)) in
    let s = c.join-4.new.self in
    let o = c.args.squares.now in
    let e = C o c.empty-e.result in
    let whole : quad (C s c.in_ok-north_west.north_west) (C s c.in_ok-north_east.north_east) (C s c.in_ok-south_west.south_west)
    (C s c.in_ok-south_east.south_east)
    ≡ quad (quad e e e (C o c.divide.result.nw)) (quad e e (C o c.divide.result.ne) e) (quad e (C o c.divide.result.sw) e e)
    (quad (C o c.divide.result.se) e e e) =
    (λ i. quad (nw i) (ne i) (sw i) (se i)) in
    joined-only _ c.join-5.result b_4.keeps b_4.adds c.join-5.ensures
    (whole ∙ grown_is _ _ _ _ _ _ a.square a.side) (λ P n. part a P (inl (subst P whole n)))

-- These are the answers of the five joins.
