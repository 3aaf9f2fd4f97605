-- Joins of the squares that were not found.
use Rattle.std.proofs.Common.{◌≡◌, ◌+◌, ◌-◌, ◌^◌, ℕ, List, get_or, inl, inr, true≢false, arith, sym, ◌∙◌, ap, subst}
use Rattle.std.proofs.lemmas.Bool.Decides.{eqb_tells}
use Rattle.std.proofs.lemmas.List.{get_or_default}
use Rattle.life_quad.specs.declared.id.Id.{Id}
use Rattle.life_quad.specs.declared.moves.Quarters.{Quarters}
use Rattle.life_quad.specs.Store.{Nodes, Knows, IsShared, content, stored_squares}
use Rattle.life_quad.proofs.CallLemmas.{is_wanted}
use Rattle.life_quad.proofs.JoinAllLemmas.{AreJoined, no_quarters, can_join, joined-none, joined-next, joined-skip, joined-all, joined-refused}
use Rattle.life_quad.proofs.shared.SharedSquaresImpl.join_all.Goals as goal
use Rattle.life_quad.proofs.shared.SharedSquaresImpl.join_all.Goals.{then-eq+in_ok-squares, else-eq}

abbrev Joined : Nodes → Nodes → List Quarters → List Id → ℕ → Type 0
Joined old now qs ids i =
    AreJoined (λ s id. Knows s id × IsShared s) content stored_squares (λ s. s.limit) (λ id. id.0 ≡ 2 ^ 64 - 1) old now qs ids i

pub loop-i-init : goal.loop-i-init
loop-i-init c =
    joined-none c.args.self.now c.args.quarters.now c.find_all.new.squares (c.find_all.auto.squares ∙ c.requires.length) c.find_all.ensures

pub join-requires : goal.join-requires
join-requires c =
    let can = can_join c.loop-i.invariant.keeps (c.requires.each c.loop-i.i no_quarters c.loop-i-test.true) in
    record {
      nw = can.nw;
      ne = can.ne;
      sw = can.sw;
      se = can.se;
      ne_level = can.ne_level;
      sw_level = can.sw_level;
      se_level = can.se_level;
      space = can.space;
    }

pub returns-in_err-squares : goal.returns-in_err-squares
returns-in_err-squares c =
    let i = c.loop-i.i in
    let qs = c.args.quarters.now in
    joined-refused is_wanted c.loop-i.squares c.from_residual.result c.loop-i.invariant c.loop-i-test.true
    (get_or_default qs i no_quarters (get_or qs i no_quarters) c.loop-i-test.true) (c.requires.each i no_quarters c.loop-i-test.true)
    c.from_residual.ensures.1 c.in_err-squares.ensures

pub loop-i-preserved : goal.loop-i-preserved
loop-i-preserved c =
    let i = c.loop-i.i in
    let old = c.args.self.now in
    let qs = c.args.quarters.now in
    let ids = c.loop-i.squares in
    let inv = c.loop-i.invariant in
    let lt = c.loop-i-test.true in
    elim c.if-eq.branch [
      | then-eq+in_ok-squares w ↦
          let join = w.in_ok-squares.ensures in
          subst (λ s. Joined old s qs c.if-eq.squares (i + 1)) (sym w.self-is)
          (subst (λ z. Joined old w.join.new.self qs z (i + 1)) (sym w.squares-is)
          (joined-next inv lt (get_or_default qs i no_quarters (get_or qs i no_quarters) lt) (c.requires.each i no_quarters lt) join.known join.square
          join.keeps join.adds))
      | else-eq w ↦
          subst (λ s. Joined old s qs c.if-eq.squares (i + 1)) (sym w.self-is)
          (subst (λ z. Joined old c.loop-i.self qs z (i + 1)) (sym w.squares-is)
          (joined-skip inv (λ d later. elim (eqb_tells (get_or ids i (record { 0 = 0 })).0 (2 ^ 64 - 1)) [
            | inl same ↦ true≢false (sym same.0 ∙ sym c.eq.ensures ∙ w.if-eq.false)
            | inr other ↦ other.1 (ap (λ (z : Id). z.0) (get_or_default ids i (record { 0 = 0 }) d (omega (arith, lt, inv.len))) ∙ later)
          ])))
    ]

pub returns-clause-known : goal.returns-clause-known
returns-clause-known c = (joined-all c.loop-i.invariant (omega (arith, c.loop-i-test.false))).0

pub returns-clause-square : goal.returns-clause-square
returns-clause-square c = (joined-all c.loop-i.invariant (omega (arith, c.loop-i-test.false))).1
