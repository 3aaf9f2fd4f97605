use Rattle.std.proofs.Common.{◌≡◌, ◌+◌, ◌<◌, ◌∷◌, [], ◌++◌, length, Contains, arith, inl, refl, sym, ◌∙◌, ap, subst, Ok, Err, length-append}
use Rattle.life_base.specs.declared.kind.Kind.TheVariants.{Full}
use Rattle.life_quad.specs.IdMap.{value_of_id}
use Rattle.life_quad.specs.Store.{Nodes, squares, small_square, id_of, IsSmall, AnswersJoin}
use Rattle.life_quad.specs.contracts.shared.Shared.{the_view}
use Rattle.life_quad.proofs.GrowLemmas.{with_id}
use Rattle.life_quad.proofs.CallLemmas.{absent_small, small_added, sound_marked, answers_refused, answers_memory, HasSeen-mark, HasSeen-same}
use Rattle.life_quad.proofs.shared.Shared.mark_new.Goals as goal

pub returns-then-len-self : goal.returns-then-len-self
returns-then-len-self c =
    let s = the_view c.self.inside in
    let v = c.self.view_is in
    let inv = c.self.invariant in
    let small = subst (λ v. IsSmall v.log (squares v.nodes) c.args.number) (sym v) c.requires.small in
    let absent = subst (λ (v : Nodes). ¬ Contains v.log c.args.number) (sym c.self.view_is) c.requires.new in
    let same : c.len.result + c.self.inside.small ≡ length s.log = ap (λ n. n + c.self.inside.small) c.len.ensures.len ∙ sym inv.3 in
    let full = c.if-len-self.true in
    subst (λ v. AnswersJoin v v (small_square c.args.number) (Err Full)) v
    (answers_refused s s (small_square c.args.number) Full _ refl inv.1 (absent_small s c.args.number inv.0 inv.1 small absent) (inl refl) same
    (λ e. full, λ e. refl))

pub returns-in_err-set : goal.returns-in_err-set
returns-in_err-set c =
    let s = the_view c.self.inside in
    let v = c.self.view_is in
    let inv = c.self.invariant in
    let small = subst (λ v. IsSmall v.log (squares v.nodes) c.args.number) (sym v) c.requires.small in
    let absent = subst (λ (v : Nodes). ¬ Contains v.log c.args.number) (sym c.self.view_is) c.requires.new in
    let reported = c.from_residual.ensures in
    let kind = c.in_err-set.ensures.kind in
    let more = c.self.invariant.3 in
    let most = c.self.invariant.1.len in
    let below = c.if-len-self.false in
    let len = c.len.ensures.len in
    subst (λ v. AnswersJoin v s (small_square c.args.number) c.from_residual.result) v
    (answers_memory s s (small_square c.args.number) c.from_residual.result refl inv.1 (absent_small s c.args.number inv.0 inv.1 small absent)
    (omega (arith, len, more, most, below)) _ (λ k e. e ∙ kind) reported.0 reported.1)

pub invariant_of-self : goal.invariant_of-self
invariant_of-self c =
    let inv = c.self.invariant in (
      inv.0,
      inv.1,
      HasSeen-same (value_of_id c.self.inside.seen) (value_of_id c.set.new.self) c.self.inside.log.ids inv.2 c.in_err-set.ensures.same,
      inv.3,
      inv.4,
    )

abbrev old : goal.After-self-2-1 → Nodes
old c = the_view c.self.inside

abbrev new : goal.After-self-2-1 → Nodes
new c = record { nodes = c.self.inside.nodes.keys; log = c.then-self-inside.result.ids; limit = c.self.inside.limit }

-- the square is new, and there was space for it
added : (c : goal.After-self-2-1)
    → IsSmall (old c).log (squares (old c).nodes) c.args.number × (¬ Contains (old c).log c.args.number)
    × (length (old c).log < (old c).limit) × (new c ≡ with_id (old c) c.args.number)
added c =
    let s = old c in
    let inv = c.self.invariant in
    let small = subst (λ v. IsSmall v.log (squares v.nodes) c.args.number) (sym c.self.view_is) c.requires.small in
    let absent = subst (λ (v : Nodes). ¬ Contains v.log c.args.number) (sym c.self.view_is) c.requires.new in
    let len = c.len.ensures.len in
    let more = inv.3 in
    let most = inv.1.len in
    let below = c.if-len-self.false in
    let grown : (new c).log ≡ s.log ++ c.args.number ∷ [] = c.then-self-inside.ensures in
    (small, absent, omega (arith, len, more, most, below), (λ i. record { nodes = s.nodes; log = grown i; limit = s.limit }))

pub invariant_of-self-2 : goal.invariant_of-self-2
invariant_of-self-2 c =
    let s = old c in
    let inv = c.self.invariant in
    let a = added c in
    let grown : (new c).log ≡ s.log ++ c.args.number ∷ [] = c.then-self-inside.ensures in
    let longer = ap length grown ∙ length-append s.log (c.args.number ∷ []) in
    let more = inv.3 in
    let sound = sound_marked s (new c) c.args.number inv.0 inv.1 a.0 a.1 a.2 a.3 in (
      sound.0,
      sound.1,
      HasSeen-mark (value_of_id c.self.inside.seen) (value_of_id c.set.new.self) s.log (new c).log c.args.number inv.2 c.in_ok-set.ensures.marked
          c.set.ensures.others grown,
      omega (arith, longer, more),
      inv.4,
    )

pub returns : goal.returns
returns c =
    let a = added c in
    subst (λ v. AnswersJoin v (new c) (small_square c.args.number) (Ok (id_of c.args.number))) c.self.view_is
    (small_added (old c) (new c) c.args.number c.self.invariant.0 c.self.invariant.1 a.0 a.1 a.2 a.3)
