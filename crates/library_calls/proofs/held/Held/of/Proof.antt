-- The pointer of a box keeps what the box owns.
use Rattle.library_calls.proofs.Pointer.{[], ◌∷◌, refl, ap, ftrue, full_share, id⊢, tables, yes, rawptr_Lawful, nothing, called, framed, Stays, stay_dropped, ends_at, says, alloc_all, pass_all, free_all, look_at, get, sets, ‵, raw, ◌⊛◌, ◌$◌, ◌∵◌, !, qed, done, keep, drop, use1, split, join, suffices, agg, enter, of_opd, and_then, no_more, returns, proved, Some, ghosts, dict, owned_session, word, word_fits, boxed, boxed_lowers, boxed_laws, content, content_laws, handle, handle_laws, handle_drop, holds, asks, gives}
use seplogic.Ra.Ura.{Ura}
use base.Fml.{fsep}
use base.Logic.{emp, emp∗, sep}
use contract.Running.{Running}
use denote.Builtin.{unit}
use denote.Exit.{no}
use denote.Param.{param}
use denote.Param.Glue as glue
use denote.Signature.{Signature, plain}
use denote.Steps.{only}
use denote.Triple.Call.{calls_at}
use denote.Triple.Carry.{spared, beside}
use denote.Triple.Clauses.{closing}
use denote.Triple.Spec.{Spec, triple_of}
use denote.Triple.Table.{run_framed, widened}
use mir.Syntax.{Dict, impl, method, no_args, tnil, dnil}
use prog.Model.{Model}
use prog.Wired.{Wired}
use types.ByLocal.{lands_as}
use types.Kit.{show, feq_l}
use types.Logic.{Logic, sem}
use Rattle.std.proofs.boxed.Box.into_raw.Met as into_raw_met
use Rattle.std.proofs.impls.GlobalAllocator.TheImpl.Met as allocator
use Rattle.std.specs.contracts.boxed.Box.into_raw as into_raw
use Rattle.library_calls.specs.contracts.held.Held.of as f
use Rattle.library_calls.specs.contracts.library_calls++session++Session+Destruct.drop as drop
use Rattle.library_calls.proofs.Destruct++none.drop.Symbol as no_drop
use Rattle.library_calls.proofs.library_calls++session++Session+Destruct.drop.Met as drop_met
use Rattle.library_calls.proofs.library_calls++session++Session+Destruct.drop.Symbol as drop_code
use Rattle.library_calls.proofs.held.Held.of.Statement.{statement}
use Rattle.library_calls.proofs.held.Held.of.Code as code

abbrev content_drop : Dict
content_drop = impl (drop_code.symbol ∷ []) tnil dnil

module _ {M : Type 1} {𝓤 : Ura M} (𝓛 : Logic 𝓤) (𝓜 : Model 𝓤 𝓛.H) (𝓡 : Running 𝓤 𝓛.H 𝓜) where
  -- of what a drop says, `into_raw` asks nothing
  let_go : Wired 𝓡.env drop_code.code → glue.Met 𝓛 𝓜 𝓡 𝓡.env content content_drop
  let_go wired =
      let γ = 𝓡.env in let k = method content_drop 0 no_args in let run = 𝓡.run (γ k) in let frames = run_framed 𝓤 𝓛.H 𝓜 𝓡 (γ k) in
      let S : Signature = record { lifetimes = 0; outlives = []; params = plain (λ _. param 0 content) ∷ []; result = plain (λ _. unit) } in
      let said : Spec 𝓤 S = λ κs a. let s = drop.spec 𝓛 𝓜.mem 𝓡.returns κs a in
      record { ghost = s.ghost; requires = s.requires; ensures = s.ensures } in
      let nothing_said : Spec 𝓤 S = closing 𝓛 (record { signature = S; kept = (no, tt) })
      (λ κs a. record { ghost = Unit {0}; requires = λ _. emp 𝓤; ensures = λ _ r e. emp 𝓤 }) in
      let met = widened 𝓤 𝓛.H (triple_of 𝓛 S said) 𝓜 𝓡 γ (γ drop_code.name) (γ k) (drop_code.as_method γ wired k refl)
      (drop_met.met 𝓤 𝓛 𝓜 𝓡 wired) in
      spared 𝓛 S run frames 1 (content.lives, tt) nothing_said (beside 𝓛 S run frames said nothing_said (λ κs a g. g) (λ κs a g. emp 𝓤)
      (λ κs a g. emp∗ 𝓤 (emp 𝓤)) (λ κs a g r. qed 𝓛 (raw ((said κs a).ensures g r) ∷ raw (emp 𝓤) ∷ []) ∵ keep ! [] $
      show ! (λ (ws : Unit {0} × Unit {0}). sep 𝓤 (sem 𝓛 (fsep ftrue ftrue)) (emp 𝓤)) (tt, tt) $
      nothing ! $ nothing ! $ nothing ! $ join ! $ done !) met)

pub of_spec : {M : Type 1} → statement M
of_spec {M} 𝓤 𝓛 𝓜 𝓡 wired =
    let γ = 𝓡.env in let c = f.clauses 𝓛 𝓜.mem 𝓡.returns in
    let stayed : Stays f.ended.signature.params f.ended.kept = (stay_dropped _ yes, tt) in
    let E = into_raw.ended content handle ghosts dict handle_drop content_drop in
    let asked = into_raw.clauses content handle ghosts dict handle_drop content_drop 𝓛 𝓜.mem 𝓡.returns in let G = called 𝓛 E asked in
    let allocates = allocator.passed γ (code.calls-std::impls::GlobalAllocator::allocate γ wired)
    (code.calls-std::impls::GlobalAllocator::deallocate γ wired) (code.calls-std::impls::GlobalAllocator::grow γ wired)
    (code.calls-std::impls::GlobalAllocator::shrink γ wired) M 𝓤 𝓛 𝓜 𝓡 in
    let met = into_raw_met.met 𝓤 𝓛 𝓜 𝓡 (code.calls-std::boxed::Box::into_raw γ wired) content handle content_laws handle_laws ghosts dict
    handle_drop content_drop allocates (no_drop.glues γ (code.calls-library_calls::Destruct++none::drop γ wired) handle handle_laws M 𝓤 𝓛 𝓜 𝓡)
    (let_go 𝓛 𝓜 𝓡 (code.calls-library_calls::library_calls++session++Session+Destruct::drop γ wired)) in
    proved 𝓛 f.ended stayed c 𝓜 𝓡 (λ κs x w vs ok. 𝓛.laws.⇛_intro _, tt) f.Key.name code.function (code.unfolded 𝓤 𝓛.H 𝓜 𝓡 wired)
    (λ κs. ((λ b. boxed_lowers.lowered b ∷ []), tt)) (λ κs. (boxed_lowers.val_is, tt)) (λ κs qs bounds a g are.
    let b = a.0 in let w = boxed_lowers.lowered b in let box_fits = ((boxed_laws.lawful 𝓛).typed b _ are.0).0 in
    let z : G.Ghost = ((([], ([], tt)), (full_share, (full_share, tt)), tt, (b, tt), (w ∷ [], tt)), tt) in
    qed 𝓛 ((‵ ftrue ⊛ ‵ (boxed.own_val b (w ∷ [])) ⊛ ‵ ftrue) ∷ ‵ ftrue ∷ []) ∵ split ! $ drop ! $ asks ! _ _ $ use1 𝓛 (raw (G.pre z)) (id⊢ 𝓤 _) $
    enter ! _ _ _ _ _ $ alloc_all ! (λ l. pass_all ! refl (box_fits, tt) $ sets ! (of_opd ! (get ! refl)) refl box_fits $
    calls_at ! (framed 𝓤 𝓛.H 𝓜 (tables 𝓤 𝓛.H 𝓜 𝓡 γ)) G met z (and_then ! (get ! refl) (no_more !)) (λ v. gives ! tt E asked z v (λ at e.
    let fits = ((rawptr_Lawful 𝓛).typed at _ refl).0 in feq_l ! (λ is. use1 𝓛 (‵ (owned_session at (Some b.value))) (id⊢ 𝓤 _) $
    lands_as ! (ap only is) refl fits $ sets ! (of_opd ! (get ! refl)) refl fits $
    sets ! (agg ! (and_then ! (get ! refl) (no_more !))) refl (word_fits 𝓛 at) $ returns ! (look_at ! 0 refl) $ free_all ! refl $
    suffices ! _ (ends_at 𝓛 f.ended stayed c ((κs, qs, bounds, a, (w ∷ [], tt)), tt) (word at) (record { at = at; session = Some b.value }) (_, tt)
    (tt, tt)) $ says ! refl $ holds ! at (Some b.value) $ nothing ! $ nothing ! $ join ! $ nothing ! $ done !)))))
