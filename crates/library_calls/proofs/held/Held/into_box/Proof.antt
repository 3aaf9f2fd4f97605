-- The pointer and what it owns make the box again.
use Rattle.std.proofs.Common.{Option, true, is_some}
use Rattle.library_calls.proofs.Pointer.{◌≡◌, [], ◌∷◌, refl, sym, ap, ◌∙◌, ftrue, full_share, id⊢, fact, tables, yes, ptr_val, rawptr_Lawful, nothing, called, Stays, stay_dropped, walk_of, ends_at, says, alloc_all, pass_all, free_all, look_at, get, sets, ‵, raw, ◌⊛◌, ◌$◌, ◌∵◌, !, qed, done, move, drop, use1, split, join, suffices, enter, of_opd, and_then, no_more, returns, proved, framed, Some, ghosts, dict, owned_session, word, word_fits, boxed, boxed_laws, content, content_laws, handle, handle_laws, handle_drop, asks, gives, found}
use denote.Laws.{Is, shows}
use denote.Steps.{heard, peeks}
use denote.Triple.Call.{calls_at_last}
use types.ByLocal.{get_in, lands_last, env}
use types.Kit.{at_ret, rewrite, fsplit, fjoin, feq_i}
use types.Part.{sub, whole}
use types.Run.{stop, fld, first, blocks, exec}
use Rattle.std.proofs.alloc.Global.TheLaws as global_laws
use Rattle.std.proofs.boxed.Box.from_raw.Met as from_raw_met
use Rattle.std.proofs.impls.GlobalAllocator.TheImpl.Met as allocator
use Rattle.std.specs.contracts.alloc.Global as global
use Rattle.std.specs.contracts.boxed.Box.from_raw as from_raw
use Rattle.library_calls.specs.declared.session.Session.{Session}
use Rattle.library_calls.specs.contracts.held.Held as held
use Rattle.library_calls.specs.contracts.held.Held.into_box as f
use Rattle.library_calls.proofs.Destruct++none.drop.Symbol as no_drop
use Rattle.library_calls.proofs.held.Held.TheLaws as held_laws
use Rattle.library_calls.proofs.held.Held.into_box.Statement.{statement}
use Rattle.library_calls.proofs.held.Held.into_box.Code as code

pub into_box_spec : {M : Type 1} → statement M
into_box_spec {M} 𝓤 𝓛 𝓜 𝓡 wired =
    let γ = 𝓡.env in let 𝓣 = tables 𝓤 𝓛.H 𝓜 𝓡 γ in let c = f.clauses 𝓛 𝓜.mem 𝓡.returns in
    let stayed : Stays f.ended.signature.params f.ended.kept = (stay_dropped _ yes, (stay_dropped _ yes, tt)) in
    let W = walk_of 𝓛 f.ended stayed c in
    let E = from_raw.ended content handle ghosts dict handle_drop in
    let asked = from_raw.clauses content handle ghosts dict handle_drop 𝓛 𝓜.mem 𝓡.returns in let G = called 𝓛 E asked in
    let allocates = allocator.passed γ (code.calls-std::impls::GlobalAllocator::allocate γ wired)
    (code.calls-std::impls::GlobalAllocator::deallocate γ wired) (code.calls-std::impls::GlobalAllocator::grow γ wired)
    (code.calls-std::impls::GlobalAllocator::shrink γ wired) M 𝓤 𝓛 𝓜 𝓡 in
    let met = from_raw_met.met 𝓤 𝓛 𝓜 𝓡 (code.calls-std::boxed::Box::from_raw γ wired) content handle content_laws handle_laws ghosts dict handle_drop
    allocates (no_drop.glues γ (code.calls-library_calls::Destruct++none::drop γ wired) handle handle_laws M 𝓤 𝓛 𝓜 𝓡) in
    proved 𝓛 f.ended stayed c 𝓜 𝓡 (λ κs x w vs ok. 𝓛.laws.⇛_intro _, (λ κs x w vs ok. 𝓛.laws.⇛_intro _, tt)) f.Key.name code.function
    (code.unfolded 𝓤 𝓛.H 𝓜 𝓡 wired) (λ κs. ((λ h. held_laws.lowers.lowered h ∷ []), ((λ z. global_laws.lowers.lowered z ∷ []), tt)))
    (λ κs. (held_laws.lowers.val_is, (global_laws.lowers.val_is, tt))) (λ κs qs bounds a g are.
    let at = a.0.at in let state = a.0.session in let alloc = a.1.0 in let bits = global_laws.lowers.lowered alloc in
    let fits = ((rawptr_Lawful 𝓛).typed at _ refl).0 in let y : W.Ghost = ((κs, qs, bounds, a, (word at ∷ [], (bits ∷ [], tt))), tt) in
    qed 𝓛 ((‵ ftrue ⊛ ‵ (held.the_row.own_val a.0 (word at ∷ [])) ⊛ ‵ (global.the_row.own_val alloc (bits ∷ [])) ⊛ ‵ ftrue)
    ∷ raw (fact 𝓤 (is_some state ≡ true)) ∷ []) ∵
    move ! (1 ∷ []) $ heard ! _ (λ there. let session = (found state there).0 in let is_session = (found state there).1 in
    let z : G.Ghost = ((([], ([], tt)), (full_share, (full_share, tt)), tt, (alloc, (at, tt)), (bits ∷ [], (ptr_val at ∷ [], tt))), session) in
    split ! $ drop ! $ split ! $ fsplit ! $ drop ! $ rewrite ! 0 (λ (s : Option Session). ‵ (owned_session at s)) is_session refl $
    move ! (1 ∷ []) $ split ! $
    -- [the allocator; nothing; the box in memory]
    feq_i ! _ (ptr_val at ∷ []) (ptr_val at ∷ []) refl $ move ! (0 ∷ 2 ∷ []) $ fjoin ! $ move ! (1 ∷ 0 ∷ []) $ fjoin ! $ asks ! _ _ $
    use1 𝓛 (raw (G.pre z)) (id⊢ 𝓤 _) $ enter ! _ _ _ _ _ $ alloc_all ! (λ l. pass_all ! refl (word_fits 𝓛 at, ((tt, ((tt, tt), tt)), tt)) $
    sets ! (of_opd ! (get_in ! (fld ! refl (stop !)) (sub ! 0 refl (whole !)))) refl fits $ first ! $ blocks ! $
    sets ! (of_opd ! (get ! refl)) refl fits $
    calls_at_last ! (framed 𝓤 𝓛.H 𝓜 𝓣) G met z (and_then ! (get ! refl) (and_then ! (get ! refl) (no_more !))) (λ v. gives ! tt E asked z v (λ r e.
    move ! (1 ∷ []) $ use1 𝓛 (raw (fact 𝓤 (r.value ≡ session)) ⊛ raw (fact 𝓤 (r.alloc ≡ alloc))) (id⊢ 𝓤 _) $ split ! $ heard ! _ (λ same. drop ! $
    peeks ! boxed (Is boxed) (shows 𝓛 boxed) r (v ∷ []) (λ is. let box_fits = ((boxed_laws.lawful 𝓛).typed r _ is).0 in
    lands_last ! refl box_fits $ exec ! 𝓣.C 𝓣.Λ (env code.Mir.locals l) code.Mir.t-3 (at_ret _ (W.post y)) $
    sets ! (of_opd ! (get ! refl)) refl box_fits $ returns ! (look_at ! 0 refl) $ free_all ! refl $
    suffices ! _ (ends_at 𝓛 f.ended stayed c y v r (_, (_, tt)) (tt, (tt, tt))) $ says ! (is_session ∙ ap Some (sym same)) $
    nothing ! $ nothing ! $ join ! $ nothing ! $ join ! $ nothing ! $ done !)))))))
