-- What the walks of `Held` share.
--     word, word_fits     the machine value of a `Held`, and that it has its type
--     boxed               the box of a session as a type
--     content, handle     the session and its allocator, as the calls of a box take them
--     holds               a pointer with what it owns is a `Held`
--     called              the contract of a call
--     asks, gives         what a call of a box asks besides its arguments and its `requires`, and what it gives
--     found               the session that is held
pub use Rattle.std.proofs.Common.{◌≡◌, [], ◌∷◌, refl, sym, ap, ◌∙◌}
pub use base.Fml.{ftrue}
pub use base.Fraction.{full_share}
pub use base.Logic.{id⊢}
pub use contract.Monad.{fact}
pub use contract.Running.{tables}
pub use denote.Exit.{yes}
pub use denote.RawPtr.{ptr_val, null_ptr, rawptr_Lawful}
pub use denote.Steps.{nothing}
pub use denote.Triple.Table.{framed}
pub use denote.Triple.Walked.{Stays, stay_dropped, walk_of, ends_at, says}
pub use types.ByLocal.{alloc_all, pass_all, free_all, look_at, get, sets}
pub use types.Kit.{‵, raw, ◌⊛◌, ◌$◌, ◌∵◌, !, qed, done, move, keep, drop, use1, split, join, suffices}
pub use types.Part.{agg}
pub use types.Run.{enter, of_opd, and_then, no_more, returns}
pub use Rattle.std.proofs.raw_atomic.Walks.{proved}
pub use Rattle.std.specs.Prelude.{Some}
pub use Rattle.std.specs.contracts.impls.GlobalAllocator.TheImpl.{ghosts, dict}
pub use Rattle.library_calls.specs.Owning.{owned_session}
use seplogic.Ra.Ura.{Ura}
use base.Fml.{flft}
use base.Logic.{emp}
use contract.BorrowLft.{◌⊑◌}
use contract.Monad.{fact_i}
use denote.Exit.{no}
use denote.Laws.{Is}
use denote.Param.{arg, layout}
use denote.Param.Laws.{Laws, arg_laws}
use denote.RattleType.{RattleType}
use denote.RawPtr.{Ptr, rawptr_pure}
use denote.Signature.{type_at}
use denote.Steps.{owned as made_of_facts}
use denote.Struct.Loose.{Loose}
use denote.Struct.Owning.{shape}
use denote.Struct.OwningLaws.{Lowered}
use denote.Struct.Struct.{Struct, Struct-Makes}
use denote.Triple.Clauses.{Ended, Clauses, AtExit, Lasts, lasts, at_exit, closing}
use denote.Triple.Entry.{Res, alive}
use denote.Triple.Spec.{triple_of}
use denote.Triple.Statement.{Contract}
use mir.Raw.{raw as bare}
use mir.Syntax.{Dict, ty_ptr, impl, tcons, tnil, dnil}
use mir.Val.{Val, has_ty, WT}
use types.Kit.{Item, Goal, Seq, Soaks, Step, step, some, later, use0, pick, await, fjoin}
use types.Logic.{Logic}
use Rattle.std.proofs.Common.{List, T, Option, None, true, is_some}
use Rattle.std.proofs.ResultValues.{and_tt}
use Rattle.std.proofs.lemmas.Bool.{false≢true}
use Rattle.std.proofs.alloc.Global.TheLaws as global_laws
use Rattle.std.proofs.boxed.Box.TheLaws as box_laws
use Rattle.std.specs.contracts.alloc.Global as global
use Rattle.std.specs.contracts.boxed.Box as box
use Rattle.library_calls.proofs.Destruct++none.drop.Symbol as no_drop
use Rattle.library_calls.proofs.held.Held.TheLaws as laws
use Rattle.library_calls.proofs.session.Session.TheLaws as session_laws
use Rattle.library_calls.specs.contracts.held.Held.{the_type, the_row}
use Rattle.library_calls.specs.contracts.session.Session as session
use Rattle.library_calls.specs.declared.session.Session.{Session}

abbrev pub word : Ptr → Val
word at = laws.lowered (record { at = at; session = None })

pub word_fits : {M : Type 1} {𝓤 : Ura M} (𝓛 : Logic 𝓤) (at : Ptr) → T (has_ty laws.mir (word at)) × WT (word at)
word_fits 𝓛 at = let fits = ((rawptr_Lawful 𝓛).typed at _ refl).0 in (and_tt (has_ty ty_ptr (ptr_val at)) fits.0, (fits.1, tt))

abbrev pub boxed : RattleType
boxed = box.the_row session.the_row global.the_row ghosts

abbrev pub boxed_lowers : Lowered (box.the_type session.the_row global.the_row ghosts)
boxed_lowers =
    box_laws.lowers session.the_row global.the_row ghosts session_laws.the_row_laws global_laws.the_row_laws global_laws.the_told

abbrev pub boxed_laws : Loose (box.the_field session.the_row global.the_row ghosts)
boxed_laws = box_laws.the_field_loose session.the_row global.the_row ghosts session_laws.the_row_laws global_laws.the_row_laws

abbrev passed : RattleType → RattleType
passed R = arg (bare (layout R)) no R

abbrev passed_laws : (R : RattleType) → bare (bare (layout R)) ≡ bare (layout R) → Laws R → Laws (passed R)
passed_laws R same L = arg_laws (bare (layout R)) no R L same

abbrev pub content : RattleType
content = passed session.the_row

abbrev pub content_laws : Laws content
content_laws = passed_laws session.the_row refl session_laws.the_row_laws

abbrev pub handle : RattleType
handle = passed global.the_row

abbrev pub handle_laws : Laws handle
handle_laws = passed_laws global.the_row refl global_laws.the_row_laws

abbrev pub handle_drop : Dict
handle_drop = impl (no_drop.symbol ∷ []) (tcons (layout handle) tnil) dnil

abbrev pub called : {M : Type 1} {𝓤 : Ura M} (𝓛 : Logic 𝓤) (E : Ended) → Clauses 𝓤 E → Contract 𝓤
called 𝓛 E c = triple_of 𝓛 E.signature (closing 𝓛 E c)

module _ {M : Type 1} {𝓤 : Ura M} {𝓛 : Logic 𝓤} {K : Type 0} {Γ : List (Item 𝓤)} {G : Goal 𝓤 𝓛.H} where
  pub holds : K → (at : Ptr) (session : Option Session)
      → Step K 𝓛 (‵ (the_row.own_val (record { at = at; session = session }) (word at ∷ [])) ∷ Γ) G (‵ (owned_session at session) ∷ Γ) G
  holds t at session = step (λ rest. let fields = Struct (shape the_type) in
      made_of_facts t fields (Is fields) (Struct-Makes 𝓛 (shape the_type) (rawptr_pure, tt)) (at, tt) (word at ∷ [])
      ((ptr_val at ∷ [], tt), (refl, (refl, tt))) $ fjoin t $ rest)

  -- neither type names a lifetime, so the tokens that the call asks are had for nothing
  pub asks : K → (arguments needed : Item 𝓤) → let token = ‵ (flft [] full_share) in
      Step K 𝓛 ((((token ⊛ token ⊛ ‵ ftrue) ⊛ arguments) ⊛ (raw (fact 𝓤 ([] ⊑ content.lives)) ⊛ raw (fact 𝓤 ([] ⊑ handle.lives)) ⊛ needed)) ∷ Γ) G
      (arguments ∷ needed ∷ Γ) G
  asks t arguments needed = step (λ rest. let token = ‵ (flft [] full_share) in let forever = 𝓛.lfts.lft-nil full_share in
      nothing t $ use0 𝓛 token forever $ join t $ use0 𝓛 token forever $ join t $ join t $ move t (1 ∷ []) $
      use0 𝓛 (raw (fact 𝓤 ([] ⊑ handle.lives))) (fact_i 𝓤 _ (emp 𝓤) (global_laws.the_within [])) $ join t $
      use0 𝓛 (raw (fact 𝓤 ([] ⊑ content.lives))) (fact_i 𝓤 _ (emp 𝓤) (session_laws.the_within [])) $ join t $ move t (1 ∷ 0 ∷ []) $ join t $ rest)

  pub gives : K → Soaks G → (E : Ended) (c : Clauses 𝓤 E) (y : (called 𝓛 E c).Ghost) (v : Val)
      → ((r : Res E.signature y.0.0) (e : AtExit E y.0.0)
      → Seq K 𝓛 (‵ ((type_at E.signature.result y.0.0).own_val r (v ∷ [])) ∷ raw ((c y.0.0 y.0.3).ensures y.1 r e) ∷ Γ) G)
      → Seq K 𝓛 (raw ((called 𝓛 E c).post y v) ∷ Γ) G
  gives t soaks E c y v rest = let κs = y.0.0 in let a = y.0.3 in
      use1 𝓛 (later (some (λ (r : Res E.signature κs). (raw (alive 𝓛 E.signature κs y.0.1) ⊛ ‵ ((type_at E.signature.result κs).own_val r (v ∷ [])))
      ⊛ some (λ (ws : Lasts E κs a). ‵ (lasts E κs a ws) ⊛ raw ((c κs a).ensures y.1 r (at_exit E κs a ws)))))) (id⊢ 𝓤 _) $
      await t soaks $ pick t (λ r. split t $ split t $ drop t $ move t (1 ∷ []) $ pick t (λ ws. split t $ drop t $ move t (1 ∷ []) $ rest r _))

pub found : {X : Type 0} (session : Option X) → is_some session ≡ true → (x : X) × (session ≡ Some x)
found None is = absurd (false≢true is)
found (Some x) is = (x, refl)
