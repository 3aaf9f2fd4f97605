-- How many squares are needed, by those that a store holds.
--
-- A `Needs` says of a property that a square which is needed has it; so `Needs (λ u. u ≡ t)` says that t is needed.
use Rattle.std.proofs.Common.{◌≡◌, ◌≢◌, inl, inr, ℕ, zero, suc, ◌<◌, ◌≤◌, Bool, false, true≢false, List, [], ◌∷◌, length, map, get_or, AllPairs, refl, sym, ap, subst, ◌∙◌, arith, All, Contains}
use Rattle.std.proofs.lemmas.List.{get_or-map, length-map}
use Rattle.std.proofs.lemmas.List.Elements.{All-contains, All-contains_itself, All-map}
use Rattle.std.proofs.lemmas.List.Kept.{AllPairs-cons}
use Rattle.life_base.proofs.Squares.{is_blank-blank, quad_nw, quad_ne, quad_sw, quad_se, point≢quad}
use Rattle.life_base.specs.Tree.{Tree, point, quad, depth, is_blank_tree}
use Rattle.life_base.specs.declared.cell.TheConstants.{MAX_LEVEL}
use Rattle.life_base.specs.declared.rule.Rule.{Rule}
use Rattle.life_quad.specs.Keeping.{AddsOnly}
use Rattle.life_quad.specs.Refused.{SomePart}
use Rattle.life_quad.specs.Store.{Nodes, IsEarlier, IsShared, Knows, content, stored_squares, id_of}
use Rattle.life_quad.specs.Turning.{turned_tree}
use Rattle.life_quad.proofs.TurningLemmas.{apart-turned, blank-image, part-of-image, undone}
use Rattle.life_quad.specs.StoreLaws.{Names, the_state, the_blank, the_node, names}
use Rattle.life_quad.specs.declared.id.Id.{Id}
use Rattle.life_pattern.specs.Store.{IsNew}
use Rattle.life_pattern.specs.Store.{IsKnown}
use Rattle.life_pattern.specs.Universe.{Universe, least_level, square_universe}
use Rattle.life_pattern.proofs.Found.{Found, found-as, find-part}
use Rattle.life_pattern.proofs.SpaceLists.{Among, among-contains, contains-among, distinct-pairs, pigeons}
use Rattle.life_pattern.proofs.Sameness.{same-sym}
use Rattle.life_pattern.proofs.Found.{part-blank}
use Rattle.life_forms.specs.Forms.{IsShift, IsTurnedShift}
use Rattle.life_forms.specs.Laws.{ShiftsHaveOneSize, TurnsHaveOneSize}
use Rattle.life_forms.specs.Turns.{Turn, turn_after, turn_of, image}
use Rattle.life_forms.specs.Needed.{HasLargerForm, IsMovedRoot, NeedsMore, SomeOfMovedForm}
use Rattle.life_forms.proofs.MovedFacts.{root-of-form}
use Rattle.life_forms.proofs.ShiftFacts.{shift-sym, shift-trans, still}
use Rattle.life_forms.proofs.TurnFacts.{images-keep-shifts, turns-are-closed}
use Rattle.life_forms.proofs.LeastFacts.{turned-shift-sym}

-- what `len` of a store says: it holds each square once, and none that is blank
pub record HoldsOnce (store : Nodes) : Type 0 where
  pub distinct : AllPairs ◌≢◌ (stored_squares store)
  pub live : (t : Tree) → Contains (stored_squares store) t → is_blank_tree t ≡ false

-- all squares that a store holds are needed
abbrev pub HoldsNeeded : ((Tree → Type 0) → Type 0) → Nodes → Type 0
HoldsNeeded Needs store = (t : Tree) → Contains (stored_squares store) t → Needs (λ u. u ≡ t)

pub no-square : {A : Type 0} (t : Tree) → Contains {X = Tree} [] t → A
no-square t there = absurd (omega (arith, there.1))

-- ---- more than the limit

pub all-cons : (P : Tree → Type 0) (t : Tree) (squares : List Tree) → P t → All P squares → All P (t ∷ squares)
all-cons P t squares p all zero d lt = p
all-cons P t squares p all (suc k) d lt = all k d (omega (arith, lt))

-- a store at its limit that holds needed squares alone and lacks one
pub more-than-held : (Needs : (Tree → Type 0) → Type 0) (store : Nodes) → HoldsOnce store → HoldsNeeded Needs store → Found (IsNew store) Needs
    → length (stored_squares store) ≡ store.limit → NeedsMore Needs store.limit
more-than-held Needs store once needed lack full =
    let squares = stored_squares store in
    let new : All (λ u. lack.square ≢ u) squares = λ k d lt e.
    lack.holds.1 (subst (Contains squares) (sym e) (All-contains_itself squares k d lt)) in
    let Is = λ (t : Tree). (is_blank_tree t ≡ false) × Needs (λ u. u ≡ t) in
    let one : (t : Tree) → Contains squares t → Is t = λ t there. (once.live t there, needed t there) in (
      lack.square ∷ squares,
      AllPairs-cons ◌≢◌ lack.square squares new once.distinct,
      all-cons Is lack.square squares (lack.holds.0, lack.some) (λ k d lt. one _ (All-contains_itself squares k d lt)),
      omega (arith, full),
    )

-- what is needed is needed for more
pub needs-more : (Needs Others : (Tree → Type 0) → Type 0) (most : ℕ) → ((P : Tree → Type 0) → Needs P → Others P) → NeedsMore Needs most
    → NeedsMore Others most
needs-more Needs Others most f more = (more.0, more.1, λ k d lt. let it = more.2 k d lt in (it.0, f _ it.1), more.3)

pairs-map : (f : Tree → Tree) → ((s t : Tree) → f s ≡ f t → s ≡ t) → (xs : List Tree) → AllPairs ◌≢◌ xs → AllPairs ◌≢◌ (map f xs)
pairs-map f apart xs pairs i j d less within e =
    let size : length (map f xs) ≡ length xs = length-map xs f in
    let high : j < length xs = omega (arith, within, size) in
    let low : i < length xs = omega (arith, less, high) in
    pairs i j d less high (apart _ _ (sym (get_or-map f xs i d d low) ∙ e ∙ get_or-map f xs j d d high))

-- as many images are needed as squares, where the image of each one that is needed is
pub needs-more-turned : (turn : Turn) (Needs Others : (Tree → Type 0) → Type 0) (most : ℕ)
    → ((t : Tree) → Needs (λ u. u ≡ t) → Others (λ u. u ≡ turned_tree turn t)) → NeedsMore Needs most → NeedsMore Others most
needs-more-turned turn Needs Others most each more =
    let f = turned_tree turn in
    let Is = λ (t : Tree). (is_blank_tree t ≡ false) × Others (λ u. u ≡ t) in
    let size : length (map f more.0) ≡ length more.0 = length-map more.0 f in (
      map f more.0,
      pairs-map f (apart-turned turn) more.0 more.1,
      All-map Is f more.0 (λ k d lt.
          let t = get_or more.0 k d in
          let it = more.2 k d lt in
          (blank-image turn t ∙ it.0, each t it.1)),
      omega (arith, size, more.3),
    )

-- ---- no more than the limit

-- a store that has an Id is within its limit
pub within : (store : Nodes) → IsShared store → length (stored_squares store) ≤ store.limit
within store shared = let same = length-map store.log (λ k. content store (id_of k)) in let len = shared.len in omega (arith, same, len)

-- a list that has all that is needed is longer than what more is needed than
pub longer : (Needs : (Tree → Type 0) → Type 0) (list : List Tree) (most : ℕ)
    → ((t : Tree) → is_blank_tree t ≡ false → Needs (λ u. u ≡ t) → Contains list t) → NeedsMore Needs most → most < length list
longer Needs list most all more =
    let squares = more.0 in
    let Is = λ (t : Tree). (is_blank_tree t ≡ false) × Needs (λ u. u ≡ t) in
    let have : (x : Tree) → Among squares x → Among list x = λ x a.
    let it : Is x = All-contains Is squares x more.2 (contains-among squares x a) in among-contains list x (all x it.0 it.1) in
    let least = pigeons squares list (distinct-pairs squares more.1) have in
    let over = more.3 in
    omega (arith, least, over)

-- all that is needed is held
pub enough : (Needs : (Tree → Type 0) → Type 0) (store : Nodes) → IsShared store
    → ((t : Tree) → is_blank_tree t ≡ false → Needs (λ u. u ≡ t) → Contains (stored_squares store) t) → ¬ NeedsMore Needs store.limit
enough Needs store shared all more =
    let long = longer Needs (stored_squares store) store.limit all more in
    let most = within store shared in
    omega (arith, long, most)

-- ---- parts of squares that a store knows

-- what `len` says of the squares of Ids
abbrev pub HoldsKnown : Nodes → Type 0
HoldsKnown store =
    (id : Id) → Knows store id → is_blank_tree (content store id) ≡ false → 0 < depth (content store id) → Contains (stored_squares store) (content store id)

-- the square is stored, if it is a part of this one, wherever this one is known
abbrev IsHeldPart : Nodes → Tree → Tree → Type 0
IsHeldPart store u t = (id : Id) → Knows store id → content store id ≡ t → SomePart (λ v. v ≡ u) t → Contains (stored_squares store) u

module _ (store : Nodes) (all : HoldsKnown store) (u : Tree) (live : is_blank_tree u ≡ false) where
  held-quarters : (a b c d : Tree) → IsHeldPart store u a → IsHeldPart store u b → IsHeldPart store u c → IsHeldPart store u d
      → IsHeldPart store u (quad a b c d)
  held-quarters a b c d of_a of_b of_c of_d id known is (inl same) =
      let e : content store id ≡ u = is ∙ same in
      subst (Contains (stored_squares store)) e
      (all id known (ap is_blank_tree e ∙ live) (subst (λ (t : Tree). 0 < depth t) (sym is) (omega arith)))
  held-quarters a b c d of_a of_b of_c of_d id known is (inr rest) = by (names store id known)
    where
      earlier : (i : ℕ) (q : Id) → i ≤ length store.nodes → IsEarlier store.log i q → Knows store q
      earlier i q le h =
          record {
            sound = known.sound;
            named = record { below = omega (arith, le, h.named.below); blank = h.named.blank };
            joined = h.joined;
          }

      by : Names store id → Contains (stored_squares store) u
      by (the_state l e) = absurd (point≢quad (sym e ∙ is))
      by (the_blank k l i e) =
          absurd (true≢false (sym (part-blank (quad a b c d) u (ap is_blank_tree (sym is ∙ e) ∙ is_blank-blank (suc k)) (inr rest)) ∙ live))
      by (the_node i n l le at node e) =
          let are = sym e ∙ is in
          elim rest [
            | inl p ↦ of_a (id_of n.nw) (earlier i _ le node.nw) (quad_nw are) p
            | inr (inl p) ↦ of_b (id_of n.ne) (earlier i _ le node.ne) (quad_ne are) p
            | inr (inr (inl p)) ↦ of_c (id_of n.sw) (earlier i _ le node.sw) (quad_sw are) p
            | inr (inr (inr p)) ↦ of_d (id_of n.se) (earlier i _ le node.se) (quad_se are) p
          ]

  pub held-part : (t : Tree) → IsHeldPart store u t
  held-part (point s) id known is p = absurd p
  held-part (quad a b c d) id known is p = held-quarters a b c d (held-part a) (held-part b) (held-part c) (held-part d) id known is p

-- ---- what a store holds

-- a store that was empty holds what calls added
pub from-empty : (Needs : (Tree → Type 0) → Type 0) (old new : Nodes) → stored_squares old ≡ [] → AddsOnly stored_squares Needs old new → HoldsNeeded Needs new
from-empty Needs old new empty adds t there = elim (adds.each t there) [
  | inl before ↦ no-square t (subst (λ (squares : List Tree). Contains squares t) empty before)
  | inr it ↦ it
]

-- ---- moved forms

-- a part with a property has what follows from it
pub some-weaker : (P Q : Tree → Type 0) → ((t : Tree) → P t → Q t) → (t : Tree) → SomePart P t → SomePart Q t
some-weaker P Q f (point s) h = absurd h
some-weaker P Q f (quad a b c d) (inl h) = inl (f _ h)
some-weaker P Q f (quad a b c d) (inr (inl h)) = inr (inl (some-weaker P Q f a h))
some-weaker P Q f (quad a b c d) (inr (inr (inl h))) = inr (inr (inl (some-weaker P Q f b h)))
some-weaker P Q f (quad a b c d) (inr (inr (inr (inl h)))) = inr (inr (inr (inl (some-weaker P Q f c h))))
some-weaker P Q f (quad a b c d) (inr (inr (inr (inr h)))) = inr (inr (inr (inr (some-weaker P Q f d h))))

-- a turn that keeps columns and rows takes back its own images
pub turned-twice : (columns rows : Bool) (t : Tree) → turned_tree (turn_of false columns rows) (turned_tree (turn_of false columns rows) t) ≡ t
turned-twice columns rows t = undone (turn_of false columns rows) t

pub find-form : (P : Tree → Type 0) (u : Universe) → SomeOfMovedForm P u → Found P (λ Q. SomeOfMovedForm Q u)
find-form P u (v, is, s) = found-as (λ Q k. (v, is, k)) (find-part P _ s)

-- ---- the form of an image, of which a store has the squares turned back

-- what is needed is a square of which the image is a part of the form of an image
abbrev pub SomeTurned : Turn → Universe → (Tree → Type 0) → Type 0
SomeTurned turn v P = SomeOfMovedForm (λ t. P (turned_tree turn t)) v

find-turned : (turn : Turn) (v : Universe) (P : Tree → Type 0) → SomeTurned turn v P → Found P (SomeTurned turn v)
find-turned turn v P some =
    let found = find-form (λ t. P (turned_tree turn t)) v some in
    record {
      square = turned_tree turn found.square;
      holds = found.holds;
      some = (
        found.some.0,
        found.some.1,
        some-weaker (λ t. t ≡ found.square) (λ t. turned_tree turn t ≡ turned_tree turn found.square) (λ t. ap (turned_tree turn)) _ found.some.2,
      );
    }

-- a form has more squares than the store that is full of its parts
pub larger-form : (columns rows : Bool) (v : Universe) (old new : Nodes) → stored_squares old ≡ [] → HoldsOnce new
    → AddsOnly stored_squares (SomeTurned (turn_of false columns rows) v) old new → SomeTurned (turn_of false columns rows) v (IsNew new)
    → length (stored_squares new) ≡ new.limit → HasLargerForm new.limit v
larger-form columns rows v old new empty once adds lacks full =
    needs-more-turned (turn_of false columns rows) (SomeTurned (turn_of false columns rows) v) (λ P. SomeOfMovedForm P v) new.limit
    (λ t some. (
      some.0,
      some.1,
      some-weaker (λ s. turned_tree (turn_of false columns rows) s ≡ t) (λ s. s ≡ turned_tree (turn_of false columns rows) t)
          (λ s e. sym (turned-twice columns rows s) ∙ ap (turned_tree (turn_of false columns rows)) e) _ some.2,
    ))
    (more-than-held (SomeTurned (turn_of false columns rows) v) new once (from-empty (SomeTurned (turn_of false columns rows) v) old new empty adds)
    (find-turned (turn_of false columns rows) v (IsNew new) lacks) full)

-- and no more than the store that has its root
pub no-larger-form : (columns rows : Bool) (t : Tree) → depth t ≤ MAX_LEVEL → (rule : Rule) (generation : ℕ) (store : Nodes) (root : Id)
    → IsKnown store root → HoldsKnown store
    → IsMovedRoot (square_universe rule generation t) (least_level rule) (turned_tree (turn_of false columns rows) (content store root))
    → ¬ HasLargerForm store.limit (square_universe rule generation t)
no-larger-form columns rows t low rule generation store root known all is larger =
    let v = square_universe rule generation t in
    let r = content store root in
    enough (SomeTurned (turn_of false columns rows) v) store known.1
    (λ s live some.
    held-part store all s live _ root known.0 refl
    (some-weaker (λ w. turned_tree (turn_of false columns rows) (turned_tree (turn_of false columns rows) w) ≡ s) (λ w. w ≡ s)
    (λ w e. sym (turned-twice columns rows w) ∙ e) r
    (part-of-image (turn_of false columns rows) (λ w. turned_tree (turn_of false columns rows) w ≡ s) r
    (subst (SomePart (λ w. turned_tree (turn_of false columns rows) w ≡ s))
    (sym (root-of-form t low rule generation (turned_tree (turn_of false columns rows) r) is some.0 some.1)) some.2))))
    (needs-more-turned (turn_of false columns rows) (λ P. SomeOfMovedForm P v) (SomeTurned (turn_of false columns rows) v) store.limit
    (λ s some. (
      some.0,
      some.1,
      some-weaker (λ w. w ≡ s) (λ w. turned_tree (turn_of false columns rows) w ≡ turned_tree (turn_of false columns rows) s)
          (λ w. ap (turned_tree (turn_of false columns rows))) _ some.2,
    )) larger)

-- shifts have one size
pub shifted-size : (most : ℕ) (u v : Universe) → IsShift u v → HasLargerForm most v → HasLargerForm most u
shifted-size most u v shift =
    needs-more (λ P. SomeOfMovedForm P v) (λ P. SomeOfMovedForm P u) most
    (λ P some. (some.0, record { shift = shift-trans u v some.0 shift some.1.shift; form = some.1.form }, some.2))

pub shifts-one-size : ShiftsHaveOneSize
shifts-one-size most u v shift = (shifted-size most v u (shift-sym u v shift), shifted-size most u v shift)

-- images of a shift of an image are shifts of images
images-of : (most : ℕ) (u v : Universe) → IsTurnedShift u v → (turn : Turn) → HasLargerForm most (image turn v)
    → (other : Turn) × HasLargerForm most (image other u)
images-of most u v s turn large =
    let there = shift-trans _ _ _ (still _ _ (same-sym _ _ (turns-are-closed s.turn turn u))) (images-keep-shifts turn _ _ s.shift) in
    (turn_after s.turn turn, shifted-size most _ _ there large)

pub turns-one-size : TurnsHaveOneSize
turns-one-size most u v s =
    (λ large. images-of most v u (turned-shift-sym u v s) large.0 large.1, λ large. images-of most u v s large.0 large.1)
