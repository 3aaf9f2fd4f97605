-- Facts on the walk over a square, and on the list of its squares.
use Rattle.std.proofs.Common.{◌≡◌, ℕ, suc, ◌+◌, ◌<◌, ◌≤◌, true, false, List, [], ◌∷◌, ◌++◌, length, get_or, refl, ap, sym, ◌∙◌, subst, arith, ◌⊎◌, inl, inr, length-append}
use Rattle.std.proofs.lemmas.Bool.Decides.{nat_tests}
use Rattle.std.proofs.lemmas.List.{get_or_append_left}
use Rattle.std.proofs.Math.Seq.{get_or-append_seam}
use Rattle.std.proofs.Math.Nat.{le_refl}
use Rattle.life_base.specs.Tree.{Tree, point, quad, depth}
use Rattle.life_writer.specs.Listing.{is_small, walk, is_in, with_new, with_all, listed_squares, place}
use Rattle.life_pattern.specs.Quarters.{Quarters}
use Rattle.life_writer.specs.Closed.{IsListedBefore, IsClosed}
use Rattle.life_pattern.proofs.TreeWords.{HasDepth, point_depth, quad_depth, StatesBelow}
use Rattle.life_pattern.proofs.Trees.{bool_cases, depth_is}
use Rattle.life_writer.proofs.ListFacts.{is_in-left, is_in-append_cases, is_in-one, place-below, place-is, place-append, with_new-known, with_new-fresh, with_all-append, with_new-has, with_all-keeps, with_all-from, NoRepeats, with_all-once}
use Rattle.life_base.proofs.Basics.{true_false}

pub le-more : (a b : ℕ) → a ≤ b → a ≤ suc b
le-more a b h = omega arith

-- ---- the walk of a square that isn't small

pub walk-small : (t : Tree) (m : ℕ) → is_small m t ≡ true → walk t m ≡ []
walk-small (point s) m h = refl
walk-small (quad a b c d) m h = rw h refl

pub walk-big : (a b c d : Tree) (m : ℕ) → is_small m (quad a b c d) ≡ false → walk (quad a b c d) m ≡ walk a m
    ++ (walk b m ++ (walk c m ++ (walk d m ++ quad a b c d ∷ [])))
walk-big a b c d m h = rw h refl

point-small : (s m : ℕ) → 1 ≤ m → is_small m (point s) ≡ true
point-small s m h = grind (arith, nat_tests)

-- the members of a walk: its square, or one of the walk of a quarter
pub data WalkCase (a b c d : Tree) (m : ℕ) (t : Tree) : Type 0 where
  root_case : t ≡ quad a b c d → WalkCase a b c d m t
  nw_case : is_in (walk a m) t ≡ true → WalkCase a b c d m t
  ne_case : is_in (walk b m) t ≡ true → WalkCase a b c d m t
  sw_case : is_in (walk c m) t ≡ true → WalkCase a b c d m t
  se_case : is_in (walk d m) t ≡ true → WalkCase a b c d m t

pub walk-cases : (a b c d : Tree) (m : ℕ) (t : Tree) → is_in (walk (quad a b c d) m) t ≡ true → WalkCase a b c d m t
walk-cases a b c d m t h = elim (bool_cases (is_small m (quad a b c d))) [
  | inl e ↦ absurd (true_false false (rw (walk-small (quad a b c d) m e) at h) refl)
  | inr e ↦ elim (is_in-append_cases (walk a m) _ t (rw (walk-big a b c d m e) at h)) [
    | inl f ↦ nw_case f
    | inr f ↦ elim (is_in-append_cases (walk b m) _ t f) [
      | inl g ↦ ne_case g
      | inr g ↦ elim (is_in-append_cases (walk c m) _ t g) [
        | inl i ↦ sw_case i
        | inr i ↦ elim (is_in-append_cases (walk d m) _ t i) [
          | inl j ↦ se_case j
          | inr j ↦ root_case (sym (is_in-one (quad a b c d) t j))
        ]
      ]
    ]
  ]
]

-- ---- a list in which each square comes after its quarters

-- unless it is small, the tree is in the list
abbrev pub IsKnown : ℕ → List Tree → Tree → Type 0
IsKnown m all q = is_small m q ≡ false → is_in all q ≡ true

pub none-closed : (m : ℕ) → IsClosed m []
none-closed m = record { each = λ i h. absurd (omega arith) }

get_or-prefix : (xs : List Tree) (t d : Tree) (i : ℕ) → i < length xs → get_or (xs ++ t ∷ []) i d ≡ get_or xs i d
get_or-prefix xs t d i h = get_or_append_left xs (t ∷ []) d i h

get_or-end : (xs : List Tree) (t d : Tree) → get_or (xs ++ t ∷ []) (length xs) d ≡ t
get_or-end xs t d = get_or-append_seam xs t [] d

quarters_map : (P Q : Tree → Type 0) → ((q : Tree) → P q → Q q) → (t : Tree) → Quarters P t → Quarters Q t
quarters_map P Q f t h = record { nw = f _ h.nw; ne = f _ h.ne; sw = f _ h.sw; se = f _ h.se }

before-more : (m : ℕ) (all : List Tree) (s : Tree) (i : ℕ) (q : Tree) → IsListedBefore m all i q → IsListedBefore m (all ++ s ∷ []) i q
before-more m all s i q h b = let p = h b in (is_in-left all (s ∷ []) q p.0, rw (place-append all (s ∷ []) q p.0) p.1)

known-before : (m : ℕ) (all : List Tree) (s q : Tree) → IsKnown m all q → IsListedBefore m (all ++ s ∷ []) (length all) q
known-before m all s q h b = let p = h b in (is_in-left all (s ∷ []) q p, rw (place-append all (s ∷ []) q p) (place-below all q p))

snoc_cases : (i n : ℕ) → i < n + 1 → (i < n) ⊎ (i ≡ n)
snoc_cases i n h = grind (arith, nat_tests)

snoc-closed : (m : ℕ) (all : List Tree) (t : Tree) → IsClosed m all → Quarters (IsKnown m all) t → IsClosed m (all ++ t ∷ [])
snoc-closed m all t h q = record {
  each = λ i l.
      elim (snoc_cases i (length all) (rw (length-append all (t ∷ [])) at l)) [
        | inl e ↦ rw (get_or-prefix all t (point 0) i e)
            (quarters_map (IsListedBefore m all i) (IsListedBefore m (all ++ t ∷ []) i) (before-more m all t i) _ (h.each i e))
        | inr e ↦ rw (e, get_or-end all t (point 0)) (quarters_map (IsKnown m all) (IsListedBefore m (all ++ t ∷ []) (length all)) (known-before m all t) t q)
      ];
}

new-closed : (m : ℕ) (all : List Tree) (t : Tree) → IsClosed m all → Quarters (IsKnown m all) t → IsClosed m (with_new all t)
new-closed m all t h q = elim (bool_cases (is_in all t)) [
  | inl e ↦ rw (with_new-known all t e) h
  | inr e ↦ rw (with_new-fresh all t e) (snoc-closed m all t h q)
]

-- what a walk from a closed list leaves
pub record IsWalked (m : ℕ) (all : List Tree) (t : Tree) : Type 0 where
  pub closed : IsClosed m all
  pub known : IsKnown m all t

known-more : (m : ℕ) (all : List Tree) (ts : List Tree) (q : Tree) → IsKnown m all q → IsKnown m (with_all all ts) q
known-more m all ts q h b = with_all-keeps all ts q (h b)

-- a walk in five parts
pub with_walk : (all : List Tree) (a b c d : Tree) (m : ℕ) → is_small m (quad a b c d) ≡ false
    → with_all all (walk (quad a b c d) m) ≡ with_new (with_all (with_all (with_all (with_all all (walk a m)) (walk b m)) (walk c m)) (walk d m)) (quad a b c d)
with_walk all a b c d m h =
    ap (with_all all) (walk-big a b c d m h)
    ∙ with_all-append all (walk a m) _
    ∙ with_all-append (with_all all (walk a m)) (walk b m) _
    ∙ with_all-append (with_all (with_all all (walk a m)) (walk b m)) (walk c m) _
    ∙ with_all-append (with_all (with_all (with_all all (walk a m)) (walk b m)) (walk c m)) (walk d m) _

pub walked : (t : Tree) (m : ℕ) (all : List Tree) → 1 ≤ m → IsClosed m all → IsWalked m (with_all all (walk t m)) t
walked (point s) m all le h = record { closed = h; known = λ b. absurd (true_false _ (point-small s m le) b) }
walked (quad a b c d) m all le h =
    elim (bool_cases (is_small m (quad a b c d))) [
      | inl e ↦ rw (walk-small (quad a b c d) m e) (record { closed = h; known = λ b. absurd (true_false _ e b) })
      | inr e ↦
          let wa = walked a m all le h in
          let wb = walked b m (with_all all (walk a m)) le wa.closed in
          let wc = walked c m (with_all (with_all all (walk a m)) (walk b m)) le wb.closed in
          let wd = walked d m (with_all (with_all (with_all all (walk a m)) (walk b m)) (walk c m)) le wc.closed in
          let all4 : List Tree = with_all (with_all (with_all (with_all all (walk a m)) (walk b m)) (walk c m)) (walk d m) in
          let q : Quarters (IsKnown m all4) (quad a b c d) = record {
            nw = known-more m _ (walk d m) a (known-more m _ (walk c m) a (known-more m _ (walk b m) a wa.known));
            ne = known-more m _ (walk d m) b (known-more m _ (walk c m) b wb.known);
            sw = known-more m _ (walk d m) c wc.known;
            se = wd.known;
          } in
          rw (with_walk all a b c d m e) (record { closed = new-closed m all4 (quad a b c d) wd.closed q; known = λ _. with_new-has all4 (quad a b c d) })
    ]

-- ---- the walk of a known square adds nothing

closed-quarters : (m : ℕ) (all : List Tree) (t : Tree) → IsClosed m all → is_in all t ≡ true → Quarters (IsKnown m all) t
closed-quarters m all t h i =
    subst (Quarters (IsKnown m all)) (place-is all t (point 0) i)
    (quarters_map (IsListedBefore m all (place all t)) (IsKnown m all) (λ q p b. (p b).0) _ (h.each (place all t) (place-below all t i)))

pub walk-skip : (t : Tree) (m : ℕ) (all : List Tree) → 1 ≤ m → IsClosed m all → IsKnown m all t → with_all all (walk t m) ≡ all
walk-skip (point s) m all le h k = refl
walk-skip (quad a b c d) m all le h k =
    elim (bool_cases (is_small m (quad a b c d))) [
      | inl e ↦ ap (with_all all) (walk-small (quad a b c d) m e)
      | inr e ↦
          let q = closed-quarters m all (quad a b c d) h (k e) in
          with_walk all a b c d m e
          ∙ ap (λ l. with_new (with_all (with_all (with_all l (walk b m)) (walk c m)) (walk d m)) (quad a b c d)) (walk-skip a m all le h q.nw)
          ∙ ap (λ l. with_new (with_all (with_all l (walk c m)) (walk d m)) (quad a b c d)) (walk-skip b m all le h q.ne)
          ∙ ap (λ l. with_new (with_all l (walk d m)) (quad a b c d)) (walk-skip c m all le h q.sw)
          ∙ ap (λ l. with_new l (quad a b c d)) (walk-skip d m all le h q.se)
          ∙ with_new-known all (quad a b c d) (k e)
    ]

-- ---- the list of a square

pub listed-closed : (t : Tree) (m : ℕ) → 1 ≤ m → IsClosed m (listed_squares t m)
unfolding listed_squares
listed-closed t m le = (walked t m [] le (none-closed m)).closed

pub listed-itself : (t : Tree) (m : ℕ) → 1 ≤ m → IsKnown m (listed_squares t m) t
unfolding listed_squares
listed-itself t m le = (walked t m [] le (none-closed m)).known

pub listed-once : (t : Tree) (m : ℕ) → NoRepeats (listed_squares t m)
unfolding listed_squares
listed-once t m = with_all-once [] (walk t m) tt

pub listed-walk : (t : Tree) (m : ℕ) (s : Tree) → is_in (listed_squares t m) s ≡ true → is_in (walk t m) s ≡ true
unfolding listed_squares
listed-walk t m s h = elim (with_all-from [] (walk t m) s h) [ inl e ↦ absurd (true_false false e refl) | inr e ↦ e ]

pub listed-quarters : (t : Tree) (m : ℕ) (s : Tree) → 1 ≤ m → is_in (listed_squares t m) s ≡ true → Quarters (IsKnown m (listed_squares t m)) s
listed-quarters t m s le h = closed-quarters m (listed_squares t m) s (listed-closed t m le) h

-- the members of a walk are parts of its square that aren't small
pub record IsPart (m bound top : ℕ) (t : Tree) : Type 0 where
  pub level : ℕ
  pub depth_of : HasDepth level t
  pub states : StatesBelow bound t
  pub most : level ≤ top
  pub big : is_small m t ≡ false

part-more : (m bound top : ℕ) (t : Tree) → IsPart m bound top t → IsPart m bound (suc top) t
part-more m bound top t p = record { level = p.level; depth_of = p.depth_of; states = p.states; most = le-more _ _ p.most; big = p.big }

pub walk-part : {k : ℕ} {t : Tree} (m bound : ℕ) (s : Tree) → HasDepth k t → StatesBelow bound t → is_in (walk t m) s ≡ true → IsPart m bound k s
walk-part m bound s point_depth g h = absurd (true_false false h refl)
walk-part m bound s (quad_depth {k = k} {nw = a} {ne = b} {sw = c} {se = d} p q r u) g h =
    elim (walk-cases a b c d m s h) [
      | root_case e ↦ subst (IsPart m bound (suc k)) (sym e) (record {
        level = suc k;
        depth_of = quad_depth p q r u;
        states = g;
        most = le_refl _;
        big = elim (bool_cases (is_small m (quad a b c d))) [ inl f ↦ absurd (true_false false (rw (walk-small (quad a b c d) m f) at h) refl) | inr f ↦ f ];
      })
      | nw_case i ↦ part-more m bound k s (walk-part m bound s p g.0 i)
      | ne_case i ↦ part-more m bound k s (walk-part m bound s q g.1 i)
      | sw_case i ↦ part-more m bound k s (walk-part m bound s r g.2 i)
      | se_case i ↦ part-more m bound k s (walk-part m bound s u g.3 i)
    ]

le_same : {a b : ℕ} → a ≡ b → a ≤ b
le_same h = omega arith

-- the depth of what a walk meets
pub walk-level : (m : ℕ) {k : ℕ} {t : Tree} (s : Tree) → HasDepth k t → is_in (walk t m) s ≡ true → depth s ≤ k
walk-level m s point_depth h = absurd (true_false false h refl)
walk-level m s (quad_depth {k = k} {nw = a} {ne = b} {sw = c} {se = d} p q r u) h = elim (walk-cases a b c d m s h) [
  | root_case e ↦ subst (λ v. depth v ≤ suc k) (sym e) (le_same (depth_is (quad_depth p q r u)))
  | nw_case i ↦ le-more _ _ (walk-level m s p i)
  | ne_case i ↦ le-more _ _ (walk-level m s q i)
  | sw_case i ↦ le-more _ _ (walk-level m s r i)
  | se_case i ↦ le-more _ _ (walk-level m s u i)
]
