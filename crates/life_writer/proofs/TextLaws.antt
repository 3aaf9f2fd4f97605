-- The laws of canonical texts and of refusals.
use Rattle.std.proofs.Common.{◌≡◌, ℕ, zero, suc, ◌+◌, ◌-◌, ◌*◌, ◌^◌, ◌<◌, ◌≤◌, List, [], ◌∷◌, ◌++◌, length, refl, ap, sym, subst, arith, lit≤, ◌⊎◌, inl, inr, length-append}
use Rattle.std.proofs.lemmas.Bool.Decides.{nat_tests}
use Rattle.life_base.specs.Text.{lines_of}
use Rattle.life_base.specs.Tree.{Tree, quad}
use Rattle.life_mc.specs.Reading.{IsMacrocell}
use Rattle.life_mc.specs.Writing.{mc_text}
use Rattle.life_mc.proofs.Accepted.{files_are_valid}
use Rattle.life_mc.proofs.TextBack.{texts_read_back}
use Rattle.life_pattern.specs.Universe.{Universe, IsSame, macrocell_universe, least_level, whole, IsOnPlane}
use Rattle.life_pattern.specs.Files.{as_macrocell, Reads}
use Rattle.life_writer.specs.Listing.{is_small, is_in, with_new, with_all, walk, listed_squares, canonical_file, canon_text}
use Rattle.life_writer.specs.Laws.{TextsKeepPatterns, TextsTellUniverses, TextsTellPatterns, TextsAreFiles, TextsAreFixed, CanonicalIsLeast, SquaresHavePlaces, WiderPlaneKeepsTexts}
use Rattle.life_pattern.proofs.TreeWords.{HasDepth, point_depth, quad_depth}
use Rattle.life_pattern.proofs.Trees.{bool_cases, outside-by}
use Rattle.life_writer.proofs.ListFacts.{with_new-known, with_new-fresh}
use Rattle.life_writer.proofs.Walk.{walk-small, walk-big}
use Rattle.life_writer.proofs.Content.{length-lines_for}
use Rattle.life_pattern.proofs.Whole.{whole-is, least-high}
use Rattle.life_writer.proofs.Canonical.{canonical-valid, canonical-same, same-canonical, canonical-wider}
use Rattle.life_writer.proofs.Least.{least, has-places}
use Rattle.life_pattern.proofs.Formats.{files_say_one, reads-plane}
use Rattle.life_pattern.proofs.Sameness.{same-sym, same-trans}

-- ---- how many lines a canonical file has

-- four to a power
abbrev pub four_to : ℕ → ℕ
four_to zero = 1
four_to (suc n) = 4 * four_to n

four_some : (n : ℕ) → 1 ≤ four_to n
four_some zero = omega arith
four_some (suc n) = omega (arith, four_some n)

length-new : (known : List Tree) (t : Tree) → length (with_new known t) ≤ length known + 1
length-new known t = elim (bool_cases (is_in known t)) [
  | inl e ↦ subst (λ l. length l ≤ length known + 1) (sym (with_new-known known t e)) (omega arith)
  | inr e ↦ subst (λ l. length l ≤ length known + 1) (sym (with_new-fresh known t e)) (omega (arith, length-append known (t ∷ [])))
]

length-all : (known ts : List Tree) → length (with_all known ts) ≤ length known + length ts
length-all known [] = omega arith
length-all known (t ∷ ts) = omega (arith, length-all (with_new known t) ts, length-new known t)

five-parts : (a b c d : List Tree) (t : Tree) → length (a ++ (b ++ (c ++ (d ++ t ∷ [])))) ≡ length a + length b + length c + length d + 1
five-parts a b c d t =
    omega (arith, length-append a (b ++ (c ++ (d ++ t ∷ []))), length-append b (c ++ (d ++ t ∷ [])), length-append c (d ++ t ∷ []), length-append d (t ∷ []))

length-walk : (m n : ℕ) {k : ℕ} {t : Tree} → HasDepth k t → k ≤ n → length (walk t m) < four_to n
length-walk m n point_depth h = four_some n
length-walk m zero (quad_depth p q r s) h = absurd (omega arith)
length-walk m (suc n) (quad_depth {nw = a} {ne = b} {sw = c} {se = d} p q r s) h = elim (bool_cases (is_small m (quad a b c d))) [
  | inl e ↦ subst (λ l. length l < four_to (suc n)) (sym (walk-small (quad a b c d) m e)) (omega (arith, four_some n))
  | inr e ↦
      let wa = length-walk m n p (omega arith) in
      let wb = length-walk m n q (omega arith) in
      let wc = length-walk m n r (omega arith) in
      let wd = length-walk m n s (omega arith) in
      let l = five-parts (walk a m) (walk b m) (walk c m) (walk d m) (quad a b c d) in
      subst (λ l. length l < four_to (suc n)) (sym (walk-big a b c d m e)) (omega (arith, wa, wb, wc, wd, l))
]

length-listed : (m n : ℕ) {k : ℕ} {t : Tree} → HasDepth k t → k ≤ n → length (listed_squares t m) < four_to n
unfolding listed_squares
length-listed m n {t = t} h l = omega (arith, length-all [] (walk t m), length-walk m n h l)

pub canonical-short : (top : ℕ) (u : Universe) → least_level u.rule ≤ suc top → IsOnPlane (suc top) u → length (canonical_file (suc top) u).lines
    < four_to (suc top)
unfolding canonical_file
canonical-short top u le h =
    let w = whole-is top u le h in
    subst (λ n. n < four_to (suc top)) (sym (length-lines_for u.rule (listed_squares (whole (suc top) u) (least_level u.rule))))
    (length-listed (least_level u.rule) (suc top) w.depth_of w.most)

-- ---- canonical texts

same-of : {u v : Universe} → u ≡ v → IsSame u v
same-of {u} e = subst (IsSame u) e (record { rule = refl; generation = refl; cells = λ x y. refl })

module _ (top : ℕ) (high : 3 ≤ suc top) (digits : suc top < 10 ^ 64) (space : four_to (suc top) ≤ 10 ^ 64) where
  text-says : (u : Universe) → IsOnPlane (suc top) u → IsMacrocell (suc top) (canon_text (suc top) u) (canonical_file (suc top) u)
  unfolding canon_text
  text-says u h =
      let le = least-high u.rule (suc top) high in
      texts_read_back (suc top) digits (canonical_file (suc top) u) (canonical-valid top u le h) (less (canonical-short top u le h))
    where
      less : {n : ℕ} → n < four_to (suc top) → n < 10 ^ 64
      less l = omega (arith, space)

  text-same : (u : Universe) → IsOnPlane (suc top) u → IsSame u (macrocell_universe (canonical_file (suc top) u))
  text-same u h = canonical-same top u (least-high u.rule (suc top) high) h

  pub texts_are_files : TextsAreFiles (suc top)
  texts_are_files = λ u h. (text-says u h, text-same u h)

  text-reads : (u : Universe) → IsOnPlane (suc top) u → Reads (suc top) (canon_text (suc top) u) (macrocell_universe (canonical_file (suc top) u))
  text-reads u h = as_macrocell (canonical_file (suc top) u) (text-says u h)

  pub texts_keep_patterns : TextsKeepPatterns (suc top)
  texts_keep_patterns = λ a u r.
      let h = reads-plane top a u high r in
      record { first = u; second = macrocell_universe (canonical_file (suc top) u); reads_first = r; reads_second = text-reads u h; same = text-same u h }

  equal-text : (u v : Universe) → IsSame u v → canon_text (suc top) u ≡ canon_text (suc top) v
  unfolding canon_text
  equal-text u v s = ap mc_text (same-canonical (suc top) u v s)

  same-text : (u v : Universe) → IsOnPlane (suc top) u → IsOnPlane (suc top) v → canon_text (suc top) u ≡ canon_text (suc top) v → IsSame u v
  same-text u v p q e =
      let w : macrocell_universe (canonical_file (suc top) u) ≡ macrocell_universe (canonical_file (suc top) v) =
      files_say_one (suc top) (lines_of (canon_text (suc top) v)) _ _
      (subst (λ t. Reads (suc top) t (macrocell_universe (canonical_file (suc top) u))) e (text-reads u p)) (text-reads v q) in
      same-trans u _ v (text-same u p) (same-trans _ _ v (same-of w) (same-sym v _ (text-same v q)))

  pub texts_tell_universes : TextsTellUniverses (suc top)
  texts_tell_universes = λ u v p q. (same-text u v p q, equal-text u v)

  pub texts_tell_patterns : TextsTellPatterns (suc top)
  texts_tell_patterns = λ a b u v r s. (
    (λ e. record {
      first = u;
      second = v;
      reads_first = r;
      reads_second = s;
      same = same-text u v (reads-plane top a u high r) (reads-plane top b v high s) e;
    }),
    (λ h.
        let p : IsSame u h.first = same-of (files_say_one (suc top) (lines_of a) u h.first r h.reads_first) in
        let q : IsSame h.second v = same-of (files_say_one (suc top) (lines_of b) h.second v h.reads_second s) in
        equal-text u v (same-trans u h.first v p (same-trans h.first h.second v h.same q))),
  )

  pub texts_are_fixed : TextsAreFixed (suc top)
  texts_are_fixed = λ u v h s.
      let p : IsSame v (macrocell_universe (canonical_file (suc top) u)) = same-of
      (files_say_one (suc top) (lines_of (canon_text (suc top) u)) v _ s (text-reads u h)) in
      equal-text v u (same-trans v _ u p (same-sym u _ (text-same u h)))

  pub canonical_is_least : CanonicalIsLeast (suc top)
  canonical_is_least = λ u h bytes file says same rival. least top u file high h (files_are_valid (suc top) bytes file says) same rival

  pub squares_have_places : SquaresHavePlaces (suc top)
  squares_have_places = λ u b file h says same rival. has-places top u file high h (files_are_valid (suc top) b file says) same rival

-- ---- wider planes

wider-text : (more top : ℕ) (u : Universe) → 3 ≤ suc top → IsOnPlane (suc top) u → canon_text (suc (more + top)) u ≡ canon_text (suc top) u
unfolding canon_text
wider-text more top u high h = ap mc_text (canonical-wider more top u (least-high u.rule (suc top) high) h)

wider-says : (more top : ℕ) (u : Universe) → 3 ≤ suc top → suc (more + top) < 10 ^ 64 → four_to (suc (more + top)) ≤ 10 ^ 64 → IsOnPlane (suc top) u
    → IsMacrocell (suc (more + top)) (canon_text (suc top) u) (canonical_file (suc top) u)
wider-says more top u high digits space h =
    let le = least-high u.rule (suc top) high in
    let p : IsOnPlane (suc (more + top)) u = record
    { rule = h.rule; generation = h.generation; states = h.states; outside = outside-by u.cell more top h.outside } in
    let e : canonical_file (suc (more + top)) u ≡ canonical_file (suc top) u = canonical-wider more top u le h in
    subst (λ t. IsMacrocell (suc (more + top)) t (canonical_file (suc top) u)) (wider-text more top u high h)
    (subst (IsMacrocell (suc (more + top)) (canon_text (suc (more + top)) u)) e (text-says (more + top) (higher more top high) digits space u p))
  where
    higher : (more top : ℕ) → 3 ≤ suc top → 3 ≤ suc (more + top)
    higher more top l = omega arith

up_to : (m n : ℕ) → m ≤ suc n → (m ≤ n) ⊎ (m ≡ suc n)
up_to m n l = grind (arith, nat_tests)

through : (a b c : ℕ) → a ≤ b → b ≤ c → a ≤ c
through a b c p q = omega arith

four_to-more : (m n : ℕ) → m ≤ n → four_to m ≤ four_to n
four_to-more m zero l = let e : 0 ≡ m = omega arith in subst (λ k. four_to k ≤ four_to 0) e (omega arith)
four_to-more m (suc n) l = elim (up_to m n l) [
  | inl h ↦ let r = four_to-more m n h in through (four_to m) (four_to n) (four_to (suc n)) r (omega arith)
  | inr e ↦ subst (λ k. four_to k ≤ four_to (suc n)) (sym e) (omega arith)
]

pub wider_plane_keeps_texts : WiderPlaneKeepsTexts
wider_plane_keeps_texts = λ top wider u high le most h.
    let a : suc (top - 1) ≡ top = omega arith in
    let b : suc ((wider - top) + (top - 1)) ≡ wider = omega arith in
    let p : IsOnPlane (suc (top - 1)) u = subst (λ n. IsOnPlane n u) (sym a) h in
    let l : 3 ≤ suc (top - 1) = subst (λ n. 3 ≤ n) (sym a) high in
    let m : suc ((wider - top) + (top - 1)) ≤ 62 = subst (λ n. n ≤ 62) (sym b) most in
    let P : ℕ → ℕ → Type 0 = λ t w. (canon_text w u ≡ canon_text t u) × IsMacrocell w (canon_text t u) (canonical_file t u) in
    let all : P (suc (top - 1)) (suc ((wider - top) + (top - 1)))
    = (wider-text (wider - top) (top - 1) u l p, wider-says (wider - top) (top - 1) u l (digits_of _ m) (squares_of_limit _ m) p) in
    subst (λ t. P t wider) a (subst (P (suc (top - 1))) b all)
  where
    digits_of : (n : ℕ) → n ≤ 62 → n < 10 ^ 64
    digits_of n l = through (suc n) (suc 62) (10 ^ 64) (omega arith) (lit≤ tt)

    squares_of_limit : (n : ℕ) → n ≤ 62 → four_to n ≤ 10 ^ 64
    squares_of_limit n l = through (four_to n) (four_to 62) (10 ^ 64) (four_to-more n 62 l) (lit≤ tt)
