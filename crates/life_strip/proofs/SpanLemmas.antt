-- Facts about spans and strips.
use Rattle.std.proofs.lemmas.Option.{same_Some}
use Rattle.life_base.specs.declared.cell.TheConstants.{MAX_LEVEL}
use Rattle.std.proofs.Common.{◌≡◌, ℕ, suc, ◌+◌, ◌-◌, ◌*◌, ◌^◌, ◌≤◌, ◌<◌, Bool, true, false, ◌&&◌, nat_lt, nat_le, List, [], ◌∷◌, ◌++◌, Option, Some, None, refl, sym, ◌∙◌, ap, subst, arith, if◌then◌else◌}
use Rattle.std.proofs.lemmas.List.Elements.{All-tail, All-push}
use Rattle.std.proofs.lemmas.List.Quantifiers.{all_pairs_push}
use Rattle.life_quad.specs.declared.id.Id.{Id}
use Rattle.life_base.specs.Tree.{Tree, quad, depth, blank}
use Rattle.life_base.proofs.Squares.{depth-blank}
use Rattle.life_base.proofs.Basics.{twice}
use Rattle.life_strip.specs.declared.spans.Span.{Span}
use Rattle.life_strip.specs.Strip.{id_at, square_or_blank, square_at, id_or, quad_at, IsStrip, IsPast, AreBefore, HaveColumns, IsExtended, FilledTo}

-- a store knows what it knew, with the same square
abbrev pub Keeps : (Id → Type 0) → (Id → Type 0) → (Id → Tree) → (Id → Tree) → Type 0
Keeps knows knows' old now = (q : Id) → knows q → knows' q × (now q ≡ old q)

-- the span that has the column is the one found
pub id_at-in : (s : Span) (rest : List Span) (c : ℕ) → s.start ≤ c → c < s.end → id_at (s ∷ rest) c ≡ Some s.square
id_at-in s rest c from h = grind arith

-- where a span comes later nothing is found
pub id_at-none : (s : Span) (rest : List Span) (c : ℕ) → c < s.start → c < s.end → id_at (s ∷ rest) c ≡ None
id_at-none s rest c from h = grind arith

-- a span that ends before the column is passed
pub id_at-after : (s : Span) (rest : List Span) (c : ℕ) → s.end ≤ c → id_at (s ∷ rest) c ≡ id_at rest c
id_at-after s rest c h = grind arith

-- nothing is found beyond the end of each span
pub none_beyond : (xs : List Span) (n c : ℕ) → AreBefore n xs → n ≤ c → id_at xs c ≡ None
none_beyond [] n c h le = refl
none_beyond (x ∷ xs) n c h le =
    let first : x.end ≤ n = (h 0 x (omega arith)).1 in
    id_at-after x xs c (omega (arith, first, le)) ∙ none_beyond xs n c (All-tail (λ s. (s.start < s.end) × (s.end ≤ n)) x xs h) le

-- a span east of the others
pub id_at-push : (xs : List Span) (s : Span) → AreBefore s.start xs → (c : ℕ)
    → id_at (xs ++ s ∷ []) c ≡ (if nat_le s.start c && nat_lt c s.end then Some s.square else id_at xs c)
id_at-push xs s before c = by (nat_le s.start c) refl (nat_lt c s.end) refl
  where
    new : Bool → Bool → Option Id
    new a b = if a && b then Some s.square else id_at xs c

    -- a span that begins later is not found
    earlier : (ys : List Span) → AreBefore s.start ys → c < s.start → id_at (ys ++ s ∷ []) c ≡ id_at ys c
    earlier [] h lt = grind arith
    earlier (y ∷ ys) h lt = cases (earlier ys (All-tail (λ t. (t.start < t.end) × (t.end ≤ s.start)) y ys h) lt) (nat_lt c y.end)
      where
        cases : id_at (ys ++ s ∷ []) c ≡ id_at ys c → (b : Bool)
            → (if b then (if nat_le y.start c then Some y.square else None) else id_at (ys ++ s ∷ []) c)
            ≡ (if b then (if nat_le y.start c then Some y.square else None) else id_at ys c)
        cases e true = refl
        cases e false = e

    -- the others end before one that has begun
    later : (ys : List Span) → AreBefore s.start ys → s.start ≤ c → id_at (ys ++ s ∷ []) c ≡ id_at (s ∷ []) c
    later [] h le = refl
    later (y ∷ ys) h le =
        let end : y.end ≤ s.start = (h 0 y (omega arith)).1 in
        id_at-after y (ys ++ s ∷ []) c (omega (arith, end, le)) ∙ later ys (All-tail (λ t. (t.start < t.end) × (t.end ≤ s.start)) y ys h) le

    by : (a : Bool) → nat_le s.start c ≡ a → (b : Bool) → nat_lt c s.end ≡ b → id_at (xs ++ s ∷ []) c ≡ new (nat_le s.start c) (nat_lt c s.end)
    by true e true f = later xs before (grind arith) ∙ id_at-in s [] c (grind arith) (grind arith) ∙ sym (λ i. new (e i) (f i))
    by true e false f =
        later xs before (grind arith) ∙ id_at-after s [] c (grind arith) ∙ sym (none_beyond xs s.start c before (grind arith)) ∙ sym (λ i. new (e i) (f i))
    by false e b f = earlier xs before (grind arith) ∙ sym (ap (λ z. new z (nat_lt c s.end)) e)

-- spans that end before a column end before a later one
pub before_more : (n m : ℕ) (xs : List Span) → AreBefore n xs → n ≤ m → AreBefore m xs
before_more n m xs h le k d lt = let p = h k d lt in (p.0, omega (arith, p.1, le))

pub before_columns : (n : ℕ) (xs : List Span) → AreBefore n xs → HaveColumns xs
before_columns n xs h k d lt = (h k d lt).0

pub before_push : (n m : ℕ) (xs : List Span) (s : Span) → AreBefore n xs → n ≤ m → s.start < s.end → s.end ≤ m → AreBefore m (xs ++ s ∷ [])
before_push n m xs s h le some end = All-push (λ t. (t.start < t.end) × (t.end ≤ m)) xs s (before_more n m xs h le) (some, end)

-- a later column
pub past_later : (spans : List Span) (index a b : ℕ) → IsPast spans index a → a ≤ b → IsPast spans index b
past_later spans index a b h le c from = h c (omega arith)

module _ {knows knows' : Id → Type 0} {old now : Id → Tree} (keeps : Keeps knows knows' old now) (level : ℕ) where
  -- a strip stays one
  pub strip-keeps : (spans : List Span) → IsStrip knows old level spans → IsStrip knows' now level spans
  strip-keeps spans s c id at =
      let k = s c id at in
      let m = keeps id k.0 in
      (m.0, ap depth m.1 ∙ k.1)

  -- and has the same squares
  pub square-keeps : (spans : List Span) → IsStrip knows old level spans → (c : ℕ) → square_at now level spans c ≡ square_at old level spans c
  square-keeps spans s c = by (id_at spans c) refl
    where
      by : (o : Option Id) → id_at spans c ≡ o → square_at now level spans c ≡ square_at old level spans c
      by None e = ap (square_or_blank now level) e ∙ sym (ap (square_or_blank old level) e)
      by (Some id) e = ap (square_or_blank now level) e ∙ (keeps id (s c id e).0).1 ∙ sym (ap (square_or_blank old level) e)

  pub quad-keeps : (upper lower : List Span) → IsStrip knows old level upper → IsStrip knows old level lower → (c : ℕ)
      → quad_at now level upper lower c ≡ quad_at old level upper lower c
  quad-keeps upper lower u l c =
      let a = square-keeps upper u (2 * c) in
      let b = square-keeps upper u (2 * c + 1) in
      let d = square-keeps lower l (2 * c) in
      let e = square-keeps lower l (2 * c + 1) in
      λ i. quad (a i) (b i) (d i) (e i)

module _ (knows : Id → Type 0) (content : Id → Tree) (level : ℕ) (spans : List Span) (s : IsStrip knows content level spans) where
  -- each square of a strip has its level
  pub depth-square_at : (c : ℕ) → depth (square_at content level spans c) ≡ level
  depth-square_at c = by (id_at spans c) refl
    where
      by : (o : Option Id) → id_at spans c ≡ o → depth (square_at content level spans c) ≡ level
      by None e = ap (λ o. depth (square_or_blank content level o)) e ∙ depth-blank level
      by (Some id) e = ap (λ o. depth (square_or_blank content level o)) e ∙ (s c id e).1

  module _ (b : Id) (known : knows b) (is_blank : content b ≡ blank level) where
    -- the Id of a column, or that of the blank square, is known
    pub known_or : (c : ℕ) → knows (id_or b (id_at spans c))
    known_or c = by (id_at spans c) refl
      where
        by : (o : Option Id) → id_at spans c ≡ o → knows (id_or b (id_at spans c))
        by None e = subst (λ o. knows (id_or b o)) (sym e) known
        by (Some id) e = subst (λ o. knows (id_or b o)) (sym e) (s c id e).0

    -- and stands for the square there
    pub content_or : (c : ℕ) → content (id_or b (id_at spans c)) ≡ square_at content level spans c
    content_or c = by (id_at spans c)
      where
        by : (o : Option Id) → content (id_or b o) ≡ square_or_blank content level o
        by None = is_blank
        by (Some id) = refl

-- blank squares have no span
pub filled-skip : (knows : Id → Type 0) (now : Id → Tree) (level : ℕ) (want : ℕ → Tree) (spans : List Span) (column next : ℕ)
    → FilledTo knows now level want spans column → column ≤ next → ((c : ℕ) → column ≤ c → c < next → want c ≡ blank level)
    → FilledTo knows now level want spans next
filled-skip knows now level want spans column next p le none =
    record { before = before_more column next spans p.before le; rises = p.rises; strip = p.strip; done = done }
  where
    done : (c : ℕ) → c < next → square_at now level spans c ≡ want c
    done c h = by (nat_lt c column) refl
      where
        by : (b : Bool) → nat_lt c column ≡ b → square_at now level spans c ≡ want c
        by true e = p.done c (grind arith)
        by false e =
            let above : column ≤ c = grind arith in
            ap (square_or_blank now level) (none_beyond spans column c p.before above) ∙ sym (none c above h)

-- the square that was added is the one that is wanted
pub filled-more : {knows knows' : Id → Type 0} {now now' : Id → Tree} → Keeps knows knows' now now'
    → (level : ℕ) (want : ℕ → Tree) (spans after : List Span) (column end : ℕ) (id : Id)
    → FilledTo knows now level want spans column → IsExtended spans after column end id → knows' id → depth (now' id) ≡ level
    → ((c : ℕ) → column ≤ c → c < end → want c ≡ now' id)
    → FilledTo knows' now' level want after end
filled-more {knows} {knows'} {now} {now'} keeps level want spans after column end id p more known deep same =
    record { before = more.before; rises = more.rises p.rises; strip = strip; done = done }
  where
    kept : IsStrip knows' now' level spans
    kept = strip-keeps {knows = knows} {knows' = knows'} {old = now} {now = now'} keeps level spans p.strip

    strip : IsStrip knows' now' level after
    strip c q at = by (nat_lt c column) refl (nat_lt c end) refl
      where
        by : (a : Bool) → nat_lt c column ≡ a → (b : Bool) → nat_lt c end ≡ b → knows' q × (depth (now' q) ≡ level)
        by true e b f = kept c q (sym (more.earlier c (grind arith)) ∙ at)
        by false e true f =
            let is : id ≡ q = same_Some _ _ (sym (more.more c (grind arith) (grind arith)) ∙ at) in
            (subst knows' is known, ap (λ z. depth (now' z)) (sym is) ∙ deep)
        by false e false f =
            let none : Some q ≡ None = sym at ∙ none_beyond after end c more.before (grind arith) in
            absurd cc

    done : (c : ℕ) → c < end → square_at now' level after c ≡ want c
    done c h = by (nat_lt c column) refl
      where
        by : (b : Bool) → nat_lt c column ≡ b → square_at now' level after c ≡ want c
        by true e =
            let lt : c < column = grind arith in
            ap (square_or_blank now' level) (more.earlier c lt)
            ∙ square-keeps {knows = knows} {knows' = knows'} {old = now} {now = now'} keeps level spans p.strip c ∙ p.done c lt
        by false e =
            let above : column ≤ c = grind arith in
            ap (square_or_blank now' level) (more.more c above h) ∙ sym (same c above h)

module _ (column end : ℕ) (square : Id) (later : column < end) where
  pub extended-push : (spans : List Span) → AreBefore column spans
      → IsExtended spans (spans ++ record { start = column; end = end; square = square } ∷ []) column end square
  extended-push spans p =
      let s : Span = record { start = column; end = end; square = square } in
      record {
        before = before_push column end spans s p (omega (arith, later)) later (omega arith);
        rises = λ r. all_pairs_push (λ a b. a.end ≤ b.start) spans s r (λ k d lt. (p k d lt).1);
        earlier = λ c h. id_at-push spans s p c
            ∙ (let e : nat_le column c ≡ false = grind arith in ap (λ b. if b && nat_lt c end then Some square else id_at spans c) e);
        more = λ c le h. id_at-push spans s p c
            ∙ (let e : nat_le column c ≡ true = grind arith in
            let f : nat_lt c end ≡ true = grind arith in λ i. if e i && f i then Some square else id_at spans c);
      }

-- the columns of a square that was added, and the others
pub extended-columns : (old new : List Span) (column end : ℕ) (square : Id) → AreBefore column old → column < end
    → IsExtended old new column end square → (c : ℕ) → id_at new c ≡ (if nat_le column c && nat_lt c end then Some square else id_at old c)
extended-columns old new column end square before later more c = by (nat_le column c) refl (nat_lt c end) refl
  where
    all : Bool → Bool → Option Id
    all a b = if a && b then Some square else id_at old c

    by : (a : Bool) → nat_le column c ≡ a → (b : Bool) → nat_lt c end ≡ b → id_at new c ≡ all (nat_le column c) (nat_lt c end)
    by true e true f = more.more c (grind arith) (grind arith) ∙ sym (λ i. all (e i) (f i))
    by true e false f =
        none_beyond new end c more.before (grind arith) ∙ sym (none_beyond old column c before (grind arith)) ∙ sym (λ i. all (e i) (f i))
    by false e b f = more.earlier c (grind arith) ∙ sym (ap (λ z. all z (nat_lt c end)) e)

-- each square of the row is known
pub row_strip : (knows : Id → Type 0) (content : Id → Tree) (old new : List Span) (column end : ℕ) (id : Id) → IsStrip knows content 0 old
    → knows id → depth (content id) ≡ 0
    → ((c : ℕ) → id_at new c ≡ (if nat_le column c && nat_lt c end then Some id else id_at old c))
    → IsStrip knows content 0 new
row_strip knows content old new column end id strip known deep columns c q at = by (nat_le column c && nat_lt c end) (sym (columns c) ∙ at)
  where
    by : (t : Bool) → (if t then Some id else id_at old c) ≡ Some q → knows q × (depth (content q) ≡ 0)
    by true e = let same : id ≡ q = same_Some _ _ e in (subst knows same known, ap (λ z. depth (content z)) (sym same) ∙ deep)
    by false e = strip c q e

-- what goes on from a column is the same in that column too
pub from-first : (want : ℕ → Tree) (t : Tree) (start end : ℕ) → want start ≡ t → ((c : ℕ) → start < c → c < end → want c ≡ want start)
    → (c : ℕ) → start ≤ c → c < end → want c ≡ t
from-first want t start end first on c le lt = by (nat_lt start c) refl
  where
    by : (b : Bool) → nat_lt start c ≡ b → want c ≡ t
    by true e = on c (grind arith) lt ∙ first
    by false e = let same : c ≡ start = grind arith in ap want same ∙ first

-- beyond the column only blank squares are wanted
pub filled-all : (knows : Id → Type 0) (now : Id → Tree) (level : ℕ) (want : ℕ → Tree) (spans : List Span) (column : ℕ)
    → FilledTo knows now level want spans column → ((c : ℕ) → column ≤ c → want c ≡ blank level) → (c : ℕ) → square_at now level spans c ≡ want c
filled-all knows now level want spans column p over c =
    let all = filled-skip knows now level want spans column (column + suc c) p (omega arith) (λ d le lt. over d le) in all.done c (omega arith)

-- the plane has half as many columns of squares twice as wide
pub half-side : (level : ℕ) → level < MAX_LEVEL → 2 ^ (MAX_LEVEL - level) ≡ 2 * 2 ^ (MAX_LEVEL - suc level)
half-side level low =
    let more : MAX_LEVEL - level ≡ suc (MAX_LEVEL - suc level) = omega (arith, low) in
    ap (λ n. 2 ^ n) more ∙ twice (MAX_LEVEL - suc level)

-- two columns of two strips without a span are blank
pub quad-blank : (content : Id → Tree) (level : ℕ) (upper lower : List Span) (from c : ℕ) → ((x : ℕ) → from ≤ x → x ≤ 2 * c + 1 → id_at upper x ≡ None)
    → ((x : ℕ) → from ≤ x → x ≤ 2 * c + 1 → id_at lower x ≡ None) → from ≤ 2 * c → quad_at content level upper lower c ≡ blank (suc level)
quad-blank content level upper lower from c north south le =
    let at = square_or_blank content level in
    let west : 2 * c ≤ 2 * c + 1 = omega arith in
    let east : from ≤ 2 * c + 1 = omega (arith, le) in
    let nw = north (2 * c) le west in
    let ne = north (2 * c + 1) east (omega arith) in
    let sw = south (2 * c) le west in
    let se = south (2 * c + 1) east (omega arith) in
    λ i. quad (at (nw i)) (at (ne i)) (at (sw i)) (at (se i))
