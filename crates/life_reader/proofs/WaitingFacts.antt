-- Node lines that wait: they stand while the store keeps the squares of Ids, and their squares are those of the lines.
use Rattle.std.proofs.Common.{◌≡◌, ◌⊎◌, inl, inr, ℕ, zero, suc, ◌+◌, ◌-◌, ◌<◌, ◌≤◌, List, [], ◌∷◌, ◌++◌, length, take, map, get_or, Some, refl, sym, ap, ◌∙◌, subst, arith, All, Contains, slice_get, append-nil, append_assoc, length-append}
use Rattle.std.proofs.lemmas.List.{length-map, map-append, map_push}
use Rattle.std.proofs.lemmas.List.Elements.{All-append, All-push, Contains-get_or}
use Rattle.std.proofs.lemmas.Option.{get_or_from_slice_get}
use Rattle.std.proofs.Math.Nat.{le_refl}
use Rattle.std.proofs.Math.Seq.{take-length}
use Rattle.life_base.specs.Tree.{Tree, quad, depth}
use Rattle.life_base.specs.declared.cell.TheConstants.{MAX_LEVEL}
use Rattle.life_base.specs.declared.rule.Rule.{Rule}
use Rattle.life_mc.specs.Macrocell.{IsSquare, IsValidMacrocell, level_of}
use Rattle.life_mc.specs.Reading.{squares_of}
use Rattle.life_mc.specs.Squares.{line_tree, tree_of}
use Rattle.life_mc.specs.declared.line.Line.{Line}
use Rattle.life_mc.specs.declared.line.Line.TheVariants.{Leaf, Quad}
use Rattle.life_quad.specs.Moves.{CanJoin, quad_of, quads_of}
use Rattle.life_quad.specs.Refused.{SomeOf}
use Rattle.life_quad.specs.declared.id.Id.{Id}
use Rattle.life_quad.specs.declared.moves.Quarters.{Quarters}
use Rattle.life_reader.specs.Filling.{AreSquaresOf}
use Rattle.life_reader.specs.Needs.{SomeOfLine, SomeOfLines, of_node_line}
use Rattle.life_reader.specs.Waiting.{AreTreesOf, AreKeptOf, IsOfNodeLine, IsQuarterOfOne, KeepsLines, NamesFirst}
use Rattle.life_reader.specs.declared.progress.TheConstants.{MOST_WAITING}
use Rattle.life_reader.proofs.GrowFacts.{get-first, get-within, line-stays, tree-stays, trees-grow}
use Rattle.life_pattern.proofs.LineFacts.{square-valid, valid-square}
use Rattle.life_pattern.proofs.LineWords.{IsChild, IsQuarter, IsValidLine}
use Rattle.life_base.proofs.Basics.{less_one}

-- the Ids that are kept
abbrev pub IsKeptId : List Id → List Quarters → Id → Type 0
IsKeptId ids waiting id = Contains ids id ⊎ IsQuarterOfOne waiting id

map-same : {X : Type 0} (f g : X → Tree) (xs : List X) (d : X) → ((i : ℕ) → i < length xs → f (get_or xs i d) ≡ g (get_or xs i d)) → map f xs ≡ map g xs
map-same f g [] d h = refl
map-same f g (x ∷ xs) d h =
    let here : f x ≡ g x = h 0 (omega arith) in
    let rest = map-same f g xs d (λ i lt. h (suc i) (omega (arith, lt))) in
    λ i. here i ∷ rest i

abbrev some_id : Id
some_id = record { 0 = 0 }

abbrev some_quarters : Quarters
some_quarters = record { nw = some_id; ne = some_id; sw = some_id; se = some_id }

-- ---- the store keeps the squares of these Ids

module _ {knew knows : Id → Type 0} {was now : Id → Tree} where
  ids-stay : (ids : List Id) → ((id : Id) → Contains ids id → knew id → knows id × (now id ≡ was id)) → All knew ids → All knows ids
      × (map now ids ≡ map was ids)
  ids-stay ids k known = (
    λ i d lt. (k (get_or ids i d) (Contains-get_or ids i d lt) (known i d lt)).0,
    map-same now was ids some_id (λ i lt. (k (get_or ids i some_id) (Contains-get_or ids i some_id lt) (known i some_id lt)).1),
  )

  quarters-stay : (q : Quarters) → ((id : Id) → (id ≡ q.nw) ⊎ (id ≡ q.ne) ⊎ (id ≡ q.sw) ⊎ (id ≡ q.se) → knew id → knows id × (now id ≡ was id))
      → CanJoin knew was q → CanJoin knows now q × (quad_of now q ≡ quad_of was q)
  quarters-stay q k can =
      let nw = k q.nw (inl refl) can.nw in
      let ne = k q.ne (inr (inl refl)) can.ne in
      let sw = k q.sw (inr (inr (inl refl))) can.sw in
      let se = k q.se (inr (inr (inr refl))) can.se in (
        record {
          nw = nw.0;
          ne = ne.0;
          sw = sw.0;
          se = se.0;
          ne_level = ap depth ne.1 ∙ can.ne_level ∙ sym (ap depth nw.1);
          sw_level = ap depth sw.1 ∙ can.sw_level ∙ sym (ap depth nw.1);
          se_level = ap depth se.1 ∙ can.se_level ∙ sym (ap depth nw.1);
          space = subst (λ (n : ℕ). n < MAX_LEVEL) (sym (ap depth nw.1)) can.space;
        },
        λ i. quad (nw.1 i) (ne.1 i) (sw.1 i) (se.1 i),
      )

  waiting-stay : (waiting : List Quarters) → ((id : Id) → IsQuarterOfOne waiting id → knew id → knows id × (now id ≡ was id))
      → All (CanJoin knew was) waiting → All (CanJoin knows now) waiting × (quads_of now waiting ≡ quads_of was waiting)
  waiting-stay waiting k can = (
    λ i d lt. (each i d lt).0,
    map-same (quad_of now) (quad_of was) waiting some_quarters (λ i lt. (each i some_quarters lt).1),
  )
    where
      each : (i : ℕ) (d : Quarters) → i < length waiting
          → CanJoin knows now (get_or waiting i d) × (quad_of now (get_or waiting i d) ≡ quad_of was (get_or waiting i d))
      each i d lt =
          quarters-stay (get_or waiting i d)
          (λ id is. k id (record { quarters = get_or waiting i d; there = Contains-get_or waiting i d lt; is = is })) (can i d lt)

  pub kept-stays : (lines : List Line) (ids : List Id) (waiting : List Quarters)
      → ((id : Id) → IsKeptId ids waiting id → knew id → knows id × (now id ≡ was id))
      → AreKeptOf knew was lines ids waiting → AreKeptOf knows now lines ids waiting
  kept-stays lines ids waiting k h =
      let a = ids-stay ids (λ id c. k id (inl c)) h.known in
      let b = waiting-stay waiting (λ id c. k id (inr c)) h.can_join in
      record {
        trees = subst (AreTreesOf lines) (λ i. sym a.1 i ++ sym b.1 i) h.trees;
        known = a.0;
        can_join = b.0;
        few = h.few;
      }

  pub quads-stay : (waiting : List Quarters) → ((id : Id) → knew id → knows id × (now id ≡ was id)) → All (CanJoin knew was) waiting
      → quads_of now waiting ≡ quads_of was waiting
  quads-stay waiting k can = (waiting-stay waiting (λ id c. k id) can).1

  pub lines-stay : (lines : List (List ℕ)) (ids : List Id) (waiting : List Quarters)
      → ((id : Id) → IsKeptId ids waiting id → knew id → knows id × (now id ≡ was id))
      → KeepsLines knew was lines ids waiting → KeepsLines knows now lines ids waiting
  lines-stay lines ids waiting k h =
      let same = (waiting-stay waiting (λ id c. k id (inr c)) h.kept.can_join).1 in
      record {
        kept = kept-stays (squares_of lines) ids waiting k h.kept;
        named = λ t c. h.named t (subst (λ (ts : List Tree). Contains ts t) same c);
      }

-- ---- the first lines, whose Ids are kept

map-get : (content : Id → Tree) (ids : List Id) (i : ℕ) (id : Id) → slice_get ids i ≡ Some id → slice_get (map content ids) i ≡ Some (content id)
map-get content [] i id e = cc
map-get content (one ∷ ids) zero id e = cc
map-get content (one ∷ ids) (suc i) id e = map-get content ids i id e

module _ (knows : Id → Type 0) (content : Id → Tree) (rule : Rule) (generation : ℕ) (first more : List Line) (ids : List Id) (waiting : List Quarters)
    (good : IsValidMacrocell MAX_LEVEL (record { rule = rule; generation = generation; lines = first ++ more })) where
  pub first-squares : length first ≡ length ids → AreKeptOf knows content (first ++ more) ids waiting → AreSquaresOf knows content first ids
  first-squares len h = record {
    count = sym len;
    each = λ index id line at there.
        let lt = get-within ids index id at in
        let here = get-first (map content ids) (quads_of content waiting) index (content id) (map-get content ids index id at) in
        let e = h.trees.each index (content id) line here (get-first first more index line there) in (
          subst knows (get_or_from_slice_get ids index id id at) (h.known index id lt),
          e.0 ∙ tree-stays rule generation first more good index (level_of line) line there refl,
          e.1,
        );
  }

-- all of them, where none waits
pub kept-squares : {knows : Id → Type 0} {content : Id → Tree} (lines : List Line) (ids : List Id) → AreKeptOf knows content lines ids []
    → AreSquaresOf knows content lines ids
kept-squares {knows} {content} lines ids h = record {
  count = omega (arith, h.trees.count, length-append (map content ids) [], length-map ids content);
  each = λ index id line at there.
      let lt = get-within ids index id at in
      let e = h.trees.each index (content id) line (get-first (map content ids) [] index (content id) (map-get content ids index id at)) there in
      (subst knows (get_or_from_slice_get ids index id id at) (h.known index id lt), e.0, e.1);
}

-- a node line that names the first lines alone is a square after them
first-quarter : (rule : Rule) (lines : List Line) (n k number : ℕ) → IsQuarter rule lines (length lines) k number → (k ≡ 0) ⊎ (number ≤ n)
    → IsQuarter rule lines n k number
first-quarter rule lines n zero number q h = q
first-quarter rule lines n (suc k) number q (inl e) = absurd (omega arith)
first-quarter rule lines n (suc k) number q (inr le) = by q
  where
    by : IsChild lines (length lines) (suc k) number → IsChild lines n (suc k) number
    by (inl e) = inl e
    by (inr c) = inr (c.0, le, c.2)

first-line : (rule : Rule) (lines : List Line) (n : ℕ) (square : Line) → IsValidLine MAX_LEVEL rule lines (length lines) square → NamesFirst n square
    → IsValidLine MAX_LEVEL rule lines n square
first-line rule lines n (Leaf rows) v h = v
first-line rule lines n (Quad level a b c d) v h = (
  v.0,
  v.1,
  first-quarter rule lines n (level - 1) a v.2 (elim h [ inl e ↦ inl (low e) | inr s ↦ inr s.0 ]),
  first-quarter rule lines n (level - 1) b v.3 (elim h [ inl e ↦ inl (low e) | inr s ↦ inr s.1 ]),
  first-quarter rule lines n (level - 1) c v.4 (elim h [ inl e ↦ inl (low e) | inr s ↦ inr s.2 ]),
  first-quarter rule lines n (level - 1) d v.5 (elim h [ inl e ↦ inl (low e) | inr s ↦ inr s.3 ]),
)
  where
    low : level ≡ 1 → level - 1 ≡ 0
    low e = omega (arith, e)

pub first-square : (rule : Rule) (lines : List Line) (n : ℕ) (square : Line) → n ≤ length lines → IsSquare MAX_LEVEL rule (map level_of lines) square
    → NamesFirst n square → IsSquare MAX_LEVEL rule (map level_of (take n lines)) square
first-square rule lines n square le is names =
    let whole = subst (λ (ls : List Line). IsSquare MAX_LEVEL rule (map level_of ls) square) (sym (take-length lines)) is in
    let valid = square-valid MAX_LEVEL rule lines (length lines) square (le_refl (length lines)) whole in
    valid-square MAX_LEVEL rule lines n square le (first-line rule lines n square valid names)

-- its square is the same after more lines
pub first-tree : (rule : Rule) (generation : ℕ) (first more : List Line) (square : Line)
    → IsValidMacrocell MAX_LEVEL (record { rule = rule; generation = generation; lines = first ++ more })
    → IsSquare MAX_LEVEL rule (map level_of first) square
    → line_tree (tree_of (first ++ more) (level_of square - 1)) square ≡ line_tree (tree_of first (level_of square - 1)) square
first-tree rule generation first more square good is =
    let whole = subst (λ (ls : List Line). IsSquare MAX_LEVEL rule (map level_of ls) square) (sym (take-length first)) is in
    line-stays rule generation first more good square (square-valid MAX_LEVEL rule first (length first) square (le_refl (length first)) whole)

-- all lines are first ones where none waits
pub count-of : (knows : Id → Type 0) (content : Id → Tree) (lines : List Line) (ids : List Id) (waiting : List Quarters)
    → AreKeptOf knows content lines ids waiting → length ids + length waiting ≡ length lines
count-of knows content lines ids waiting h =
    omega (arith, h.trees.count, length-append (map content ids) (quads_of content waiting), length-map ids content, length-map waiting (quad_of content))

names-all : (rule : Rule) (lines : List Line) (square : Line) → IsValidLine MAX_LEVEL rule lines (length lines) square → NamesFirst (length lines) square
names-all rule lines (Leaf rows) v = tt
names-all rule lines (Quad level a b c d) v = by level v
  where
    child : (k number : ℕ) → IsChild lines (length lines) k number → number ≤ length lines
    child k number (inl e) = omega (arith, e)
    child k number (inr c) = c.1

    by : (level : ℕ) → IsValidLine MAX_LEVEL rule lines (length lines) (Quad level a b c d) → NamesFirst (length lines) (Quad level a b c d)
    by zero v = absurd (omega (arith, v.0))
    by (suc zero) v = inl refl
    by (suc (suc k)) v =
        let into = λ (number : ℕ) (q : IsQuarter rule lines (length lines) (suc (suc k) - 1) number).
        child (suc k) number (subst (λ (n : ℕ). IsQuarter rule lines (length lines) n number) (less_one (suc k)) q) in
        inr (into a v.2, into b v.3, into c v.4, into d v.5)

pub names-lines : (rule : Rule) (lines : List Line) (square : Line) → IsSquare MAX_LEVEL rule (map level_of lines) square → NamesFirst (length lines) square
names-lines rule lines square is =
    let whole = subst (λ (ls : List Line). IsSquare MAX_LEVEL rule (map level_of ls) square) (sym (take-length lines)) is in
    names-all rule lines square (square-valid MAX_LEVEL rule lines (length lines) square (le_refl (length lines)) whole)

-- ---- one line more

module _ {knows : Id → Type 0} {content : Id → Tree} (rule : Rule) (generation : ℕ) (lines : List Line) (square : Line) (ids : List Id)
    (good : IsValidMacrocell MAX_LEVEL (record { rule = rule; generation = generation; lines = lines ++ square ∷ [] })) where
  -- that waits
  pub kept-quarters : (waiting : List Quarters) (q : Quarters) → AreKeptOf knows content lines ids waiting → length waiting < MOST_WAITING
      → CanJoin knows content q → quad_of content q ≡ line_tree (tree_of lines (level_of square - 1)) square
      → AreKeptOf knows content (lines ++ square ∷ []) ids (waiting ++ q ∷ [])
  kept-quarters waiting q h lt can is =
      let grown = trees-grow rule generation lines square (map content ids ++ quads_of content waiting) (quad_of content q) good h.trees is in
      let same : (map content ids ++ quads_of content waiting) ++ quad_of content q ∷ [] ≡ map content ids ++ quads_of content (waiting ++ q ∷ [])
      = append_assoc (map content ids) (quads_of content waiting) (quad_of content q ∷ [])
      ∙ ap (λ (ts : List Tree). map content ids ++ ts) (sym (map_push (quad_of content) waiting q)) in
      record {
        trees = subst (AreTreesOf (lines ++ square ∷ [])) same grown;
        known = h.known;
        can_join = All-push (CanJoin knows content) waiting q h.can_join can;
        few = omega (arith, lt, length-append waiting (q ∷ []));
      }

  -- that is joined
  pub kept-id : (id : Id) → AreKeptOf knows content lines ids [] → knows id
      → content id ≡ line_tree (tree_of lines (level_of square - 1)) square → AreKeptOf knows content (lines ++ square ∷ []) (ids ++ id ∷ []) []
  kept-id id h known is =
      let before = subst (AreTreesOf lines) (append-nil (map content ids)) h.trees in
      let grown = trees-grow rule generation lines square (map content ids) (content id) good before is in
      let same : map content ids ++ content id ∷ [] ≡ map content (ids ++ id ∷ []) ++ []
      = sym (map_push content ids id) ∙ sym (append-nil (map content (ids ++ id ∷ []))) in
      record {
        trees = subst (AreTreesOf (lines ++ square ∷ [])) same grown;
        known = All-push knows ids id h.known known;
        can_join = λ i d lt. absurd (omega (arith, lt));
        few = omega arith;
      }

-- ---- the lines that waited are joined

pub kept-joined : {knew knows : Id → Type 0} {was now : Id → Tree} (lines : List Line) (ids joined : List Id) (waiting : List Quarters)
    → ((id : Id) → knew id → knows id × (now id ≡ was id)) → AreKeptOf knew was lines ids waiting → All knows joined
    → map now joined ≡ quads_of was waiting → AreKeptOf knows now lines (ids ++ joined) []
kept-joined {knew} {knows} {was} {now} lines ids joined waiting k h known squares =
    let a = ids-stay {knew = knew} {knows = knows} {was = was} {now = now} ids (λ id c. k id) h.known in
    let same : map was ids ++ quads_of was waiting ≡ map now (ids ++ joined) ++ []
    = (λ i. sym a.1 i ++ sym squares i) ∙ sym (map-append now ids joined) ∙ sym (append-nil (map now (ids ++ joined))) in
    record {
      trees = subst (AreTreesOf lines) same h.trees;
      known = All-append knows ids joined a.0 known;
      can_join = λ i d lt. absurd (omega (arith, lt));
      few = omega arith;
    }

-- ---- the lines by their text

-- a square of a node line has a property
pub some-line : (P : Tree → Type 0) (lines : List Line) (square : Line) → P (line_tree (tree_of lines (level_of square - 1)) square) → SomeOfLine P lines square
some-line P lines (Leaf rows) p = inl p
some-line P lines (Quad level nw ne sw se) p = p

pub line-some : (P : Tree → Type 0) (lines other : List Line) (square : Line)
    → line_tree (tree_of lines (level_of square - 1)) square ≡ line_tree (tree_of other (level_of square - 1)) square
    → SomeOfLine P lines square → SomeOfLine P other square
line-some P lines other (Leaf rows) e p = p
line-some P lines other (Quad level nw ne sw se) e p = subst P e p

pub named-some : (P : Tree → Type 0) (lines : List (List ℕ)) (t : Tree) → IsOfNodeLine MAX_LEVEL lines t → P t → SomeOfLines MAX_LEVEL P lines
named-some P lines t h p =
    of_node_line h.before h.line h.behind h.square h.are h.prefix h.squares (some-line P (squares_of h.before) h.square (subst P h.tree p))

pub waiting-some : {knows : Id → Type 0} {content : Id → Tree} (lines : List (List ℕ)) (ids : List Id) (waiting : List Quarters)
    → KeepsLines knows content lines ids waiting → (P : Tree → Type 0) → SomeOf P (quads_of content waiting) → SomeOfLines MAX_LEVEL P lines
waiting-some lines ids waiting h P s = named-some P lines s.0 (h.named s.0 s.1) s.2

pub named-more : (lines more : List (List ℕ)) (t : Tree) → IsOfNodeLine MAX_LEVEL lines t → IsOfNodeLine MAX_LEVEL (lines ++ more) t
named-more lines more t h = record {
  before = h.before;
  line = h.line;
  behind = h.behind ++ more;
  square = h.square;
  are = ap (λ (ls : List (List ℕ)). ls ++ more) h.are ∙ append_assoc h.before (h.line ∷ h.behind) more;
  prefix = h.prefix;
  squares = h.squares;
  tree = h.tree;
}

-- a line that isn't a node line
pub lines-more : {knows : Id → Type 0} {content : Id → Tree} (lines all : List (List ℕ)) (line : List ℕ) (ids : List Id) (waiting : List Quarters)
    → all ≡ lines ++ line ∷ [] → squares_of all ≡ squares_of lines ++ [] → KeepsLines knows content lines ids waiting
    → KeepsLines knows content all ids waiting
lines-more {knows} {content} lines all line ids waiting e same h = record {
  kept = subst (λ (ls : List Line). AreKeptOf knows content ls ids waiting) (sym (same ∙ append-nil (squares_of lines))) h.kept;
  named = λ t c. subst (λ (ls : List (List ℕ)). IsOfNodeLine MAX_LEVEL ls t) (sym e) (named-more lines (line ∷ []) t (h.named t c));
}
