use Rattle.std.proofs.Common.{◌≡◌, Result, inl, inr, ℕ, ◌-◌, ◌<◌, ◌≤◌, false, List, [], ◌∷◌, ◌++◌, length, take, drop, Some, map, refl, sym, ap, ◌∙◌, subst, arith, rules, Contains, Option, length-take-le, take-append-drop}
use Rattle.std.specs.List.{cons_option}
use Rattle.std.proofs.lemmas.List.{map_push}
use Rattle.std.proofs.lemmas.List.Elements.{Contains-push_cases}
use Rattle.life_base.proofs.Results.{error_is}
use Rattle.life_base.specs.Lines.{LinesRead}
use Rattle.life_base.specs.Refusal.{Prefix}
use Rattle.life_base.specs.Tree.{Tree}
use Rattle.life_base.specs.declared.cell.TheConstants.{MAX_LEVEL}
use Rattle.life_base.specs.declared.kind.Kind.{Kind}
use Rattle.life_base.specs.declared.rule.Rule.{Rule}
use Rattle.life_mc.specs.Macrocell.{IsSquare, IsValidMacrocell, level_of}
use Rattle.life_mc.specs.Reading.{AcceptsMacrocell, squares_of}
use Rattle.life_mc.specs.Squares.{line_tree, tree_of}
use Rattle.life_mc.specs.declared.line.Line.{Line}
use Rattle.life_quad.specs.Grows.{Grows}
use Rattle.life_quad.specs.Moves.{CanJoin, quad_of, quads_of}
use Rattle.life_quad.specs.Refused.{SomeOf}
use Rattle.life_quad.specs.declared.id.Id.{Id}
use Rattle.life_quad.specs.declared.moves.Quarters.{Quarters}
use Rattle.life_quad.specs.declared.squares.Squares.{Ghosts}
use Rattle.life_quad.proofs.GrowsLemmas.{grows-err, grows-ok, grows-then, join-grows, join-refused, only-grows}
use Rattle.life_quad.proofs.KeepingLemmas.{keeps-same, keeps-then, adds-none}
use Rattle.life_reader.specs.Calls.{StoresIn}
use Rattle.life_reader.specs.Filling.{AreSquaresOf}
use Rattle.life_reader.specs.Needs.{SomeOfLine, SomeOfLines}
use Rattle.life_reader.specs.Waiting.{AreKeptOf, IsOfNodeLine, IsReadyFor, KeepsLines, NamesFirst, names_first, all_joined}
use Rattle.life_reader.specs.declared.progress.TheConstants.{MOST_WAITING}
use Rattle.life_reader.proofs.GrowFacts.{first-valid, last-square}
use Rattle.life_reader.proofs.NeedFacts.{more-lines, next-needs}
use Rattle.life_reader.proofs.PatternFacts.{NextSquare, next-square, not-full}
use Rattle.life_reader.proofs.WaitingFacts.{count-of, first-square, first-squares, first-tree, kept-id, kept-joined, kept-quarters, kept-stays, line-some, lines-more, named-more, named-some, names-lines, quads-stay, waiting-some}
use Rattle.life_reader.proofs.progress.take_macrocell_line.Given.{Over}
use Rattle.life_reader.proofs.progress.take_macrocell_line.Goals as goal
use Rattle.life_reader.proofs.progress.take_macrocell_line.Goals.{After-deref, After-join, After-line_quarters}

-- the squares that waited are those of lines
some-waited : {knows : Id → Type 0} {content : Id → Tree} (text : List (List ℕ)) (line : List ℕ) {ids : List Id} {waiting : List Quarters}
    → KeepsLines knows content text ids waiting → (P : Tree → Type 0) → SomeOf P (quads_of content waiting) → SomeOfLines MAX_LEVEL P (text ++ line ∷ [])
some-waited text line {ids} {waiting} were P s = more-lines P text (line ∷ []) (text ++ line ∷ []) refl (waiting-some text ids waiting were P s)

-- a node line after others, which the store and the Ids are ready for
record Taken {X : Type 0} (S : Ghosts X) (old mid : X) (text : List (List ℕ)) (line : List ℕ) (all : LinesRead) (consumed : Option Line) (square : Line)
    (ids here : List Id) (waiting left : List Quarters) (most : ℕ) : Type 0 where
  more : all ≡ record { lines = text ++ line ∷ []; refused = false }
  prefix : Prefix (AcceptsMacrocell MAX_LEVEL) all.lines
  squares : squares_of all.lines ≡ squares_of text ++ cons_option consumed []
  is : consumed ≡ Some square
  were : KeepsLines (S.knows old) (S.content old) text ids waiting
  keeps : (id : Id) → S.knows old id → S.knows mid id × (S.content mid id ≡ S.content old id)
  ready : IsReadyFor S most square old mid ids waiting here left

module _ {X : Type 0} {S : Ghosts X} {old mid : X} {text : List (List ℕ)} {line : List ℕ} {all : LinesRead} {consumed : Option Line} {square : Line}
    {ids here : List Id} {waiting left : List Quarters} {most : ℕ} (now : Taken S old mid text line all consumed square ids here waiting left most) where
  abbrev lines : List Line
  lines = squares_of text

  whole : all.lines ≡ text ++ line ∷ []
  whole = ap (λ (v : LinesRead). v.lines) now.more

  with-line : squares_of all.lines ≡ lines ++ square ∷ []
  with-line = now.squares ∙ ap (λ (o : Option Line). lines ++ cons_option o []) now.is

  next : NextSquare text square
  next = next-square text all.lines line square whole now.prefix with-line

  last : IsSquare MAX_LEVEL next.rule (map level_of lines) square
  last = last-square next.rule next.generation lines square next.valid

  kept : AreKeptOf (S.knows mid) (S.content mid) lines here left
  kept = by now.ready
    where
      by : IsReadyFor S most square old mid ids waiting here left → AreKeptOf (S.knows mid) (S.content mid) lines here left
      by (names_first same i w few names) =
          subst (λ (s : X). AreKeptOf (S.knows s) (S.content s) lines here left) (sym same)
          (subst (λ (l : List Id). AreKeptOf (S.knows old) (S.content old) lines l left) (sym i)
          (subst (AreKeptOf (S.knows old) (S.content old) lines ids) (sym w) now.were.kept))
      by (all_joined j none) =
          subst (AreKeptOf (S.knows mid) (S.content mid) lines here) (sym none)
          (subst (λ (l : List Id). AreKeptOf (S.knows mid) (S.content mid) lines l []) (sym j.are)
          (kept-joined lines ids j.joined waiting now.keeps now.were.kept j.known j.squares))

  names : NamesFirst (length here) square
  names = by now.ready
    where
      by : IsReadyFor S most square old mid ids waiting here left → NamesFirst (length here) square
      by (names_first same i w few names) = subst (λ (l : List Id). NamesFirst (length l) square) (sym i) names
      by (all_joined j none) =
          let count = count-of (S.knows mid) (S.content mid) lines here left kept in
          let empty : length left ≡ 0 = ap length none in
          let same : length lines ≡ length here = omega (arith, count, empty) in
          subst (λ (n : ℕ). NamesFirst n square) same (names-lines next.rule lines square last)

  -- the lines whose Ids are kept, and those after them
  abbrev first : List Line
  first = take (length here) lines

  abbrev behind : List Line
  behind = drop (length here) lines

  split : first ++ behind ≡ lines
  split = take-append-drop (length here) lines

  within : length here ≤ length lines
  within = omega (arith, count-of (S.knows mid) (S.content mid) lines here left kept)

  valid : IsValidMacrocell MAX_LEVEL (record { rule = next.rule; generation = next.generation; lines = first ++ behind })
  valid =
      subst (λ (ls : List Line). IsValidMacrocell MAX_LEVEL (record { rule = next.rule; generation = next.generation; lines = ls })) (sym split)
      (first-valid next.rule next.generation lines (square ∷ []) next.valid)

  first-is : IsSquare MAX_LEVEL next.rule (map level_of first) square
  first-is = first-square next.rule lines (length here) square within last names

  named : AreSquaresOf (S.knows mid) (S.content mid) first here
  named =
      first-squares (S.knows mid) (S.content mid) next.rule next.generation first behind here left valid (length-take-le (length here) lines within)
      (subst (λ (ls : List Line). AreKeptOf (S.knows mid) (S.content mid) ls here left) (sym split) kept)

  placed : (lines : List Line) × ((rule : Rule) × IsSquare MAX_LEVEL rule (map level_of lines) square) × AreSquaresOf (S.knows mid) (S.content mid) lines here
  placed = (first, (next.rule, first-is), named)

  tree : line_tree (tree_of lines (level_of square - 1)) square ≡ line_tree (tree_of first (level_of square - 1)) square
  tree =
      ap (λ (ls : List Line). line_tree (tree_of ls (level_of square - 1)) square) (sym split)
      ∙ first-tree next.rule next.generation first behind square valid first-is

  -- what holds of all lines that these Ids name
  of-line : {P : List Line → Type 0} {slice : List Id} → slice ≡ here
      → ((lines : List Line) (rule : Rule) → IsSquare MAX_LEVEL rule (map level_of lines) square
      → AreSquaresOf (S.knows mid) (S.content mid) lines slice → P lines)
      → P first
  of-line same each = each first next.rule first-is (subst (AreSquaresOf (S.knows mid) (S.content mid) first) (sym same) named)

  needed : {slice : List Id} → slice ≡ here → (P : Tree → Type 0)
      → ((lines : List Line) (rule : Rule) → IsSquare MAX_LEVEL rule (map level_of lines) square
      → AreSquaresOf (S.knows mid) (S.content mid) lines slice → SomeOfLine P lines square)
      → SomeOfLines MAX_LEVEL P (text ++ line ∷ [])
  needed same P some = next-needs P text all.lines line square whole now.prefix with-line (line-some P first lines square (sym tree) (of-line same some))

  -- the squares of the lines so far that still wait, and of this line, are those of node lines
  left-named : (t : Tree) → Contains (quads_of (S.content mid) left) t → IsOfNodeLine MAX_LEVEL all.lines t
  left-named t c = by now.ready
    where
      before : Contains (quads_of (S.content old) waiting) t → IsOfNodeLine MAX_LEVEL all.lines t
      before c = subst (λ (ls : List (List ℕ)). IsOfNodeLine MAX_LEVEL ls t) (sym whole) (named-more text (line ∷ []) t (now.were.named t c))

      by : IsReadyFor S most square old mid ids waiting here left → IsOfNodeLine MAX_LEVEL all.lines t
      by (names_first same i w few names) =
          before (subst (λ (s : X). Contains (quads_of (S.content s) waiting) t) same
          (subst (λ (l : List Quarters). Contains (quads_of (S.content mid) l) t) w c))
      by (all_joined j none) =
          let none_there : Contains (quads_of (S.content mid) []) t = subst (λ (l : List Quarters). Contains (quads_of (S.content mid) l) t) none c in
          absurd (omega (arith, none_there.1))

  this-named : (t : Tree) → t ≡ line_tree (tree_of lines (level_of square - 1)) square → IsOfNodeLine MAX_LEVEL all.lines t
  this-named t e = record {
    before = text;
    line = line;
    behind = [];
    square = square;
    are = whole;
    prefix = subst (Prefix (AcceptsMacrocell MAX_LEVEL)) whole now.prefix;
    squares = subst (λ (ls : List (List ℕ)). squares_of ls ≡ lines ++ square ∷ []) whole with-line;
    tree = e;
  }

  -- the square of the line has a property
  this-needed : {t : Tree} → t ≡ line_tree (tree_of first (level_of square - 1)) square → (P : Tree → Type 0) → P t
      → SomeOfLines MAX_LEVEL P (text ++ line ∷ [])
  this-needed {t} e P p =
      subst (SomeOfLines MAX_LEVEL P) whole (named-some P all.lines t (this-named t (e ∙ sym tree)) p)

  -- one line more that waits
  waits : {new : X} {q : Quarters} {pushed : List Quarters} → ((id : Id) → S.knows mid id → S.knows new id × (S.content new id ≡ S.content mid id))
      → CanJoin (S.knows new) (S.content new) q
      → quad_of (S.content new) q ≡ line_tree (tree_of first (level_of square - 1)) square → pushed ≡ left ++ q ∷ [] → length left < MOST_WAITING
      → KeepsLines (S.knows new) (S.content new) all.lines here pushed
  waits {new} {q} keep can is e lt =
      let stayed = kept-stays lines here left (λ id k. keep id) kept in
      let one = kept-quarters next.rule next.generation lines square here next.valid left q stayed lt can (is ∙ sym tree) in
      subst (KeepsLines (S.knows new) (S.content new) all.lines here) (sym e)
      (record {
        kept = subst (λ (ls : List Line). AreKeptOf (S.knows new) (S.content new) ls here (left ++ q ∷ [])) (sym with-line) one;
        named = λ t c.
            elim (Contains-push_cases (quads_of (S.content new) left) (quad_of (S.content new) q) t
            (subst (λ (ts : List Tree). Contains ts t) (map_push (quad_of (S.content new)) left q) c)) [
              | inl before ↦ left-named t (subst (λ (ts : List Tree). Contains ts t) (quads-stay left keep kept.can_join) before)
              | inr this ↦ this-named t (sym this ∙ is ∙ sym tree)
            ];
      })

  -- or one Id more
  joins : {new : X} {id : Id} {pushed : List Id} → ((i : Id) → S.knows mid i → S.knows new i × (S.content new i ≡ S.content mid i)) → S.knows new id
      → S.content new id ≡ line_tree (tree_of first (level_of square - 1)) square → pushed ≡ here ++ id ∷ [] → left ≡ []
      → KeepsLines (S.knows new) (S.content new) all.lines pushed left
  joins {new} {id} keep known is e none =
      let stayed = kept-stays lines here [] (λ i k. keep i) (subst (AreKeptOf (S.knows mid) (S.content mid) lines here) none kept) in
      let one = kept-id next.rule next.generation lines square here next.valid id stayed known (is ∙ sym tree) in
      subst (λ (l : List Id). KeepsLines (S.knows new) (S.content new) all.lines l left) (sym e)
      (subst (KeepsLines (S.knows new) (S.content new) all.lines (here ++ id ∷ [])) (sym none)
      (record {
        kept = subst (λ (ls : List Line). AreKeptOf (S.knows new) (S.content new) ls (here ++ id ∷ []) []) (sym with-line) one;
        named = λ t c. absurd (omega (arith, c.1));
      }))

  left-none : most ≡ 0 → left ≡ []
  left-none e = by now.ready
    where
      by : IsReadyFor S most square old mid ids waiting here left → left ≡ []
      by (names_first same i w few names) = absurd (omega (arith, few, e))
      by (all_joined j none) = none

  left-few : most ≤ MOST_WAITING → length left < MOST_WAITING
  left-few le = by now.ready
    where
      by : IsReadyFor S most square old mid ids waiting here left → length left < MOST_WAITING
      by (names_first same i w few names) = let len : length left ≡ length waiting = ap length w in omega (arith, few, len, le)
      by (all_joined j none) = let len : length left ≡ 0 = ap length none in omega (arith, len)

  -- the squares that waited are those of lines
  waited : (P : Tree → Type 0) → SomeOf P (quads_of (S.content old) waiting) → SomeOfLines MAX_LEVEL P (text ++ line ∷ [])
  waited = some-waited text line now.were

-- what a call does to a store, but why it is refused
stores-as : {X A : Type 0} {S : Ghosts X} {old new : X} {r : Result A Kind} {M : (Tree → Type 0) → Type 0} → Grows S old new r M → StoresIn S old new r M
stores-as call = record { needed = call.needed; adds = call.adds; keeps = call.keeps }

-- what the quarters of the line ask for
abbrev Placed : {X : Type 0} → Ghosts X → X → Line → List Id → Type 0
Placed S mid square ids =
    (lines : List Line) × ((rule : Rule) × IsSquare MAX_LEVEL rule (map level_of lines) square) × AreSquaresOf (S.knows mid) (S.content mid) lines ids

pub make_ready-requires : goal.make_ready-requires
make_ready-requires g c = record { can_join = c.requires.squares.kept.can_join; few = c.requires.squares.kept.few }

-- ---- a line with a square

-- what the calls so far made known
taken : (g : Over) (c : After-deref g)
    → Taken g.S.Squares c.args.squares.now c.make_ready.new.squares c.args.lines.now.lines c.args.line.now c.line.new.self c.in_ok-square.field-0
    c.in-Some.square c.args.ids.now.items c.make_ready.new.ids.items c.args.waiting.now.items c.make_ready.new.waiting.items c.args.most
taken g c =
    let call = c.in_ok-square.ensures in
    let ready = c.in_ok-make_ready.ensures in
    record {
      more = call.lines;
      prefix = call.prefix;
      squares = call.squares;
      is = c.in-Some.is;
      were = c.requires.squares;
      keeps = ready.grows.keeps.contents;
      ready = ready.ready;
    }

pub line_quarters-requires : goal.line_quarters-requires
line_quarters-requires g c =
    let now = taken g (goal.at.line_quarters-requires g c).After-deref in
    record {
      line = subst (Placed g.S.Squares c.make_ready.new.squares c.in-Some.square) (sym c.deref.ensures.value) (placed now);
    }

pub returns-in_default-clause-squares : goal.returns-in_default-clause-squares
returns-in_default-clause-squares g c =
    let call = c.in_ok-square.ensures in
    lines-more c.args.lines.now.lines c.line.new.self.lines c.args.line.now c.args.ids.now.items c.args.waiting.now.items
    (ap (λ (v : LinesRead). v.lines) call.lines)
    (call.squares ∙ ap (λ (o : Option Line). squares_of c.args.lines.now.lines ++ cons_option o []) c.in_default.is) c.requires.squares

pub join-requires : goal.join-requires
join-requires g c =
    let can = c.in_ok-quarters.ensures.can_join in
    record {
      nw = can.nw;
      ne = can.ne;
      sw = can.sw;
      se = can.se;
      ne_level = can.ne_level;
      sw_level = can.sw_level;
      se_level = can.se_level;
      space = can.space;
    }

pub returns-in_ok-push-clause-squares : goal.returns-in_ok-push-clause-squares
returns-in_ok-push-clause-squares g c =
    let now = taken g (goal.at.returns-in_ok-push-clause-squares g c).After-deref in
    let made = c.in_ok-quarters.ensures in
    let join = c.in_ok-id.ensures in
    joins now (keeps-then made.grows.keeps join.keeps).contents join.known (join.square ∙ of-line now c.deref.ensures.value made.square)
    c.in_ok-push.ensures.items (left-none now c.if-most-eq0.true)

pub returns-in_ok-push-2-clause-squares : goal.returns-in_ok-push-2-clause-squares
returns-in_ok-push-2-clause-squares g c =
    let now = taken g (goal.at.returns-in_ok-push-2-clause-squares g c).After-deref in
    let made = c.in_ok-quarters.ensures in
    waits now made.grows.keeps.contents made.can_join (of-line now c.deref.ensures.value made.square) c.in_ok-push-2.ensures.items
    (left-few now c.requires.most)

pub returns-in_err-square-clause-stores : goal.returns-in_err-square-clause-stores
returns-in_err-square-clause-stores g c =
    let kind : Kind = c.in_err-square.field-0.0 in
    rw (error_is c.from_residual.result c.from_residual.ensures.1) (record {
      needed = λ e. absurd (not-full c.args.lines.now.lines c.args.line.now kind c.in_err-square.ensures.fault (cc));
      adds = adds-none _ _;
      keeps = keeps-same _;
    })

pub returns-in_err-make_ready-clause-stores : goal.returns-in_err-make_ready-clause-stores
returns-in_err-make_ready-clause-stores g c =
    stores-as (grows-err _ c.in_err-make_ready.ensures.grows c.from_residual-in_err-make_ready.ensures.1
    (some-waited c.args.lines.now.lines c.args.line.now c.requires.squares))

-- what the calls so far and the quarters need
quartered : (g : Over) (c : After-line_quarters g)
    → Taken g.S.Squares c.args.squares.now c.make_ready.new.squares c.args.lines.now.lines c.args.line.now c.line.new.self c.in_ok-square.field-0
    c.in-Some.square c.args.ids.now.items c.make_ready.new.ids.items c.args.waiting.now.items c.make_ready.new.waiting.items c.args.most
    → Grows g.S.Squares c.args.squares.now c.line_quarters.new.squares c.line_quarters.result
    (λ P. SomeOfLines MAX_LEVEL P (c.args.lines.now.lines ++ c.args.line.now ∷ []))
quartered g c now =
    grows-then _ c.in_ok-make_ready.ensures.grows (only-grows c.line_quarters.ensures.grows) (waited now) (needed now c.deref.ensures.value)

pub returns-in_err-quarters-clause-stores : goal.returns-in_err-quarters-clause-stores
returns-in_err-quarters-clause-stores g c =
    let at = goal.at.returns-in_err-quarters-clause-stores g c in
    let q = quartered g at.After-line_quarters (taken g at.After-deref) in
    rw (error_is c.from_residual-in_err-quarters.result c.from_residual-in_err-quarters.ensures.1) (record {
      needed = λ e. needed (taken g at.After-deref) c.deref.ensures.value _ c.in_err-quarters.ensures.grows.needed;
      adds = q.adds;
      keeps = q.keeps;
    })

pub returns-in_err-push-2-clause-stores : goal.returns-in_err-push-2-clause-stores
returns-in_err-push-2-clause-stores g c =
    let at = goal.at.returns-in_err-push-2-clause-stores g c in
    let q = quartered g at.After-line_quarters (taken g at.After-deref) in
    rw (error_is c.from_residual-in_err-push-2.result c.from_residual-in_err-push-2.ensures.1)
    (record { needed = search rules; adds = q.adds; keeps = q.keeps })

pub returns-in_ok-push-2-clause-stores : goal.returns-in_ok-push-2-clause-stores
returns-in_ok-push-2-clause-stores g c =
    let at = goal.at.returns-in_ok-push-2-clause-stores g c in
    stores-as (grows-ok _ (quartered g at.After-line_quarters (taken g at.After-deref)) (λ P a. a))

-- ---- and a square that is joined

-- which is of the line
joined : (g : Over) (c : After-join g)
    → Taken g.S.Squares c.args.squares.now c.make_ready.new.squares c.args.lines.now.lines c.args.line.now c.line.new.self c.in_ok-square.field-0
    c.in-Some.square c.args.ids.now.items c.make_ready.new.ids.items c.args.waiting.now.items c.make_ready.new.waiting.items c.args.most
    → (P : Tree → Type 0) → P (quad_of (g.S.Squares.content c.line_quarters.new.squares) c.in_ok-quarters.quarters)
    → SomeOfLines MAX_LEVEL P (c.args.lines.now.lines ++ c.args.line.now ∷ [])
joined g c now = this-needed now (of-line now c.deref.ensures.value c.in_ok-quarters.ensures.square)

pub returns-in_err-id-clause-stores : goal.returns-in_err-id-clause-stores
returns-in_err-id-clause-stores g c =
    let at = goal.at.returns-in_err-id-clause-stores g c in
    let q = quartered g at.After-line_quarters (taken g at.After-deref) in
    stores-as (join-refused _ q.keeps q.adds c.in_err-id.ensures c.from_residual-in_err-id.ensures.1 (joined g at.After-join (taken g at.After-deref)))

pub returns-in_err-push-clause-stores : goal.returns-in_err-push-clause-stores
returns-in_err-push-clause-stores g c =
    let at = goal.at.returns-in_err-push-clause-stores g c in
    let q = quartered g at.After-line_quarters (taken g at.After-deref) in
    let j = join-grows {S = g.S.Squares} _ c.join.result q.keeps q.adds c.join.ensures (joined g at.After-join (taken g at.After-deref)) in
    rw (error_is c.from_residual-in_err-push.result c.from_residual-in_err-push.ensures.1)
    (record { needed = search rules; adds = j.adds; keeps = j.keeps })

pub returns-in_ok-push-clause-stores : goal.returns-in_ok-push-clause-stores
returns-in_ok-push-clause-stores g c =
    let at = goal.at.returns-in_ok-push-clause-stores g c in
    let q = quartered g at.After-line_quarters (taken g at.After-deref) in
    stores-as (grows-ok _ (join-grows _ c.join.result q.keeps q.adds c.join.ensures (joined g at.After-join (taken g at.After-deref))) (λ P a. a))
