-- Facts about rows of words: the cells of a place, and a row at a place.
use Rattle.std.proofs.Common.{◌≡◌, ℕ, zero, suc, ◌+◌, ◌-◌, ◌^◌, ◌≤◌, ◌<◌, ◌==◌, if◌then◌else◌, inl, inr, List, [], ◌∷◌, ◌++◌, length, get_or, All, AllPairs, refl, sym, ◌∙◌, ap, arith}
use Rattle.std.proofs.lemmas.Bool.{cases_lt}
use Rattle.std.proofs.lemmas.List.{get_or_default, get_or_past}
use Rattle.std.proofs.lemmas.List.Elements.{All-push, All-tail}
use Rattle.std.proofs.lemmas.List.Quantifiers.{all_pairs_push}
use Rattle.life_base.specs.declared.cell.TheConstants.{MAX_LEVEL}
use Rattle.life_rows.specs.declared.row_cells.RowPlace.{RowPlace}
use Rattle.life_rows.specs.RowCells.{AddsWord, AreWestOf, AreInner, IsRowAt, IsBlankAt, IsClear, place_ahead}
use Rattle.life_strip.specs.RowWords.{AreRowWords, cells_at_place}
use Rattle.life_strip.specs.declared.row_builder.RowWord.{RowWord}

-- ---- the cells of a place

-- those of the first word, if it has the place
pub first-there : (w : RowWord) (rest : List RowWord) (n : ℕ) → w.place ≡ n → cells_at_place (w ∷ rest) n ≡ w.cells
first-there w rest n e = grind arith

pub first-elsewhere : (w : RowWord) (rest : List RowWord) (n : ℕ) → ¬ (w.place ≡ n) → cells_at_place (w ∷ rest) n ≡ cells_at_place rest n
first-elsewhere w rest n ne = grind arith

-- none where no word has the place
pub place-none : (words : List RowWord) (n : ℕ) → All (λ w. ¬ (w.place ≡ n)) words → cells_at_place words n ≡ 0
place-none [] n none = refl
place-none (w ∷ rest) n none = first-elsewhere w rest n (none 0 w (omega arith)) ∙ place-none rest n (All-tail (λ z. ¬ (z.place ≡ n)) w rest none)

-- those of each word, where words go from west to east
pub place-at : (words : List RowWord) → AllPairs (λ a b. a.place < b.place) words → (k : ℕ) (d : RowWord) → k < length words
    → cells_at_place words (get_or words k d).place ≡ (get_or words k d).cells
place-at [] rise k d lt = absurd (omega (arith, lt))
place-at (w ∷ rest) rise zero d lt = first-there w rest w.place refl
place-at (w ∷ rest) rise (suc k) d lt =
    let order : w.place < (get_or rest k d).place = rise 0 (suc k) d (omega arith) lt in
    first-elsewhere w rest (get_or rest k d).place (λ e. omega (arith, order, e))
    ∙ place-at rest (λ i j e before within. rise (suc i) (suc j) e (omega (arith, before)) (omega (arith, within))) k d (omega (arith, lt))

-- a word more, east of the others
pub more-there : (words : List RowWord) (w : RowWord) → AreWestOf w.place words → cells_at_place (words ++ w ∷ []) w.place ≡ w.cells
more-there [] w before = first-there w [] w.place refl
more-there (a ∷ rest) w before =
    let order = before 0 a (omega arith) in
    first-elsewhere a (rest ++ w ∷ []) w.place (λ e. omega (arith, order, e)) ∙ more-there rest w (All-tail (λ z. z.place < w.place) a rest before)

pub more-elsewhere : (words : List RowWord) (w : RowWord) (n : ℕ) → ¬ (w.place ≡ n) → cells_at_place (words ++ w ∷ []) n ≡ cells_at_place words n
more-elsewhere [] w n ne = first-elsewhere w [] n ne
more-elsewhere (a ∷ rest) w n ne = ap (λ z. if a.place == n then a.cells else z) (more-elsewhere rest w n ne)

pub more-words : (words : List RowWord) (w : RowWord) → AreRowWords words → AreWestOf w.place words → w.place < 2 ^ (MAX_LEVEL - 6)
    → AreRowWords (words ++ w ∷ [])
more-words words w are before within = record {
  within = All-push (λ z. z.place < 2 ^ (MAX_LEVEL - 6)) words w are.within within;
  rise = all_pairs_push (λ a b. a.place < b.place) words w are.rise before;
}

-- words west of a place are west of every later one
pub before-later : (words : List RowWord) (place later : ℕ) → place ≤ later → AreWestOf place words → AreWestOf later words
before-later words place later order before k d lt = let less = before k d lt in omega (arith, less, order)

-- a place gets a word
pub adds-some : (words : List RowWord) (w : RowWord) → AreRowWords words → AreWestOf w.place words → w.place < 2 ^ (MAX_LEVEL - 6)
    → AddsWord words (words ++ w ∷ []) w.place w.cells
adds-some words w are before within = record {
  words = more-words words w are before within;
  before = All-push (λ z. z.place < w.place + 1) words w (before-later words w.place (w.place + 1) (omega arith) before) (omega arith);
  there = more-there words w before;
  others = λ n lt. more-elsewhere words w n (λ e. omega (arith, lt, e));
}

-- or none
pub adds-nothing : (words : List RowWord) (place : ℕ) → AreRowWords words → AreWestOf place words → AddsWord words words place 0
adds-nothing words place are before = record {
  words = are;
  before = before-later words place (place + 1) (omega arith) before;
  there = place-none words place (λ k d lt e. let less = before k d lt in omega (arith, less, e));
  others = λ n lt. refl;
}

-- an inner row has no cell at the edges of the plane, nor beyond the eastern one
pub inner-west : (words : List RowWord) → AreInner words → cells_at_place words 0 ≡ 0
inner-west words inner = place-none words 0 (λ k d lt e. let some = (inner.inner k d lt).0 in omega (arith, some, e))

pub inner-east : (words : List RowWord) → AreInner words → (n : ℕ) → 2 ^ (MAX_LEVEL - 6) ≤ suc n → cells_at_place words n ≡ 0
inner-east words inner n far = place-none words n (λ k d lt e. let less = (inner.inner k d lt).1 in omega (arith, less, e, far))

-- so a row that has a cell at a place or the one before it is not at the eastern edge
pub inner-clear : (words : List RowWord) (at : RowPlace) → AreInner words → IsRowAt words (2 ^ (MAX_LEVEL - 6)) at → IsClear at
inner-clear words at inner here = (
  here.west (2 ^ (MAX_LEVEL - 6) - 1) (omega arith) ∙ inner-east words inner (2 ^ (MAX_LEVEL - 6) - 1) (omega arith),
  here.here ∙ inner-east words inner (2 ^ (MAX_LEVEL - 6)) (omega arith),
)

-- ---- a row at a place

-- where none is left
abbrev pub no_word : RowWord
no_word = record { place = 2 ^ 64 - 1; cells = 0 }

pub at-start : (words : List RowWord) → AreInner words → IsRowAt words 0 (record { west = 0; here = 0; passed = 0 })
at-start words inner = record {
  edge = λ e. refl;
  west = λ n e. absurd (omega (arith, e));
  here = sym (inner-west words inner);
  passed = λ k d lt within. absurd (omega (arith, lt));
  ahead = λ k d le within. (inner.inner k d within).0;
}

module _ (words : List RowWord) (are : AreRowWords words) where
  -- the next word is the first of those that are left
  pub ahead-first : (passed k : ℕ) (d : RowWord) → passed ≤ k → k < length words → place_ahead words passed ≤ (get_or words k d).place
  ahead-first passed k d le lt = elim (cases_lt passed k) [
    | inl less ↦
        (let order = are.rise passed k d less lt in
        let same = ap (λ w. w.place) (get_or_default words passed d no_word (omega (arith, less, lt))) in
        omega (arith, order, same))
    | inr more ↦
        (let e : passed ≡ k = omega (arith, le, more) in
        let same = ap (λ w. w.place) (get_or_default words k d no_word lt) in
        let first = ap (place_ahead words) e in
        omega (arith, same, first))
  ]

  -- if it is on the plane, there is one
  pub ahead-some : (passed : ℕ) → ¬ (place_ahead words passed ≡ 2 ^ 64 - 1) → passed < length words
  ahead-some passed ne = elim (cases_lt passed (length words)) [
    | inl lt ↦ lt
    | inr over ↦ absurd (ne (ap (λ w. w.place) (get_or_past words passed no_word over)))
  ]

  pub ahead-over : (passed : ℕ) → 2 ^ 64 - 1 ≤ place_ahead words passed → length words ≤ passed
  ahead-over passed far = elim (cases_lt passed (length words)) [
    | inl lt ↦ absurd (let inside = are.within passed no_word lt in omega (arith, inside, far))
    | inr over ↦ over
  ]

  pub ahead-within : (passed : ℕ) → place_ahead words passed < 2 ^ 64 - 1 → place_ahead words passed < 2 ^ (MAX_LEVEL - 6)
  ahead-within passed near = are.within passed no_word (ahead-some passed (λ e. omega (arith, near, e)))

  module _ (place : ℕ) (at : RowPlace) (here : IsRowAt words place at) where
    -- the next word is further east
    pub ahead-later : place < 2 ^ 64 - 1 → place < place_ahead words at.passed
    ahead-later small = elim (cases_lt at.passed (length words)) [
      | inl lt ↦ here.ahead at.passed no_word (omega arith) lt
      | inr over ↦ (let none = ap (λ w. w.place) (get_or_past words at.passed no_word over) in omega (arith, none, small))
    ]

    -- no cell up to the next word
    pub at-none : (n : ℕ) → place < n → n < place_ahead words at.passed → cells_at_place words n ≡ 0
    at-none n from before = place-none words n (λ k d lt e. elim (cases_lt k at.passed) [
      | inl less ↦ (let past = here.passed k d less lt in omega (arith, past, from, e))
      | inr more ↦ (let first = ahead-first at.passed k d more lt in omega (arith, first, before, e))
    ])

    -- the next place, if the next word has it
    pub at-word : (d : RowWord) → place_ahead words at.passed ≡ place + 1 → place + 1 < 2 ^ 64 - 1
        → IsRowAt words (place + 1) (record { west = at.here; here = (get_or words at.passed d).cells; passed = at.passed + 1 })
    at-word d next small =
        let some : at.passed < length words = ahead-some at.passed (λ e. omega (arith, next, small, e)) in
        let there : (get_or words at.passed d).place ≡ place + 1 =
        ap (λ w. w.place) (get_or_default words at.passed d no_word some) ∙ next in record {
          edge = λ e. absurd (omega (arith, e));
          west = λ n e. here.here ∙ (let same : place ≡ n = omega (arith, e) in ap (cells_at_place words) same);
          here = sym (place-at words are.rise at.passed d some) ∙ ap (cells_at_place words) there;
          passed = λ k e lt within. elim (cases_lt k at.passed) [
            | inl less ↦ (let past = here.passed k e less within in omega (arith, past))
            | inr more ↦
                (let same : k ≡ at.passed = omega (arith, more, lt) in
                let first = ap (λ w. w.place) (get_or_default words at.passed e d some) in
                let last = ap (λ j. (get_or words j e).place) same in
                omega (arith, first, last, there))
          ];
          ahead = λ k e le within.
              (let order = are.rise at.passed k e (omega (arith, le)) within in
              let first = ap (λ w. w.place) (get_or_default words at.passed e d some) in
              omega (arith, order, first, there));
        }

    -- and if it has not
    pub at-gap : ¬ (place_ahead words at.passed ≡ place + 1) → IsRowAt words (place + 1) (record { west = at.here; here = 0; passed = at.passed })
    at-gap ne =
        let after : (k : ℕ) (d : RowWord) → at.passed ≤ k → k < length words → place + 1 < (get_or words k d).place = λ k d le lt.
        (let some : at.passed < length words = omega (arith, le, lt) in
        let next = here.ahead at.passed no_word (omega arith) some in
        let first = ahead-first at.passed k d le lt in
        omega (arith, next, first, ne)) in record {
          edge = λ e. absurd (omega (arith, e));
          west = λ n e. here.here ∙ (let same : place ≡ n = omega (arith, e) in ap (cells_at_place words) same);
          here = sym (place-none words (place + 1) (λ k d lt e. elim (cases_lt k at.passed) [
            | inl less ↦ (let past = here.passed k d less lt in omega (arith, past, e))
            | inr more ↦ (let less = after k d more lt in omega (arith, less, e))
          ]));
          passed = λ k d lt within. (let past = here.passed k d lt within in omega (arith, past));
          ahead = after;
        }

    -- a row without cells at the place and the one before it
    module _ (clear : IsClear at) where
      clear-west : (n : ℕ) → suc n ≡ place → cells_at_place words n ≡ 0
      clear-west n e = sym (here.west n e) ∙ clear.0

      clear-here : cells_at_place words place ≡ 0
      clear-here = sym here.here ∙ clear.1

      -- no cell about the places up to the one before the next word
      pub blank-to : (n : ℕ) → place ≤ n → suc n < place_ahead words at.passed → IsBlankAt words n
      blank-to n from before = record {
        west = λ m e. elim (cases_lt m place) [
          | inl less ↦ clear-west m (omega (arith, e, from, less))
          | inr more ↦ up-to m more (omega (arith, e, before))
        ];
        here = up-to n from (omega (arith, before));
        east = at-none (suc n) (omega (arith, from)) before;
      }
        where
          up-to : (m : ℕ) → place ≤ m → m < place_ahead words at.passed → cells_at_place words m ≡ 0
          up-to m le lt = elim (cases_lt place m) [
            | inl less ↦ at-none m less lt
            | inr more ↦ (let same : place ≡ m = omega (arith, le, more) in sym (ap (cells_at_place words) same) ∙ clear-here)
          ]

      -- where no word is left, none about any later place
      pub blank-after : length words ≤ at.passed → (n : ℕ) → place ≤ n → IsBlankAt words n
      blank-after over n from = record {
        west = λ m e. elim (cases_lt m place) [
          | inl less ↦ clear-west m (omega (arith, e, from, less))
          | inr more ↦ later m more
        ];
        here = later n from;
        east = later (suc n) (omega (arith, from));
      }
        where
          later : (m : ℕ) → place ≤ m → cells_at_place words m ≡ 0
          later m le = elim (cases_lt place m) [
            | inl less ↦ place-none words m (λ k d lt e. let past = here.passed k d (omega (arith, lt, over)) lt in omega (arith, past, less, e))
            | inr more ↦ (let same : place ≡ m = omega (arith, le, more) in sym (ap (cells_at_place words) same) ∙ clear-here)
          ]

      -- a later place before the next word
      pub at-later : (later : ℕ) → place ≤ later → later < place_ahead words at.passed → IsRowAt words later at
      at-later later order before = record {
        edge = λ e. clear.0;
        west = λ n e. clear.0 ∙ sym (up-to n (omega (arith, e, before)));
        here = clear.1 ∙ sym (elim (cases_lt place later) [
          | inl less ↦ at-none later less before
          | inr more ↦ (let same : place ≡ later = omega (arith, order, more) in sym (ap (cells_at_place words) same) ∙ clear-here)
        ]);
        passed = λ k d lt within. (let past = here.passed k d lt within in omega (arith, past, order));
        ahead = λ k d le within. (let first = ahead-first at.passed k d le within in omega (arith, first, before));
      }
        where
          up-to : (n : ℕ) → suc n ≡ later → cells_at_place words n ≡ 0
          up-to n e = elim (cases_lt n place) [
            | inl less ↦ clear-west n (omega (arith, e, less, order))
            | inr more ↦ elim (cases_lt place n) [
              | inl far ↦ at-none n far (omega (arith, e, before))
              | inr near ↦ (let same : place ≡ n = omega (arith, near, more) in sym (ap (cells_at_place words) same) ∙ clear-here)
            ]
          ]
