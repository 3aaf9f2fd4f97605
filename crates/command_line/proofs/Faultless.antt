-- What words have in which `clap` finds no fault.
use Rattle.std.proofs.Common.{◌≡◌, ◌<◌, ◌++◌, ◌&&◌, ◌||◌, ◌⊎◌, inl, inr, ◌∙◌, not, cond, ℕ, Bool, true, false, zero, suc, refl, sym, ap, subst, arith, List, [], ◌∷◌, length, Option, Some, None, is_some, IsSome, codes, option_map, find, fold, option_and_then, slice_get, drop, encode_utf8, unwrap_or, lt-ltb}
use Rattle.std.specs.Option.{option_map_or}
use Rattle.std.specs.Str.{bytes_eq, chars}
use Rattle.clap.specs.Lexer.{long_of, short_of}
use Rattle.clap.specs.Facts.{explicit_source, unwrap_or_range}
use Rattle.clap.specs.Kinds.{Kinds, or_else, range_kinds, check_kinds}
use Rattle.clap.specs.Simple.{App, Shape, argument_words, built, built_leaf, entered, inherited, label_of, marked_built, names_of, on_top, rows_at, subcommand_of, with_leaf_noted}
use Rattle.clap.specs.Takes.{is_given}
use Rattle.clap.specs.Faults.{use_fault, action_fault, settle_fault, react_fault, option_fault, long_fault, short_fault, bundle_step_fault, flags_fault, bundle_fault, flag_word_fault, other_fault, word_fault, positional_fault, step_fault, stray_fault, turn_fault, walk_fault, level_fault, entered_fault, defaults_fault, check_fault, fault_of}
use Rattle.clap.specs.Walk.{Held, Names, Outcome, Row, Rule, Step, Text, Waiting, Walk, action_of, arg_by_id, arg_by_index, arg_by_long, arg_by_short, at_row, attached_value, more_values, option_met, option_word, plain_word, after_flag, long_met, flag_met, short_met, bundle_step, bundle_met, bundle, long_or_other, short_or_plain, subcommand_met, subcommand_or_other, word_met, is_pending, takes_several, takes_values, positional_held, to_positional, after_step, walked_from, walked, walk, walk_from, with_default, has_row, default_rows, finished, nothing_held, rows_after, reacted, settled, settled_rows, used, used_as, used_by_id, reading_by, values_or_missing, most_values, first_of, answers_to, with_values, without, done, waits, plain, refused, idle, option, positional, next, trailing, subcommand, value}
use Rattle.clap.specs.declared.builder.action.ArgAction.{ArgAction}
use Rattle.clap.specs.declared.builder.action.ArgAction.TheVariants.{Set, SetTrue, Help}
use Rattle.clap.specs.declared.error.kind.ErrorKind.{ErrorKind}
use Rattle.clap.specs.declared.error.kind.ErrorKind.TheVariants.{TooManyValues}
use Rattle.clap.specs.declared.parser.matches.ValueSource.TheVariants.{CommandLine, DefaultValue}
use Rattle.command_line.specs.Plans.{AreWhole}
use Rattle.command_line.specs.declared.plans.Task.TheVariants.{Canon, Convert, Same, Show, Step as StepTask}
use Rattle.life_base.specs.declared.form.Form.TheVariants.{Placed}
use Rattle.command_line.specs.declared.plans.Target.TheVariants.{Rle}
use Rattle.command_line.specs.CommandLine.{program, canon_line, convert_line, same_line, show_line, step_line, keys_line, files_line}
use Rattle.std.proofs.lemmas.Slice.Eq.{bytes_eq-Decides}

-- no fault in two steps is none in either
pub both_none : (a b : Kinds) → or_else a b ≡ [] → (a ≡ []) × (b ≡ [])
both_none [] b e = (refl, e)
both_none (k ∷ ks) b e = absurd cc

some_kind : (k : ErrorKind) (ks : Kinds) → ¬ (k ∷ ks ≡ [])
some_kind k ks e = absurd cc

-- ---- rows

-- each row has a value
abbrev Filled : List Row → Type 0
Filled [] = Unit {0}
Filled (r ∷ rs) = (0 < length r.values) × Filled rs

filled_both : (xs ys : List Row) → Filled xs → Filled ys → Filled (xs ++ ys)
filled_both [] ys a b = b
filled_both (x ∷ xs) ys a b = (a.0, filled_both xs ys a.1 b)

filled_at : (id : Text) (change : Row → List Row) (missing rows : List Row) → ((r : Row) → 0 < length r.values → Filled (change r)) → Filled missing
    → Filled rows → Filled (at_row id change missing rows)
filled_at id change missing [] keeps there all = there
filled_at id change missing (r ∷ rs) keeps there all = go (bytes_eq r.id id) (filled_at id change missing rs keeps there all.1)
  where
    go : (b : Bool) → Filled (at_row id change missing rs) → Filled (cond b (change r ++ rs) (r ∷ at_row id change missing rs))
    go true rest = filled_both (change r) rs (keeps r all.0) all.1
    go false rest = (all.0, rest)

longer : (xs ys : List Text) → 0 < length xs → 0 < length (xs ++ ys)
longer [] ys lt = absurd (omega arith)
longer (x ∷ xs) ys lt = omega arith

first_there : (xs : List Text) → 0 < length xs → IsSome (slice_get xs 0)
first_there [] lt = absurd (omega arith)
first_there (x ∷ xs) lt = refl

-- what was given has a first value
given_first : (id : Text) (rows : List Row) → Filled rows → is_given id rows ≡ true → IsSome (first_of id rows)
given_first id [] all given = absurd cc
given_first id (r ∷ rs) all given = go (bytes_eq r.id id) (given_first id rs all.1) given
  where
    go : (b : Bool) → (is_given id rs ≡ true → IsSome (first_of id rs))
        → option_map_or (λ (x : Row). explicit_source x.source) (cond b (Some r) (find (λ x. bytes_eq x.id id) rs)) false ≡ true
        → IsSome (option_and_then (λ (x : Row). slice_get x.values 0) (cond b (Some r) (find (λ x. bytes_eq x.id id) rs)))
    go true rest is = first_there r.values all.0
    go false rest is = rest is

-- ---- one use of an argument

-- the argument takes a value, is a flag, or asks for help
abbrev IsPlain : Rule → Type 0
IsPlain a = ((action_of a ≡ Set) × (0 < (unwrap_or_range a.range).start_inclusive)) ⊎ (((action_of a ≡ SetTrue) × (0 < length a.missing))
    ⊎ (action_of a ≡ Help))

abbrev ArePlain : List Rule → Type 0
ArePlain [] = Unit {0}
ArePlain (a ∷ rest) = IsPlain a × ArePlain rest

some_is : (x a : Rule) → Some x ≡ Some a → x ≡ a
some_is x a e = ap (λ (o : Option Rule). unwrap_or o x) e

plain_found : (p : Rule → Bool) (c : List Rule) (a : Rule) → ArePlain c → find p c ≡ Some a → IsPlain a
plain_found p [] a all found = absurd cc
plain_found p (x ∷ xs) a all found = go (p x) (plain_found p xs a all.1) found
  where
    go : (b : Bool) → (find p xs ≡ Some a → IsPlain a) → cond b (Some x) (find p xs) ≡ Some a → IsPlain a
    go true rest e = subst IsPlain (some_is x a e) all.0
    go false rest e = rest e

some_values : (least most n : ℕ) → 0 < least → range_kinds least most n ≡ [] → 0 < n
some_values least most zero lt none =
    let bad = rw (lt-ltb 0 least lt) at none in
    absurd (some_kind _ _ bad)
some_values least most (suc n) lt none = omega arith

values_there : (a : Rule) (values : List Text) → 0 < length values → 0 < length (values_or_missing a values)
values_there a [] lt = absurd (omega arith)
values_there a (v ∷ vs) lt = lt

missing_there : (a : Rule) (values : List Text) → 0 < length a.missing → 0 < length (values_or_missing a values)
missing_there a [] lt = lt
missing_there a (v ∷ vs) lt = omega arith

set_filled : (a : Rule) (values : List Text) (rows : List Row) → 0 < length values → Filled rows
    → Filled (with_values a.id (reading_by a) CommandLine values (without a.id rows))
set_filled a values rows lt all =
    filled_at a.id (more_values CommandLine values) _ (without a.id rows) (λ r there. (longer r.values values there, tt)) (lt, tt)
    (filled_at a.id (λ _. []) [] rows (λ r there. tt) tt all)

used_filled : (again : Bool) (a : Rule) (values : List Text) (rows : List Row) → IsPlain a → use_fault again a values rows ≡ [] → Filled rows
    → Filled (used a values rows)
used_filled again a values rows is_plain none all =
    let parts = both_none (range_kinds (unwrap_or_range a.range).start_inclusive (most_values a) (length values))
    (action_fault (action_of a) again a (values_or_missing a values) rows) none in
    elim is_plain [
      | inl set ↦
          let lt = values_there a values (some_values _ _ _ set.1 parts.0) in
          subst (λ (x : ArgAction). Filled (used_as x a.id (reading_by a) (values_or_missing a values) rows)) (sym set.0)
          (set_filled a (values_or_missing a values) rows lt all)
      | inr (inl flag) ↦
          subst (λ (x : ArgAction). Filled (used_as x a.id (reading_by a) (values_or_missing a values) rows)) (sym flag.0)
          (set_filled a (values_or_missing a values) rows (missing_there a values flag.1) all)
      | inr (inr help) ↦
          let bad = subst (λ (x : ArgAction). action_fault x again a (values_or_missing a values) rows ≡ []) help parts.1 in
          absurd (some_kind _ _ bad)
    ]

-- ---- the walk

module _ (c : List Rule) (again : Bool) (all : ArePlain c) where
  settled_filled : (h : Held) → settle_fault c again h ≡ [] → Filled h.rows → Filled (settled c h).rows
  settled_filled h none rows = go h.pending none
    where
      by_rule : (p : Text × List Text) (o : Option Rule) → arg_by_id c p.0 ≡ o → option_map_or (λ (a : Rule). use_fault again a p.1 h.rows) o [] ≡ []
          → Filled (used_by_id o p.1 h.rows)
      by_rule p None is e = rows
      by_rule p (Some a) is e = used_filled again a p.1 h.rows (plain_found _ c a all is) e rows

      go : (o : Option (Text × List Text)) → option_map_or (λ p. option_map_or (λ a. use_fault again a p.1 h.rows) (arg_by_id c p.0) []) o [] ≡ []
          → Filled (settled_rows c o h.rows)
      go None e = rows
      go (Some p) e = by_rule p (arg_by_id c p.0) refl e

  reacted_filled : (a : Rule) (values : List Text) (h : Held) → IsPlain a → react_fault c again a values h ≡ [] → Filled h.rows
      → Filled (reacted c a values h).rows
  reacted_filled a values h is_plain none rows =
      let parts = both_none (settle_fault c again h) (use_fault again a values (settled c h).rows) none in
      used_filled again a values (settled c h).rows is_plain parts.1 (settled_filled h parts.0 rows)

  option_filled : (a : Rule) (v : Option Text) (h : Held) → IsPlain a → option_fault c again a v h ≡ [] → Filled h.rows
      → Filled (option_met c a v h).0.rows
  option_filled a None h is_plain none rows = settled_filled h none rows
  option_filled a (Some v) h is_plain none rows = reacted_filled a (v ∷ []) h is_plain none rows

  long_filled : (o : Option Rule) (v : Option Text) (h : Held) → ((a : Rule) → o ≡ Some a → IsPlain a) → long_fault c again o v h ≡ [] → Filled h.rows
      → Filled (long_met c o v h).0.rows
  long_filled None v h is none rows = rows
  long_filled (Some a) v h is none rows = go (takes_values a) none
    where
      flag : (v : Option Text) → cond (is_some v) (TooManyValues ∷ []) (react_fault c again a [] h) ≡ [] → Filled (flag_met c a v h).0.rows
      flag None e = reacted_filled a [] h (is a refl) e rows
      flag (Some x) e = rows

      go : (b : Bool) → cond b (option_fault c again a v h) (cond (is_some v) (TooManyValues ∷ []) (react_fault c again a [] h)) ≡ []
          → Filled (cond b (option_met c a v h) (flag_met c a v h)).0.rows
      go true e = option_filled a v h (is a refl) e rows
      go false e = flag v e

  short_filled : (o : Option Rule) (rest : Text) (h : Held) (faults : Held → Kinds) (after : Held → Held × Outcome)
      → ((a : Rule) → o ≡ Some a → IsPlain a) → ((g : Held) → faults g ≡ [] → Filled g.rows → Filled (after g).0.rows)
      → short_fault c again o rest h faults ≡ [] → Filled h.rows → Filled (short_met c o rest h after).0.rows
  short_filled None rest h faults after is keeps none rows = rows
  short_filled (Some a) rest h faults after is keeps none rows = go (takes_values a) none
    where
      go : (b : Bool) → cond b (option_fault c again a (attached_value rest) h) (or_else (react_fault c again a [] h) (faults (reacted c a [] h))) ≡ []
          → Filled (cond b (option_met c a (attached_value rest) h) (after (reacted c a [] h))).0.rows
      go true e = option_filled a (attached_value rest) h (is a refl) e rows
      go false e =
          let parts = both_none (react_fault c again a [] h) (faults (reacted c a [] h)) e in
          keeps (reacted c a [] h) parts.1 (reacted_filled a [] h (is a refl) parts.0 rows)

  letter_filled : (o : Option ℕ) (flags : Text) (skip : ℕ) (so_far : Outcome) (h : Held) (faults : Text → ℕ → Held → Kinds)
      (after : Text → ℕ → Outcome → Held → Held × Outcome)
      → ((t : Text) (n : ℕ) (s : Outcome) (g : Held) → faults t n g ≡ [] → Filled g.rows → Filled (after t n s g).0.rows)
      → bundle_step_fault c again o flags skip h faults ≡ [] → Filled h.rows → Filled (bundle_step c o flags skip so_far h after).0.rows
  letter_filled None flags skip so_far h faults after keeps none rows = rows
  letter_filled (Some x) flags zero so_far h faults after keeps none rows =
      let rest = drop (length (encode_utf8 x)) flags in
      short_filled (arg_by_short c x) rest h (faults rest 0) (after rest 0 done) (λ a is. plain_found _ c a all is) (λ g e f. keeps rest 0 done g e f) none rows
  letter_filled (Some x) flags (suc skip) so_far h faults after keeps none rows =
      keeps (drop (length (encode_utf8 x)) flags) skip so_far h none rows

  flags_filled : (k : ℕ) (flags : Text) (skip : ℕ) (so_far : Outcome) (h : Held) → flags_fault c again k flags skip h ≡ [] → Filled h.rows
      → Filled (bundle_met c k flags skip so_far h).0.rows
  unfolding flags_fault bundle_met
  flags_filled zero flags skip so_far h none rows = rows
  flags_filled (suc k) flags skip so_far h none rows =
      letter_filled (slice_get (chars flags) 0) flags skip so_far h (flags_fault c again k) (bundle_met c k)
      (λ t n s g e f. flags_filled k t n s g e f) none rows

  plain_rows : (waiting : Waiting) (word : Text) (h : Held) → Filled h.rows → Filled (plain_word c waiting word h).0.rows
  plain_rows idle word h rows = rows
  plain_rows positional word h rows = rows
  plain_rows (option id) word h rows = go (arg_by_id c id)
    where
      go : (o : Option Rule) → Filled (option_word o id word h).0.rows
      go None = rows
      go (Some a) = rows

  after_rows : (waiting : Waiting) (word : Text) (h : Held) (o : Outcome) → Filled h.rows → Filled (after_flag c waiting word h o).0.rows
  after_rows waiting word h done rows = rows
  after_rows waiting word h (waits id) rows = rows
  after_rows waiting word h plain rows = plain_rows waiting word h rows
  after_rows waiting word h refused rows = plain_rows waiting word h rows

  other_filled : (waiting : Waiting) (word : Text) (o : Option (Text × Option Text)) (h : Held) → flag_word_fault c again o word h ≡ [] → Filled h.rows
      → Filled (long_or_other c waiting word o h).0.rows
  other_filled waiting word (Some p) h none rows =
      after_rows waiting word (long_met c (arg_by_long c p.0) p.1 h).0 (long_met c (arg_by_long c p.0) p.1 h).1
      (long_filled (arg_by_long c p.0) p.1 h (λ a is. plain_found _ c a all is) none rows)
  other_filled waiting word None h none rows = go (short_of word) none
    where
      go : (o : Option Text) → option_map_or (λ flags. bundle_fault c again flags h) o [] ≡ [] → Filled (short_or_plain c waiting word o h).0.rows
      go None e = plain_rows waiting word h rows
      go (Some flags) e =
          after_rows waiting word (bundle c flags h).0 (bundle c flags h).1
          (flags_filled (length flags) flags h.skip plain (record h { skip = 0 }) e rows)

module _ (s : Shape) (names : Names) (all : ArePlain s.rules) where
  word_filled : (is_trailing : Bool) (waiting : Waiting) (position : ℕ) (word : Text) (h : Held) → word_fault s names is_trailing waiting word h ≡ []
      → Filled h.rows → Filled (word_met s.rules names is_trailing waiting position word h).0.rows
  word_filled true waiting position word h none rows = rows
  word_filled false waiting position word h none rows = go (subcommand_met names waiting word) none
    where
      dashes : (b : Bool) → cond b [] (flag_word_fault s.rules s.args_override_self (long_of word) word h) ≡ []
          → Filled (cond b (h, trailing position) (long_or_other s.rules waiting word (long_of word) h)).0.rows
      dashes true e = rows
      dashes false e = other_filled s.rules s.args_override_self all waiting word (long_of word) h e rows

      go : (o : Option Text) → other_fault s o word h ≡ [] → Filled (subcommand_or_other s.rules o waiting position word h).0.rows
      go (Some name) e = rows
      go None e = dashes (bytes_eq word (45 ∷ 45 ∷ [])) e

  held_filled : (a : Rule) (word : Text) (h : Held) → positional_fault s.rules s.args_override_self a h ≡ [] → Filled h.rows
      → Filled (positional_held s.rules a word h).rows
  held_filled a word h none rows = go (is_pending a h.pending && takes_several a) none
    where
      go : (b : Bool) → cond b [] (settle_fault s.rules s.args_override_self h) ≡ [] → Filled (cond b h (settled s.rules h)).rows
      go true e = rows
      go false e = settled_filled s.rules s.args_override_self all h e rows

  step_filled : (w : Walk) (word : Text) (h : Held) (step : Step) → step_fault s w.position h step ≡ [] → Filled h.rows
      → Filled (after_step s.rules word w h step).held.rows
  step_filled w word h (next waiting) none rows = rows
  step_filled w word h (trailing position) none rows = rows
  step_filled w word h (subcommand name) none rows = rows
  step_filled w word h value none rows = go (arg_by_index s.rules w.position) none
    where
      go : (o : Option Rule) → option_map_or (λ a. positional_fault s.rules s.args_override_self a h) o (stray_fault s) ≡ []
          → Filled (to_positional s.rules o word w h).held.rows
      go None e = rows
      go (Some a) e = held_filled a word h e rows

  turn_filled : (w : Walk) (word : Text) → turn_fault s names w word ≡ [] → Filled w.held.rows → Filled (walked s.rules names w word).held.rows
  unfolding walked
  turn_filled w word none rows = go w.stopped none
    where
      met : Held × Step
      met = word_met s.rules names w.is_trailing w.waiting w.position word w.held

      go : (o : Option (Text × List Text))
          → cond (is_some o) [] (or_else (word_fault s names w.is_trailing w.waiting word w.held) (step_fault s w.position met.0 met.1)) ≡ []
          → Filled (walked_from s.rules names o w word).held.rows
      go (Some p) e = rows
      go None e =
          let parts = both_none (word_fault s names w.is_trailing w.waiting word w.held) _ e in
          step_filled w word met.0 met.1 parts.1 (word_filled w.is_trailing w.waiting w.position word w.held parts.0 rows)

  walk_filled : (words : List Text) (w : Walk) → walk_fault s names w words ≡ [] → Filled w.held.rows
      → Filled (fold (walked s.rules names) w words).held.rows
  unfolding walk_fault
  walk_filled [] w none rows = rows
  walk_filled (word ∷ rest) w none rows =
      let parts = both_none (turn_fault s names w word) _ none in
      walk_filled rest (walked s.rules names w word) parts.1 (turn_filled w word parts.0 rows)

-- ---- no call for help

-- the walk hasn't stopped at `help`
abbrev IsNoHelp : Option (Text × List Text) → Type 0
IsNoHelp None = Unit {0}
IsNoHelp (Some p) = ¬ (p.0 ≡ codes "help")

abbrev AsksNoHelp : Step → Type 0
AsksNoHelp (subcommand name) = ¬ (name ≡ codes "help")
AsksNoHelp _ = Unit {0}

module _ (c : List Rule) where
  plain_asks : (waiting : Waiting) (word : Text) (h : Held) → AsksNoHelp (plain_word c waiting word h).1
  plain_asks idle word h = tt
  plain_asks positional word h = tt
  plain_asks (option id) word h = tt

  after_asks : (waiting : Waiting) (word : Text) (h : Held) (o : Outcome) → AsksNoHelp (after_flag c waiting word h o).1
  after_asks waiting word h done = tt
  after_asks waiting word h (waits id) = tt
  after_asks waiting word h plain = plain_asks waiting word h
  after_asks waiting word h refused = plain_asks waiting word h

  other_asks : (waiting : Waiting) (word : Text) (o : Option (Text × Option Text)) (h : Held) → AsksNoHelp (long_or_other c waiting word o h).1
  other_asks waiting word (Some p) h =
      after_asks waiting word (long_met c (arg_by_long c p.0) p.1 h).0 (long_met c (arg_by_long c p.0) p.1 h).1
  other_asks waiting word None h = go (short_of word)
    where
      go : (o : Option Text) → AsksNoHelp (short_or_plain c waiting word o h).1
      go None = plain_asks waiting word h
      go (Some flags) = after_asks waiting word (bundle c flags h).0 (bundle c flags h).1

module _ (s : Shape) (names : Names) (helps : s.disable_help_subcommand ≡ false) where
  help_met : (name word : Text) (h : Held) → other_fault s (Some name) word h ≡ [] → ¬ (name ≡ codes "help")
  help_met name word h none is =
      let bad = rw (is, helps) at none in
      absurd (some_kind _ _ bad)

  word_asks : (is_trailing : Bool) (waiting : Waiting) (position : ℕ) (word : Text) (h : Held) → word_fault s names is_trailing waiting word h ≡ []
      → AsksNoHelp (word_met s.rules names is_trailing waiting position word h).1
  word_asks true waiting position word h none = tt
  word_asks false waiting position word h none = go (subcommand_met names waiting word) none
    where
      dashes : (b : Bool) → AsksNoHelp (cond b (h, trailing position) (long_or_other s.rules waiting word (long_of word) h)).1
      dashes true = tt
      dashes false = other_asks s.rules waiting word (long_of word) h

      go : (o : Option Text) → other_fault s o word h ≡ [] → AsksNoHelp (subcommand_or_other s.rules o waiting position word h).1
      go (Some name) e = help_met name word h e
      go None e = dashes (bytes_eq word (45 ∷ 45 ∷ []))

  step_asks : (w : Walk) (word : Text) (h : Held) (step : Step) → IsNoHelp w.stopped → AsksNoHelp step → IsNoHelp (after_step s.rules word w h step).stopped
  step_asks w word h (next waiting) before asks = before
  step_asks w word h (trailing position) before asks = before
  step_asks w word h (subcommand name) before asks = asks
  step_asks w word h value before asks = go (arg_by_index s.rules w.position)
    where
      go : (o : Option Rule) → IsNoHelp (to_positional s.rules o word w h).stopped
      go None = before
      go (Some a) = tt

  turn_asks : (w : Walk) (word : Text) → turn_fault s names w word ≡ [] → IsNoHelp w.stopped → IsNoHelp (walked s.rules names w word).stopped
  unfolding walked
  turn_asks w word none before = go w.stopped before none
    where
      met : Held × Step
      met = word_met s.rules names w.is_trailing w.waiting w.position word w.held

      go : (o : Option (Text × List Text)) → IsNoHelp o
          → cond (is_some o) [] (or_else (word_fault s names w.is_trailing w.waiting word w.held) (step_fault s w.position met.0 met.1)) ≡ []
          → IsNoHelp (walked_from s.rules names o w word).stopped
      go (Some p) asks e = asks
      go None asks e =
          let parts = both_none (word_fault s names w.is_trailing w.waiting word w.held) _ e in
          step_asks w word met.0 met.1 before (word_asks w.is_trailing w.waiting w.position word w.held parts.0)

  walk_asks : (words : List Text) (w : Walk) → walk_fault s names w words ≡ [] → IsNoHelp w.stopped → IsNoHelp (fold (walked s.rules names) w words).stopped
  unfolding walk_fault
  walk_asks [] w none before = before
  walk_asks (word ∷ rest) w none before =
      let parts = both_none (turn_fault s names w word) _ none in
      walk_asks rest (walked s.rules names w word) parts.1 (turn_asks w word parts.0 before)

-- ---- a level

module _ (s : Shape) (names : Names) (words : List Text) (has : Bool) (below : Kinds) where
  record HasNoFault : Type 0 where
    walk_passes : walk_fault s names (walk_from nothing_held) words ≡ []
    entered_passes : below ≡ []
    settled_passes : settle_fault s.rules s.args_override_self (walk s.rules names nothing_held words).held ≡ []
    passes : check_fault s (finished s.rules (walk s.rules names nothing_held words).held) has ≡ []

  level_passes : level_fault s names nothing_held words has below ≡ [] → HasNoFault
  level_passes none =
      let end = (walk s.rules names nothing_held words).held in
      let first = both_none (walk_fault s names (walk_from nothing_held) words) _ none in
      let second = both_none below _ first.1 in
      let third = both_none (settle_fault s.rules s.args_override_self end) _ second.1 in
      let fourth = both_none (defaults_fault (settled s.rules end).rows s.rules) _ third.1 in
      record { walk_passes = first.0; entered_passes = second.0; settled_passes = third.0; passes = fourth.1 }

-- defaults leave each row with a value
defaults_filled : (c : List Rule) (rows : List Row) → Filled rows → Filled (fold with_default rows c)
defaults_filled [] rows there = there
defaults_filled (a ∷ rest) rows there =
    defaults_filled rest (with_default rows a) (go (has_row a.id rows) a.defaults)
  where
    go : (b : Bool) (values : List Text) → Filled (cond b rows (default_rows a.id (reading_by a) values rows))
    go true values = there
    go false [] = there
    go false (v ∷ vs) =
        filled_at a.id (more_values DefaultValue (v ∷ vs)) _ rows (λ r there. (longer r.values (v ∷ vs) there, tt)) (omega arith, tt) there

leaf_filled : (s : Shape) (words : List Text) → ArePlain s.rules → level_fault s [] nothing_held words false [] ≡ []
    → Filled (rows_after s.rules [] words) × (check_fault s (rows_after s.rules [] words) false ≡ [])
leaf_filled s words all none =
    let level = level_passes s [] words false [] none in
    let end = (walk s.rules [] nothing_held words).held in
    let held = walk_filled s [] all words (walk_from nothing_held) level.walk_passes tt in
    (defaults_filled s.rules (settled s.rules end).rows (settled_filled s.rules s.args_override_self all end level.settled_passes held), level.passes)

-- ---- the commands

one_given : (given rest : Bool) → check_kinds false false (not given || rest) ≡ [] → given ≡ true
one_given true rest none = refl
one_given false rest none = absurd (some_kind _ _ none)

two_given : (a b rest : Bool) → check_kinds false false (not a || (not b || rest)) ≡ [] → (a ≡ true) × (b ≡ true)
two_given true true rest none = (refl, refl)
two_given true false rest none = absurd (some_kind _ _ none)
two_given false b rest none = absurd (some_kind _ _ none)

-- what is wanted of a leaf that asks for nothing more was given, and has a value
module _ (words : List Text) (s : Shape) (all : ArePlain s.rules) (none : level_fault s [] nothing_held words false [] ≡ []) (rest : Bool) where
  one_there : (id : Text)
      → check_fault s (rows_after s.rules [] words) false ≡ check_kinds false false (not (is_given id (rows_after s.rules [] words)) || rest)
      → IsSome (first_of id (rows_after s.rules [] words))
  one_there id wants =
      let filled = leaf_filled s words all none in
      given_first id _ filled.0 (one_given (is_given id (rows_after s.rules [] words)) rest (sym wants ∙ filled.1))

  two_there : (a b : Text) → check_fault s (rows_after s.rules [] words) false
      ≡ check_kinds false false (not (is_given a (rows_after s.rules [] words)) || (not (is_given b (rows_after s.rules [] words)) || rest))
      → IsSome (first_of a (rows_after s.rules [] words)) × IsSome (first_of b (rows_after s.rules [] words))
  two_there a b wants =
      let rows = rows_after s.rules [] words in
      let filled = leaf_filled s words all none in
      let given = two_given (is_given a rows) (is_given b rows) rest (sym wants ∙ filled.1) in
      (given_first a rows filled.0 given.0, given_first b rows filled.0 given.1)

-- the line of a command as the program builds it
abbrev leaf : App → Shape
leaf line = built_leaf (inherited (on_top with_leaf_noted (on_top marked_built program)).top line.top)

abbrev IsWholeAt : List Text → Shape → Type 0
IsWholeAt words s = level_fault s [] nothing_held words false [] ≡ [] → AreWhole (Some (rows_at s words))

canon_whole : (words : List Text) → IsWholeAt words (leaf canon_line)
canon_whole words none =
    let all : ArePlain (leaf canon_line).rules =
    (inl (refl, omega arith), (inl (refl, omega arith), (inl (refl, omega arith), (inr (inl (refl, omega arith)), (inr (inr refl), tt))))) in
    inl (Canon Placed, refl, one_there words (leaf canon_line) all none _ (codes "FILE") refl)

show_whole : (words : List Text) → IsWholeAt words (leaf show_line)
show_whole words none =
    let all : ArePlain (leaf show_line).rules = (inl (refl, omega arith), (inl (refl, omega arith), (inr (inl (refl, omega arith)), (inr (inr refl), tt)))) in
    inl (Show, refl, one_there words (leaf show_line) all none _ (codes "FILE") refl)

step_whole : (words : List Text) → IsWholeAt words (leaf step_line)
step_whole words none =
    let all : ArePlain (leaf step_line).rules =
    (inl (refl, omega arith), (inl (refl, omega arith), (inl (refl, omega arith), (inr (inl (refl, omega arith)), (inr (inr refl), tt))))) in
    inl (StepTask, refl, one_there words (leaf step_line) all none _ (codes "FILE") refl)

convert_whole : (words : List Text) → IsWholeAt words (leaf convert_line)
convert_whole words none =
    let all : ArePlain (leaf convert_line).rules =
    (inl (refl, omega arith), (inl (refl, omega arith), (inr (inl (refl, omega arith)), (inr (inr refl), tt)))) in
    inl (Convert Rle, refl, two_there words (leaf convert_line) all none _ (codes "FILE") (codes "to") refl)

same_whole : (words : List Text) → IsWholeAt words (leaf same_line)
same_whole words none =
    let all : ArePlain (leaf same_line).rules = (
      inl (refl, omega arith),
      (
        inl (refl, omega arith),
        (
          inl (refl, omega arith),
          (
            inl (refl, omega arith),
            (inr (inl (refl, omega arith)), (inr (inr refl), tt)),
          ),
        ),
      ),
    ) in
    inl (Same Placed, refl, two_there words (leaf same_line) all none _ (codes "A") (codes "B") refl)

keys_whole : (words : List Text) → IsWholeAt words (leaf keys_line)
keys_whole words none = inr (inl refl)

duplicates_whole : (words : List Text) → IsWholeAt words (leaf (files_line (codes "duplicates")))
duplicates_whole words none = inr (inr refl)

-- ---- the program

abbrev AreWholeAt : Text → List Text → List Shape → Type 0
AreWholeAt name words [] = Unit {0}
AreWholeAt name words (s ∷ rest) = (answers_to name (label_of s) ≡ true → IsWholeAt words s) × AreWholeAt name words rest

found_whole : (name : Text) (words : List Text) (subs : List Shape) → AreWholeAt name words subs
    → is_some (option_map (λ s. rows_at s words) (find (λ s. answers_to name (label_of s)) subs)) ≡ true
    → option_map_or (λ s. level_fault s [] nothing_held words false []) (find (λ s. answers_to name (label_of s)) subs) [] ≡ []
    → AreWhole (option_map (λ s. rows_at s words) (find (λ s. answers_to name (label_of s)) subs))
found_whole name words [] whole there none = absurd cc
found_whole name words (s ∷ rest) whole there none = go (answers_to name (label_of s)) refl (found_whole name words rest whole.1) there none
  where
    others : Option Shape
    others = find (λ (s : Shape). answers_to name (label_of s)) rest

    go : (b : Bool) → answers_to name (label_of s) ≡ b
        → (is_some (option_map (λ s. rows_at s words) others) ≡ true → option_map_or (λ s. level_fault s [] nothing_held words false []) others [] ≡ []
        → AreWhole (option_map (λ s. rows_at s words) others))
        → is_some (option_map (λ s. rows_at s words) (cond b (Some s) others)) ≡ true
        → option_map_or (λ s. level_fault s [] nothing_held words false []) (cond b (Some s) others) [] ≡ []
        → AreWhole (option_map (λ s. rows_at s words) (cond b (Some s) others))
    go true is later some e = whole.0 is e
    go false is later some e = later some e

is_help : (name : Text) → ¬ (name ≡ codes "help") → ¬ (answers_to name (codes "help", []) ≡ true)
is_help name other is = go (bytes_eq (codes "help") name) refl is
  where
    go : (b : Bool) → bytes_eq (codes "help") name ≡ b → (b || false) ≡ true → ⊥
    go true same e = other (sym ((bytes_eq-Decides (codes "help") name).0 same))
    go false same e = absurd cc

subs_whole : (name : Text) (words : List Text) → ¬ (name ≡ codes "help") → AreWholeAt name words (built program).subs
subs_whole name words other = (
  (λ is. canon_whole words),
  (
    (λ is. convert_whole words),
    (
      (λ is. same_whole words),
      (
        (λ is. show_whole words),
        (
          (λ is. step_whole words),
          ((λ is. keys_whole words), ((λ is. duplicates_whole words), ((λ is. absurd (is_help name other is)), tt))),
        ),
      ),
    ),
  ),
)

entered_whole : (stop : Option (Text × List Text)) → IsNoHelp stop → is_some (entered (built program) stop) ≡ true
    → entered_fault (built program) stop ≡ [] → AreWhole (entered (built program) stop)
entered_whole None other there none = absurd cc
entered_whole (Some p) other there none = found_whole p.0 p.1 (built program).subs (subs_whole p.0 p.1 other) there none

entered_there : (rows : List Row) (there : Bool) → check_fault (built program).top rows there ≡ [] → there ≡ true
entered_there rows true none = refl
entered_there rows false none = absurd (some_kind _ _ none)

-- words without a fault are those of a command, with what it wants
pub whole : (words : List Text) → fault_of program words ≡ [] → AreWhole (subcommand_of program words)
whole words none =
    let app = built program in
    let given = argument_words program words in
    let end = walk app.top.rules (names_of app) nothing_held given in
    let level = level_passes app.top (names_of app) given (is_some (entered app end.stopped)) (entered_fault app end.stopped) none in
    let other = walk_asks app.top (names_of app) refl given (walk_from nothing_held) level.walk_passes tt in
    let there = entered_there (finished app.top.rules end.held) (is_some (entered app end.stopped)) level.passes in
    entered_whole end.stopped other there level.entered_passes
