-- What the matches of a task's command are, why it is refused, and what its plan holds.
use Rattle.std.proofs.Common.{◌≡◌, ◌≢◌, ◌⊎◌, ◌∙◌, true, false, codes, refl, [], List, Option, Some, None, ℕ, arith, unwrap_or, option_map, Result, IfOk, IfErr, OnOk, Ok, Err, ap, ap₂, sym, subst, inl, inr}
use Rattle.std.proofs.lemmas.Bool.{false≢true}
use Rattle.std.proofs.lemmas.Result.{IfOk-weaker, IfErr-weaker}
use Rattle.std.specs.Str.{bytes_eq}
use Rattle.life_base.specs.Numbers.{u64_of}
use Rattle.clap.specs.Words.{Row, Text, first_of, found_of, rows_of, subcommand_name_of, subcommand_rows_of}
use Rattle.clap.specs.declared.parser.matches.ArgMatches.{ArgMatches}
use Rattle.clap.specs.declared.parser.matches.ArgMatches.TheViews.{out-ArgMatches, out-SubCommand}
use Rattle.std.specs.Box.{box_value}
use Rattle.command_line.proofs.MatchesLemmas.{has_none}
use Rattle.command_line.specs.Plans.{AreOfTask, AreWhole, Explains, HasNoForm, HasNoFormat, HasNoMost, HasNoNumber, HasNoPeriod, HasOneFile, HasRequired, HasStrayWithin, HoldsFiles, HoldsFlag, HoldsForm, HoldsGenerations, HoldsMatches, HoldsMost, HoldsPeriod, HoldsWithin, IsFoundAmong, IsTaskPlanOf, LacksFiles, NamesInputTwice, NamesNoFiles, NamesNoForm, NamesNoFormat, NamesNoNumber, NamesNoPeriod, NamesNoValue, RefusesKeys, RefusesStream, RefusesWord, TakesAnyFiles, command_of, form_word, target_word}
use Rattle.life_base.specs.declared.form.Form.{Form}
use Rattle.life_base.specs.declared.form.Form.TheVariants.{Placed, Moved, Turned, Phases}
use Rattle.command_line.specs.declared.plans.Target.{Target}
use Rattle.command_line.specs.declared.plans.Task.{Task}
use Rattle.command_line.specs.declared.plans.Task.TheVariants.{Canon, Convert, Same, Show, ShowPeriod, Step, StepTable, Later, LaterTable}
use Rattle.command_line.specs.declared.plans.TaskPlan.{TaskPlan}
use Rattle.command_line.specs.declared.plans.Usage.{Usage}
use Rattle.command_line.specs.declared.plans.Usage.TheVariants.{Words, TwoInputs, Memory}

some_of : (a b : Text) → Some a ≡ Some b → a ≡ b
some_of a b e = ap (λ (o : Option Text). unwrap_or o a) e

-- two literal words differ where the test computes so
pub apart : (a b : Text) → bytes_eq a a ≡ true → bytes_eq a b ≡ false → a ≢ b
apart a b same other is = false≢true (sym other ∙ ap (bytes_eq a) (sym is) ∙ same)

file_of_task : (task : Task) (rows : List Row) → command_of task ≢ codes "same" → HasRequired task rows → IsFoundAmong (codes "FILE") rows
file_of_task (Canon form) rows other h = h
file_of_task (Convert target) rows other h = h.0
file_of_task (Same form) rows other h = absurd (other refl)
file_of_task Show rows other h = h
file_of_task (ShowPeriod most) rows other h = h
file_of_task Step rows other h = h
file_of_task StepTable rows other h = h
file_of_task (Later n) rows other h = h
file_of_task (LaterTable n) rows other h = h

-- each task but `same` has the file FILE
pub file_of : (x command : Text) (rows : List Row) → bytes_eq x x ≡ true → bytes_eq x (codes "same") ≡ false → command ≡ x → AreOfTask (Some (command, rows))
    → IsFoundAmong (codes "FILE") rows
file_of x command rows same other is h = file_of_task h.0 rows (λ e. apart x (codes "same") same other (sym is ∙ h.1 ∙ e)) h.2

-- `convert` has --to
pub format_of : (command : Text) (rows : List Row) → command ≡ codes "convert" → AreOfTask (Some (command, rows)) → IsFoundAmong (codes "to") rows
format_of command rows is (Canon form, named, h) = absurd (apart (codes "canon") (codes "convert") refl refl (sym named ∙ is))
format_of command rows is (Convert target, named, h) = h.1
format_of command rows is (Same form, named, h) = absurd (apart (codes "same") (codes "convert") refl refl (sym named ∙ is))
format_of command rows is (Show, named, h) = absurd (apart (codes "show") (codes "convert") refl refl (sym named ∙ is))
format_of command rows is (ShowPeriod most, named, h) = absurd (apart (codes "show") (codes "convert") refl refl (sym named ∙ is))
format_of command rows is (Step, named, h) = absurd (apart (codes "step") (codes "convert") refl refl (sym named ∙ is))
format_of command rows is (StepTable, named, h) = absurd (apart (codes "step") (codes "convert") refl refl (sym named ∙ is))
format_of command rows is (Later n, named, h) = absurd (apart (codes "step") (codes "convert") refl refl (sym named ∙ is))
format_of command rows is (LaterTable n, named, h) = absurd (apart (codes "step") (codes "convert") refl refl (sym named ∙ is))

-- `same` has A and B
pub pair_of : (command : Text) (rows : List Row) → command ≡ codes "same" → AreOfTask (Some (command, rows))
    → IsFoundAmong (codes "A") rows × IsFoundAmong (codes "B") rows
pair_of command rows is (Canon form, named, h) = absurd (apart (codes "canon") (codes "same") refl refl (sym named ∙ is))
pair_of command rows is (Convert target, named, h) = absurd (apart (codes "convert") (codes "same") refl refl (sym named ∙ is))
pair_of command rows is (Same form, named, h) = h
pair_of command rows is (Show, named, h) = absurd (apart (codes "show") (codes "same") refl refl (sym named ∙ is))
pair_of command rows is (ShowPeriod most, named, h) = absurd (apart (codes "show") (codes "same") refl refl (sym named ∙ is))
pair_of command rows is (Step, named, h) = absurd (apart (codes "step") (codes "same") refl refl (sym named ∙ is))
pair_of command rows is (StepTable, named, h) = absurd (apart (codes "step") (codes "same") refl refl (sym named ∙ is))
pair_of command rows is (Later n, named, h) = absurd (apart (codes "step") (codes "same") refl refl (sym named ∙ is))
pair_of command rows is (LaterTable n, named, h) = absurd (apart (codes "step") (codes "same") refl refl (sym named ∙ is))

-- a task's command is one of these five
pub no_other : (command : Text) (rows : List Row) → command ≢ codes "canon" → command ≢ codes "convert" → command ≢ codes "same" → command ≢ codes "show"
    → command ≢ codes "step" → ¬ AreOfTask (Some (command, rows))
no_other command rows canon convert same show step (Canon form, named, h) = canon named
no_other command rows canon convert same show step (Convert target, named, h) = convert named
no_other command rows canon convert same show step (Same form, named, h) = same named
no_other command rows canon convert same show step (Show, named, h) = show named
no_other command rows canon convert same show step (ShowPeriod most, named, h) = show named
no_other command rows canon convert same show step (Step, named, h) = step named
no_other command rows canon convert same show step (StepTable, named, h) = step named
no_other command rows canon convert same show step (Later n, named, h) = step named
no_other command rows canon convert same show step (LaterTable n, named, h) = step named

-- the plan of a task over one file
pub over_one : (command : Text) (rows : List Row) (task : Task) (r : Result TaskPlan Usage) → command ≡ command_of task
    → ((p : TaskPlan) → HasOneFile rows p → HoldsMatches task rows p)
    → IfOk r (λ p. (p.task ≡ task) × HasOneFile rows p × HoldsFlag (codes "explain") rows p.explain) → IfOk r (IsTaskPlanOf (Some (command, rows)))
over_one command rows task r is holds =
    IfOk-weaker r _ (IsTaskPlanOf (Some (command, rows)))
    (λ p h. (is ∙ ap command_of (sym h.0), subst (λ (t : Task). HoldsMatches t rows p) (sym h.0) (holds p h.1), h.2))

-- the plan of a task over two files
pub over_two : (command first second : Text) (rows : List Row) (task : Task) (r : Result TaskPlan Usage) → command ≡ command_of task
    → ((p : TaskPlan) → HoldsFiles first second rows p → HoldsMatches task rows p)
    → IfOk r (λ p. (p.task ≡ task) × HoldsFiles first second rows p × HoldsFlag (codes "explain") rows p.explain)
    → IfOk r (IsTaskPlanOf (Some (command, rows)))
over_two command first second rows task r is holds =
    IfOk-weaker r _ (IsTaskPlanOf (Some (command, rows)))
    (λ p h. (is ∙ ap command_of (sym h.0), subst (λ (t : Task). HoldsMatches t rows p) (sym h.0) (holds p h.1), h.2))

-- a greatest period that is held is named by a word that isn't 0, and isn't no number
most_is_held : (id : Text) (rows : List Row) (most : Option ℕ) → HoldsMost id rows most → ¬ HasNoMost id rows
most_is_held id rows None none (word, found, no_most) = absurd cc
most_is_held id rows (Some n) (named, there, is, some) (word, found, no_most) =
    let same : named ≡ word = some_of named word (sym there ∙ found) in
    let zero : n ≡ 0 = no_most n (ap u64_of (sym same) ∙ is) in
    omega (arith, some, zero)

-- where none was asked for, --within is neither at fault nor for another form
unasked : (rows : List Row) → first_of (codes "within") rows ≡ None → ¬ (HasNoMost (codes "within") rows ⊎ HasStrayWithin rows)
unasked rows none (inl no_most) = most_is_held (codes "within") rows None none no_most
unasked rows none (inr stray) = has_none (first_of (codes "within") rows) none stray.0

-- and where it is for `phases`, it isn't at fault
asked : (rows : List Row) (form : Form) → first_of (codes "form") rows ≡ Some (form_word form) → HoldsWithin rows form
    → ¬ (HasNoMost (codes "within") rows ⊎ HasStrayWithin rows)
asked rows Placed named none h = unasked rows none h
asked rows Moved named none h = unasked rows none h
asked rows Turned named none h = unasked rows none h
asked rows (Phases most) named (inl held) (inl no_most) = most_is_held (codes "within") rows (Some most) held no_most
asked rows (Phases most) named (inl held) (inr stray) = stray.1 named
asked rows (Phases most) named (inr (none, is)) h = unasked rows none h

-- a form that is held is named by a word that isn't that of no form, with its greatest period
pub form_is_held : (default : Form) (rows : List Row) (form : Form) → HoldsForm default rows form → ¬ HasNoForm rows
form_is_held default rows form (inl (none, is, no_within)) (inl (word, found, no_form)) = absurd cc
form_is_held default rows form (inl (none, is, no_within)) (inr h) = unasked rows no_within h
form_is_held default rows form (inr (named, within)) (inl (word, found, no_form)) = no_form form cc
form_is_held default rows form (inr (named, within)) (inr h) = asked rows form named within h

-- and a format by a word that isn't that of no format
pub format_is_held : (rows : List Row) (target : Target) → first_of (codes "to") rows ≡ Some (target_word target) → ¬ HasNoFormat rows
format_is_held rows target named (word, found, no_format) = no_format target cc

-- and a number of generations by a word that isn't no number
pub number_is_held : (rows : List Row) (generations : Option ℕ) → HoldsGenerations rows generations → ¬ HasNoNumber rows
number_is_held rows None none (word, found, no_number) = absurd cc
number_is_held rows (Some n) (named, there, is) (word, found, no_number) =
    let same : named ≡ word = some_of named word (sym there ∙ found) in
    no_number n (ap u64_of (sym same) ∙ is)

-- and so is the greatest period of `show`
pub period_is_held : (rows : List Row) (most : Option ℕ) → HoldsPeriod rows most → ¬ HasNoPeriod rows
period_is_held rows most held = most_is_held (codes "period") rows most held

-- no other command than `show` has a greatest period
takes_no_period : (x command : Text) (rows : List Row) → bytes_eq x x ≡ true → bytes_eq x (codes "show") ≡ false → command ≡ x
    → ¬ NamesNoPeriod (Some (command, rows))
takes_no_period x command rows same other is named = apart x (codes "show") same other (sym is ∙ named.0)

-- no other command than `step` has a number of generations
takes_no_number : (x command : Text) (rows : List Row) → bytes_eq x x ≡ true → bytes_eq x (codes "step") ≡ false → command ≡ x
    → ¬ NamesNoNumber (Some (command, rows))
takes_no_number x command rows same other is named = apart x (codes "step") same other (sym is ∙ named.0)

-- no other command than `convert` has a format
pub takes_no_format : (x command : Text) (rows : List Row) → bytes_eq x x ≡ true → bytes_eq x (codes "convert") ≡ false → command ≡ x
    → ¬ NamesNoFormat (Some (command, rows))
takes_no_format x command rows same other is named = apart x (codes "convert") same other (sym is ∙ named.0)

-- a command that is none of these four has no form
pub takes_no_form : (x command : Text) (rows : List Row) → bytes_eq x x ≡ true → bytes_eq x (codes "canon") ≡ false → bytes_eq x (codes "same") ≡ false
    → bytes_eq x (codes "keys") ≡ false → bytes_eq x (codes "duplicates") ≡ false → command ≡ x → ¬ NamesNoForm (Some (command, rows))
takes_no_form x command rows same canon pair keys groups is (inl e, word) = apart x (codes "canon") same canon (sym is ∙ e)
takes_no_form x command rows same canon pair keys groups is (inr (inl e), word) = apart x (codes "same") same pair (sym is ∙ e)
takes_no_form x command rows same canon pair keys groups is (inr (inr (inl e)), word) = apart x (codes "keys") same keys (sym is ∙ e)
takes_no_form x command rows same canon pair keys groups is (inr (inr (inr e)), word) = apart x (codes "duplicates") same groups (sym is ∙ e)

-- none of the four words is at fault
no_value : (m : Option (Text × List Row)) → (¬ NamesNoFormat m) → (¬ NamesNoForm m) → (¬ NamesNoNumber m) → (¬ NamesNoPeriod m) → ¬ NamesNoValue m
no_value m format form number period (inl h) = format h
no_value m format form number period (inr (inl h)) = form h
no_value m format form number period (inr (inr (inl h))) = number h
no_value m format form number period (inr (inr (inr h))) = period h

out_of_memory : (m : Text × List Row) (usage : Usage) → AreOfTask (Some m) → (¬ NamesNoValue (Some m)) → (¬ NamesInputTwice (Some m)) → usage ≡ Memory
    → Explains [] (Some m) usage
out_of_memory m usage task value once is = subst (Explains [] (Some m)) (sym is) (refl, task, value, once)

-- all that was left was to copy the names of the files
pub no_memory : (m : Text × List Row) (x : Text) (r : Result TaskPlan Usage) → bytes_eq x x ≡ true → bytes_eq x (codes "step") ≡ false
    → bytes_eq x (codes "show") ≡ false → m.0 ≡ x → AreOfTask (Some m) → (¬ NamesNoFormat (Some m)) → (¬ NamesNoForm (Some m))
    → (¬ NamesInputTwice (Some m)) → IfErr r (λ usage. usage ≡ Memory) → IfErr r (Explains [] (Some m))
no_memory m x r same other unlike named task format form once =
    let number = takes_no_number x m.0 m.1 same other named in
    let period = takes_no_period x m.0 m.1 same unlike named in
    IfErr-weaker r _ (Explains [] (Some m)) (λ usage is. out_of_memory m usage task (no_value (Some m) format form number period) once is)

-- a word at fault explains the refusal
pub word_explains : (m : Text × List Row) (is_such : Type 0) (usage : Usage) → (is_such → NamesNoValue (Some m))
    → (¬ NamesInputTwice (Some m)) → RefusesWord is_such usage → Explains [] (Some m) usage
word_explains m is_such (Words error) names once (inl h) = inr (inr (inl (refl, names h.0, once, h.1)))
word_explains m is_such (Words error) names once (inr out) = inl out
word_explains m is_such TwoInputs names once h = absurd h
word_explains m is_such Memory names once h = absurd h

-- and so does the lack of files
pub files_explain : (m : Text × List Row) (usage : Usage) → TakesAnyFiles m.0 → (LacksFiles m.1 → NamesNoFiles (Some m)) → (¬ NamesInputTwice (Some m))
    → RefusesKeys m.1 usage → Explains [] (Some m) usage
files_explain m (Words error) takes names once (inl (inl h)) = inr (inr (inr (inl (refl, names h.0, once, h.1))))
files_explain m (Words error) takes names once (inl (inr out)) = inl out
files_explain m TwoInputs takes names once (inl h) = absurd h
files_explain m Memory takes names once (inl h) = absurd h
files_explain m usage takes names once (inr h) = word_explains m (HasNoForm m.1) usage (λ word. inr (inl (inr (inr takes), word))) once h

-- and so do files besides a stream
pub stream_explains : (m : Text × List Row) (usage : Usage) → m.0 ≡ codes "keys" → IsFoundAmong (codes "stream") m.1 → (¬ NamesInputTwice (Some m))
    → RefusesStream m.1 usage → Explains [] (Some m) usage
stream_explains m (Words error) is found once (inl (inl h)) = inr (inr (inr (inr (refl, (is, found, h.0), once, h.1))))
stream_explains m (Words error) is found once (inl (inr out)) = inl out
stream_explains m TwoInputs is found once (inl h) = absurd h
stream_explains m Memory is found once (inl h) = absurd h
stream_explains m usage is found once (inr h) = word_explains m (HasNoForm m.1) usage (λ word. inr (inl (inr (inr (inl is)), word))) once h

-- why `step` has no plan: the word after --generations, or no memory for the names of the files
step_usage : (m : Text × List Row) (usage : Usage) → m.0 ≡ codes "step" → AreOfTask (Some m) → (¬ NamesNoFormat (Some m)) → (¬ NamesNoForm (Some m))
    → (¬ NamesInputTwice (Some m)) → RefusesWord (HasNoNumber m.1) usage ⊎ ((usage ≡ Memory) × ¬ HasNoNumber m.1) → Explains [] (Some m) usage
step_usage m usage is task format form once (inl h) = word_explains m (HasNoNumber m.1) usage (λ word. inr (inr (inl (is, word)))) once h
step_usage m usage is task format form once (inr (none, held)) =
    out_of_memory m usage task
    (no_value (Some m) format form (λ named. held named.1) (takes_no_period (codes "step") m.0 m.1 refl refl is)) once none

pub step_explains : (m : Text × List Row) (r : Result TaskPlan Usage) → m.0 ≡ codes "step" → AreOfTask (Some m) → (¬ NamesNoFormat (Some m))
    → (¬ NamesNoForm (Some m)) → (¬ NamesInputTwice (Some m))
    → IfErr r (λ usage. RefusesWord (HasNoNumber m.1) usage ⊎ ((usage ≡ Memory) × ¬ HasNoNumber m.1)) → IfErr r (Explains [] (Some m))
step_explains m r is task format form once =
    IfErr-weaker r _ (Explains [] (Some m)) (λ usage h. step_usage m usage is task format form once h)

-- and why `show` has none: the word after --period, or no memory
show_usage : (m : Text × List Row) (usage : Usage) → m.0 ≡ codes "show" → AreOfTask (Some m) → (¬ NamesNoFormat (Some m)) → (¬ NamesNoForm (Some m))
    → (¬ NamesInputTwice (Some m)) → RefusesWord (HasNoPeriod m.1) usage ⊎ ((usage ≡ Memory) × ¬ HasNoPeriod m.1) → Explains [] (Some m) usage
show_usage m usage is task format form once (inl h) = word_explains m (HasNoPeriod m.1) usage (λ word. inr (inr (inr (is, word)))) once h
show_usage m usage is task format form once (inr (none, held)) =
    out_of_memory m usage task
    (no_value (Some m) format form (takes_no_number (codes "show") m.0 m.1 refl refl is) (λ named. held named.1)) once none

pub show_explains : (m : Text × List Row) (r : Result TaskPlan Usage) → m.0 ≡ codes "show" → AreOfTask (Some m) → (¬ NamesNoFormat (Some m))
    → (¬ NamesNoForm (Some m)) → (¬ NamesInputTwice (Some m))
    → IfErr r (λ usage. RefusesWord (HasNoPeriod m.1) usage ⊎ ((usage ≡ Memory) × ¬ HasNoPeriod m.1)) → IfErr r (Explains [] (Some m))
show_explains m r is task format form once =
    IfErr-weaker r _ (Explains [] (Some m)) (λ usage h. show_usage m usage is task format form once h)

-- a command over any number of files is one of these two
pub task_left : (m : Text × List Row) → m.0 ≢ codes "keys" → m.0 ≢ codes "duplicates" → AreWhole (Some m) → AreOfTask (Some m)
task_left m keys groups (inl h) = h
task_left m keys groups (inr (inl e)) = absurd (keys e)
task_left m keys groups (inr (inr e)) = absurd (groups e)

both : {X A B : Type 0} (h : X → A × B) (o : Option X) (a : A) (b : B) → Some a ≡ option_map (λ x. (h x).0) o
    → Some b ≡ option_map (λ (p : A × B). p.1) (option_map h o) → option_map h o ≡ Some (a, b)
both h None a b first second = absurd cc
both h (Some x) a b first second =
    let left : (h x).0 ≡ a = cc in
    let right : (h x).1 ≡ b = cc in
    ap₂ (λ c d. Some (c, d)) left right

neither : {X A B : Type 0} (f : X → A) (h : X → B) (o : Option X) → None ≡ option_map f o → option_map h o ≡ None
neither f h None none = refl
neither f h (Some x) none = absurd cc

-- the matches of the command that was named
pub entered : (m : ArgMatches) (name : Text) (rows : List Row) → Some name ≡ subcommand_name_of m
    → Some rows ≡ option_map (λ (p : Text × List Row). p.1) (subcommand_rows_of m) → subcommand_rows_of m ≡ Some (name, rows)
entered m name rows is has =
    both (λ b. ((out-SubCommand (box_value b)).name.now, rows_of (found_of (out-SubCommand (box_value b)).matches)))
    (out-ArgMatches m).subcommand name rows is has

not_whole : ¬ AreWhole None
not_whole (inl bad) = absurd bad
not_whole (inr bad) = absurd bad

-- where no command was named, there are none
pub not_entered : (m : ArgMatches) → None ≡ subcommand_name_of m → ¬ AreWhole (subcommand_rows_of m)
not_entered m none whole =
    let rows : subcommand_rows_of m ≡ None = neither (λ b. (out-SubCommand (box_value b)).name.now) _ (out-ArgMatches m).subcommand none in
    not_whole (subst AreWhole rows whole)

-- what holds anyway holds of a result
pub anyway : {X Y : Type 0} (r : Result X Y) (P : Type 0) → P → OnOk r P
anyway (Ok x) P h = h
anyway (Err y) P h = tt
