-- From what the getters of `clap` read to the matches that it states.
use Rattle.std.proofs.Common.{◌≡◌, ◌≢◌, ◌⊎◌, codes, ◌↔◌, ◌+◌, cond, fold, ◌∙◌, option_map, refl, ℕ, Bool, map, count_by, Bor, List, [], ◌∷◌, Option, Some, None, IsSome, IfOk, IfErr, Result, Ok, Err, true, ap, sym, subst, inl, inr, unwrap_or}
use Rattle.clap.specs.Words.{App, Kinds, FailsBy, fault_of, is_simple_and_free, Row, Text, first_of, matched_of, raw_values, rows_of}
use Rattle.clap.specs.declared.parser.matches.Found.{Found}
use Rattle.clap.proofs.WalkLemmas.{raw_values-rows}
use Rattle.clap.specs.declared.error.Error.{Error}
use Rattle.clap.specs.declared.error.kind.ErrorKind.{ErrorKind}
use Rattle.clap.specs.declared.error.kind.ErrorKind.TheVariants.{InvalidSubcommand, InvalidValue}
use Rattle.command_line.specs.Plans.{AreOfAnyFiles, Explains, ExplainsPlan, HasSecond, HoldsForm, HoldsGenerations, HoldsMatches, HoldsPeriod, IfWork, IsKeysPlanOf, IsRequestOf, IsStreamPlanOf, IsFoundAmong, IsTaskPlanOf, NamesGenerations, NamesInputTwice, NamesOtherForm, NamesPeriod, RefusesAs, RefusesWord, TakesAnyFiles, HasNoJob, command_of, form_word, values_of}
use Rattle.life_base.specs.declared.form.Form.{Form}
use Rattle.life_base.specs.declared.form.Form.TheVariants.{Placed}
use Rattle.command_line.specs.declared.plans.KeysPlan.{KeysPlan}
use Rattle.command_line.specs.declared.plans.StreamPlan.{StreamPlan}
use Rattle.command_line.specs.declared.plans.Task.{Task}
use Rattle.command_line.specs.declared.plans.Task.TheVariants.{Canon, Convert, Same, Show, ShowPeriod, Step, StepTable, Later, LaterTable}
use Rattle.command_line.specs.declared.plans.TaskPlan.{TaskPlan}
use Rattle.command_line.specs.declared.plans.Request.{Request}
use Rattle.command_line.specs.declared.plans.Request.TheVariants.{Work, Keys, Stream, Duplicates}
use Rattle.command_line.specs.declared.plans.Usage.{Usage}
use Rattle.command_line.specs.declared.plans.Usage.TheVariants.{Words, TwoInputs, Memory}

pub has_none : {X : Type 0} (o : Option X) → o ≡ None → ¬ IsSome o
has_none None none some = absurd cc
has_none (Some x) none some = absurd cc

-- a plan has a second file exactly if its task does
files_of_task : (task : Task) (rows : List Row) (p : TaskPlan) → HoldsMatches task rows p → IsSome p.second ↔ HasSecond task
files_of_task (Canon form) rows p ((file, none), is) = (λ some. absurd (has_none p.second none some), λ bad. absurd bad)
files_of_task (Convert target) rows p ((file, none), to) = (λ some. absurd (has_none p.second none some), λ bad. absurd bad)
files_of_task (Same form) rows p ((first, second, some), is) = (λ there. tt, λ has. some)
files_of_task Show rows p ((file, none), period) = (λ some. absurd (has_none p.second none some), λ bad. absurd bad)
files_of_task (ShowPeriod most) rows p ((file, none), period) = (λ some. absurd (has_none p.second none some), λ bad. absurd bad)
files_of_task Step rows p ((file, none), table, one) = (λ some. absurd (has_none p.second none some), λ bad. absurd bad)
files_of_task StepTable rows p ((first, second, some), one) = (λ there. tt, λ has. some)
files_of_task (Later n) rows p ((file, none), table, many) = (λ some. absurd (has_none p.second none some), λ bad. absurd bad)
files_of_task (LaterTable n) rows p ((first, second, some), many) = (λ there. tt, λ has. some)

files_of : (matches : Option (Text × List Row)) (p : TaskPlan) → IsTaskPlanOf matches p → IsSome p.second ↔ HasSecond p.task
files_of None p is = absurd is
files_of (Some m) p is = files_of_task p.task m.1 p is.1

files_of_one : (matches : Option (Text × List Row)) (q : Request) → IsRequestOf matches q → IfWork (λ p. IsSome p.second ↔ HasSecond p.task) q
files_of_one matches (Work p) is = files_of matches p is
files_of_one matches (Keys p) is = tt
files_of_one matches (Stream p) is = tt
files_of_one matches (Duplicates p) is = tt

pub files_of_request : (matches : Option (Text × List Row)) (r : Result Request Usage) → IfOk r (IsRequestOf matches)
    → IfOk r (IfWork (λ p. IsSome p.second ↔ HasSecond p.task))
files_of_request matches (Ok q) is = files_of_one matches q is
files_of_request matches (Err u) is = tt

-- the refusal of words of which this holds, and so that
refuses_weaker : {A B : Type 0} (kind : ErrorKind) (usage : Usage) → (A → B) → RefusesAs kind A usage → RefusesAs kind B usage
refuses_weaker kind (Words error) f (inl h) = inl (f h.0, h.1)
refuses_weaker kind (Words error) f (inr out) = inr out
refuses_weaker kind TwoInputs f h = absurd h
refuses_weaker kind Memory f h = absurd h

pub such_as : (kind : ErrorKind) (is_such : Type 0) (usage : Usage) → RefusesAs kind (Unit {0}) usage → is_such → RefusesAs kind is_such usage
such_as kind is_such usage h such = refuses_weaker kind usage (λ any. such) h

-- names that are counted after references
counted_from : (test : List ℕ → Bool) (a : ℕ) (names : List (Bor (List ℕ))) → fold (λ (n : ℕ) (name : Bor (List ℕ)). n + cond (test name.now) 1 0) a names
    ≡ fold (λ (n : ℕ) (name : List ℕ). n + cond (test name) 1 0) a (map (λ name. name.now) names)
counted_from test a [] = refl
counted_from test a (name ∷ names) = counted_from test (a + cond (test name.now) 1 0) names

pub count_behind : (test : List ℕ → Bool) (names : List (Bor (List ℕ))) → count_by (λ name. test name.now) names ≡ count_by test (map (λ name. name.now) names)
count_behind test names = counted_from test 0 names

-- the refusal of a word that is such a one
pub such_word : (is_such : Type 0) (usage : Usage) → RefusesWord (Unit {0}) usage → is_such → RefusesWord is_such usage
such_word is_such usage h such = such_as InvalidValue is_such usage h such

-- the same refusal by other words for the matches, where there is no fault
pub in_matches : {X : Type 0} (faults : Kinds) (found matches : Option (Text × List Row)) (r : Result X Usage) → faults ≡ [] → found ≡ matches
    → IfErr r (Explains [] found) → IfErr r (Explains faults matches)
in_matches faults found matches (Ok x) none same h = tt
in_matches faults found matches (Err u) none same h =
    let here = subst (λ (m : Option (Text × List Row)). Explains [] m u) same h in
    subst (λ (k : Kinds). Explains k matches u) (sym none) here

-- another form than that of a pattern as it lies is one that was asked for
form_found : (rows : List Row) (form : Form) → HoldsForm Placed rows form → form ≢ Placed
    → (f : Form) × (f ≢ Placed) × (first_of (codes "form") rows ≡ Some (form_word f))
form_found rows form (inl (none, placed, no_within)) other = absurd (other placed)
form_found rows form (inr (is, within)) other = (form, other, is)

-- a number of generations is one that was found
number_found : (rows : List Row) (n : ℕ) → HoldsGenerations rows (Some n) → IsFoundAmong (codes "generations") rows
number_found rows n (word, there, number) = subst (λ (found : Option Text). IsSome found) (sym there) refl

-- a greatest period is one that was found
period_found : (rows : List Row) (n : ℕ) → HoldsPeriod rows (Some n) → IsFoundAmong (codes "period") rows
period_found rows n (word, there, number, some) = subst (λ (found : Option Text). IsSome found) (sym there) refl

no_job_named : (task : Task) (m : Text × List Row) (p : TaskPlan) → m.0 ≡ command_of task → HoldsMatches task m.1 p → HasNoJob task
    → NamesOtherForm (Some m) ⊎ (NamesGenerations (Some m) ⊎ NamesPeriod (Some m))
no_job_named (Canon form) m p is (file, held) other = inl (inl is, form_found m.1 form held other)
no_job_named (Convert target) m p is held other = absurd other
no_job_named (Same form) m p is (files, held) other = inl (inr is, form_found m.1 form held other)
no_job_named Show m p is held other = absurd other
no_job_named (ShowPeriod most) m p is (file, period) other = inr (inr (is, period_found m.1 most period))
no_job_named Step m p is held other = absurd other
no_job_named StepTable m p is held other = absurd other
no_job_named (Later n) m p is (file, table, number) other = inr (inl (is, number_found m.1 n number))
no_job_named (LaterTable n) m p is (files, number) other = inr (inl (is, number_found m.1 n number))

no_job_of_plan : (matches : Option (Text × List Row)) (p : TaskPlan) → IsTaskPlanOf matches p → HasNoJob p.task
    → NamesOtherForm matches ⊎ (NamesGenerations matches ⊎ NamesPeriod matches)
no_job_of_plan None p is other = absurd is
no_job_of_plan (Some m) p is other = no_job_named p.task m p is.0 is.1 other

-- why words that ask for a task of no job have no plan for one
pub no_plan_of_task : {X : Type 0} (faults : Kinds) (matches : Option (Text × List Row)) (p : TaskPlan) (r : Result X Usage) → faults ≡ []
    → IsTaskPlanOf matches p → ¬ NamesInputTwice matches → IfErr r (RefusesWord (HasNoJob p.task)) → IfErr r (ExplainsPlan faults matches)
no_plan_of_task faults matches p (Ok x) none is once h = tt
no_plan_of_task faults matches p (Err u) none is once h = inr (none, once, inr (refuses_weaker InvalidValue u (no_job_of_plan matches p is) h))

-- why words that ask for keys or duplicates have none
pub no_plan_of_files : (command : Text) (default : Form) (faults : Kinds) (matches : Option (Text × List Row)) (p : KeysPlan) (u : Usage)
    → TakesAnyFiles command → faults ≡ [] → IsKeysPlanOf command default matches p → ¬ NamesInputTwice matches → RefusesAs InvalidSubcommand (Unit {0}) u
    → ExplainsPlan faults matches u
no_plan_of_files command default faults None p u takes none is once h = absurd is
no_plan_of_files command default faults (Some m) p u takes none is once h =
    let takes_here = subst TakesAnyFiles (sym is.0) takes in
    inr (none, once, inl (such_as InvalidSubcommand (AreOfAnyFiles (Some m)) u h takes_here))

-- and of words that ask for the keys of a stream
pub no_plan_of_stream : (faults : Kinds) (matches : Option (Text × List Row)) (p : StreamPlan) (u : Usage) → faults ≡ [] → IsStreamPlanOf matches p
    → ¬ NamesInputTwice matches → RefusesAs InvalidSubcommand (Unit {0}) u → ExplainsPlan faults matches u
no_plan_of_stream faults None p u none is once h = absurd is
no_plan_of_stream faults (Some m) p u none is once h =
    inr (none, once, inl (such_as InvalidSubcommand (AreOfAnyFiles (Some m)) u h (inl is.0)))

-- the same of a command that is read as this line
pub fails_by_line : {X : Type 0} (line app : App) (words : List Text) (r : Result X Error) → app ≡ line
    → (is_simple_and_free app ≡ true → FailsBy (fault_of app words) r) → is_simple_and_free line ≡ true → FailsBy (fault_of line words) r
fails_by_line line app words r e f simple =
    let P : App → Type 0 = λ a. is_simple_and_free a ≡ true → FailsBy (fault_of a words) r in
    let fails = subst P e f in
    fails simple

-- what was found for all values under a name, and for none
pub values_found : (f : Found) (id : Text) (names : List (Bor (List ℕ))) → Some (map (λ name. name.now) names) ≡ option_map raw_values (matched_of f id)
    → map (λ name. name.now) names ≡ values_of id (rows_of f)
values_found f id names e = ap (λ (o : Option (List Text)). unwrap_or o []) (e ∙ raw_values-rows f id)

pub values_missing : (f : Found) (id : Text) → None ≡ option_map raw_values (matched_of f id) → [] ≡ values_of id (rows_of f)
values_missing f id e = ap (λ (o : Option (List Text)). unwrap_or o []) (e ∙ raw_values-rows f id)
