-- Whether one more transition keeps a table quiet.
use Rattle.std.proofs.Common.{◌≡◌, List, [], ◌∷◌, ◌++◌, Bool, true, false, not, refl, ap, sym, ◌∙◌, ◌||◌, Some, Result, Ok, Err, if◌then◌else◌}
use Rattle.std.specs.List.{list_any}
use Rattle.std.proofs.Math.Bool.{or_assoc}
use Rattle.life_base.specs.declared.kind.Kind.{Kind}
use Rattle.life_base.specs.declared.kind.Kind.TheVariants.{UnboundOutput, NotQuiet}
use Rattle.life_table.specs.Valid.{fits_zero, is_quiet_output, is_quiet}
use Rattle.life_table.specs.Reading.{if_transition, is_bound}
use Rattle.life_table.specs.declared.directive.Directive.{Directive}
use Rattle.life_table.specs.declared.directive.Directive.TheVariants.{Line}
use Rattle.life_table.specs.declared.table.Var.{Var}
use Rattle.life_table.specs.declared.table.Transition.{Transition}

alone : (fits quiet : Bool) → (if fits then quiet else true) ≡ (false || not fits || quiet)
alone true true = refl
alone true false = refl
alone false quiet = refl

step : (fits output rest all any last : Bool) → (if fits then output else rest) ≡ true → (rest ≡ true → all ≡ (any || last))
    → (if fits then output else all) ≡ ((fits || any) || last)
step true true rest all any last q ih = refl
step true false rest all any last q ih = cc
step false output rest all any last q ih = ih q

more : (vars : List Var) (earlier : List Transition) (line : Transition) → is_quiet vars earlier ≡ true
    → is_quiet vars (earlier ++ line ∷ []) ≡ (list_any (fits_zero vars) earlier || (not (fits_zero vars line) || is_quiet_output line.output))
more vars [] line q = alone (fits_zero vars line) (is_quiet_output line.output)
more vars (x ∷ xs) line q =
    step (fits_zero vars x) (is_quiet_output x.output) (is_quiet vars xs) (is_quiet vars (xs ++ line ∷ [])) (list_any (fits_zero vars) xs)
    (not (fits_zero vars line) || is_quiet_output line.output) q (more vars xs line)

quiet_more : (vars : List Var) (earlier : List Transition) (line : Transition) → is_quiet vars earlier ≡ true
    → is_quiet vars (earlier ++ line ∷ []) ≡ (list_any (fits_zero vars) earlier || not (fits_zero vars line) || is_quiet_output line.output)
quiet_more vars earlier line q = more vars earlier line q
    ∙ sym (or_assoc (list_any (fits_zero vars) earlier) (not (fits_zero vars line)) (is_quiet_output line.output))

abbrev answer : Bool → Bool → Transition → Result Directive Kind
answer bound quiet line = if not bound then Err UnboundOutput else (if quiet then Ok (Line line) else Err NotQuiet)

directive_so : (vars : List Var) (earlier : List Transition) (line : Transition) (bound quiet : Bool) → bound ≡ is_bound line.inputs line.output
    → quiet ≡ is_quiet vars (earlier ++ line ∷ []) → answer bound quiet line ≡ if_transition vars earlier (Some line)
directive_so vars earlier line bound quiet b q = ap (λ (x : Bool). answer x quiet line) b ∙ ap (λ (x : Bool). answer (is_bound line.inputs line.output) x line)
    q

-- what a transition says, by whether its output is bound and whether it keeps the table quiet
pub directive_more : (vars : List Var) (earlier : List Transition) (line : Transition) (fits bound stays : Bool) → fits ≡ list_any (fits_zero vars) earlier
    → is_quiet vars earlier ≡ true → bound ≡ is_bound line.inputs line.output → stays ≡ (fits || not (fits_zero vars line) || is_quiet_output line.output)
    → answer bound stays line ≡ if_transition vars earlier (Some line)
directive_more vars earlier line fits bound stays f q b s =
    directive_so vars earlier line bound stays b
    (s ∙ ap (λ (x : Bool). x || not (fits_zero vars line) || is_quiet_output line.output) f ∙ sym (quiet_more vars earlier line q))
