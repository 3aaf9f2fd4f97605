-- A whole input, line by line.
use Rattle.std.proofs.Common.{◌≡◌, ℕ, ◌+◌, ◌-◌, ◌^◌, min, List, [], ◌∷◌, ◌++◌, length, refl, ap, sym, subst, ◌∙◌, inl, arith}
use Rattle.life_base.specs.Text.{numbered_from}
use Rattle.life_base.specs.Refusal.{fault_at}
use Rattle.life_base.specs.declared.kind.Kind.{Kind}
use Rattle.life_base.specs.declared.kind.Kind.TheVariants.{NoHeader}
use Rattle.life_base.specs.declared.fault.Fault.{Fault}
use Rattle.life_base.proofs.NumberedLines.{texts, number_at, length_texts, lines_around}
use Rattle.life_base.specs.declared.cell.Run.{Run}
use Rattle.life_rle.specs.declared.position.Position.{Position}
use Rattle.life_rle.specs.Position.{default_position}
use Rattle.life_rle.specs.Grammar.{IsPreamble, BreaksRle}
use Rattle.life_rle.specs.File.{HasRuns, RefusesRle}
use Rattle.life_rle.proofs.Refusal.{Breaks-IsRefusal, IsPreamble-IsRefusal}

-- before the first line there are no runs
pub no_runs : (level : ℕ) (lines : List (List ℕ)) (runs : List Run) → lines ≡ [] → runs ≡ [] → HasRuns level lines runs
no_runs level lines runs e f = subst (λ ls. HasRuns level ls runs) (sym e) (inl (default_position, refl, f))

-- why an input is refused of which this line breaks a rule
pub refused_here : (level : ℕ) (lines : List (List ℕ)) (before : List (ℕ × List ℕ)) (k : ℕ) (line : List ℕ) (rest : List (ℕ × List ℕ)) (prefix : List (List ℕ))
    (fault : Fault)
    → before ++ (k, line) ∷ rest ≡ numbered_from 1 lines → prefix ≡ texts before → BreaksRle level prefix line fault.kind → fault.place.line ≡ k
    → RefusesRle level lines fault
refused_here level lines before k line rest prefix fault e f b l =
    let long : length prefix ≡ length (texts before) = ap length f in
    let at : fault.place.line ≡ min (length prefix + 1) (2 ^ 64 - 1) = omega
    (arith, l, number_at lines before 1 k line rest (omega arith) e, length_texts before, long) in
    Breaks-IsRefusal level lines prefix line (texts rest) fault (sym (lines_around lines before k line rest e)
    ∙ ap (λ ls. ls ++ line ∷ texts rest) (sym f)) b at

-- why an input is refused that ends before its header
pub refused_at_end : (level : ℕ) (lines read : List (List ℕ)) (position : Position) (number last : ℕ) (kind : Kind)
    → read ≡ lines → IsPreamble level default_position read position → kind ≡ NoHeader → last ≡ min (length read) (2 ^ 64 - 1)
    → number ≡ min (last + 1) (2 ^ 64 - 1)
    → RefusesRle level lines (fault_at number kind)
refused_at_end level lines read position number last kind e pre k counted next =
    let here : Fault = record { place = record { line = number }; kind = kind } in
    let long : length read ≡ length lines = ap length e in
    let at : number ≡ min (length lines + 1) (2 ^ 64 - 1) = omega (arith, counted, next, long) in
    let R : Fault → Type 0 = λ f. RefusesRle level lines f in
    let P : Kind → Type 0 = λ kind. R (record { place = record { line = number }; kind = kind }) → R (fault_at number kind) in
    subst P (sym k) (λ r. r) (IsPreamble-IsRefusal level lines position here (subst (λ ls. IsPreamble level default_position ls position) e pre) k at)
