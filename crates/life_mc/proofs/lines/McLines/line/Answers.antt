use Rattle.std.proofs.Common.{◌≡◌, ◌++◌, ◌∷◌, [], ◌⊎◌, List, ℕ, true, false, sym, ap, subst, ◌∙◌, inl, inr, Some, Option, Result, Ok, Err, IfOk, IfErr, OnOk, IsErrOf}
use Rattle.std.specs.List.{cons_option}
use Rattle.life_base.specs.Refusal.{Prefix, is_placeless}
use Rattle.life_base.specs.declared.cell.TheConstants.{MAX_LEVEL}
use Rattle.life_base.specs.declared.kind.Kind.{Kind}
use Rattle.life_base.specs.declared.kind.Kind.TheVariants.{Memory, Spent}
use Rattle.life_mc.specs.Reading.{AcceptsMacrocell, broken_rule, squares_of}
use Rattle.life_base.specs.Lines.{LinesRead}
use Rattle.life_mc.specs.declared.line.Line.{Line}
use Rattle.life_mc.proofs.LineKinds.{broken_kind, names_line}
use Rattle.life_mc.proofs.LinesConsumed.{squares_consumed, stands_prefix}
use Rattle.life_mc.proofs.lines.McLines.line.Goals as goal

-- a line that broke a rule, or for which there was no memory, is not refused as that of a spent reader
not_spent : (lines : List (List ℕ)) (line : List ℕ) (kind : Kind) → (kind ≡ Memory) ⊎ (broken_rule MAX_LEVEL lines line ≡ Some kind) → kind ≡ Spent → ⊥
not_spent lines line kind (inl m) e = cc
not_spent lines line kind (inr b) e = let p : true ≡ false = ap is_placeless (sym e) ∙ names_line kind (broken_kind MAX_LEVEL lines line kind b) in cc

never_spent : {X : Type 0} (lines : List (List ℕ)) (line : List ℕ) (r : Result X Kind)
    → IfErr r (λ kind. (kind ≡ Memory) ⊎ (broken_rule MAX_LEVEL lines line ≡ Some kind)) → IsErrOf r Spent → ⊥
never_spent lines line (Ok x) h e = cc
never_spent lines line (Err kind) h e = not_spent lines line kind h (cc)

-- what follows where there is an answer
on_ok : {X E Y : Type 0} {P : X → Type 0} (r : Result X E) → IfOk r P → ((x : X) → P x → Y) → OnOk r Y
on_ok (Ok x) h f = f x h
on_ok (Err e) h f = tt

if_ok : {X E : Type 0} {P Q : X → Type 0} (r : Result X E) → IfOk r P → ((x : X) → P x → Q x) → IfOk r Q
if_ok (Ok x) h f = f x h
if_ok (Err e) h f = tt

pub returns-then-is_ok-clause-prefix : goal.returns-then-is_ok-clause-prefix
returns-then-is_ok-clause-prefix c =
    let lines : List (List ℕ) = c.self.inside.log.lines in
    on_ok c.take-consumed.result (c.take-consumed.ensures.ok lines (c.self.invariant c.if-self.false))
    (λ square took. subst (Prefix (AcceptsMacrocell MAX_LEVEL)) (sym c.then-self-inside.ensures)
    (stands_prefix MAX_LEVEL (lines ++ c.args.line.now ∷ []) c.take-consumed.new.self took.1))

pub returns-then-is_ok-clause-squares : goal.returns-then-is_ok-clause-squares
returns-then-is_ok-clause-squares c =
    let lines : List (List ℕ) = c.self.inside.log.lines in
    let line : List ℕ = c.args.line.now in
    let same : lines ≡ c.args.self.now.lines = ap (λ (v : LinesRead). v.lines) c.self.view_is in
    if_ok c.take-consumed.result (c.take-consumed.ensures.ok lines (c.self.invariant c.if-self.false))
    (λ square took. ap squares_of c.then-self-inside.ensures ∙ squares_consumed lines line
    ∙ ap (λ (o : Option Line). squares_of lines ++ cons_option o []) (sym took.0)
    ∙ ap (λ (ls : List (List ℕ)). squares_of ls ++ cons_option square []) same)

pub returns-else-is_ok-clause-spent : goal.returns-else-is_ok-clause-spent
returns-else-is_ok-clause-spent c =
    let lines : List (List ℕ) = c.self.inside.log.lines in
    let fresh : c.args.self.now.refused ≡ false = ap (λ (v : LinesRead). v.refused) (sym c.self.view_is) ∙ c.if-self.false in
    let meaning = c.take-consumed.ensures.err lines (c.self.invariant c.if-self.false) in
    (λ e. absurd (never_spent lines c.args.line.now c.take-consumed.result meaning e), λ r. cc)
