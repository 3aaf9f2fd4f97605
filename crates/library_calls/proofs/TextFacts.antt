-- The text of a pattern that was read into a store, for each output.
use Rattle.std.proofs.Common.{◌≡◌, ℕ, ◌<◌, ◌≤◌, ◌^◌, ◌∙◌, subst, sym, List, [], length, ◌⊎◌, inl, inr, Some, Result, IfOk, IfErr}
use Rattle.life_base.specs.Refusal.{fault_of}
use Rattle.life_base.specs.Tree.{Tree}
use Rattle.life_base.specs.declared.cell.TheConstants.{MAX_LEVEL}
use Rattle.life_base.specs.declared.fault.Fault.{Fault}
use Rattle.life_base.specs.declared.kind.Kind.TheVariants.{Full, Memory, TooManyCells}
use Rattle.life_base.specs.declared.rule.Rule.{Rule}
use Rattle.life_quad.specs.Keeping.{AddsOnly}
use Rattle.life_quad.specs.Store.{Nodes, stored_squares}
use Rattle.life_pattern.specs.Files.{Reads}
use Rattle.life_pattern.specs.Store.{IsNew}
use Rattle.life_reader.specs.Space.{HoldsOnly}
use Rattle.life_pattern.specs.Store.{IsRead, IsShortageOf, RefusesIn, content}
use Rattle.life_writer.specs.Texts.{FileHasMoreCells}
use Rattle.life_pattern.specs.Universe.{Universe, whole}
use Rattle.life_pattern.specs.declared.pattern.Pattern.{Pattern}
use Rattle.life_pattern.proofs.Found.{Found, found-as}
use Rattle.life_table.specs.declared.table.Table.{Table}
use Rattle.life_step.specs.Refusals.{LacksForLife, LacksForTable, LifeRefusal, SomeByRule, SomeByTable, SomeOfStep, SomeOfStepBy, TableRefusal}
use Rattle.life_generations.specs.Later.{LaterRefusal}
use Rattle.library_calls.specs.Texts.{IsTooLowFor, NeedsMore, RefusesWithin, SomeToRead, squares_of_limit}
use Rattle.library_calls.specs.Outputs.{IsOutputText, IsTextOfRead, RefusesTextOf, RefusesTextOfRead}
use Rattle.library_calls.specs.Stepping.{RefusesStepByWithin}
use Rattle.library_calls.specs.declared.texts.Output.{Output}
use Rattle.library_calls.specs.declared.texts.Output.TheVariants.{Canonical, Rle, Lines, Next, Later}
use Rattle.library_calls.proofs.Answering.{not-full, wanted}
use Rattle.library_calls.proofs.FormFacts.{within-form}
use Rattle.life_step.proofs.Finding.{find-by_rule, find-by_table}
use Rattle.life_step.proofs.NeedFacts.{step-lacks}
use Rattle.library_calls.proofs.NeedFacts.{HoldsOnce, from-needed, more-than-held, needs-more, only-needed}

-- the store is full or memory is refused
short : (store : Nodes) (fault : Fault) → IsShortageOf store fault → (fault ≡ fault_of Full) ⊎ (fault ≡ fault_of Memory)
short store fault (inl memory) = inr memory
short store fault (inr (full, at)) = inl full

-- why a file is refused at its end, or space or memory wanted
unread : (limit : ℕ) (bytes : List ℕ) (store : Nodes) (fault : Fault) → store.limit ≡ squares_of_limit limit → RefusesIn MAX_LEVEL bytes store fault
    → (fault ≡ fault_of Full → length (stored_squares store) ≡ store.limit → IsTooLowFor bytes store.limit) → RefusesWithin limit bytes fault
unread limit bytes store fault is (inl refuses) low = inl refuses
unread limit bytes store fault is (inr want) low = inr (wanted (IsTooLowFor bytes) limit store fault is want low)

pub text-fault : (output : Output) (limit : ℕ) (bytes : List ℕ) (store : Nodes) (fault : Fault) → store.limit ≡ squares_of_limit limit
    → RefusesIn MAX_LEVEL bytes store fault → (fault ≡ fault_of Full → length (stored_squares store) ≡ store.limit → IsTooLowFor bytes store.limit)
    → RefusesTextOf output limit bytes fault
text-fault (Canonical form) limit bytes store fault is why low = within-form form limit bytes fault (unread limit bytes store fault is why low)
text-fault Rle limit bytes store fault is why low = inl (unread limit bytes store fault is why low)
text-fault Lines limit bytes store fault is why low = unread limit bytes store fault is why low
text-fault Next limit bytes store fault is (inl refuses) low = inl refuses
text-fault Next limit bytes store fault is (inr want) low =
    inr (inl (wanted (NeedsMore (λ P. SomeOfStep P bytes)) limit store fault is want (λ full at. needs-more (SomeToRead bytes) (λ P. SomeOfStep P bytes) _
    (λ P s. inl s) (low full at).0)))
text-fault (Later n) limit bytes store fault is (inl refuses) low = inl refuses
text-fault (Later n) limit bytes store fault is (inr want) low = inr (inl (short store fault want))

-- memory is wanted for any output
pub wants : (output : Output) (store : Nodes) (pattern : Pattern) (fault : Fault) → fault ≡ fault_of Memory → RefusesTextOfRead output store pattern fault
wants output store pattern fault memory = λ limit bytes is read only.
    text-fault output limit bytes store fault is (inr (inl memory)) (not-full fault memory)

-- the text of an output that is another one
pub of-form : {X : Type 0} {output that : Output} (store : Nodes) (pattern : Pattern) (items : X → List ℕ) (r : Result X Fault) → output ≡ that
    → IfOk r (λ x. IsTextOfRead that store pattern (items x)) → IfOk r (λ x. IsTextOfRead output store pattern (items x))
of-form store pattern items r is text =
    subst (λ (f : Output). IfOk r (λ x. IsTextOfRead f store pattern (items x))) (sym is) text

-- and its refusal
pub of-fault : {X : Type 0} {output that : Output} (store : Nodes) (pattern : Pattern) (r : Result X Fault) → output ≡ that
    → IfErr r (RefusesTextOfRead that store pattern) → IfErr r (RefusesTextOfRead output store pattern)
of-fault store pattern r is why = subst (λ (f : Output). IfErr r (RefusesTextOfRead f store pattern)) (sym is) why

-- the same of a text in extended RLE, which may have too many cells
pub rle-fault : (limit : ℕ) (bytes : List ℕ) (store : Nodes) (pattern : Pattern) (fault : Fault) → IsRead MAX_LEVEL bytes store pattern
    → (fault ≡ fault_of Memory) ⊎ ((fault ≡ fault_of TooManyCells)
    × ((bytes : List ℕ) → IsRead MAX_LEVEL bytes store pattern → FileHasMoreCells MAX_LEVEL bytes (2 ^ 20)))
    → RefusesTextOf Rle limit bytes fault
rle-fault limit bytes store pattern fault read (inl memory) = inl (inr (inl memory))
rle-fault limit bytes store pattern fault read (inr many) = inr (many.0, many.1 bytes read)

-- ---- steps

-- The same of a step, which may be refused. `Of` says of a property that a square has it which the step needs of a root under a rule.
step-low : (Of : (Tree → Type 0) → Rule → Tree → Type 0) (bytes : List ℕ) (old store : Nodes) (pattern : Pattern) → IsRead MAX_LEVEL bytes old pattern
    → HoldsOnly [] bytes old → HoldsOnce store → AddsOnly stored_squares (λ P. Of P pattern.rule (content old pattern.root)) old store
    → Found (IsNew store) (λ P. Of P pattern.rule (content old pattern.root)) → length (stored_squares store) ≡ store.limit
    → NeedsMore (λ P. SomeToRead bytes P ⊎ ((u : Universe) × Reads MAX_LEVEL bytes u × Of P u.rule (whole MAX_LEVEL u))) store.limit
step-low Of bytes old store pattern read only once adds lack at =
    let Needs = λ (P : Tree → Type 0). SomeToRead bytes P ⊎ ((u : Universe) × Reads MAX_LEVEL bytes u × Of P u.rule (whole MAX_LEVEL u)) in
    let Added = λ (P : Tree → Type 0). Of P pattern.rule (content old pattern.root) in
    let of = λ (P : Tree → Type 0) (s : Added P). step-lacks (Of P) bytes old pattern read s in
    more-than-held Needs store once
    (from-needed (SomeToRead bytes) Added Needs old store (λ P s. inl s) (λ P s. inr (of P s)) (only-needed bytes old only) adds)
    (found-as (λ Q k. inr (of Q k)) lack) at

pub next-fault : (limit : ℕ) (bytes : List ℕ) (old store : Nodes) (pattern : Pattern) (fault : Fault) → store.limit ≡ squares_of_limit limit
    → IsRead MAX_LEVEL bytes old pattern → HoldsOnly [] bytes old → HoldsOnce store
    → AddsOnly stored_squares (λ P. SomeByRule P pattern.rule (content old pattern.root)) old store
    → IsShortageOf store fault ⊎ ((bytes : List ℕ) → IsRead MAX_LEVEL bytes old pattern → (u : Universe) × Reads MAX_LEVEL bytes u
    × LifeRefusal MAX_LEVEL u (Some fault))
    → (fault ≡ fault_of Full → LacksForLife pattern.rule (content old pattern.root) store) → RefusesTextOf Next limit bytes fault
next-fault limit bytes old store pattern fault is read only once adds (inl want) lacks =
    inr (inl (wanted (NeedsMore (λ P. SomeOfStep P bytes)) limit store fault is want (λ full at. step-low SomeByRule bytes old store pattern read only once adds
    (find-by_rule (IsNew store) pattern.rule (content old pattern.root) (lacks full)) at)))
next-fault limit bytes old store pattern fault is read only once adds (inr step) lacks = inr (inr (step bytes read))

-- the same of any number of generations
pub later-fault : (n limit : ℕ) (bytes : List ℕ) (old store : Nodes) (pattern : Pattern) (fault : Fault) → IsRead MAX_LEVEL bytes old pattern
    → IsShortageOf store fault ⊎ ((bytes : List ℕ) → IsRead MAX_LEVEL bytes old pattern → (u : Universe) × Reads MAX_LEVEL bytes u
    × LaterRefusal n u (Some fault))
    → RefusesTextOf (Later n) limit bytes fault
later-fault n limit bytes old store pattern fault read (inl want) = inr (inl (short store fault want))
later-fault n limit bytes old store pattern fault read (inr why) = inr (inr (why bytes read))

pub next-by-fault : (table : Table) (limit : ℕ) (bytes : List ℕ) (old store : Nodes) (pattern : Pattern) (fault : Fault) → store.limit ≡ squares_of_limit limit
    → IsRead MAX_LEVEL bytes old pattern → HoldsOnly [] bytes old → HoldsOnce store
    → AddsOnly stored_squares (λ P. SomeByTable P table pattern.rule (content old pattern.root)) old store
    → IsShortageOf store fault ⊎ ((bytes : List ℕ) → IsRead MAX_LEVEL bytes old pattern → (u : Universe) × Reads MAX_LEVEL bytes u
    × TableRefusal MAX_LEVEL table u (Some fault))
    → (fault ≡ fault_of Full → LacksForTable table pattern.rule (content old pattern.root) store) → RefusesStepByWithin table limit bytes fault
next-by-fault table limit bytes old store pattern fault is read only once adds (inl want) lacks =
    inr (inl (wanted (NeedsMore (λ P. SomeOfStepBy P table bytes)) limit store fault is want (λ full at. step-low (λ P. SomeByTable P table) bytes old store
    pattern read only once adds (find-by_table (IsNew store) table pattern.rule (content old pattern.root) (lacks full)) at)))
next-by-fault table limit bytes old store pattern fault is read only once adds (inr step) lacks = inr (inr (step bytes read))

-- why a file isn't read that is to be stepped by a table
pub unread-by : (table : Table) (limit : ℕ) (bytes : List ℕ) (store : Nodes) (fault : Fault) → store.limit ≡ squares_of_limit limit
    → RefusesIn MAX_LEVEL bytes store fault → (fault ≡ fault_of Full → length (stored_squares store) ≡ store.limit → IsTooLowFor bytes store.limit)
    → RefusesStepByWithin table limit bytes fault
unread-by table limit bytes store fault is (inl refuses) low = inl refuses
unread-by table limit bytes store fault is (inr want) low =
    inr (inl (wanted (NeedsMore (λ P. SomeOfStepBy P table bytes)) limit store fault is want (λ full at. needs-more (SomeToRead bytes)
    (λ P. SomeOfStepBy P table bytes) _ (λ P s. inl s) (low full at).0)))
