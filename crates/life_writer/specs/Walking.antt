-- What a walk that gives node lines leaves of the sink that takes them. Of a sink and its device in two states, `took` says that it took just these
-- lines between them, and `broke` that it took some of them.
use Rattle.std.specs.Prelude.{◌≡◌, ◌⊎◌, ℕ, ◌≤◌, true, false, List, [], ◌∷◌, ◌++◌, Result, OnOk, OnErr, IfOk, All, map}
use Rattle.life_base.specs.Tree.{Tree, depth, is_blank_tree}
use Rattle.life_base.specs.declared.kind.Kind.{Kind}
use Rattle.life_base.specs.declared.kind.Kind.TheVariants.{Memory}
use Rattle.life_base.specs.declared.rule.Rule.{Rule}
use Rattle.life_mc.specs.Macrocell.{largest_state}
use Rattle.life_mc.specs.Squares.{HasStatesUpTo}
use Rattle.life_mc.specs.declared.line.Line.{Line}
use Rattle.life_quad.specs.declared.id.Id.{Id}
use Rattle.life_quad.specs.IdNumbers.{NumberRange, IsInNumberRange}
use Rattle.life_writer.specs.Closed.{IsClosed}
use Rattle.life_writer.specs.Listing.{line_of, number_of_quarter, with_all, walk}
use Rattle.life_pattern.specs.Universe.{is_life, least_level}
use Rattle.life_pattern.specs.declared.pattern.Pattern.{Pattern}

-- the square of an Id, as it is seen
abbrev pub seen_in : (Tree → Tree) → (Id → Tree) → Id → Tree
seen_in seen content id = seen (content id)

-- it took this line too, whatever it took before
abbrev pub TakesNodeLine : {A : Type 0} → (A → A → List Line → Type 0) → A → A → Line → Type 0
TakesNodeLine {A} took before after line = (start : A) (lines : List Line) → took start before lines → took start after (lines ++ line ∷ [])

-- it took what it took before, and some of the lines after, whatever these are
abbrev pub BreaksOff : {A : Type 0} → (A → A → List Line → Type 0) → (A → A → List Line → Type 0) → A → A → Type 0
BreaksOff {A} took broke before after = (start : A) (lines more : List Line) → took start before lines → broke start after (lines ++ more)

-- where it took the lines of the squares `old` before, it took those of `new` after, whatever squares come after these
abbrev pub TakesOn : {A : Type 0} → (A → A → List Line → Type 0) → Rule → A → A → List Tree → List Tree → Type 0
TakesOn {A} took rule before after old new =
    (start : A) (all rest : List Tree) → all ≡ new ++ rest → took start before (map (line_of rule all) old) → took start after (map (line_of rule all) new)

-- the squares of the new Ids are those of the old ones and then what the walk over the square of `q` adds, and it took the lines of these
pub record TakesWalk {A : Type 0} (took : A → A → List Line → Type 0) (content : Id → Tree) (rule : Rule) (q : Id) (before after : A) (old new : List Id)
    : Type 0 where
  pub walked : map content new ≡ with_all (map content old) (walk (content q) (least_level rule))
  pub lines : TakesOn took rule before after (map content old) (map content new)

-- where it took the lines of `old`, it took some of all lines, whatever squares come after `new`
abbrev pub BreaksIn : {A : Type 0} → (A → A → List Line → Type 0) → (A → A → List Line → Type 0) → Rule → A → A → List Tree → List Tree → Type 0
BreaksIn {A} took broke rule before after old new =
    (start : A) (all rest : List Tree) → all ≡ new ++ rest → took start before (map (line_of rule all) old) → broke start after (map (line_of rule all) all)

-- what a walk over the square of an Id, of level k, asks of it, and of the Ids that have numbers
pub record MayWalk (knows : Id → Type 0) (content : Id → Tree) (rule : Rule) (k : ℕ) (q : Id) (ids : List Id) : Type 0 where
  pub known : knows q
  pub level : k ≡ depth (content q)
  pub high : is_life rule ≡ true → 3 ≤ k
  pub states : HasStatesUpTo (largest_state rule) (content q)
  pub numbers : All knows ids
  pub closed : IsClosed (least_level rule) (map content ids)

-- what a walk over a whole pattern asks of it
pub record MayWalkPattern (knows : Id → Type 0) (content : Id → Tree) (pattern : Pattern) : Type 0 where
  pub known : knows pattern.root
  pub level : least_level pattern.rule ≤ depth (content pattern.root)
  pub states : HasStatesUpTo (largest_state pattern.rule) (content pattern.root)

-- What it leaves: at Ok the sink took the lines as above, and it answers the number that stands for the square. At Err the sink took some of them.
pub record Walked {A : Type 0} (knows : Id → Type 0) (content : Id → Tree) (took broke : A → A → List Line → Type 0) (rule : Rule) (q : Id)
    (before after : A) (old new : List Id) (result : Result ℕ Kind) : Type 0 where
  pub wrote : OnOk result (TakesWalk took content rule q before after old new)
  pub number : IfOk result (λ n. n ≡ number_of_quarter (map content new) (content q))
  pub part : OnErr result (BreaksIn took broke rule before after (map content old) (with_all (map content old) (walk (content q) (least_level rule))))
  pub numbers : OnOk result (All knows new)
  pub closed : OnOk result (IsClosed (least_level rule) (map content new))

-- the Id of each square of this level or a higher one that isn't blank has a number in the range
abbrev pub HasNumbersFrom : (Id → Type 0) → (Id → Tree) → ℕ → NumberRange → Type 0
HasNumbersFrom knows content least space = (id : Id) → knows id → least ≤ depth (content id) → is_blank_tree (content id) ≡ false → IsInNumberRange space id

-- not each of them has
abbrev pub LacksNumbers : (Id → Type 0) → (Id → Tree) → ℕ → NumberRange → Type 0
LacksNumbers knows content least space = ¬ HasNumbersFrom knows content least space

-- why it is refused: the sink refuses, or memory is refused where a square has no number in the range
abbrev pub RefusesWalk : (Kind → Type 0) → (Id → Type 0) → (Id → Tree) → Rule → NumberRange → Kind → Type 0
RefusesWalk refuses knows content rule space kind = refuses kind ⊎ ((kind ≡ Memory) × LacksNumbers knows content (least_level rule) space)
