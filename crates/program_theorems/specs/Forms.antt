-- The forms in which patterns are taken: as they lie, moved, turned, and for all phases. They are this project's own.
use Rattle.std.specs.Prelude.{◌≡◌, ◌⊎◌, ℕ, Bool, true, false, if◌then◌else◌, ℤ, pos, negsuc, ◌+ℤ◌, ◌<ℤ◌, ◌<◌, List, Ok}
use Rattle.std.specs.Cmp.Lexicographic.{slice_cmp}
use Rattle.std.specs.Ordering.{nat_cmp, is_gt}
use Rattle.life_base.specs.declared.bounds.Bounds.{Bounds}
use Rattle.life_base.specs.declared.form.Form.{Form}
use Rattle.life_base.specs.declared.form.Form.TheVariants.{Placed, Moved, Turned, Phases}
use Rattle.life_phases.specs.declared.period.Period.{Period}
use Rattle.claims.specs.Canonical.{IsTextOfPattern}
use Rattle.claims.specs.Counting.{IsCanonicalText}
use Rattle.claims.specs.Files.{pattern_of, SayOnePattern}
use Rattle.claims.specs.Pattern.{Pattern, coordinate_bound}
use Rattle.claims.specs.Shown.{IsClaimedBoundingBox}
use Rattle.program_theorems.specs.Phases.{claimed_begun, claimed_phase, HasClaimedPhases, HasNoClaimedPhases, LacksClaimedPhases}

-- the second is the first, with each cell so many columns further east and rows further south
abbrev pub IsClaimedShift : Pattern → Pattern → Type 0
IsClaimedShift p q = (p.rule ≡ q.rule) × (p.generation ≡ q.generation)
    × ((columns : ℤ) × (rows : ℤ) × ((x y : ℤ) → q.cell (x +ℤ columns) (y +ℤ rows) ≡ p.cell x y))

-- a column or row counted from the other side of the plane, -1 - x, or not
abbrev pub claimed_coordinate : Bool → ℤ → ℤ
claimed_coordinate true (pos n) = negsuc n
claimed_coordinate true (negsuc n) = pos n
claimed_coordinate false x = x

-- one of the eight turns and reflections of a pattern: its columns and rows exchanged or not, and each counted from the other side or not
abbrev pub claimed_image : (exchange columns rows : Bool) → Pattern → Pattern
claimed_image exchange columns rows p = record {
  rule = p.rule;
  generation = p.generation;
  cell = λ x y. p.cell (claimed_coordinate columns (if exchange then y else x)) (claimed_coordinate rows (if exchange then x else y));
}

-- a shift after one of the eight takes the first to the second
abbrev pub IsClaimedTurnedShift : Pattern → Pattern → Type 0
IsClaimedTurnedShift p q = (exchange : Bool) × (columns : Bool) × (rows : Bool) × IsClaimedShift (claimed_image exchange columns rows p) q

-- Two patterns are one but for their places, orientations and phases: a turn and a shift take the first to the second, whatever their generations are; or the
-- first has phases, and a turn and a shift take the first so many generations later to the second.
pub data AreOfOneClaimedCourse (most : ℕ) (p q : Pattern) : Type 0 where
  in_one_claimed_phase : IsClaimedTurnedShift (claimed_begun p) (claimed_begun q) → AreOfOneClaimedCourse most p q
  in_two_claimed_phases : (neighbours : ℕ) (births survivals : List ℕ) (period : Period) → HasClaimedPhases most p neighbours births survivals period
      → (n : ℕ) → IsClaimedTurnedShift (claimed_phase neighbours births survivals n p) (claimed_begun q) → AreOfOneClaimedCourse most p q

-- both are files, and what the first says is related to what the second says
pub record AreRelated (relates : Pattern → Pattern → Type 0) (a b : List ℕ) : Type 0 where
  pub first : Pattern
  pub second : Pattern
  pub first_is : pattern_of a ≡ Ok first
  pub second_is : pattern_of b ≡ Ok second
  pub related : relates first second

-- both are files of one pattern, or of one that a shift takes to the other, or a shift after a turn, or a shift after a turn of one of its phases
abbrev pub SameIn : Form → List ℕ → List ℕ → Type 0
SameIn Placed a b = SayOnePattern a b
SameIn Moved a b = AreRelated IsClaimedShift a b
SameIn Turned a b = AreRelated IsClaimedTurnedShift a b
SameIn (Phases most) a b = AreRelated (AreOfOneClaimedCourse most) a b

-- the columns or the rows of a box begin with 0; but those that would leave the plane so end with the plane
abbrev pub IsInClaimedPlace : (first last : ℤ) → Type 0
IsInClaimedPlace first last = ((first ≡ pos 0) × (last <ℤ coordinate_bound)) ⊎ ((first <ℤ pos 0) × (last +ℤ pos 1 ≡ coordinate_bound))

-- the text is the canonical text of the pattern, shifted so that the least box around its nonzero cells is in its place
pub record IsClaimedMovedText (pattern : Pattern) (text : List ℕ) : Type 0 where
  pub moved : Pattern
  pub shift : IsClaimedShift pattern moved
  pub in_place : (box : Bounds) → IsClaimedBoundingBox moved.cell box → IsInClaimedPlace box.left box.right × IsInClaimedPlace box.top box.bottom
  pub is : IsTextOfPattern moved text

-- the first of two texts isn't greater, byte by byte
abbrev pub IsNoGreaterText : List ℕ → List ℕ → Type 0
IsNoGreaterText first second = is_gt (slice_cmp nat_cmp first second) ≡ false

-- the text is the least of those of the eight turns and reflections of a pattern, each moved
pub record IsClaimedTurnedText (pattern : Pattern) (text : List ℕ) : Type 0 where
  pub exchange : Bool
  pub columns : Bool
  pub rows : Bool
  pub is : IsClaimedMovedText (claimed_image exchange columns rows pattern) text
  pub least : (exchange columns rows : Bool) (other : List ℕ) → IsClaimedMovedText (claimed_image exchange columns rows pattern) other
      → IsNoGreaterText text other

-- the text is that of one of the first `count` phases of a pattern, each turned, and no greater than that of any of them
pub record IsLeastOfClaimedPhases (neighbours : ℕ) (births survivals : List ℕ) (count : ℕ) (pattern : Pattern) (text : List ℕ) : Type 0 where
  pub number : ℕ
  pub below : number < count
  pub is : IsClaimedTurnedText (claimed_phase neighbours births survivals number pattern) text
  pub least : (k : ℕ) (other : List ℕ) → k < count → IsClaimedTurnedText (claimed_phase neighbours births survivals k pattern) other
      → IsNoGreaterText text other

-- the text of a pattern for all its places, orientations and phases: the least text of its phases, or its own in generation 0 if it has none
pub data IsClaimedPhasesText (most : ℕ) (pattern : Pattern) (text : List ℕ) : Type 0 where
  of_claimed_phases : (neighbours : ℕ) (births survivals : List ℕ) (period : Period) → HasClaimedPhases most pattern neighbours births survivals period
      → IsLeastOfClaimedPhases neighbours births survivals period.generations pattern text → IsClaimedPhasesText most pattern text
  of_claimed_pattern : HasNoClaimedPhases most pattern → IsClaimedTurnedText (claimed_begun pattern) text → IsClaimedPhasesText most pattern text

-- the pattern has no text in a form: for all phases, it leaves the plane before its period is found
abbrev pub LacksClaimedForm : Form → Pattern → Type 0
LacksClaimedForm (Phases most) pattern = LacksClaimedPhases most pattern
LacksClaimedForm _ pattern = ⊥

-- the bytes are a file of a pattern that has none
abbrev pub FileLacksClaimedForm : Form → List ℕ → Type 0
FileLacksClaimedForm form file = (pattern : Pattern) × (pattern_of file ≡ Ok pattern) × LacksClaimedForm form pattern

-- both are files, and one of their patterns has none
abbrev pub OneFileLacksClaimedForm : Form → List ℕ → List ℕ → Type 0
OneFileLacksClaimedForm form a b = AreRelated (λ p q. LacksClaimedForm form p ⊎ LacksClaimedForm form q) a b

-- the text of a pattern in a form
abbrev pub IsTextOfForm : Form → Pattern → List ℕ → Type 0
IsTextOfForm Placed pattern text = IsTextOfPattern pattern text
IsTextOfForm Moved pattern text = IsClaimedMovedText pattern text
IsTextOfForm Turned pattern text = IsClaimedTurnedText pattern text
IsTextOfForm (Phases most) pattern text = (LacksClaimedPhases most pattern → ⊥) × IsClaimedPhasesText most pattern text

-- the text is that of the file's pattern in the form, and the canonical text of a pattern that is the same in the form
abbrev pub IsClaimedTextIn : Form → List ℕ → List ℕ → Type 0
IsClaimedTextIn Placed file text = IsCanonicalText file text
IsClaimedTextIn form file text = SameIn form file text × IsCanonicalText text text
    × ((pattern : Pattern) × (pattern_of file ≡ Ok pattern) × IsTextOfForm form pattern text)
