-- The square of a number of a node line, among the squares of the lines before it.
use Rattle.std.proofs.Common.{◌≡◌, ℕ, zero, suc, ◌+◌, ◌-◌, ◌<◌, ◌≤◌, true, List, [], ◌∷◌, length, take, map, get_or, refl, ap, sym, ◌∙◌, subst, arith, inl, inr, add-one}
use Rattle.std.proofs.lemmas.Option.{slice_get-get_or}
use Rattle.std.proofs.Math.Nat.{le_refl}
use Rattle.life_base.specs.Tree.{Tree, quad, depth}
use Rattle.life_base.specs.declared.cell.TheConstants.{MAX_LEVEL}
use Rattle.life_base.specs.declared.rule.Rule.{Rule}
use Rattle.life_mc.specs.Macrocell.{level_of, is_quarter, IsSquare}
use Rattle.life_mc.specs.Squares.{tree_of}
use Rattle.life_mc.specs.declared.line.Line.{Line}
use Rattle.life_mc.specs.declared.line.Line.TheVariants.{Quad}
use Rattle.life_quad.specs.declared.id.Id.{Id}
use Rattle.life_reader.specs.Filling.{AreSquaresOf}
use Rattle.life_pattern.proofs.LineWords.{line_at, IsQuarter}
use Rattle.life_pattern.proofs.LineFacts.{get-line_at, quarter-test, four-of}

take-all : (lines : List Line) → take (length lines) lines ≡ lines
take-all [] = refl
take-all (line ∷ lines) = ap (λ l. line ∷ l) (take-all lines)

quarter-of : (rule : Rule) (lines : List Line) (level number : ℕ) → is_quarter rule (map level_of lines) (level + 1) number ≡ true
    → IsQuarter rule lines (length lines) level number
quarter-of rule lines level number h =
    quarter-test rule lines (length lines) level number (le_refl (length lines))
    (subst (λ ls. is_quarter rule (map level_of ls) (suc level) number ≡ true) (sym (take-all lines))
    (subst (λ n. is_quarter rule (map level_of lines) n number ≡ true) (add-one level) h))

-- above, a number that isn't 0 has an Id, which names its square
pub record HasId (knows : Id → Type 0) (content : Id → Tree) (lines : List Line) (ids : List Id) (level number : ℕ) (d : Id) : Type 0 where
  pub index : number - 1 < length ids
  pub known : knows (get_or ids (number - 1) d)
  pub square : content (get_or ids (number - 1) d) ≡ tree_of lines level number
  pub level_of_it : depth (content (get_or ids (number - 1) d)) ≡ level

pub has-id : (knows : Id → Type 0) (content : Id → Tree) (rule : Rule) (lines : List Line) (ids : List Id) (level number : ℕ) (d : Id) → 0 < level → 0 < number
    → is_quarter rule (map level_of lines) (level + 1) number ≡ true → AreSquaresOf knows content lines ids → HasId knows content lines ids level number d
has-id knows content rule lines ids zero number d l n h s = absurd (omega arith)
has-id knows content rule lines ids (suc level) number d l n h s = by (quarter-of rule lines (suc level) number h)
  where
    by : IsQuarter rule lines (length lines) (suc level) number → HasId knows content lines ids (suc level) number d
    by (inl e) = absurd (omega arith)
    by (inr c) =
        let j = number - 1 in
        let lt : j < length lines = omega (arith, c.1) in
        let li : j < length ids = omega (arith, s.count) in
        let i : suc j ≡ number = omega arith in
        let e = s.each j (get_or ids j d) (line_at lines j) (slice_get-get_or ids j d li) (get-line_at lines j lt) in
        record { index = li; known = e.0; square = e.1 ∙ ap (λ k. tree_of lines k (suc j)) c.2 ∙ ap (tree_of lines (suc level)) i; level_of_it = e.2 ∙ c.2 }

pub some-of : (n : ℕ) → ¬ (n ≡ 0) → 0 < n
some-of n h = omega arith

-- the numbers of a node line above the leaves, each that of a quarter one level lower
pub record Numbers (rule : Rule) (levels : List ℕ) (level a b c d : ℕ) : Type 0 where
  pub low : 1 ≤ level
  pub high : level ≤ MAX_LEVEL
  pub nw : is_quarter rule levels ((level - 1) + 1) a ≡ true
  pub ne : is_quarter rule levels ((level - 1) + 1) b ≡ true
  pub sw : is_quarter rule levels ((level - 1) + 1) c ≡ true
  pub se : is_quarter rule levels ((level - 1) + 1) d ≡ true

pub numbers-of : (rule : Rule) (levels : List ℕ) (line : Line) (level nw ne sw se : ℕ) → line ≡ Quad level nw ne sw se → IsSquare MAX_LEVEL rule levels line
    → Numbers rule levels level nw ne sw se
numbers-of rule levels line level nw ne sw se e h = by (subst (IsSquare MAX_LEVEL rule levels) e h)
  where
    back : (n : ℕ) → 1 ≤ n → n ≡ (n - 1) + 1
    back n l = omega arith

    by : IsSquare MAX_LEVEL rule levels (Quad level nw ne sw se) → Numbers rule levels level nw ne sw se
    by s =
        let four = four-of (is_quarter rule levels level) nw ne sw se s.2 in
        let into = λ (number : ℕ) (t : is_quarter rule levels level number ≡ true). subst (λ n. is_quarter rule levels n number ≡ true) (back level s.0) t in
        record { low = s.0; high = s.1; nw = into nw four.first; ne = into ne four.second; sw = into sw four.third; se = into se four.fourth }

-- the square of four quarters that stand for the numbers of a node line
pub quad-of : (rule : Rule) (lines : List Line) (line : Line) (level nw ne sw se : ℕ) (a b c d : Tree)
    → line ≡ Quad level nw ne sw se → IsSquare MAX_LEVEL rule (map level_of lines) line
    → (is_quarter rule (map level_of lines) ((level - 1) + 1) nw ≡ true → a ≡ tree_of lines (level - 1) nw)
    → (is_quarter rule (map level_of lines) ((level - 1) + 1) ne ≡ true → b ≡ tree_of lines (level - 1) ne)
    → (is_quarter rule (map level_of lines) ((level - 1) + 1) sw ≡ true → c ≡ tree_of lines (level - 1) sw)
    → (is_quarter rule (map level_of lines) ((level - 1) + 1) se ≡ true → d ≡ tree_of lines (level - 1) se)
    → quad a b c d ≡ quad (tree_of lines (level - 1) nw) (tree_of lines (level - 1) ne) (tree_of lines (level - 1) sw) (tree_of lines (level - 1) se)
quad-of rule lines line level nw ne sw se a b c d e h p q r s =
    let n = numbers-of rule (map level_of lines) line level nw ne sw se e h in
    λ i. quad (p n.nw i) (q n.ne i) (r n.sw i) (s n.se i)
