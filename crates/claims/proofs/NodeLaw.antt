-- The square of a node line is that of the layer below.
use Rattle.std.proofs.Common.{◌≡◌, ℕ, zero, suc, ◌-◌, List, [], ◌∷◌, ◌++◌, length, take, drop, map, replicate, Bool, true, false, cond, not, ◌&&◌, ◌||◌, refl, ap, ◌∙◌, sym, subst, arith, nat_le, nat_lt, ◌==◌, slice_get, slice_index, Option, Some, None, Result, Ok, Err}
use Rattle.std.specs.List.{list_all}
use Rattle.std.specs.Option.{option_to_list}
use Rattle.std.proofs.lemmas.Bool.Decides.{nat_tests}
use Rattle.std.proofs.lemmas.List.{map-append}
use Rattle.life_base.specs.Text.{is_digit_text, value_of, words_of}
use Rattle.life_base.specs.declared.kind.Kind.{Kind}
use Rattle.life_base.specs.declared.kind.Kind.TheVariants as kinds
use Rattle.life_base.specs.declared.rule.Rule.{Rule as LayerRule}
use Rattle.life_base.specs.declared.rule.Rule.TheVariants.{Life, Named}
use Rattle.life_mc.specs.Macrocell.{is_level, is_quarter, level_of as line_level, item_of_number as layer_numbered, largest_state as layer_largest, is_child as layer_child}
use Rattle.life_mc.specs.Reading.{leaf_rows, is_leaf, is_at_end, byte_of_row, square_of_text, broken_by_node, broken_by_square, quad_of_numbers as layer_quad_of}
use Rattle.life_mc.specs.declared.line.Line.{Line}
use Rattle.life_mc.specs.declared.line.Line.TheVariants.{Leaf, Quad}
use Rattle.claims.specs.Outcomes.{◌>>=◌}
use Rattle.claims.specs.Rules.{claimed_largest_state}
use Rattle.claims.specs.Macrocell.{Node, leaf, quad, claimed_level_of, is_end, claimed_quad_of, node_of, node_of_number, has_level, is_claimed_child, with_node, is_claimed_leaf_byte}
use Rattle.claims.proofs.RuleLaw.{rule_in}

-- a square in the words of the layer
abbrev pub line_in : Node → Line
line_in (leaf rows) = Leaf (take 8 (map byte_of_row rows ++ replicate 8 0))
line_in (quad level nw ne sw se) = Quad level nw ne sw se

-- the levels of squares
abbrev pub levels_of : List Node → List ℕ
levels_of nodes = map line_level (map line_in nodes)

end_is : (rows : List (List ℕ)) → is_end rows ≡ is_at_end rows
end_is [] = refl
end_is ([] ∷ []) = refl
end_is ((b ∷ row) ∷ []) = refl
end_is ([] ∷ next ∷ rows) = refl
end_is ((b ∷ row) ∷ next ∷ rows) = refl

pub largest_is : (rule : LayerRule) → claimed_largest_state (rule_in rule) ≡ layer_largest rule
largest_is (Life rule) = refl
largest_is (Named name) = refl

pub level_is : (node : Node) → line_level (line_in node) ≡ claimed_level_of node
level_is (leaf rows) = refl
level_is (quad level nw ne sw se) = refl

has_level_at : (level : ℕ) (nodes : List Node) (i : ℕ) → has_level level (slice_get nodes i) ≡ is_level level (slice_get (levels_of nodes) i)
has_level_at level [] i = refl
has_level_at level (node ∷ nodes) zero = ap (λ n. n == level) (sym (level_is node))
has_level_at level (node ∷ nodes) (suc i) = has_level_at level nodes i

has_level_is : (level : ℕ) (nodes : List Node) (number : ℕ) → has_level level (node_of_number nodes number)
    ≡ is_level level (layer_numbered (levels_of nodes) number)
has_level_is level nodes zero = refl
has_level_is level nodes (suc i) = has_level_at level nodes i

child_is : (nodes : List Node) (level number : ℕ) → is_claimed_child nodes level number ≡ layer_child (levels_of nodes) level number
child_is nodes level number = ap (λ v. number == 0 || v) (has_level_is level nodes number)

all_is : (p q : ℕ → Bool) → ((n : ℕ) → p n ≡ q n) → (ns : List ℕ) → list_all p ns ≡ list_all q ns
all_is p q e [] = refl
all_is p q e (n ∷ ns) = ap (λ v. v && list_all p ns) (e n) ∙ ap (λ v. q n && v) (all_is p q e ns)

bad_level : (level : ℕ) → (level == 0 || nat_lt 62 level) ≡ not (nat_le 1 level && nat_le level 62)
bad_level level = grind (arith, nat_tests)

-- an answer of the claims, together with the rule that the layer finds broken and the squares that it then has
pub data Fits {X : Type 0} (P : X → Type 0) : Option Kind → Result X Kind → Type 0 where
  passes : (x : X) → P x → Fits P None (Ok x)
  fails : (kind : Kind) → Fits P (Some kind) (Err kind)

pub moved : {X : Type 0} (P : X → Type 0) {a b : Option Kind} {x y : Result X Kind} → a ≡ b → x ≡ y → Fits P b y → Fits P a x
moved {X} P {a} {b} {x} {y} e f h = subst (λ o. Fits P o x) (sym e) (subst (λ r. Fits P b r) (sym f) h)

quarters_all : (one : Bool) (p q : ℕ → Bool) (ns : List ℕ) → list_all (λ n. cond one (p n) (q n)) ns ≡ cond one (list_all p ns) (list_all q ns)
quarters_all true p q ns = refl
quarters_all false p q ns = refl

quad_step : (P : List Node → Type 0) (bad one states children : Bool) (next : List Node) → P next
    → Fits P (cond bad (Some kinds.BadLevel) (cond (cond one states children) None (cond one (Some kinds.StateRange) (Some kinds.BadChild))))
    (cond bad (Err kinds.BadLevel) (cond one (cond states (Ok next) (Err kinds.StateRange)) (cond children (Ok next) (Err kinds.BadChild))))
quad_step P true one states children next h = fails kinds.BadLevel
quad_step P false true true children next h = passes next h
quad_step P false true false children next h = fails kinds.StateRange
quad_step P false false states true next h = passes next h
quad_step P false false states false next h = fails kinds.BadChild

-- a square after others, in both
pub node_fits : (rule : LayerRule) (nodes : List Node) (node : Node)
    → Fits (λ next. map line_in next ≡ map line_in nodes ++ line_in node ∷ []) (broken_by_square 62 rule (levels_of nodes) (Some (line_in node)))
    (with_node (rule_in rule) nodes node)
node_fits rule nodes (leaf rows) = passes _ (map-append line_in nodes (leaf rows ∷ []))
node_fits rule nodes (quad level nw ne sw se) =
    let P : List Node → Type 0 = λ next. map line_in next ≡ map line_in nodes ++ Quad level nw ne sw se ∷ [] in
    let ns = nw ∷ ne ∷ sw ∷ se ∷ [] in
    let one = level == 1 in
    let p : ℕ → Bool = λ n. nat_le n (layer_largest rule) in
    let p' : ℕ → Bool = λ n. nat_le n (claimed_largest_state (rule_in rule)) in
    let q : ℕ → Bool = λ n. layer_child (levels_of nodes) (level - 1) n in
    let q' : ℕ → Bool = λ n. is_claimed_child nodes (level - 1) n in
    let next = nodes ++ quad level nw ne sw se ∷ [] in
    let rest : Option Kind = cond (list_all (is_quarter rule (levels_of nodes) level) ns) None (cond one (Some kinds.StateRange) (Some kinds.BadChild)) in
    moved P
    (ap (λ v. cond v (Some kinds.BadLevel) rest) (sym (bad_level level))
    ∙ ap (λ v. cond (level == 0 || nat_lt 62 level) (Some kinds.BadLevel) (cond v None (cond one (Some kinds.StateRange) (Some kinds.BadChild))))
    (quarters_all one p q ns))
    (ap (λ v. cond (level == 0 || nat_lt 62 level) (Err kinds.BadLevel)
    (cond one (cond v (Ok next) (Err kinds.StateRange)) (cond (list_all q' ns) (Ok next) (Err kinds.BadChild))))
    (all_is p' p (λ n. ap (nat_le n) (largest_is rule)) ns)
    ∙ ap (λ v. cond (level == 0 || nat_lt 62 level) (Err kinds.BadLevel)
    (cond one (cond (list_all p ns) (Ok next) (Err kinds.StateRange)) (cond v (Ok next) (Err kinds.BadChild))))
    (all_is q' q (λ n. child_is nodes (level - 1) n) ns))
    (quad_step P (level == 0 || nat_lt 62 level) one (list_all p ns) (list_all q ns) next (map-append line_in nodes (quad level nw ne sw se ∷ [])))

-- the squares that a text gives
abbrev pub Adds : List Node → Option Line → List Node → Type 0
Adds nodes square next = map line_in next ≡ map line_in nodes ++ option_to_list square

quads_fit : (rule : LayerRule) (nodes : List Node) (numbers : List ℕ)
    → Fits (Adds nodes (layer_quad_of numbers)) (broken_by_square 62 rule (levels_of nodes) (layer_quad_of numbers))
    (claimed_quad_of numbers >>= λ node. with_node (rule_in rule) nodes node)
quads_fit rule nodes [] = fails kinds.BadNode
quads_fit rule nodes (a ∷ []) = fails kinds.BadNode
quads_fit rule nodes (a ∷ b ∷ []) = fails kinds.BadNode
quads_fit rule nodes (a ∷ b ∷ c ∷ []) = fails kinds.BadNode
quads_fit rule nodes (a ∷ b ∷ c ∷ d ∷ []) = fails kinds.BadNode
quads_fit rule nodes (a ∷ b ∷ c ∷ d ∷ e ∷ []) = node_fits rule nodes (quad a b c d e)
quads_fit rule nodes (a ∷ b ∷ c ∷ d ∷ e ∷ f ∷ numbers) = fails kinds.BadNode

text_step : (rule : LayerRule) (nodes : List Node) (first whole digits : Bool) (rows : List (List ℕ)) (numbers : List ℕ)
    → let square : Option Line = cond first (cond whole (Some (line_in (leaf rows))) None) (cond digits (layer_quad_of numbers) None) in
    Fits (Adds nodes square) (cond (first && not whole) (Some kinds.BadLeaf) (broken_by_square 62 rule (levels_of nodes) square))
    (cond first (cond whole (Ok (leaf rows)) (Err kinds.BadLeaf)) (cond digits (claimed_quad_of numbers) (Err kinds.BadNode)) >>= λ node.
    with_node (rule_in rule) nodes node)
text_step rule nodes true true digits rows numbers = node_fits rule nodes (leaf rows)
text_step rule nodes true false digits rows numbers = fails kinds.BadLeaf
text_step rule nodes false whole true rows numbers = quads_fit rule nodes numbers
text_step rule nodes false whole false rows numbers = fails kinds.BadNode

leaf_is : (text : List ℕ) → (list_all is_claimed_leaf_byte text && list_all (λ row. nat_le (length row) 8) (leaf_rows text) && is_end (drop 8 (leaf_rows text)))
    ≡ is_leaf text
leaf_is text = ap (λ v. list_all is_claimed_leaf_byte text && list_all (λ row. nat_le (length row) 8) (leaf_rows text) && v) (end_is (drop 8 (leaf_rows text)))

-- the square of a node line after others, in both
pub text_fits : (rule : LayerRule) (nodes : List Node) (text : List ℕ)
    → Fits (Adds nodes (square_of_text text)) (broken_by_node 62 rule (levels_of nodes) text) (node_of text >>= λ node. with_node (rule_in rule) nodes node)
text_fits rule nodes text =
    let first = is_claimed_leaf_byte (slice_index text 0) in
    let digits = list_all is_digit_text (words_of text) in
    moved (Adds nodes (square_of_text text)) refl
    (ap (λ v. cond first (cond v (Ok (leaf (leaf_rows text))) (Err kinds.BadLeaf))
    (cond digits (claimed_quad_of (map value_of (words_of text))) (Err kinds.BadNode)) >>= λ node. with_node (rule_in rule) nodes node) (leaf_is text))
    (text_step rule nodes first (is_leaf text) digits (leaf_rows text) (map value_of (words_of text)))
