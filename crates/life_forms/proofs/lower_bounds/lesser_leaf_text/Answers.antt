use Rattle.std.proofs.Common.{◌≡◌, ◌++◌, ◌/◌, ◌%◌, List, ℕ, false, true, refl, sym, ap, ◌∙◌, subst}
use Rattle.life_base.specs.Tree.{is_blank_tree}
use Rattle.life_writer.specs.Lesser.{IsUpTo}
use Rattle.life_writer.specs.Listing.{rows_of, square_text}
use Rattle.life_mc.specs.Writing.{header_lines_text, node_text}
use Rattle.life_mc.specs.declared.line.Line.TheVariants.{Leaf}
use Rattle.life_quad.specs.Store.{eight, four}
use Rattle.life_quad.specs.Turning.{turned_tree}
use Rattle.life_quad.proofs.TurningLemmas.{blank-image}
use Rattle.life_base.specs.declared.rule.Rule.{Rule}
use Rattle.life_pattern.specs.Universe.{is_life}
use Rattle.life_forms.specs.Turns.{Turn, turn_of}
use Rattle.life_forms.proofs.CornerFacts.{life-low}
use Rattle.life_forms.proofs.LeafFacts.{text-of-leaf}
use Rattle.life_forms.proofs.lower_bounds.lesser_leaf_text.Goals as goal

-- the text of a leaf, turned
text-is : (rule : Rule) (generation : ℕ) → is_life rule ≡ true → (turn : Turn) (leaf image : ℕ) (text : List ℕ)
    → is_blank_tree (eight leaf) ≡ false → eight image ≡ turned_tree turn (eight leaf)
    → text ≡ header_lines_text rule generation ++ node_text (Leaf (rows_of (eight image)))
    → text ≡ square_text rule generation (turned_tree turn (eight leaf))
text-is rule generation life turn leaf image text live is reported =
    let blank : is_blank_tree (eight image) ≡ false = ap is_blank_tree is ∙ blank-image turn (eight leaf) ∙ live in
    reported ∙ sym (text-of-leaf rule life (life-low rule life) generation (four (image / 281474976710656)) (four (image / 4294967296 % 65536))
    (four (image / 65536 % 65536)) (four (image % 65536)) refl refl refl refl blank)
    ∙ ap (square_text rule generation) is

pub returns-clause-first : goal.returns-clause-first
returns-clause-first c rule generation life prefix =
    subst (IsUpTo c.lesser_of.result.items)
    (text-is rule generation life (turn_of false c.args.columns c.args.rows) c.args.leaf c.turned_leaf.result c.in_ok-first.first.items c.requires.live
    c.turned_leaf.ensures (c.in_ok-first.ensures.text ∙ ap (λ l. l ++ node_text (Leaf (rows_of (eight c.turned_leaf.result)))) prefix))
    c.lesser_of.ensures.first

pub returns-clause-second : goal.returns-clause-second
returns-clause-second c rule generation life prefix =
    subst (IsUpTo c.lesser_of.result.items)
    (text-is rule generation life (turn_of true c.args.columns c.args.rows) c.args.leaf c.turned_leaf-2.result c.in_ok-second.second.items c.requires.live
    c.turned_leaf-2.ensures (c.in_ok-second.ensures.text ∙ ap (λ l. l ++ node_text (Leaf (rows_of (eight c.turned_leaf-2.result)))) prefix))
    c.lesser_of.ensures.second
