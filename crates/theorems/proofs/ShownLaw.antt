-- The five lines of a file are those of the layer below.
use Rattle.std.proofs.Common.{◌≡◌, ℕ, List, [], ◌++◌, length, cond, refl, ap, ◌∙◌, sym, subst, ◌==◌, codes, decimal, Option, Some, None, Ok, ℤ, append-nil}
use Rattle.life_base.specs.Text.{lines_of}
use Rattle.life_base.specs.Rules.{rule_text as layer_text, digits_of, with_letter, most_neighbours}
use Rattle.life_base.specs.declared.bounds.Bounds.{Bounds}
use Rattle.life_base.specs.declared.rule.Near.{Near}
use Rattle.life_base.specs.declared.rule.Near.TheVariants.{Moore, VonNeumann}
use Rattle.life_base.specs.declared.rule.Rule.{Rule as LayerRule}
use Rattle.life_base.specs.declared.rule.Rule.TheVariants.{Life, Named}
use Rattle.life_mc.specs.Cells.{node_lines as layer_node_lines}
use Rattle.life_mc.proofs.NodeLines.{node_lines_counted}
use Rattle.life_pattern.specs.Universe.{Universe}
use Rattle.life_writer.specs.Listing.{canon_text, canonical_file}
use Rattle.life_pattern.specs.Laws.{FilesAreOnPlane, FilesAreUnique}
use Rattle.life_writer.specs.Laws.{TextsAreFiles}
use Rattle.life_writer.specs.Texts.{IsCanonical, box_text, IsShownText as LayerShown, IsBoxOf}
use Rattle.claims.specs.Pattern.{Pattern}
use Rattle.claims.specs.Files.{pattern_of}
use Rattle.claims.specs.Counting.{claimed_node_lines}
use Rattle.claims.specs.Rules.{claimed_rule_text}
use Rattle.claims.specs.Shown.{IsBox, box_line, IsClaimedShown}
use Rattle.claims.proofs.RuleLaw.{rule_in}
use Rattle.theorems.proofs.FileLaw.{files_agree}
use Rattle.theorems.proofs.CellsLaw.{same_cells}

pub rule_text_is : (rule : LayerRule) → claimed_rule_text (rule_in rule) ≡ layer_text rule
rule_text_is (Named name) = refl
rule_text_is (Life rule) = by rule.near (digits_of rule.sets.births) (digits_of rule.sets.survivals)
  where
    by : (near : Near) (b s : List ℕ) → codes "B" ++ b ++ codes "/S" ++ s ++ cond (most_neighbours near == 4) (codes "V") []
        ≡ with_letter near (codes "B" ++ b ++ codes "/S" ++ s)
    by Moore b s = append-nil (codes "B" ++ b ++ codes "/S" ++ s)
    by VonNeumann b s = refl

-- the five lines by their parts
abbrev reported : ℕ → List ℕ → ℕ → List ℕ → ℕ → List ℕ
reported population rule generation box nodes =
    codes "rule " ++ rule ++ codes "\ngeneration " ++ decimal generation ++ codes "\npopulation " ++ decimal population ++ codes "\n" ++ box ++ codes "nodes "
    ++ decimal nodes ++ codes "\n"

box_line_is : (box : Option Bounds) → box_line box ≡ box_text box
box_line_is None = refl
box_line_is (Some box) = refl

same_box : (d : ℤ → ℤ → ℕ) (box : Option Bounds) → IsBoxOf d box → IsBox d box
same_box d None h = h
same_box d (Some box) h = record { inside = h.inside; at_left = h.at_left; at_right = h.at_right; at_top = h.at_top; at_bottom = h.at_bottom }

-- the pattern of a file and what is reported of it
pub shown_is : FilesAreOnPlane 62 → FilesAreUnique 62 → TextsAreFiles 62 → (bytes lines text : List ℕ) → LayerShown 62 bytes lines → IsCanonical 62 bytes text
    → (pattern : Pattern) × (pattern_of bytes ≡ Ok pattern) × IsClaimedShown pattern (claimed_node_lines text) lines
shown_is on_plane unique files bytes lines text s c =
    let u = s.universe in
    let v = c.universe in
    let p = files_agree bytes u s.reads in
    let same : u ≡ v = unique (lines_of bytes) u v s.reads c.reads in
    let h = files v (on_plane bytes v c.reads) in
    let counted : layer_node_lines (canonical_file 62 v)
    ≡ claimed_node_lines (canon_text 62 v) = node_lines_counted 62 (canon_text 62 v) (canonical_file 62 v) h.0 in
    let nodes : layer_node_lines (canonical_file 62 u) ≡ claimed_node_lines text =
    ap (λ (w : Universe). layer_node_lines (canonical_file 62 w)) same ∙ counted ∙ ap claimed_node_lines (sym c.is) in
    let cells : p.pattern.cell ≡ u.cell = λ i x y. p.cells x y i in (
      p.pattern,
      p.is,
      record {
        cells = s.cells;
        are = same_cells p.pattern.cell u.cell s.cells cells s.are;
        box = s.box;
        is_box = subst (λ (f : ℤ → ℤ → ℕ). IsBox f s.box) (sym cells) (same_box u.cell s.box s.least);
        is = s.is
            ∙ ap (λ (r : List ℕ). reported (length s.cells) r u.generation (box_text s.box) (layer_node_lines (canonical_file 62 u)))
            (sym (ap claimed_rule_text p.rule ∙ rule_text_is u.rule))
            ∙ ap (λ g. reported (length s.cells) (claimed_rule_text p.pattern.rule) g (box_text s.box) (layer_node_lines (canonical_file 62 u)))
            (sym p.generation)
            ∙ ap (λ (b : List ℕ). reported (length s.cells) (claimed_rule_text p.pattern.rule) p.pattern.generation b (layer_node_lines (canonical_file 62 u)))
            (sym (box_line_is s.box))
            ∙ ap (λ n. reported (length s.cells) (claimed_rule_text p.pattern.rule) p.pattern.generation (box_line s.box) n) nodes;
      },
    )
