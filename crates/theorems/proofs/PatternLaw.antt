-- Which patterns files say: those that fit, as in the layer below.
use Rattle.std.proofs.Common.{◌≡◌, ℕ, ◌<◌, ◌≤◌, ◌^◌, List, refl, ap, ◌∙◌, sym, subst, inl, inr, Result, Ok, Err}
use Rattle.std.proofs.lemmas.Bool.{cases_Bool}
use Rattle.life_base.proofs.ReadBack.{rules_read_back}
use Rattle.life_base.proofs.RuleValues.{rule_values}
use Rattle.life_base.proofs.Results.{ok_same}
use Rattle.life_base.specs.Numbers.{result_map}
use Rattle.life_base.specs.Text.{lines_of}
use Rattle.life_base.specs.Rules.{rule_of as layer_rule_of, rule_text as layer_text}
use Rattle.life_base.specs.declared.kind.Kind.{Kind}
use Rattle.life_base.specs.declared.rule.Rule.{Rule as LayerRule}
use Rattle.life_pattern.specs.Files.{Reads, as_macrocell, as_rle, is_macrocell}
use Rattle.life_pattern.specs.Laws.{FilesAreOnPlane}
use Rattle.life_writer.specs.Laws.{TextsAreFiles}
use Rattle.life_writer.specs.Listing.{canon_text, canonical_file}
use Rattle.life_pattern.specs.Universe.{Universe, IsOnPlane, macrocell_universe, rle_universe}
use Rattle.life_mc.specs.Macrocell.{largest_state as layer_largest}
use Rattle.claims.specs.Rules.{Rule, claimed_rule_of, claimed_rule_text, claimed_largest_state}
use Rattle.claims.specs.Pattern.{Pattern}
use Rattle.claims.specs.Files.{pattern_of}
use Rattle.claims.proofs.Back.{macrocell_back, rle_back}
use Rattle.claims.proofs.NodeLaw.{largest_is}
use Rattle.claims.proofs.RuleLaw.{rule_in, rule_of_is}
use Rattle.theorems.specs.Patterns.{FitsFormats, PatternsHaveFiles, PatternsOfFilesFit}
use Rattle.theorems.proofs.FileLaw.{files_agree, ok_of, as_mc, as_rle_lines}
use Rattle.theorems.proofs.PlaneLaw.{not_of_plane, outside_is}
use Rattle.theorems.proofs.ShownLaw.{rule_text_is}

rule_back : (r : Result LayerRule Kind) (rule : Rule) → result_map rule_in r ≡ Ok rule → (one : LayerRule) × (r ≡ Ok one) × (rule_in one ≡ rule)
rule_back (Ok one) rule e = (one, refl, ok_same (Ok (rule_in one)) (rule_in one) rule refl e)
rule_back (Err kind) rule e = cc

pub have_files : TextsAreFiles 62 → PatternsHaveFiles
have_files files pattern h =
    let text = claimed_rule_text pattern.rule in
    let found = rule_back (layer_rule_of text) pattern.rule (sym (rule_of_is text) ∙ h.rule) in
    let u : Universe = record { rule = found.0; generation = pattern.generation; cell = pattern.cell } in
    let plane : IsOnPlane 62 u = record {
      rule = rule_values text found.0 found.1;
      generation = h.generation;
      states = λ x y. subst (λ n. pattern.cell x y ≤ n) (ap claimed_largest_state (sym found.2) ∙ largest_is found.0) (h.states x y);
      outside = λ x y never. h.outside x y (outside_is x y never);
    } in
    let file = files u plane in
    let p = files_agree (canon_text 62 u) (macrocell_universe (canonical_file 62 u)) (as_macrocell (canonical_file 62 u) file.0) in (
      canon_text 62 u,
      record {
        said = p.pattern;
        is = p.is;
        rule = p.rule ∙ ap rule_in (sym file.1.rule) ∙ found.2;
        generation = p.generation ∙ sym file.1.generation;
        cells = λ x y. p.cells x y ∙ sym (file.1.cells x y);
      },
    )

-- the pattern of a file is read in the layer
pub is_read : (bytes : List ℕ) (pattern : Pattern) → pattern_of bytes ≡ Ok pattern → (u : Universe) × Reads 62 bytes u
is_read bytes pattern e = elim (cases_Bool (is_macrocell (lines_of bytes))) [
  | inl m ↦
      let back = macrocell_back (lines_of bytes) pattern (sym (as_mc bytes m) ∙ e) in (macrocell_universe back.0, as_macrocell back.0 back.1)
  | inr m ↦ let back = rle_back (lines_of bytes) pattern (sym (as_rle_lines bytes m) ∙ e) in (rle_universe back.0, as_rle back.0 back.1)
]

pub files_fit : FilesAreOnPlane 62 → PatternsOfFilesFit
files_fit on_plane bytes pattern e =
    let read = is_read bytes pattern e in
    let u = read.0 in
    let p = files_agree bytes u read.1 in
    let plane = on_plane bytes u read.1 in
    let text : claimed_rule_of (claimed_rule_text (rule_in u.rule)) ≡ Ok (rule_in u.rule) =
    ap claimed_rule_of (rule_text_is u.rule) ∙ rule_of_is (layer_text u.rule)
    ∙ ap (λ (r : Result LayerRule Kind). result_map rule_in r) (rules_read_back u.rule plane.rule) in
    subst FitsFormats (ok_of (pattern_of bytes) p.pattern pattern p.is e)
    (record {
      rule = subst (λ (r : Rule). claimed_rule_of (claimed_rule_text r) ≡ Ok r) (sym p.rule) text;
      generation = subst (λ n. n < 2 ^ 64) (sym p.generation) plane.generation;
      states = λ x y.
          subst (λ (r : Rule). p.pattern.cell x y ≤ claimed_largest_state r) (sym p.rule)
          (subst (λ n. p.pattern.cell x y ≤ n) (sym (largest_is u.rule)) (subst (λ n. n ≤ layer_largest u.rule) (sym (p.cells x y)) (plane.states x y)));
      outside = λ x y out. p.cells x y ∙ plane.outside x y (not_of_plane x y out);
    })
