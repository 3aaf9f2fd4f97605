-- What the bytes of a file say is what they say in the layer below; so the theorems of that layer speak of it.
use Rattle.std.proofs.Common.{◌≡◌, ◌↔◌, ℕ, ◌^◌, ◌<◌, ◌≤◌, List, [], ◌∷◌, length, Bool, true, false, cond, refl, ap, ◌∙◌, sym, subst, arith, ◌⊎◌, inl, inr, ℤ, codes, Some, None, Result, Ok, Err, IfOk, IsTrue}
use Rattle.life_base.specs.Text.{lines_of, begins_with, is_too_long}
use Rattle.life_base.specs.declared.kind.Kind.TheVariants as kinds
use Rattle.life_mc.specs.Macrocell.{Macrocell}
use Rattle.life_mc.specs.Reading.{AreMacrocell, broken_rule}
use Rattle.life_rle.specs.Pattern.{Rle}
use Rattle.life_rle.specs.Written.{rle_text}
use Rattle.life_base.specs.declared.cell.Cell.{Cell}
use Rattle.life_base.specs.declared.rule.Rule.{Rule as LayerRule}
use Rattle.life_rle.specs.Grammar.{IsRle}
use Rattle.life_rle.proofs.PrefixLaws.{begins_as_rle, prefixes_are_files}
use Rattle.life_base.specs.declared.fault.Fault.{Fault}
use Rattle.life_pattern.specs.Universe.{Universe, IsSame, macrocell_universe, is_life}
use Rattle.life_writer.specs.Least.{IsLeastText, HasNoLeaves}
use Rattle.life_mc.specs.Cells.{node_lines as layer_node_lines}
use Rattle.life_mc.proofs.NodeLines.{node_lines_counted}
use Rattle.life_base.specs.declared.rule.Rule.TheVariants.{Life, Named}
use Rattle.claims.specs.Rules.{Rule, is_counting}
use Rattle.claims.specs.Counting.{claimed_node_lines, has_leaves, IsClaimedRival}
use Rattle.claims.proofs.Back.{macrocell_back, no_leaves}
use Rattle.life_pattern.specs.Files.{as_macrocell, as_rle, Reads, is_macrocell, Accepted, Same as LayerSame}
use Rattle.life_writer.specs.Texts.{IsCanonical, IsRleOf}
use Rattle.life_writer.specs.Listing.{canon_text, canonical_file}
use Rattle.life_pattern.specs.Laws.{FilesAreOnPlane}
use Rattle.life_writer.specs.Laws.{TextsTellPatterns, TextsKeepPatterns, TextsAreFiles}
use Rattle.claims.specs.Pattern.{Pattern}
use Rattle.claims.specs.Files.{pattern_of, macrocell_of, read_lines, end_of_rle, SayOnePattern}
use Rattle.claims.specs.Rle.{with_rle_line}
use Rattle.claims.proofs.Format.{first_line_of, begins_line}
use Rattle.claims.proofs.McFile.{macrocell_says}
use Rattle.claims.proofs.RleFile.{rle_says, begun}
use Rattle.claims.proofs.RuleLaw.{rule_in}
use Rattle.claims.proofs.RuleBack.{rules_are}

-- the pattern is that of the layer
pub record Agrees (bytes : List ℕ) (u : Universe) : Type 0 where
  pub pattern : Pattern
  pub is : pattern_of bytes ≡ Ok pattern
  pub rule : pattern.rule ≡ rule_in u.rule
  pub generation : pattern.generation ≡ u.generation
  pub cells : (x y : ℤ) → pattern.cell x y ≡ u.cell x y

-- ---- the first line

is_first : (lines : List (List ℕ)) → begins_with (first_line_of lines) (codes "[M2]") ≡ is_macrocell lines
is_first [] = refl
is_first (line ∷ lines) = refl

-- the format is that of the first line
pub format_is : (bytes : List ℕ) → begins_with bytes (codes "[M2]") ≡ is_macrocell (lines_of bytes)
format_is bytes = begins_line (codes "[M2]") bytes refl ∙ is_first (lines_of bytes)

pub as_mc : (bytes : List ℕ) → is_macrocell (lines_of bytes) ≡ true → pattern_of bytes ≡ macrocell_of (lines_of bytes)
unfolding pattern_of
as_mc bytes h = ap (λ v. cond v (macrocell_of (lines_of bytes)) (read_lines with_rle_line end_of_rle 1 begun (lines_of bytes))) (format_is bytes ∙ h)

pub as_rle_lines : (bytes : List ℕ) → is_macrocell (lines_of bytes) ≡ false → pattern_of bytes ≡ read_lines with_rle_line end_of_rle 1 begun (lines_of bytes)
unfolding pattern_of
as_rle_lines bytes h = ap (λ v. cond v (macrocell_of (lines_of bytes)) (read_lines with_rle_line end_of_rle 1 begun (lines_of bytes))) (format_is bytes ∙ h)

pub mc_first : (lines : List (List ℕ)) (file : Macrocell) → AreMacrocell 62 lines file → is_macrocell lines ≡ true
unfolding broken_rule
mc_first [] file are = absurd (let h : 0 < length {A = List ℕ} [] = are.header in omega (arith, h))
mc_first (header ∷ rest) file are = by (is_too_long header) (begins_with header (codes "[M2]")) (are.unbroken 0 (omega arith))
  where
    by : (v w : Bool) → cond v (Some kinds.LineTooLong) (cond w None (Some kinds.NoHeader)) ≡ None → w ≡ true
    by true w e = cc
    by false true e = refl
    by false false e = cc

pub rle_first : (lines : List (List ℕ)) (file : Rle) → IsRle 62 lines file → is_macrocell lines ≡ false
rle_first [] file h = refl
rle_first (line ∷ lines) file h = begins_as_rle 62 line lines ((prefixes_are_files 62 (line ∷ lines)).1 (inl (file, h)))

pub files_agree : (bytes : List ℕ) (u : Universe) → Reads 62 bytes u → Agrees bytes u
files_agree bytes _ (as_macrocell file are) =
    let s = macrocell_says (lines_of bytes) file are in
    record { pattern = s.0; is = as_mc bytes (mc_first (lines_of bytes) file are) ∙ s.1.is; rule = s.1.rule; generation = s.1.generation; cells = s.1.cells }
files_agree bytes _ (as_rle file are) =
    let s = rle_says (lines_of bytes) file are in
    let is = as_rle_lines bytes (rle_first (lines_of bytes) file are) ∙ s.1.is in
    record { pattern = s.0; is = is; rule = s.1.rule; generation = s.1.generation; cells = s.1.cells }

pub same_to : (a b : List ℕ) → LayerSame 62 a b → SayOnePattern a b
same_to a b s =
    let p = files_agree a s.first s.reads_first in
    let q = files_agree b s.second s.reads_second in
    record {
      first = p.pattern;
      second = q.pattern;
      first_is = p.is;
      second_is = q.is;
      rule = p.rule ∙ ap rule_in s.same.rule ∙ sym q.rule;
      generation = p.generation ∙ s.same.generation ∙ sym q.generation;
      cells = λ x y. p.cells x y ∙ s.same.cells x y ∙ sym (q.cells x y);
    }

pub ok_of : (r : Result Pattern Fault) (p q : Pattern) → r ≡ Ok p → r ≡ Ok q → p ≡ q
ok_of r p q e f = cc

pub universes_are : FilesAreOnPlane 62 → (a b : List ℕ) (u v : Universe) → Reads 62 a u → Reads 62 b v → SayOnePattern a b → IsSame u v
universes_are on_plane a b u v h l s =
    let p = files_agree a u h in
    let q = files_agree b v l in
    let e : s.first ≡ p.pattern = ok_of (pattern_of a) s.first p.pattern s.first_is p.is in
    let f : s.second ≡ q.pattern = ok_of (pattern_of b) s.second q.pattern s.second_is q.is in
    record {
      rule = rules_are u.rule v.rule (on_plane a u h).rule (on_plane b v l).rule
          (sym p.rule ∙ sym (ap (λ (r : Pattern). r.rule) e) ∙ s.rule ∙ ap (λ (r : Pattern). r.rule) f ∙ q.rule);
      generation = sym p.generation ∙ sym (ap (λ (r : Pattern). r.generation) e) ∙ s.generation ∙ ap (λ (r : Pattern). r.generation) f ∙ q.generation;
      cells = λ x y. sym (p.cells x y) ∙ sym (ap (λ (r : Pattern). r.cell x y) e) ∙ s.cells x y ∙ ap (λ (r : Pattern). r.cell x y) f ∙ q.cells x y;
    }

pub same_from : FilesAreOnPlane 62 → (a b : List ℕ) (u v : Universe) → Reads 62 a u → Reads 62 b v → SayOnePattern a b → LayerSame 62 a b
same_from on_plane a b u v h l s = record { first = u; second = v; reads_first = h; reads_second = l; same = universes_are on_plane a b u v h l s }

-- two canonical texts are equal exactly if the files are the same
pub texts_are_exact : TextsTellPatterns 62 → FilesAreOnPlane 62 → (a b s t : List ℕ) → IsCanonical 62 a s → IsCanonical 62 b t → (s ≡ t) ↔ SayOnePattern a b
texts_are_exact tell on_plane a b s t c d =
    let law = tell a b c.universe d.universe c.reads d.reads in
    (λ e. same_to a b (law.0 (sym c.is ∙ e ∙ d.is)), λ h. c.is ∙ law.1 (same_from on_plane a b c.universe d.universe c.reads d.reads h) ∙ sym d.is)

-- a canonical text is a file of the same pattern
pub text_is_file : TextsKeepPatterns 62 → (a s : List ℕ) → IsCanonical 62 a s → SayOnePattern a s
text_is_file keep a s c = subst (λ (t : List ℕ). SayOnePattern a t) (sym c.is) (same_to a (canon_text 62 c.universe) (keep a c.universe c.reads))

-- and a macrocell file
pub text_is_macrocell : TextsAreFiles 62 → FilesAreOnPlane 62 → (a s : List ℕ) → IsCanonical 62 a s → begins_with s (codes "[M2]") ≡ true
text_is_macrocell files on_plane a s c =
    let h = files c.universe (on_plane a c.universe c.reads) in
    ap (λ (t : List ℕ). begins_with t (codes "[M2]")) c.is ∙ format_is (canon_text 62 c.universe)
    ∙ mc_first (lines_of (canon_text 62 c.universe)) (canonical_file 62 c.universe) h.0

-- the answer whether two files are the same
pub same_is : FilesAreOnPlane 62 → (a b : List ℕ) (answer : Bool) → Accepted 62 a × Accepted 62 b → IsTrue answer ↔ LayerSame 62 a b → IsTrue answer
    ↔ SayOnePattern a b
same_is on_plane a b answer are h =
    (λ t. same_to a b (h.0 t), λ s. h.1 (same_from on_plane a b are.0.0 are.1.0 are.0.1 are.1.1 s))

-- a text in extended RLE is no macrocell file
pub rle_format : (bytes text : List ℕ) → IsRleOf 62 (2 ^ 20) bytes text → begins_with text (codes "[M2]") ≡ false
rle_format bytes text h = ap (λ (t : List ℕ). begins_with t (codes "[M2]")) h.is ∙ by h.universe.rule h.universe.generation h.cells
  where
    by : (rule : LayerRule) (generation : ℕ) (cells : List Cell) → begins_with (rle_text rule generation cells) (codes "[M2]") ≡ false
    by rule generation [] = refl
    by rule generation (c ∷ cells) = refl

-- no file with which a canonical text is compared has fewer node lines
pub text_is_least : FilesAreOnPlane 62 → (a s : List ℕ) → IsLeastText 62 a s → (rival : List ℕ) → IsClaimedRival a rival
    → claimed_node_lines s ≤ claimed_node_lines rival
text_is_least on_plane a s l rival r =
    let back = macrocell_back (lines_of rival) r.same.second (sym (as_mc rival (sym (format_is rival) ∙ r.format)) ∙ r.same.second_is) in
    let file = back.0 in
    let v = macrocell_universe file in
    let reads : Reads 62 rival v = as_macrocell file back.1 in
    let same = universes_are on_plane a rival l.universe v l.reads reads r.same in
    let q = files_agree rival v reads in
    let rule : r.same.second.rule ≡ rule_in file.rule =
    ap (λ (p : Pattern). p.rule) (ok_of (pattern_of rival) r.same.second q.pattern r.same.second_is q.is) ∙ q.rule in
    let few = l.least rival file back.1 same (compared file.rule r.same.second.rule rule file r.leaves (no_leaves rival file back.1)) in
    let here : layer_node_lines l.file ≡ claimed_node_lines s = node_lines_counted 62 s l.file l.says in
    let there : layer_node_lines file ≡ claimed_node_lines rival = node_lines_counted 62 rival file back.1 in
    omega (arith, few, here, there)
  where
    counted : (rule : LayerRule) → is_counting (rule_in rule) ≡ is_life rule
    counted (Life rule) = refl
    counted (Named name) = refl

    compared : (rule : LayerRule) (reported : Rule) → reported ≡ rule_in rule → (file : Macrocell) → (is_counting reported ≡ true) ⊎ (has_leaves rival ≡ false)
        → (has_leaves rival ≡ false → HasNoLeaves file) → (is_life rule ≡ true) ⊎ HasNoLeaves file
    compared rule reported e file (inl c) f = inl (sym (counted rule) ∙ ap is_counting (sym e) ∙ c)
    compared rule reported e file (inr n) f = inr (f n)

pub map_ok : {X E : Type 0} {P Q : X → Type 0} (r : Result X E) → ((x : X) → P x → Q x) → IfOk r P → IfOk r Q
map_ok (Ok x) f h = f x h
map_ok (Err e) f h = tt
