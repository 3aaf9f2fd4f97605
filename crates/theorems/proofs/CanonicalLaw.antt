-- A canonical text is one of the files with which it is compared.
use Rattle.std.proofs.Common.{◌≡◌, ℕ, List, ap, ◌∙◌, sym, subst}
use Rattle.life_mc.specs.Reading.{IsMacrocell}
use Rattle.life_pattern.specs.Laws.{FilesAreOnPlane}
use Rattle.life_writer.specs.Laws.{TextsAreFiles, TextsKeepPatterns}
use Rattle.life_writer.specs.Least.{IsLeastText}
use Rattle.life_writer.specs.Listing.{canonical_file}
use Rattle.life_writer.specs.Texts.{IsCanonical}
use Rattle.claims.specs.Canonical.{IsTextOfPattern}
use Rattle.claims.specs.Counting.{IsCanonicalText}
use Rattle.claims.specs.Files.{pattern_of, SayOnePattern}
use Rattle.claims.specs.Pattern.{Pattern}
use Rattle.claims.proofs.RuleLaw.{rule_in}
use Rattle.theorems.proofs.FileLaw.{files_agree, ok_of, text_is_file, text_is_least, text_is_macrocell}
use Rattle.theorems.proofs.Leafless.{leaves_so}
use Rattle.theorems.proofs.TextLaw.{text_of_pattern}

pub canonical_so : FilesAreOnPlane 62 → TextsAreFiles 62 → TextsKeepPatterns 62 → (file text : List ℕ) → IsCanonical 62 file text → IsLeastText 62 file text
    → IsCanonicalText file text
canonical_so on_plane files keep file text c l =
    let u = c.universe in
    let agrees = files_agree file u c.reads in
    let same : SayOnePattern file text = text_is_file keep file text c in
    let said : same.first ≡ agrees.pattern = ok_of (pattern_of file) same.first agrees.pattern same.first_is agrees.is in
    let rule : same.second.rule ≡ rule_in u.rule = sym same.rule ∙ ap (λ (p : Pattern). p.rule) said ∙ agrees.rule in
    let says : IsMacrocell 62 text (canonical_file 62 u) =
    subst (λ (t : List ℕ). IsMacrocell 62 t (canonical_file 62 u)) (sym c.is) (files u (on_plane file u c.reads)).0 in
    record {
      rival = record {
        same = same;
        format = text_is_macrocell files on_plane file text c;
        leaves = leaves_so text u same.second.rule rule says;
      };
      is = subst (λ (p : Pattern). IsTextOfPattern p text) (sym said)
          (text_of_pattern u agrees.pattern text (on_plane file u c.reads) agrees.rule agrees.generation agrees.cells c.is);
      least = text_is_least on_plane file text l;
    }
