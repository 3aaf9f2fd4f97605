-- The texts of a file are those of the pattern that was read from it.
use Rattle.std.proofs.Common.{◌≡◌, ℕ, ◌<◌, ◌≤◌, ◌^◌, List, ap, sym, ◌∙◌, subst, arith, lit≤, lit<, ◌⊎◌, inl, inr, Result, Ok, Err, IfErr}
use Rattle.life_base.specs.Refusal.{fault_of}
use Rattle.life_base.specs.declared.cell.TheConstants.{MAX_LEVEL}
use Rattle.life_base.specs.declared.fault.Fault.{Fault}
use Rattle.life_base.specs.declared.kind.Kind.TheVariants.{Memory, TooManyCells}
use Rattle.life_mc.specs.Reading.{IsMacrocell}
use Rattle.life_mc.specs.Writing.{mc_text}
use Rattle.life_quad.specs.Store.{Nodes}
use Rattle.life_writer.specs.Least.{IsLeastText}
use Rattle.life_writer.specs.Listing.{canonical_file, canon_text}
use Rattle.life_pattern.specs.Store.{IsRead, RefusesIn, universe_in}
use Rattle.life_writer.specs.Texts.{IsCanonical, FileHasMoreCells}
use Rattle.life_pattern.specs.declared.pattern.Pattern.{Pattern}
use Rattle.life_writer.proofs.Canonical.{same-canonical}
use Rattle.life_pattern.proofs.Fits.{read-same}
use Rattle.life_pattern.proofs.TreeWords.{below_top}
use Rattle.life_writer.proofs.TextLaws as laws
use Rattle.life_writer.proofs.TextFacts.{on-plane}

text-is : (bytes : List ℕ) (store : Nodes) (pattern : Pattern) (r : IsRead MAX_LEVEL bytes store pattern) (text : List ℕ)
    → text ≡ canon_text MAX_LEVEL (universe_in store pattern)
    → text ≡ canon_text MAX_LEVEL r.universe
unfolding canon_text
text-is bytes store pattern r text e = e ∙ ap mc_text (sym (same-canonical MAX_LEVEL r.universe (universe_in store pattern) (read-same bytes store pattern r)))

pub canonical-text : (bytes : List ℕ) (store : Nodes) (pattern : Pattern) → IsRead MAX_LEVEL bytes store pattern → (text : List ℕ)
    → text ≡ canon_text MAX_LEVEL (universe_in store pattern)
    → IsCanonical MAX_LEVEL bytes text
canonical-text bytes store pattern r text e = record { universe = r.universe; reads = r.reads; is = text-is bytes store pattern r text e }

pub least-text : (bytes : List ℕ) (store : Nodes) (pattern : Pattern) → IsRead MAX_LEVEL bytes store pattern → (text : List ℕ)
    → text ≡ canon_text MAX_LEVEL (universe_in store pattern)
    → IsLeastText MAX_LEVEL bytes text
least-text bytes store pattern r text e =
    let u = r.universe in
    let h = on-plane bytes u r.reads in
    let file = laws.texts_are_files below_top (omega arith) (lit< tt) (lit≤ tt) u h in
    record {
      universe = u;
      reads = r.reads;
      file = canonical_file MAX_LEVEL u;
      says = subst (λ t. IsMacrocell MAX_LEVEL t (canonical_file MAX_LEVEL u)) (sym (text-is bytes store pattern r text e)) file.0;
      same = file.1;
      least = laws.canonical_is_least below_top (omega arith) (lit< tt) (lit≤ tt) u h;
    }

-- what refuses the text of a pattern in RLE refuses its file
pub rle-fault : {X : Type 0} (bytes : List ℕ) (store : Nodes) (pattern : Pattern) → IsRead MAX_LEVEL bytes store pattern → (r : Result X Fault)
    → IfErr r (λ fault. (fault ≡ fault_of Memory)
    ⊎ ((fault ≡ fault_of TooManyCells) × ((b : List ℕ) → IsRead MAX_LEVEL b store pattern → FileHasMoreCells MAX_LEVEL b (2 ^ 20))))
    → IfErr r (λ fault. RefusesIn MAX_LEVEL bytes store fault ⊎ ((fault ≡ fault_of TooManyCells) × FileHasMoreCells MAX_LEVEL bytes (2 ^ 20)))
rle-fault bytes store pattern read (Ok x) h = tt
rle-fault bytes store pattern read (Err fault) (inl memory) = inl (inr (inl memory))
rle-fault bytes store pattern read (Err fault) (inr many) = inr (many.0, many.1 bytes read)
