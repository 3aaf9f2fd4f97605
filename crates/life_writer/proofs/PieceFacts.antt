-- Texts that are written in pieces.
use Rattle.std.proofs.Common.{◌≡◌, ℕ, List, ◌++◌, Option, Result, Ok, Err, ap, sym, ◌∙◌, subst, flat_map}
use Rattle.std.specs.Io.KnownBytes.{Appends}
use Rattle.std.proofs.KnownBytes.{Appends-trans}
use Rattle.life_base.specs.Tree.{Tree}
use Rattle.life_base.specs.Writing.{WritesPrefix, WritesText}
use Rattle.life_base.specs.declared.cell.TheConstants.{MAX_LEVEL}
use Rattle.life_mc.specs.Writing.{mc_text, node_text, header_lines_text}
use Rattle.life_quad.specs.Store.{Nodes}
use Rattle.life_quad.proofs.LawLemmas.{known_squares_are_full}
use Rattle.life_pattern.specs.Universe.{least_level}
use Rattle.life_writer.specs.Listing.{listed_squares, lines_for, square_file, canon_text}
use Rattle.life_writer.specs.PieceLaws.{part-prefix}
use Rattle.life_writer.specs.Pieces.{WritesPart}
use Rattle.life_pattern.specs.Store.{content, universe_in, IsTrimmed}
use Rattle.life_pattern.specs.declared.pattern.Pattern.{Pattern}
use Rattle.life_writer.proofs.NumberFacts.{file-of}
use Rattle.life_pattern.proofs.TreeWords.{below_top}

module _ (a b : Option (List ℕ)) (text rest : List ℕ) (w : WritesPart a b text rest) where
  -- all of the rest is written too
  pub part-whole : (c : Option (List ℕ)) → Appends b c rest → Appends a c text
  part-whole c v = subst (Appends a c) w.whole (Appends-trans a b c w.part rest w.written v)

  -- the rest is written, or a prefix of it, and the text is reported in another way
  pub part-reported : {E : Type 0} (c : Option (List ℕ)) (other : List ℕ) (r : Result (Unit {0}) E) → text ≡ other → WritesText b c rest r
      → WritesText a c other r
  part-reported c other (Ok x) e v = subst (Appends a c) e (part-whole c v)
  part-reported c other (Err x) e v = subst (WritesPrefix a c) e (part-prefix a b text rest w c v)

-- the macrocell text of a pattern in its least square is its canonical text
pub text-of-trimmed : (store : Nodes) (p : Pattern) → IsTrimmed store p → (text : List ℕ)
    → text ≡ mc_text (square_file p.rule p.generation (content store p.root))
    → text ≡ canon_text MAX_LEVEL (universe_in store p)
unfolding canon_text
text-of-trimmed store p t text e =
    let k = known_squares_are_full store p.root t.known.0 in
    e ∙ ap mc_text (sym (file-of below_top p.rule p.generation (content store p.root) k.0 k.1 t.level t.trimmed))

-- so is its prefix and then the lines of its squares
pub pieces-text : (store : Nodes) (p : Pattern) → IsTrimmed store p → (part : List ℕ) (all : List Tree) → part ≡ header_lines_text p.rule p.generation
    → all ≡ listed_squares (content store p.root) (least_level p.rule) → part ++ flat_map node_text (lines_for p.rule all)
    ≡ canon_text MAX_LEVEL (universe_in store p)
pieces-text store p t part all e l =
    text-of-trimmed store p t _
    (ap (λ f. f ++ flat_map node_text (lines_for p.rule all)) e ∙ ap (λ a. header_lines_text p.rule p.generation ++ flat_map node_text (lines_for p.rule a)) l)
