-- The laws of a piece that takes lines.
use Rattle.std.proofs.Common.{◌≡◌, ℕ, List, [], ◌∷◌, ◌++◌, Option, refl, ap, sym, ◌∙◌, subst, arith}
use Rattle.std.specs.Prelude.{flat_map}
use Rattle.std.proofs.lemmas.Grind.{flat_map-append}
use Rattle.std.proofs.lemmas.List.{append_assoc, append-nil}
use Rattle.std.proofs.KnownBytes.{Appends-nil, Appends-trans}
use Rattle.life_base.specs.Writing.{WritesPrefix}
use Rattle.life_base.proofs.WritingLemmas.{prefix-after, prefix-grows}
use Rattle.life_mc.specs.Writing.{node_text}
use Rattle.life_mc.specs.declared.line.Line.{Line}
use Rattle.life_writer.specs.Pieces.{WritesPart}

module _ (a b : Option (List ℕ)) (text rest : List ℕ) (w : WritesPart a b text rest) where
  -- more comes after the rest
  pub part-grows : (more : List ℕ) → WritesPart a b (text ++ more) (rest ++ more)
  part-grows more = record { part = w.part; written = w.written; whole = sym (append_assoc w.part rest more) ∙ ap (λ l. l ++ more) w.whole }

  -- a prefix of the rest is written too
  pub part-after : (c : Option (List ℕ)) (left : List ℕ) → WritesPart b c rest left → WritesPart a c text left
  part-after c left v = record {
    part = w.part ++ v.part;
    written = Appends-trans a b c w.part v.part w.written v.written;
    whole = append_assoc w.part v.part left ∙ ap (λ l. w.part ++ l) v.whole ∙ w.whole;
  }

  -- a prefix of the rest is written too
  pub part-prefix : (c : Option (List ℕ)) → WritesPrefix b c rest → WritesPrefix a c text
  part-prefix c v = subst (WritesPrefix a c) w.whole (prefix-after a b c w.part rest w.written v)

-- a text that a line was added to, after the lines of another
pub text-takes : (before held after : List ℕ) (lines : List Line) (line : Line) → after ≡ held ++ node_text line → held ≡ before ++ flat_map node_text lines
    → after ≡ before ++ flat_map node_text (lines ++ line ∷ [])
text-takes before held after lines line e w =
    e ∙ ap (λ t. t ++ node_text line) w ∙ append_assoc before (flat_map node_text lines) (node_text line)
    ∙ ap (λ t. before ++ (flat_map node_text lines ++ t)) (sym (append-nil (node_text line)))
    ∙ ap (λ t. before ++ t) (sym (flat_map-append node_text lines (line ∷ [])))

module _ (a b : Option (List ℕ)) (held rest : List ℕ) (lines : List Line) (w : WritesPart a b (held ++ flat_map node_text lines) rest) where
  -- a line that goes after the rest, of which a prefix is written
  pub piece-takes : (c : Option (List ℕ)) (left : List ℕ) (line : Line) → WritesPart b c (rest ++ node_text line) left
      → WritesPart a c (held ++ flat_map node_text (lines ++ line ∷ [])) left
  piece-takes c left line v =
      subst (λ t. WritesPart a c t left)
      (text-takes held (held ++ flat_map node_text lines) ((held ++ flat_map node_text lines) ++ node_text line) lines line refl refl)
      (part-after a b _ _ (part-grows a b (held ++ flat_map node_text lines) rest w (node_text line)) c left v)

  -- a prefix of the rest that is written is one of the whole, whatever lines come after
  pub piece-breaks : (c : Option (List ℕ)) (more : List Line) → WritesPrefix b c rest → WritesPrefix a c (held ++ flat_map node_text (lines ++ more))
  piece-breaks c more v =
      subst (WritesPrefix a c)
      (append_assoc held (flat_map node_text lines) (flat_map node_text more) ∙ ap (λ t. held ++ t) (sym (flat_map-append node_text lines more)))
      (prefix-grows a c (held ++ flat_map node_text lines) (flat_map node_text more) (part-prefix a b (held ++ flat_map node_text lines) rest w c v))

  -- so is none
  pub piece-stops : (more : List Line) → WritesPrefix a b (held ++ flat_map node_text (lines ++ more))
  piece-stops more = piece-breaks b more (record { count = 0; within = omega arith; written = Appends-nil b })

-- a piece from which nothing was written
pub piece-begins : (a : Option (List ℕ)) (held : List ℕ) → WritesPart a a (held ++ flat_map node_text []) held
piece-begins a held = record { part = []; written = Appends-nil a; whole = sym (append-nil held) }

-- a sink that hasn't failed
pub no_failure : {P : Type 0} (n : ℕ) → n ≡ 0 → n ≡ 1 → P
no_failure n none one = absurd (omega (arith, none, one))
