-- The laws of a text that takes lines as long as it may be the lesser one.
use Rattle.std.proofs.Common.{◌≡◌, ℕ, List, [], ◌++◌, ap, sym, ◌∙◌, subst}
use Rattle.std.specs.Prelude.{flat_map}
use Rattle.std.proofs.lemmas.Grind.{flat_map-append}
use Rattle.std.proofs.lemmas.List.{append_assoc, append-nil}
use Rattle.life_mc.specs.Writing.{node_text}
use Rattle.life_mc.specs.declared.line.Line.{Line}
use Rattle.life_writer.specs.Lesser.{LesserHolds, IsUpTo, LinesCome, IsOldLesser}
use Rattle.life_writer.specs.declared.lesser.Lesser.{Lesser}
use Rattle.life_writer.specs.declared.lesser.Lesser.TheVariants.{Old}

-- no lines come from a state to itself
pub no-lines-come : (lesser : Lesser) (held : List ℕ) → LinesCome lesser held lesser held []
no-lines-come lesser held = λ old new h. subst (λ (text : List ℕ). LesserHolds old text lesser held) (sym (append-nil new)) h

-- where the old text is the lesser one, it is so whatever lines come
pub old-stays : (old new held : List ℕ) (more : List Line) → LesserHolds old new Old held → (held ≡ old) × IsUpTo old (new ++ flat_map node_text more)
old-stays old new held more h = (h.bytes, h.is (flat_map node_text more))

pub old-is-lesser : (before after : Lesser) (held left : List ℕ) (lines more : List Line) → LinesCome before held after left lines
    → IsOldLesser before held after left (lines ++ more)
old-is-lesser before after held left lines more come = λ old new h last.
    let now = old-stays old (new ++ flat_map node_text lines) left more
    (subst (λ (lesser : Lesser). LesserHolds old (new ++ flat_map node_text lines) lesser left) last (come old new h)) in (
      now.0,
      subst (IsUpTo old)
          (append_assoc new (flat_map node_text lines) (flat_map node_text more)
          ∙ ap (λ (text : List ℕ). new ++ text) (sym (flat_map-append node_text lines more)))
          now.1,
    )
