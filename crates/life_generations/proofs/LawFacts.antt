-- The laws of later generations.
use Rattle.std.proofs.Common.{◌≡◌, ℕ, ◌+◌, List, sym, ◌∙◌, ap, subst, arith, ℤ}
use Rattle.life_base.specs.Text.{lines_of}
use Rattle.life_base.specs.declared.cell.TheConstants.{MAX_LEVEL}
use Rattle.life_pattern.specs.Files.{Reads, as_macrocell}
use Rattle.life_pattern.specs.Laws.{FilesAreOnPlane, FilesAreUnique}
use Rattle.life_writer.specs.Laws.{TextsAreFiles, TextsTellUniverses}
use Rattle.life_writer.specs.Listing.{canonical_file, canon_text}
use Rattle.life_writer.specs.Texts.{IsCanonical}
use Rattle.life_pattern.specs.Universe.{Universe, IsSame, macrocell_universe}
use Rattle.life_leap.proofs.AfterLemmas.{after-one}
use Rattle.life_step.specs.Stepped.{IsLifeStep}
use Rattle.life_generations.specs.Later.{IsStateAfter, IsLaterBy, IsTextLater}
use Rattle.life_generations.specs.Laws.{LaterAdds, LaterTextsAreUnique, NoGenerationIsCanonical, OneGenerationIsStep}
use Rattle.life_generations.proofs.LaterFacts.{life-state, none-refused, now-state, one-state-later, state-now, states-add, step-not-refused}
use Rattle.life_generations.proofs.TextFacts.{text-as}

-- two patterns that are n generations later are the same
later-same : (n : ℕ) (u v w : Universe) → IsLaterBy n u v → IsLaterBy n u w → IsSame v w
later-same n u v w h k = record {
  rule = h.same_rule ∙ sym k.same_rule;
  generation = h.generation ∙ sym k.generation;
  cells = λ x y. one-state-later n u.rule u.cell x y (v.cell x y) (w.cell x y) (h.cells x y) (k.cells x y);
}

module _ (on_plane : FilesAreOnPlane MAX_LEVEL) (tell : TextsTellUniverses MAX_LEVEL) where
  -- files of the same pattern have one canonical text
  one-text : (a b : List ℕ) (u v : Universe) → Reads MAX_LEVEL a u → Reads MAX_LEVEL b v → IsSame u v → canon_text MAX_LEVEL u ≡ canon_text MAX_LEVEL v
  one-text a b u v h k same = (tell u v (on_plane a u h) (on_plane b v k)).1 same

  pub texts-are-unique : FilesAreUnique MAX_LEVEL → LaterTextsAreUnique
  texts-are-unique unique n bytes a b h k =
      let u = h.0 in
      let one = h.3 in
      let other = k.3 in
      let same : u ≡ k.0 = unique (lines_of bytes) u k.0 h.1 k.1 in
      let later : IsLaterBy n u other.universe = subst (λ (v : Universe). IsLaterBy n v other.universe) (sym same) other.is in
      one.canonical ∙ one-text a b one.universe other.universe one.reads other.reads (later-same n u one.universe other.universe one.is later)
      ∙ sym other.canonical

  now-same : (u v : Universe) → IsLaterBy 0 u v → IsSame u v
  now-same u v h = record {
    rule = sym h.same_rule;
    generation = sym (h.generation ∙ zero u.generation);
    cells = λ x y. sym (now-state u.rule u.cell x y (v.cell x y) (h.cells x y));
  }
    where
      zero : (g : ℕ) → g + 0 ≡ g
      zero g = omega arith

  same-now : (u v : Universe) → IsSame u v → IsLaterBy 0 u v
  same-now u v h = record {
    same_rule = sym h.rule;
    generation = sym h.generation ∙ zero u.generation;
    cells = λ x y. state-now u.rule u.cell x y (v.cell x y) (sym (h.cells x y));
  }
    where
      zero : (g : ℕ) → g ≡ g + 0
      zero g = omega arith

  pub none-canonical : TextsAreFiles MAX_LEVEL → NoGenerationIsCanonical
  none-canonical files bytes text = (to, from)
    where
      to : IsTextLater 0 bytes text → IsCanonical MAX_LEVEL bytes text
      to h =
          let t = h.3 in
          record {
            universe = h.0;
            reads = h.1;
            is = t.canonical ∙ sym (one-text bytes text h.0 t.universe h.1 t.reads (now-same h.0 t.universe t.is));
          }

      from : IsCanonical MAX_LEVEL bytes text → IsTextLater 0 bytes text
      from h =
          let u = h.universe in
          let plane = on_plane bytes u h.reads in
          let said = macrocell_universe (canonical_file MAX_LEVEL u) in
          let f = files u plane in
          let reads : Reads MAX_LEVEL text said =
          subst (λ b. Reads MAX_LEVEL b said) (sym h.is) (as_macrocell (canonical_file MAX_LEVEL u) f.0) in (
            u,
            h.reads,
            none-refused u plane.generation,
            record { universe = said; is = same-now u said f.1; reads = reads; canonical = h.is ∙ one-text bytes text u said h.reads reads f.1 },
          )

pub one-is-step : FilesAreOnPlane MAX_LEVEL → OneGenerationIsStep
one-is-step on_plane bytes text h =
    let u = h.0 in
    let t = h.3 in (
      u,
      h.1,
      step-not-refused u t.is.life t.is.rule (on_plane bytes u h.1).generation h.2,
      text-as MAX_LEVEL text (λ v step. later u v step) t,
    )
  where
    later : (u v : Universe) → IsLifeStep u v → IsLaterBy 1 u v
    later u v step = record {
      same_rule = step.same_rule;
      generation = step.generation;
      cells = λ x y.
          life-state 1 u.rule step.life u.cell x y (v.cell x y) step.rule
          (step.cells x y ∙ ap (λ (f : ℤ → ℤ → ℕ). f x y) (sym (after-one step.life u.cell)));
    }

pub generations-add : LaterAdds
generations-add m n u v w h k = record {
  same_rule = k.same_rule ∙ h.same_rule;
  generation = k.generation ∙ ap (λ g. g + n) h.generation ∙ sum u.generation;
  cells = λ x y.
      states-add m n u.rule u.cell v.cell h.cells x y (w.cell x y)
      (subst (λ rule. IsStateAfter n rule v.cell x y (w.cell x y)) h.same_rule (k.cells x y));
}
  where
    sum : (g : ℕ) → (g + m) + n ≡ g + (m + n)
    sum g = omega arith
