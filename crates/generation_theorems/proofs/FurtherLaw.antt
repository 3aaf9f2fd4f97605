-- A later generation in the words of the claims is one in the layer below.
use Rattle.std.proofs.Common.{◌≡◌, ℕ, zero, suc, ◌+◌, ◌^◌, ◌<◌, ◌≤◌, List, refl, ap, ◌∙◌, sym, subst, arith, ◌⊎◌, inl, inr, filter, Some, None, Err, ℤ}
use Rattle.life_base.specs.Rules.{IsRule, IsLifeRule, has_digit, counts, most_neighbours}
use Rattle.life_base.specs.Sets.{OuterTotalistic}
use Rattle.life_base.specs.Text.{lines_of}
use Rattle.life_base.specs.declared.fault.Fault.{Fault}
use Rattle.life_base.specs.declared.kind.Kind.TheVariants as kinds
use Rattle.life_base.specs.declared.rule.Rule.{Rule as LayerRule}
use Rattle.life_base.specs.declared.rule.Rule.TheVariants.{Life, Named}
use Rattle.life_quad.specs.Store.{Nodes}
use Rattle.life_pattern.specs.Files.{Reads, Refuses}
use Rattle.life_pattern.specs.Laws.{FilesAreOnPlane, FilesAreUnique}
use Rattle.life_writer.specs.Listing.{canon_text}
use Rattle.life_pattern.specs.Store.{IsShortageOf}
use Rattle.life_writer.specs.Texts.{IsCanonical}
use Rattle.life_pattern.specs.Universe.{Universe}
use Rattle.life_leap.specs.After.{after}
use Rattle.life_leap.proofs.AfterLemmas.{after-next, after-none}
use Rattle.life_later.specs.Course.{LeavesWithin}
use Rattle.life_generations.specs.Later.{IsStateAfter, IsTextLater, LaterRefusal, LaterRuleRefusal}
use Rattle.life_generations.proofs.LaterFacts.{of-plane, on-plane}
use Rattle.claims.specs.Files.{pattern_of, claimed_fault_of, IsShortage as IsUnmet}
use Rattle.claims.specs.Generation.{claimed_next_life}
use Rattle.claims.specs.Pattern.{Pattern}
use Rattle.claims.specs.Rules.{Rule, counting, named}
use Rattle.claims.proofs.RuleLaw.{rule_in}
use Rattle.theorems.proofs.FileLaw.{files_agree}
use Rattle.theorems.proofs.PlaneLaw.{not_of_plane, outside_is}
use Rattle.theorems.proofs.RefusalLaw.{refuses_agree, want_as}
use Rattle.theorems.proofs.TextLaw.{text_of_pattern}
use Rattle.theorems.proofs.NextLaw.{next_is}
use Rattle.theorems.proofs.StepLaw.{none_some, some_of}
use Rattle.generation_theorems.specs.ManyGenerations.{claimed_life_after, IsClaimedStateAfter, LeavesClaimedPlaneWithin, IsFirstReasonWithin, no_table_for, beyond_last_generation, leaves_plane_within, IsClaimedTextLater, IsNotAdvanced}

-- ---- states

claimed-none : (n : ℕ) (b s : List ℕ) (cell : ℤ → ℤ → ℕ) → claimed_life_after n b s 0 cell ≡ cell
unfolding claimed_life_after
claimed-none n b s cell = refl

claimed-next : (n : ℕ) (b s : List ℕ) (m : ℕ) (cell : ℤ → ℤ → ℕ)
    → claimed_life_after n b s (suc m) cell ≡ claimed_next_life n b s (claimed_life_after n b s m cell)
unfolding claimed_life_after
claimed-next n b s m cell = refl

-- the generations of a B/S rule
module _ (life : OuterTotalistic) (valid : IsLifeRule life) where
  abbrev births : List ℕ
  births = filter (has_digit life.sets.births) counts

  abbrev survivals : List ℕ
  survivals = filter (has_digit life.sets.survivals) counts

  abbrev neighbours : ℕ
  neighbours = most_neighbours life.near

  pub life-after_is : (n : ℕ) (cell : ℤ → ℤ → ℕ) → claimed_life_after neighbours births survivals n cell ≡ after life n cell
  life-after_is zero cell = claimed-none neighbours births survivals cell ∙ sym (after-none life cell)
  life-after_is (suc n) cell =
      claimed-next neighbours births survivals n cell
      ∙ ap (claimed_next_life neighbours births survivals) (life-after_is n cell)
      ∙ (λ i x y. next_is life valid (after life n cell) x y i)
      ∙ sym (after-next life n cell)

  -- a cell of the pattern that a file says
  cell-after_is : (n : ℕ) (c d : ℤ → ℤ → ℕ) → c ≡ d → (x y : ℤ) → claimed_life_after neighbours births survivals n c x y ≡ after life n d x y
  cell-after_is n c d same x y =
      ap (λ (f : ℤ → ℤ → ℕ). claimed_life_after neighbours births survivals n f x y) same ∙ ap (λ (f : ℤ → ℤ → ℕ). f x y) (life-after_is n d)

  pub leaves-to : (n : ℕ) (c d : ℤ → ℤ → ℕ) → c ≡ d → LeavesWithin life n d → LeavesClaimedPlaneWithin neighbours births survivals n c
  leaves-to n c d same h = (
    h.generation,
    h.some,
    h.within,
    (
      h.x,
      h.y,
      outside_is h.x h.y (λ on. h.outside (of-plane h.x h.y on)),
      λ z. h.nonzero (sym (cell-after_is h.generation c d same h.x h.y) ∙ z),
    ),
  )

  pub leaves-from : (n : ℕ) (c d : ℤ → ℤ → ℕ) → c ≡ d → LeavesClaimedPlaneWithin neighbours births survivals n c → LeavesWithin life n d
  leaves-from n c d same h = record {
    generation = h.0;
    some = h.1;
    within = h.2;
    x = h.3.0;
    y = h.3.1;
    outside = λ on. not_of_plane h.3.0 h.3.1 h.3.2 (on-plane h.3.0 h.3.1 on);
    nonzero = λ z. h.3.3 (cell-after_is h.0 c d same h.3.0 h.3.1 ∙ z);
  }

state-is : (n : ℕ) (rule : LayerRule) → IsRule rule → (c d : ℤ → ℤ → ℕ) → c ≡ d → (claimed : Rule) → claimed ≡ rule_in rule → (x y : ℤ) (a b : ℕ) → b ≡ a
    → IsStateAfter n rule d x y a → IsClaimedStateAfter n claimed c x y b
state-is n rule valid c d e claimed is x y a b same h = subst (λ (q : Rule). IsClaimedStateAfter n q c x y b) (sym is) (by rule valid h)
  where
    by : (r : LayerRule) → IsRule r → IsStateAfter n r d x y a → IsClaimedStateAfter n (rule_in r) c x y b
    by (Life life) v k = same ∙ k ∙ sym (cell-after_is life v n c d e x y)
    by (Named name) v k = (k.0, same ∙ k.1 ∙ ap (λ (f : ℤ → ℤ → ℕ). f x y) (sym e))

-- ---- reasons

module _ (n : ℕ) (u : Universe) (p : Pattern) (rule_is : p.rule ≡ rule_in u.rule) (generation_is : p.generation ≡ u.generation)
    (cells : p.cell ≡ u.cell) (valid : IsRule u.rule) where
  below : (g m : ℕ) → ¬ (2 ^ 64 ≤ g + m) → g + m < 2 ^ 64
  below g m h = grind (arith, h)

  large-to : 2 ^ 64 ≤ u.generation + n → 2 ^ 64 ≤ p.generation + n
  large-to l = subst (λ g. 2 ^ 64 ≤ g + n) (sym generation_is) l

  reason-is : (fault : Fault) → LaterRefusal n u (Some fault) → IsFirstReasonWithin n p fault
  reason-is fault h = by u.rule refl h
    where
      is : (reason : Fault) → Some fault ≡ Some reason → IsFirstReasonWithin n p reason → IsFirstReasonWithin n p fault
      is reason e r = subst (IsFirstReasonWithin n p) (sym (some_of fault reason e)) r

      by : (rule : LayerRule) → u.rule ≡ rule → LaterRuleRefusal n rule u (Some fault) → IsFirstReasonWithin n p fault
      by (Named name) r (inl k) = absurd (none_some fault (sym k.1))
      by (Named name) r (inr k) = is (claimed_fault_of kinds.NeedsTable) k.1 (no_table_for name (rule_is ∙ ap rule_in r) k.0)
      by (Life life) r (inl k) =
          is (claimed_fault_of kinds.GenerationTooLarge) k.1 (beyond_last_generation _ _ _ (rule_is ∙ ap rule_in r) (large-to k.0))
      by (Life life) r (inr (small, inl k)) =
          is (claimed_fault_of kinds.OutOfPlane) k.1
          (leaves_plane_within _ _ _ (rule_is ∙ ap rule_in r) (below p.generation n (λ l. small (subst (λ g. 2 ^ 64 ≤ g + n) generation_is l)))
          (leaves-to life (subst IsRule r valid) n p.cell u.cell cells k.0))
      by (Life life) r (inr (small, inr k)) = absurd (none_some fault (sym k.1))

  -- no reason holds against a pattern that isn't refused
  no-reason : LaterRefusal n u None → (fault : Fault) → IsFirstReasonWithin n p fault → ⊥
  no-reason h fault reason = by u.rule refl h reason
    where
      by : (rule : LayerRule) → u.rule ≡ rule → LaterRuleRefusal n rule u None → {f : Fault} → IsFirstReasonWithin n p f → ⊥
      by (Named name) r (inl k) (no_table_for other e some) = some k.0
      by (Named name) r (inr k) (no_table_for other e some) = none_some _ k.1
      by (Life life) r k (no_table_for other e some) = let d : rule_in (Life life) ≡ named other = sym (rule_is ∙ ap rule_in r) ∙ e in absurd (cc)
      by (Named name) r k (beyond_last_generation m b s e large) = let d : named name ≡ counting m b s = sym (rule_is ∙ ap rule_in r) ∙ e in absurd (cc)
      by (Life life) r (inl k) (beyond_last_generation m b s e large) = none_some _ k.1
      by (Life life) r (inr k) (beyond_last_generation m b s e large) = k.0 (subst (λ g. 2 ^ 64 ≤ g + n) generation_is large)
      by (Named name) r k (leaves_plane_within m b s e small leaves) = let d : named name ≡ counting m b s = sym (rule_is ∙ ap rule_in r) ∙ e in absurd (cc)
      by (Life life) r (inl k) (leaves_plane_within m b s e small leaves) = none_some _ k.1
      by (Life life) r (inr (a, inl k)) (leaves_plane_within m b s e small leaves) = none_some _ k.1
      by (Life life) r (inr (a, inr k)) (leaves_plane_within m b s e small leaves) =
          k.0 (leaves-from life (subst IsRule r valid) n p.cell u.cell cells
          (same-rule m b s (neighbours life v) (births life v) (survivals life v) (sym e ∙ rule_is ∙ ap rule_in r) leaves))
        where
          v : IsLifeRule life
          v = subst IsRule r valid

          same-rule : (m : ℕ) (b s : List ℕ) (j : ℕ) (c d : List ℕ) → counting m b s ≡ counting j c d → LeavesClaimedPlaneWithin m b s n p.cell
              → LeavesClaimedPlaneWithin j c d n p.cell
          same-rule m b s j c d e h =
              let one : m ≡ j = cc in
              let two : b ≡ c = cc in
              let three : s ≡ d = cc in
              subst (λ k. LeavesClaimedPlaneWithin k c d n p.cell) one
              (subst (λ k. LeavesClaimedPlaneWithin m k d n p.cell) two (subst (λ k. LeavesClaimedPlaneWithin m b k n p.cell) three h))

-- ---- texts

pub later-is : FilesAreOnPlane 62 → (n : ℕ) (bytes text : List ℕ) → IsTextLater n bytes text → IsClaimedTextLater n bytes text
later-is on_plane n bytes text h =
    let u = h.0 in
    let t = h.3 in
    let p = files_agree bytes u h.1 in
    let q = files_agree text t.universe t.reads in
    let valid : IsRule u.rule = (on_plane bytes u h.1).rule in
    let cells : p.pattern.cell ≡ u.cell = λ i x y. p.cells x y i in
    record {
      now = p.pattern;
      later = q.pattern;
      now_is = p.is;
      later_is = q.is;
      is = record {
        same_rule = q.rule ∙ ap rule_in t.is.same_rule ∙ sym p.rule;
        generation = q.generation ∙ t.is.generation ∙ ap (λ g. g + n) (sym p.generation);
        cells = λ x y.
            state-is n u.rule valid p.pattern.cell u.cell cells p.pattern.rule p.rule x y (t.universe.cell x y) (q.pattern.cell x y) (q.cells x y)
            (t.is.cells x y);
        no_reason = λ fault. no-reason n u p.pattern p.rule p.generation cells valid h.2 fault;
      };
      canonical = text_of_pattern t.universe q.pattern text (on_plane text t.universe t.reads) q.rule q.generation q.cells t.canonical;
    }

-- the first reason why what a file says isn't taken further is one in the words of the formats
pub reason-of : FilesAreOnPlane 62 → (n : ℕ) (bytes : List ℕ) (u : Universe) (fault : Fault) → Reads 62 bytes u → LaterRefusal n u (Some fault)
    → IsNotAdvanced n bytes fault
reason-of on_plane n bytes u fault reads why =
    let p = files_agree bytes u reads in
    let cells : p.pattern.cell ≡ u.cell = λ i x y. p.cells x y i in
    (p.pattern, p.is, reason-is n u p.pattern p.rule p.generation cells (on_plane bytes u reads).rule fault why)

-- why a file isn't taken further
pub not-consumed_as : FilesAreOnPlane 62 → (n : ℕ) (bytes : List ℕ) (store : Nodes) (fault : Fault)
    → Refuses 62 bytes fault ⊎ (IsShortageOf store fault ⊎ ((u : Universe) × Reads 62 bytes u × LaterRefusal n u (Some fault)))
    → (pattern_of bytes ≡ Err fault) ⊎ (IsUnmet fault ⊎ IsNotAdvanced n bytes fault)
not-consumed_as on_plane n bytes store fault (inl r) = inl (refuses_agree bytes fault r)
not-consumed_as on_plane n bytes store fault (inr (inl w)) = inr (inl (want_as store fault w))
not-consumed_as on_plane n bytes store fault (inr (inr h)) = inr (inr (reason-of on_plane n bytes h.0 fault h.1 h.2))

-- the canonical text of a later generation's text is that text
pub later-is_fixed : FilesAreUnique 62 → (n : ℕ) (bytes text again : List ℕ) → IsTextLater n bytes text → IsCanonical 62 text again → text ≡ again
later-is_fixed unique n bytes text again h k =
    let t = h.3 in t.canonical ∙ ap (canon_text 62) (unique (lines_of text) t.universe k.universe t.reads k.reads) ∙ sym k.is
