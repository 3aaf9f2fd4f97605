-- The text of a pattern that was read is the canonical text of its file.
use Rattle.std.proofs.Common.{◌≡◌, ℕ, zero, suc, ◌+◌, ◌<◌, ◌≤◌, List, [], ◌∷◌, ◌++◌, length, take, drop, get_or, refl, ap, ◌∙◌, sym, subst, arith, append_assoc, ◌^◌, ◌⊎◌, inl, inr, Err, append-nil}
use Rattle.std.specs.Global.{Vec}
use Rattle.life_base.specs.declared.fault.Fault.{Fault}
use Rattle.life_base.specs.Rules.{IsRule}
use Rattle.life_base.specs.declared.rule.Rule.{Rule as LayerRule}
use Rattle.life_quad.specs.Store.{Nodes}
use Rattle.life_mc.specs.Macrocell.{largest_state}
use Rattle.life_pattern.specs.Universe.{Universe, IsSame, IsOnPlane}
use Rattle.life_reader.specs.Laws.{FaultsStay}
use Rattle.life_pattern.specs.Laws.{FilesAreOnPlane, PatternsFit}
use Rattle.life_writer.specs.Laws.{TextsTellUniverses}
use Rattle.life_writer.specs.Listing.{canon_text}
use Rattle.life_reader.specs.Feeding.{RefusesPrefix}
use Rattle.life_pattern.specs.Store.{IsRead, IsShortageOf, RefusesIn, universe_in}
use Rattle.life_writer.specs.Texts.{IsCanonical}
use Rattle.life_pattern.specs.declared.pattern.Pattern.{Pattern}
use Rattle.claims.specs.Files.{pattern_of, IsShortage as IsUnmet}
use Rattle.theorems.specs.Joined.{all_bytes}
use Rattle.theorems.proofs.RefusalLaw.{refuses_agree, refused_as, want_as}

same_plane : (u v : Universe) → IsSame u v → IsOnPlane 62 u → IsOnPlane 62 v
same_plane u v s h = record {
  rule = subst IsRule s.rule h.rule;
  generation = subst (λ g. g < 2 ^ 64) s.generation h.generation;
  states = λ x y. subst (λ (r : LayerRule). v.cell x y ≤ largest_state r) s.rule (subst (λ n. n ≤ largest_state u.rule) (s.cells x y) (h.states x y));
  outside = λ x y out. sym (s.cells x y) ∙ h.outside x y out;
}

pub read_text : FilesAreOnPlane 62 → PatternsFit 62 → TextsTellUniverses 62 → (bytes : List ℕ) (store : Nodes) (pattern : Pattern) (text : List ℕ)
    → IsRead 62 bytes store pattern → text ≡ canon_text 62 (universe_in store pattern) → IsCanonical 62 bytes text
read_text on_plane fit tell bytes store pattern text r e =
    let u = r.universe in
    let same = (fit bytes store pattern r).1 in
    let plane = on_plane bytes u r.reads in
    record {
      universe = u;
      reads = r.reads;
      is = e ∙ sym ((tell u (universe_in store pattern) plane (same_plane u (universe_in store pattern) same plane)).1 same);
    }

-- one piece more
pub joined_more : (pieces : List (Vec ℕ)) (i : ℕ) (d : Vec ℕ) → i < length pieces
    → all_bytes (take (i + 1) pieces) ≡ all_bytes (take i pieces) ++ (get_or pieces i d).items
joined_more [] i d h = absurd (omega arith)
joined_more (piece ∷ pieces) zero d h = append-nil piece.items
joined_more (piece ∷ pieces) (suc i) d h =
    let e : suc i + 1 ≡ suc (i + 1) = omega arith in
    ap (λ n. all_bytes (take n (piece ∷ pieces))) e ∙ ap (λ (t : List ℕ). piece.items ++ t) (joined_more pieces i d (omega arith))
    ∙ sym (append_assoc piece.items (all_bytes (take i pieces)) (get_or pieces i d).items)

pub joined_all : (pieces : List (Vec ℕ)) (i : ℕ) → length pieces ≤ i → all_bytes (take i pieces) ≡ all_bytes pieces
joined_all [] zero h = refl
joined_all [] (suc i) h = refl
joined_all (piece ∷ pieces) zero h = absurd (omega arith)
joined_all (piece ∷ pieces) (suc i) h = ap (λ (t : List ℕ). piece.items ++ t) (joined_all pieces i (omega arith))

-- the pieces so far, and the rest
pub joined_split : (pieces : List (Vec ℕ)) (n : ℕ) → all_bytes pieces ≡ all_bytes (take n pieces) ++ all_bytes (drop n pieces)
joined_split pieces zero = refl
joined_split [] (suc n) = refl
joined_split (piece ∷ pieces) (suc n) =
    ap (λ (t : List ℕ). piece.items ++ t) (joined_split pieces n)
    ∙ sym (append_assoc piece.items (all_bytes (take n pieces)) (all_bytes (drop n pieces)))

-- a fault that is reported of the pieces so far is that of all
pub refused_so_far : FaultsStay 62 → (pieces : List (Vec ℕ)) (n : ℕ) (prefix : List ℕ) (store : Nodes) (fault : Fault) → prefix ≡ all_bytes (take n pieces)
    → IsShortageOf store fault ⊎ RefusesPrefix 62 prefix fault → (pattern_of (all_bytes pieces) ≡ Err fault) ⊎ IsUnmet fault
refused_so_far stay pieces n prefix store fault e (inl w) = inr (want_as store fault w)
refused_so_far stay pieces n prefix store fault e (inr r) =
    let whole : prefix ++ all_bytes (drop n pieces) ≡ all_bytes pieces = ap (λ (t : List ℕ). t ++ all_bytes (drop n pieces)) e ∙ sym (joined_split pieces n) in
    inl
    (subst (λ (b : List ℕ). pattern_of b ≡ Err fault) whole
    (refuses_agree (prefix ++ all_bytes (drop n pieces)) fault (stay prefix (all_bytes (drop n pieces)) fault r).refuses))

-- the same of bytes that are those of the pieces
pub refused_there : (a b : List ℕ) (fault : Fault) → a ≡ b → (pattern_of a ≡ Err fault) ⊎ IsUnmet fault → (pattern_of b ≡ Err fault) ⊎ IsUnmet fault
refused_there a b fault e h = subst (λ (t : List ℕ). (pattern_of t ≡ Err fault) ⊎ IsUnmet fault) e h

pub refused_whole : (a b : List ℕ) (store : Nodes) (fault : Fault) → a ≡ b → RefusesIn 62 a store fault → (pattern_of b ≡ Err fault) ⊎ IsUnmet fault
refused_whole a b store fault e r = refused_there a b fault e (refused_as a store fault r)
