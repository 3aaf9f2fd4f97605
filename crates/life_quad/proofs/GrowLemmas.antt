-- A store stays sound when a small square or a node is added.
use Rattle.std.proofs.Common.{◌≡◌, ◌≢◌, length-append, Contains, ◌⊎◌, inl, inr, ℕ, ◌+◌, ◌≤◌, ◌<◌, ◌^◌, Bool, true, false, nat_lt, List, [], ◌∷◌, ◌++◌, length, None, Some, slice_get, get_or, refl, sym, ◌∙◌, ap, subst, arith}
use Rattle.std.proofs.lemmas.List.Elements.{Contains-append_left, Contains-push, Contains-push_cases, Contains-get_or}
use Rattle.std.proofs.lemmas.List.Quantifiers.{all_pairs_push}
use Rattle.std.proofs.lemmas.Option.{slice_get_within, get_or_from_slice_get}
use Rattle.life_base.specs.Tree.{Tree}
use Rattle.life_quad.specs.declared.id.Node.{Node}
use Rattle.life_quad.specs.Store.{Nodes, node_square, squares, small_number_of, IsNode, IsSmall, IsSoundStore, IsShared}
use Rattle.life_quad.proofs.StoreLemmas.{squares-push, length-squares, node_square-append, slice_get-append, slice_get-push_cases, IsNode-append, IsNode-more}
use Rattle.life_base.proofs.Basics.{slice_get-last}

-- a store with one more Id that was joined
abbrev pub with_id : Nodes → ℕ → Nodes
with_id s k = record { nodes = s.nodes; log = s.log ++ k ∷ []; limit = s.limit }

-- a store with one more node
abbrev pub with_node : Nodes → Node → Nodes
with_node s n = record { nodes = s.nodes ++ n ∷ []; log = s.log; limit = s.limit }

-- and with its Id
abbrev pub with_both : Nodes → Node → Nodes
with_both s n = record { nodes = s.nodes ++ n ∷ []; log = s.log ++ (66064 + length s.nodes) ∷ []; limit = s.limit }

-- a small square stays sound when Ids are added
IsSmall-more : (log log' : List ℕ) (S : List Tree) (k : ℕ) → ((j : ℕ) → Contains log j → Contains log' j) → IsSmall log S k → IsSmall log' S k
IsSmall-more log log' S k more h = record { quarters = h.quarters; number = h.number; is = IsNode-more log log' S 0 h.quarters more h.is }

-- a store stays sound when an Id is joined
pub IsSound-id : (s : Nodes) (k : ℕ) → IsSoundStore s → (k < 66064 → IsSmall s.log (squares s.nodes) k) → IsSoundStore (with_id s k)
IsSound-id s k h new = record {
  entries = λ i m at. IsNode-more s.log (s.log ++ k ∷ []) (squares s.nodes) i m more (h.entries i m at);
  square = h.square;
  small = λ j there low. IsSmall-more s.log (s.log ++ k ∷ []) (squares s.nodes) j more (by j low (Contains-push_cases s.log k j there));
  limit = h.limit;
  few = h.few;
}
  where
    more : (j : ℕ) → Contains s.log j → Contains (s.log ++ k ∷ []) j
    more j = Contains-append_left s.log (k ∷ []) j

    by : (j : ℕ) → j < 66064 → Contains s.log j ⊎ (k ≡ j) → IsSmall s.log (squares s.nodes) j
    by j low (inl old) = h.small j old low
    by j low (inr e) = subst (λ n. n < 66064 → IsSmall s.log (squares s.nodes) n) e new low

-- and when a node is added
pub IsSound-push : (s : Nodes) (n : Node) → IsSoundStore s → IsNode s.log (squares s.nodes) (length s.nodes) n → 66064 + length s.nodes < 2 ^ 32
    → IsSoundStore (with_node s n)
IsSound-push s n h new space =
    record {
      entries = all_nodes;
      square = all_squares;
      small = λ k there low. let old = h.small k there low in
          record {
            quarters = old.quarters;
            number = old.number;
            is = subst (λ z. IsNode s.log z 0 old.quarters) (sym more) (IsNode-append s.log S _ 0 old.quarters (omega arith) old.is);
          };
      limit = h.limit;
      few = omega (arith, length-append s.nodes (n ∷ []), space);
    }
  where
    S : List Tree
    S = squares s.nodes

    more : squares (s.nodes ++ n ∷ []) ≡ S ++ node_square S n ∷ []
    more = squares-push s.nodes n

    len : length S ≡ length s.nodes
    len = length-squares s.nodes

    all_nodes : (i : ℕ) (m : Node) → slice_get (s.nodes ++ n ∷ []) i ≡ Some m → IsNode s.log (squares (s.nodes ++ n ∷ [])) i m
    all_nodes i m at = by (slice_get-push_cases s.nodes n m i at)
      where
        by : (slice_get s.nodes i ≡ Some m) ⊎ ((i ≡ length s.nodes) × (m ≡ n)) → IsNode s.log (squares (s.nodes ++ n ∷ [])) i m
        by (inl old) =
            let lt = slice_get_within s.nodes i m old in
            subst (λ z. IsNode s.log z i m) (sym more) (IsNode-append s.log S _ i m (omega (arith, lt, len)) (h.entries i m old))
        by (inr last) =
            let added : IsNode s.log (S ++ node_square S n ∷ []) (length s.nodes) n = IsNode-append s.log S _ (length s.nodes) n (omega (arith, len)) new in
            subst (λ z. IsNode s.log z i m) (sym more)
            (subst (λ k. IsNode s.log (S ++ node_square S n ∷ []) k m) (sym last.0)
            (subst (IsNode s.log (S ++ node_square S n ∷ []) (length s.nodes)) (sym last.1) added))

    all_squares : (i : ℕ) (m : Node) → slice_get (s.nodes ++ n ∷ []) i ≡ Some m → slice_get (squares (s.nodes ++ n ∷ [])) i
        ≡ Some (node_square (squares (s.nodes ++ n ∷ [])) m)
    all_squares i m at = by (slice_get-push_cases s.nodes n m i at)
      where
        by : (slice_get s.nodes i ≡ Some m) ⊎ ((i ≡ length s.nodes) × (m ≡ n)) → slice_get (squares (s.nodes ++ n ∷ [])) i
            ≡ Some (node_square (squares (s.nodes ++ n ∷ [])) m)
        by (inl old) =
            let lt = slice_get_within s.nodes i m old in
            let e = h.entries i m old in
            let same = node_square-append S (node_square S n ∷ []) i m (omega (arith, lt, len)) e.nw.named e.ne.named e.sw.named e.se.named in
            ap (λ z. slice_get z i) more ∙ slice_get-append S _ i _ (h.square i m old) ∙ ap Some (sym same ∙ ap (λ z. node_square z m) (sym more))
        by (inr last) =
            let same = node_square-append S (node_square S n ∷ []) (length s.nodes) n (omega (arith, len)) new.nw.named new.ne.named new.sw.named
            new.se.named in
            let place : i ≡ length S = last.0 ∙ sym len in
            ap (λ z. slice_get z i) more ∙ ap (slice_get (S ++ node_square S n ∷ [])) place ∙ slice_get-last S (node_square S n)
            ∙ ap Some (sym same ∙ ap (node_square (S ++ node_square S n ∷ [])) (sym last.1) ∙ ap (λ z. node_square z m) (sym more))

-- both
pub IsSound-both : (s : Nodes) (n : Node) → IsSoundStore s → IsNode s.log (squares s.nodes) (length s.nodes) n → 66064 + length s.nodes < 2 ^ 32
    → IsSoundStore (with_both s n)
IsSound-both s n h new space = IsSound-id (with_node s n) (66064 + length s.nodes) (IsSound-push s n h new space) (λ low. absurd (omega arith))

-- an Id that is not there is unlike each that is
unlike : (log : List ℕ) (k : ℕ) → ¬ Contains log k → (j d : ℕ) → j < length log → get_or log j d ≢ k
unlike log k absent j d lt e = absent (subst (Contains log) e (Contains-get_or log j d lt))

-- no square is there twice when a small one is added
pub IsShared-id : (s : Nodes) (k : ℕ) → IsShared s → ¬ Contains s.log k → k < 66064 → length s.log < s.limit → IsShared (with_id s k)
IsShared-id s k h absent low space = record {
  once = h.once;
  apart = h.apart;
  logged = λ i lt. Contains-append_left s.log (k ∷ []) _ (h.logged i lt);
  known = λ j there. by j (Contains-push_cases s.log k j there);
  distinct = all_pairs_push ◌≢◌ s.log k h.distinct (unlike s.log k absent);
  len = omega (arith, length-append s.log (k ∷ []), space);
}
  where
    by : (j : ℕ) → Contains s.log j ⊎ (k ≡ j) → j < 66064 + length s.nodes
    by j (inl old) = h.known j old
    by j (inr e) = omega arith

-- or a node
pub IsShared-both : (s : Nodes) (n : Node) → IsShared s → ¬ Contains s.nodes n → small_number_of n ≡ None → length s.log < s.limit → IsShared (with_both s n)
IsShared-both s n h absent large space = record {
  once = λ i j m ai aj. once i j m (slice_get-push_cases s.nodes n m i ai) (slice_get-push_cases s.nodes n m j aj);
  apart = λ i m at. apart i m (slice_get-push_cases s.nodes n m i at);
  logged = λ i lt. logged i lt (nat_lt i (length s.nodes)) refl;
  known = λ j there. known j (Contains-push_cases s.log k j there);
  distinct = all_pairs_push ◌≢◌ s.log k h.distinct (unlike s.log k new);
  len = omega (arith, length-append s.log (k ∷ []), space);
}
  where
    k : ℕ
    k = 66064 + length s.nodes

    len : length (s.nodes ++ n ∷ []) ≡ length s.nodes + 1
    len = length-append s.nodes (n ∷ [])

    new : ¬ Contains s.log k
    new there = let lt = h.known k there in omega arith

    among : (i : ℕ) → slice_get s.nodes i ≡ Some n → Contains s.nodes n
    among i e = (i, slice_get_within s.nodes i n e, get_or_from_slice_get s.nodes i n n e)

    once : (i j : ℕ) (m : Node) → (slice_get s.nodes i ≡ Some m) ⊎ ((i ≡ length s.nodes) × (m ≡ n)) → (slice_get s.nodes j ≡ Some m)
        ⊎ ((j ≡ length s.nodes) × (m ≡ n)) → i ≡ j
    once i j m (inl a) (inl b) = h.once i j m a b
    once i j m (inl a) (inr b) = absurd (absent (among i (a ∙ ap Some b.1)))
    once i j m (inr a) (inl b) = absurd (absent (among j (b ∙ ap Some a.1)))
    once i j m (inr a) (inr b) = a.0 ∙ sym b.0

    apart : (i : ℕ) (m : Node) → (slice_get s.nodes i ≡ Some m) ⊎ ((i ≡ length s.nodes) × (m ≡ n)) → small_number_of m ≡ None
    apart i m (inl a) = h.apart i m a
    apart i m (inr a) = ap small_number_of a.1 ∙ large

    logged : (i : ℕ) → i < length (s.nodes ++ n ∷ []) → (b : Bool) → nat_lt i (length s.nodes) ≡ b → Contains (s.log ++ k ∷ []) (66064 + i)
    logged i lt true e = Contains-append_left s.log (k ∷ []) _ (h.logged i (grind arith))
    logged i lt false e =
        let above : length s.nodes ≤ i = grind arith in
        let same : k ≡ 66064 + i = omega (arith, len, above) in
        subst (Contains (s.log ++ k ∷ [])) same (Contains-push s.log k)

    known : (j : ℕ) → Contains s.log j ⊎ (k ≡ j) → j < 66064 + length (s.nodes ++ n ∷ [])
    known j (inl old) = let lt = h.known j old in omega (arith, lt, len)
    known j (inr e) = omega (arith, e, len)
