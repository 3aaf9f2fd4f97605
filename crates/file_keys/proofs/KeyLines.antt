-- Names as they are written, and lists of names.
use Rattle.std.proofs.Common.{◌≡◌, ℕ, suc, zero, ◌<◌, ◌≤◌, List, [], ◌∷◌, ◌++◌, length, take, drop, Bool, true, false, cond, Option, Result, Ok, Err, refl, ap, ap₂, sym, subst, ◌∙◌, arith, rules, slice_index, ◌==◌, ◌||◌, nat_lt, append_assoc, take-append-drop}
use Rattle.std.specs.List.{list_any}
use Rattle.std.proofs.lemmas.Bool.{false_from_ne_true}
use Rattle.std.specs.Io.KnownBytes.{Appends}
use Rattle.std.proofs.KnownBytes.{Appends-trans}
use Rattle.life_base.specs.Text.{onto_first}
use Rattle.life_base.specs.Writing.{WritesPrefix, WritesText}
use Rattle.life_base.proofs.WritingLemmas.{prefix-after, prefix-grows}
use Rattle.file_keys.specs.Keys.{escaped_name, escaped_byte, is_special, pieces_of}

by_tests : (a b c : Bool) (x y z w : List ℕ) → (a || b || c) ≡ false → cond a x (cond b y (cond c z w)) ≡ w
by_tests true b c x y z w none = absurd cc
by_tests false true c x y z w none = absurd cc
by_tests false false true x y z w none = absurd cc
by_tests false false false x y z w none = refl

plain_byte : (b : ℕ) → is_special b ≡ false → escaped_byte b ≡ b ∷ []
plain_byte b none = by_tests (b == 92) (b == 10) (b == 13) _ _ _ _ none

-- bytes none of which is special are written as they are
pub plain_run : (name : List ℕ) (k : ℕ) → k ≤ length name → ((j : ℕ) → 0 ≤ j → j < k → ¬ (is_special (slice_index name j) ≡ true))
    → escaped_name (take k name) ≡ take k name
plain_run name zero lt none = refl
plain_run [] (suc k) lt none = absurd (omega arith)
plain_run (b ∷ name) (suc k) lt none =
    let here : is_special b ≡ false = false_from_ne_true (is_special b) (none 0 (omega arith) (omega arith)) in
    ap₂ (λ (x y : List ℕ). x ++ y) (plain_byte b here) (plain_run name k (omega (arith, lt)) (λ j low high. none (suc j) (omega arith) (omega (arith, high))))

-- and a name of such bytes has none that is special
pub none_special : (name : List ℕ) → ((j : ℕ) → 0 ≤ j → j < length name → ¬ (is_special (slice_index name j) ≡ true)) → list_any is_special name ≡ false
none_special [] none = refl
none_special (b ∷ name) none =
    let here : is_special b ≡ false = false_from_ne_true (is_special b) (none 0 (omega arith) (omega arith)) in
    rw here (none_special name (λ j low high. none (suc j) (omega arith) (omega (arith, high))))

escaped_both : (xs ys : List ℕ) → escaped_name (xs ++ ys) ≡ escaped_name xs ++ escaped_name ys
escaped_both [] ys = refl
escaped_both (x ∷ xs) ys = ap (λ l. escaped_byte x ++ l) (escaped_both xs ys) ∙ sym (append_assoc (escaped_byte x) (escaped_name xs) (escaped_name ys))

-- a name after a prefix that is written as it is
pub escaped_behind : (name : List ℕ) (k : ℕ) → escaped_name (take k name) ≡ take k name → escaped_name name ≡ take k name ++ escaped_name (drop k name)
escaped_behind name k plain =
    ap escaped_name (sym (take-append-drop k name)) ∙ escaped_both (take k name) (drop k name) ∙ ap (λ l. l ++ escaped_name (drop k name)) plain

-- the first piece of a list that has an end
pub piece_at : (end : ℕ) (list : List ℕ) (k : ℕ) → k < length list → ((j : ℕ) → 0 ≤ j → j < k → ¬ ((slice_index list j == end) ≡ true))
    → (slice_index list k == end) ≡ true → pieces_of end list ≡ take k list ∷ pieces_of end (drop (suc k) list)
piece_at end [] k lt none is = absurd (omega arith)
piece_at end (b ∷ list) zero lt none is = ap (λ v. cond v ([] ∷ pieces_of end list) (onto_first b (pieces_of end list))) is
piece_at end (b ∷ list) (suc k) lt none is =
    let here : (b == end) ≡ false = false_from_ne_true (b == end) (none 0 (omega arith) (omega arith)) in
    let rest = piece_at end list k (omega (arith, lt)) (λ j low high. none (suc j) (omega arith) (omega (arith, high))) is in
    ap (λ v. cond v ([] ∷ pieces_of end list) (onto_first b (pieces_of end list))) here ∙ ap (onto_first b) rest

-- and the only one of a list that has none
pub piece_alone : (end : ℕ) (list : List ℕ) → 0 < length list → ((j : ℕ) → 0 ≤ j → j < length list → ¬ ((slice_index list j == end) ≡ true))
    → pieces_of end list ≡ list ∷ []
piece_alone end [] lt none = absurd (omega arith)
piece_alone end (b ∷ []) lt none =
    let here : (b == end) ≡ false = false_from_ne_true (b == end) (none 0 (omega arith) (omega arith)) in
    ap (λ v. cond v ([] ∷ []) ((b ∷ []) ∷ [])) here
piece_alone end (b ∷ (c ∷ list)) lt none =
    let here : (b == end) ≡ false = false_from_ne_true (b == end) (none 0 (omega arith) (omega arith)) in
    let rest = piece_alone end (c ∷ list) (omega arith) (λ j low high. none (suc j) (omega arith) (omega (arith, high))) in
    ap (λ v. cond v ([] ∷ pieces_of end (c ∷ list)) (onto_first b (pieces_of end (c ∷ list)))) here ∙ ap (onto_first b) rest

-- no number is below itself
pub never : (n : ℕ) → false ≡ nat_lt n n
never n = search rules

-- a text that was written whole, and then the next or a prefix of it
pub then_text : {E : Type 0} (a b c : Option (List ℕ)) (xs ys : List ℕ) (r : Result (Unit {0}) E) → Appends a b xs → WritesText b c ys r
    → WritesText a c (xs ++ ys) r
then_text a b c xs ys (Ok x) first second = Appends-trans a b c xs ys first second
then_text a b c xs ys (Err e) first second = prefix-after a b c xs ys first second

-- what was written of a name, before what is left of it
abbrev pub Written : Option (List ℕ) → Option (List ℕ) → List ℕ → List ℕ → Type 0
Written a b name rest = (prefix : List ℕ) × (escaped_name name ≡ prefix ++ escaped_name rest) × Appends a b prefix

pub written_further : (a b c : Option (List ℕ)) (name rest piece behind : List ℕ) → Written a b name rest → escaped_name rest ≡ piece ++ escaped_name behind
    → Appends b c piece → Written a c name behind
written_further a b c name rest piece behind (prefix, is, written) split more =
    (prefix ++ piece, is ∙ ap (λ l. prefix ++ l) split ∙ sym (append_assoc prefix piece (escaped_name behind)), Appends-trans a b c prefix piece written more)

pub written_broken : (a b c : Option (List ℕ)) (name rest piece behind : List ℕ) → Written a b name rest → escaped_name rest ≡ piece ++ escaped_name behind
    → WritesPrefix b c piece → WritesPrefix a c (escaped_name name)
written_broken a b c name rest piece behind (prefix, is, written) split broken =
    let whole = is ∙ ap (λ l. prefix ++ l) split ∙ sym (append_assoc prefix piece (escaped_name behind)) in
    subst (WritesPrefix a c) (sym whole) (prefix-grows a c (prefix ++ piece) (escaped_name behind) (prefix-after a b c prefix piece written broken))
