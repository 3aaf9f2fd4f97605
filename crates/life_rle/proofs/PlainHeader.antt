-- A line has the form of a header exactly if it is the tokens of one with whitespace between.
use Rattle.std.proofs.Common.{◌≡◌, ℕ, true, false, not, cond, List, [], ◌∷◌, ◌++◌, length, take, drop, refl, sym, ap, ◌∙◌, subst, Some, None, Option, arith, codes, take-append-drop}
use Rattle.std.proofs.lemmas.Bool.Decides.{nat_tests}
use Rattle.std.proofs.lemmas.Slice.Eq.{bytes_eq-Decides}
use Rattle.std.proofs.lemmas.Bool.{and_parts}
use Rattle.std.proofs.Math.Seq.{take-append_seam, drop-append_seam}
use Rattle.std.specs.Char.{is_ascii_digit}
use Rattle.std.specs.List.{list_all, prefix_len}
use Rattle.life_base.specs.Text.{is_empty, is_whitespace, is_blank, is_digit_text, begins_with, trim_start}
use Rattle.life_rle.specs.Items.{leading_digits, after_digits_of}
use Rattle.life_rle.specs.Header.{◌>>=◌, after_word, after_number, rule_part, header_form}
use Rattle.life_rle.specs.Plain.{AreTokens, size_tokens, HasNoIndent, IsHeaderLine, HeadersArePlain}
use Rattle.life_rle.proofs.Texts.{Stops, prefix-stop, behind-stop, digit-plain}
use Rattle.life_rle.proofs.PlainItems.{indented}
use Rattle.life_base.proofs.Texts.{blank_prefix}

-- one token, whitespace, and a text that begins with none
abbrev IsToken : List ℕ → List ℕ → List ℕ → Type 0
IsToken bytes token rest = (space : List ℕ) × (is_blank space ≡ true) × (bytes ≡ token ++ (space ++ rest)) × HasNoIndent rest

no_indent : (text : List ℕ) → HasNoIndent text → trim_start text ≡ text
no_indent [] h = refl
no_indent (b ∷ text) h = ap (λ t. cond t (trim_start text) (b ∷ text)) h

pub trim_start-HasNoIndent : (text : List ℕ) → HasNoIndent (trim_start text)
trim_start-HasNoIndent [] = tt
trim_start-HasNoIndent (b ∷ text) =
    elim (is_whitespace b) as (λ t. is_whitespace b ≡ t → HasNoIndent (cond t (trim_start text) (b ∷ text)))
    [ true ↦ λ _. trim_start-HasNoIndent text | false ↦ λ e. e ] refl

-- what is read as a word is that word
after_word-token : (word bytes rest : List ℕ) → after_word word bytes ≡ Some rest → IsToken bytes word rest
after_word-token word bytes rest =
    let behind = drop (length word) bytes in
    elim (begins_with bytes word) as (λ t. begins_with bytes word ≡ t → cond t (Some (trim_start behind)) None ≡ Some rest → IsToken bytes word rest) [
      | true ↦ λ e h.
          let i = indented behind in
          let r : trim_start behind ≡ rest = cc in
          let w = (bytes_eq-Decides (take (length word) bytes) word).0 e in
          subst (IsToken bytes word) r (
            i.0,
            i.1,
            sym (take-append-drop (length word) bytes) ∙ ap (λ (t : List ℕ). t ++ behind) w ∙ ap (λ (t : List ℕ). word ++ t) i.2,
            trim_start-HasNoIndent behind,
          )
      | false ↦ λ _ h. cc
    ] refl

-- what is read as a number is a digit text
after_number-token : (bytes rest : List ℕ) → after_number bytes ≡ Some rest → (digits : List ℕ) × (is_digit_text digits ≡ true) × IsToken bytes digits rest
after_number-token bytes rest =
    let digits = leading_digits bytes in
    let behind = after_digits_of bytes in
    elim (is_digit_text digits) as (λ t. is_digit_text digits ≡ t → cond t (Some (trim_start behind)) None ≡ Some rest → (digits : List ℕ)
    × (is_digit_text digits ≡ true) × IsToken bytes digits rest) [
      | true ↦ λ e h.
          let i = indented behind in
          let r : trim_start behind ≡ rest = cc in (
            digits,
            e,
            subst (IsToken bytes digits) r (
              i.0,
              i.1,
              sym (take-append-drop (prefix_len is_ascii_digit bytes) bytes) ∙ ap (λ (t : List ℕ). digits ++ t) i.2,
              trim_start-HasNoIndent behind,
            ),
          )
      | false ↦ λ _ h. cc
    ] refl

-- a word is read as that word
token-after_word : (word space more bytes : List ℕ) → is_blank space ≡ true → bytes ≡ word ++ (space ++ more) → HasNoIndent more
    → after_word word bytes ≡ Some more
token-after_word word space more bytes h e n =
    let all = word ++ (space ++ more) in
    ap (after_word word) e
    ∙ ap (λ t. cond t (Some (trim_start (drop (length word) all))) None)
    ((bytes_eq-Decides (take (length word) all) word).1 (take-append_seam word (space ++ more)))
    ∙ ap (λ (t : List ℕ). Some (trim_start t)) (drop-append_seam word (space ++ more))
    ∙ ap Some (blank_prefix space more h ∙ no_indent more n)

space-Stops : (space more : List ℕ) → is_blank space ≡ true → Stops is_ascii_digit more → Stops is_ascii_digit (space ++ more)
space-Stops [] more h s = s
space-Stops (b ∷ space) more h s = let parts = and_parts (is_whitespace b) (is_blank space) h in grind (arith, nat_tests, parts.0)

-- a digit text is read as a number
token-after_number : (digits space more bytes : List ℕ) → is_digit_text digits ≡ true → is_blank space ≡ true → bytes ≡ digits ++ (space ++ more)
    → HasNoIndent more → Stops is_ascii_digit more → after_number bytes ≡ Some more
token-after_number digits space more bytes d h e n s =
    let all = digits ++ (space ++ more) in
    let stops = space-Stops space more h s in
    let parts = and_parts (not (is_empty digits)) (list_all is_ascii_digit digits) d in
    ap after_number e
    ∙ ap (λ (t : List ℕ). cond (is_digit_text t) (Some (trim_start (after_digits_of all))) None)
    (prefix-stop is_ascii_digit digits (space ++ more) parts.1 stops)
    ∙ ap (λ t. cond t (Some (trim_start (after_digits_of all))) None) d
    ∙ ap (λ (t : List ℕ). Some (trim_start t)) (behind-stop is_ascii_digit digits (space ++ more) parts.1 stops)
    ∙ ap Some (blank_prefix space more h ∙ no_indent more n)

digits-HasNoIndent : (digits more : List ℕ) → is_digit_text digits ≡ true → HasNoIndent (digits ++ more)
digits-HasNoIndent [] more h = cc
digits-HasNoIndent (d ∷ digits) more h = (digit-plain d (and_parts (is_ascii_digit d) (list_all is_ascii_digit digits) h).0).0

-- the chain of tokens

abbrev behind_comma : List ℕ → Option (Option (List ℕ))
behind_comma bytes = after_word (codes "rule") bytes >>= λ rest. after_word (codes "=") rest >>= λ rest. Some (Some rest)

abbrev at_height : List ℕ → Option (Option (List ℕ))
at_height bytes = after_number bytes >>= rule_part

abbrev at_y : List ℕ → Option (Option (List ℕ))
at_y bytes = after_word (codes "y") bytes >>= λ rest. after_word (codes "=") rest >>= at_height

abbrev at_width : List ℕ → Option (Option (List ℕ))
at_width bytes = after_number bytes >>= λ rest. after_word (codes ",") rest >>= at_y

then-some : {A B : Type 0} (o : Option A) (f : A → Option B) (b : B) → (o >>= f) ≡ Some b → (a : A) × (o ≡ Some a) × (f a ≡ Some b)
then-some None f b h = cc
then-some (Some a) f b h = (a, refl, h)

some-then : {A B : Type 0} (o : Option A) (f : A → Option B) (a : A) (b : B) → o ≡ Some a → f a ≡ Some b → (o >>= f) ≡ Some b
some-then o f a b e h = ap (λ (o : Option _). o >>= f) e ∙ h

word-step : {B : Type 0} (word bytes : List ℕ) (f : List ℕ → Option B) (b : B) → (after_word word bytes >>= f) ≡ Some b → (more : List ℕ)
    × IsToken bytes word more × (f more ≡ Some b)
word-step word bytes f b h = let t = then-some (after_word word bytes) f b h in (t.0, after_word-token word bytes t.0 t.1, t.2)

number-step : {B : Type 0} (bytes : List ℕ) (f : List ℕ → Option B) (b : B) → (after_number bytes >>= f) ≡ Some b → (digits more : List ℕ)
    × (is_digit_text digits ≡ true) × IsToken bytes digits more × (f more ≡ Some b)
number-step bytes f b h = let t = then-some (after_number bytes) f b h in let n = after_number-token bytes t.0 t.1 in (n.0, t.0, n.1, n.2, t.2)

token-then : (bytes token more : List ℕ) (tokens : List (List ℕ)) (rest : List ℕ) → IsToken bytes token more → AreTokens more tokens rest
    → AreTokens bytes (token ∷ tokens) rest
token-then bytes token more tokens rest t h = (t.0, more, t.1, t.2, h)

-- the part of the rule
abbrev rule_tokens : List (List ℕ)
rule_tokens = codes "," ∷ codes "rule" ∷ codes "=" ∷ []

abbrev IsRulePart : List ℕ → Option (List ℕ) → Type 0
IsRulePart bytes None = bytes ≡ []
IsRulePart bytes (Some text) = AreTokens bytes rule_tokens text × HasNoIndent text

rule_part-tokens : (bytes : List ℕ) (rule : Option (List ℕ)) → rule_part bytes ≡ Some rule → IsRulePart bytes rule
rule_part-tokens [] None h = refl
rule_part-tokens [] (Some text) h = cc
rule_part-tokens (b ∷ bytes) rule h =
    let all = b ∷ bytes in
    let c = word-step (codes ",") all behind_comma rule h in
    let r = word-step (codes "rule") c.0 (λ rest. after_word (codes "=") rest >>= λ rest. Some (Some rest)) rule c.2 in
    let e = word-step (codes "=") r.0 (λ rest. Some (Some rest)) rule r.2 in
    let same : Some e.0 ≡ rule = cc in
    subst (IsRulePart all) same (
      token-then all (codes ",") c.0 (codes "rule" ∷ codes "=" ∷ []) e.0 c.1
          (token-then c.0 (codes "rule") r.0 (codes "=" ∷ []) e.0 r.1 (token-then r.0 (codes "=") e.0 [] e.0 e.1 refl)),
      e.1.3,
    )

tokens-rule_part : (bytes : List ℕ) (rule : Option (List ℕ)) → IsRulePart bytes rule → HasNoIndent bytes × Stops is_ascii_digit bytes
    × (rule_part bytes ≡ Some rule)
tokens-rule_part bytes None h = (subst HasNoIndent (sym h) tt, subst (Stops is_ascii_digit) (sym h) tt, ap rule_part h)
tokens-rule_part bytes (Some text) h =
    let c = h.0 in
    let r = c.4 in
    let e = r.4 in
    let all : List ℕ = codes "," ++ (c.0 ++ c.1) in
    let n : HasNoIndent e.1 = subst HasNoIndent (sym e.4) h.1 in
    let one = token-after_word (codes ",") c.0 c.1 all c.2 refl (subst HasNoIndent (sym r.3) refl) in
    let two = token-after_word (codes "rule") r.0 r.1 c.1 r.2 r.3 (subst HasNoIndent (sym e.3) refl) in
    let three = token-after_word (codes "=") e.0 e.1 r.1 e.2 e.3 n in
    let last : Some (Some e.1) ≡ Some (Some text) = ap (λ (t : List ℕ). Some (Some t)) e.4 in (
      subst HasNoIndent (sym c.3) refl,
      subst (Stops is_ascii_digit) (sym c.3) refl,
      ap rule_part c.3
          ∙ some-then (after_word (codes ",") all) behind_comma c.1 (Some text) one
          (some-then (after_word (codes "rule") c.1) (λ rest. after_word (codes "=") rest >>= λ rest. Some (Some rest)) r.1 (Some text) two
          (some-then (after_word (codes "=") r.1) (λ rest. Some (Some rest)) e.1 (Some text) three last)),
    )

-- the tokens up to the height, and what comes after them
abbrev IsSized : List ℕ → List ℕ → Type 0
IsSized line behind =
    (width height : List ℕ) × (is_digit_text width ≡ true) × (is_digit_text height ≡ true)
    × ((tokens : List (List ℕ)) (rest : List ℕ) → AreTokens behind tokens rest → AreTokens line (size_tokens width height ++ tokens) rest)

header_form-sized : (line : List ℕ) (rule : Option (List ℕ)) → header_form line ≡ Some rule → (behind : List ℕ) × IsSized line behind × IsRulePart behind rule
header_form-sized line rule h =
    let x = word-step (codes "x") line (λ rest. after_word (codes "=") rest >>= at_width) rule h in
    let e = word-step (codes "=") x.0 at_width rule x.2 in
    let w = number-step e.0 (λ rest. after_word (codes ",") rest >>= at_y) rule e.2 in
    let c = word-step (codes ",") w.1 at_y rule w.4 in
    let y = word-step (codes "y") c.0 (λ rest. after_word (codes "=") rest >>= at_height) rule c.2 in
    let f = word-step (codes "=") y.0 at_height rule y.2 in
    let n = number-step f.0 rule_part rule f.2 in (
      n.1,
      (
        w.0,
        n.0,
        w.2,
        n.2,
        λ tokens rest t.
            let t7 = token-then f.0 n.0 n.1 tokens rest n.3 t in
            let t6 = token-then y.0 (codes "=") f.0 (n.0 ∷ tokens) rest f.1 t7 in
            let t5 = token-then c.0 (codes "y") y.0 (codes "=" ∷ n.0 ∷ tokens) rest y.1 t6 in
            let t4 = token-then w.1 (codes ",") c.0 (codes "y" ∷ codes "=" ∷ n.0 ∷ tokens) rest c.1 t5 in
            let t3 = token-then e.0 w.0 w.1 (codes "," ∷ codes "y" ∷ codes "=" ∷ n.0 ∷ tokens) rest w.3 t4 in
            let t2 = token-then x.0 (codes "=") e.0 (w.0 ∷ codes "," ∷ codes "y" ∷ codes "=" ∷ n.0 ∷ tokens) rest e.1 t3 in
            token-then line (codes "x") x.0 (codes "=" ∷ w.0 ∷ codes "," ∷ codes "y" ∷ codes "=" ∷ n.0 ∷ tokens) rest x.1 t2,
      ),
      rule_part-tokens n.1 rule n.4,
    )

sized-IsHeaderLine : (line behind : List ℕ) (rule : Option (List ℕ)) → IsSized line behind → IsRulePart behind rule → IsHeaderLine line rule
sized-IsHeaderLine line behind None s r = (s.0, s.1, s.2, s.3, s.4 [] [] r)
sized-IsHeaderLine line behind (Some text) s r = (s.0, s.1, s.2, s.3, s.4 rule_tokens text r.0, r.1)

-- the tokens up to the height are read, and then the part of the rule
sized-header_form : (line width height : List ℕ) (tokens : List (List ℕ)) (rest : List ℕ) (rule : Option (List ℕ)) → is_digit_text width ≡ true
    → is_digit_text height ≡ true
    → AreTokens line (size_tokens width height ++ tokens) rest → ((behind : List ℕ) → AreTokens behind tokens rest → IsRulePart behind rule)
    → header_form line ≡ Some rule
sized-header_form line width height tokens rest rule dw dh x part =
    let e = x.4 in
    let w = e.4 in
    let c = w.4 in
    let y = c.4 in
    let f = y.4 in
    let n = f.4 in
    let k = tokens-rule_part n.1 rule (part n.1 n.4) in
    let e1 = token-after_word (codes "x") x.0 x.1 line x.2 x.3 (subst HasNoIndent (sym e.3) refl) in
    let e2 = token-after_word (codes "=") e.0 e.1 x.1 e.2 e.3 (subst HasNoIndent (sym w.3) (digits-HasNoIndent width (w.0 ++ w.1) dw)) in
    let e3 = token-after_number width w.0 w.1 e.1 dw w.2 w.3 (subst HasNoIndent (sym c.3) refl) (subst (Stops is_ascii_digit) (sym c.3) refl) in
    let e4 = token-after_word (codes ",") c.0 c.1 w.1 c.2 c.3 (subst HasNoIndent (sym y.3) refl) in
    let e5 = token-after_word (codes "y") y.0 y.1 c.1 y.2 y.3 (subst HasNoIndent (sym f.3) refl) in
    let e6 = token-after_word (codes "=") f.0 f.1 y.1 f.2 f.3 (subst HasNoIndent (sym n.3) (digits-HasNoIndent height (n.0 ++ n.1) dh)) in
    let e7 = token-after_number height n.0 n.1 f.1 dh n.2 n.3 k.0 k.1 in
    let h7 = some-then (after_number f.1) rule_part n.1 rule e7 k.2 in
    let h6 = some-then (after_word (codes "=") y.1) at_height f.1 rule e6 h7 in
    let h5 = some-then (after_word (codes "y") c.1) (λ rest. after_word (codes "=") rest >>= at_height) y.1 rule e5 h6 in
    let h4 = some-then (after_word (codes ",") w.1) at_y c.1 rule e4 h5 in
    let h3 = some-then (after_number e.1) (λ rest. after_word (codes ",") rest >>= at_y) w.1 rule e3 h4 in
    let h2 = some-then (after_word (codes "=") x.1) at_width e.1 rule e2 h3 in
    some-then (after_word (codes "x") line) (λ rest. after_word (codes "=") rest >>= at_width) x.1 rule e1 h2

IsHeaderLine-header_form : (line : List ℕ) (rule : Option (List ℕ)) → IsHeaderLine line rule → header_form line ≡ Some rule
IsHeaderLine-header_form line None h = sized-header_form line h.0 h.1 [] [] None h.2 h.3 h.4 (λ behind t. t)
IsHeaderLine-header_form line (Some text) h = sized-header_form line h.0 h.1 rule_tokens text (Some text) h.2 h.3 h.4 (λ behind t. (t, h.5))

pub headers_are_plain : HeadersArePlain
headers_are_plain line rule =
    ((λ h. let s = header_form-sized line rule h in sized-IsHeaderLine line s.0 rule s.1 s.2), IsHeaderLine-header_form line rule)
