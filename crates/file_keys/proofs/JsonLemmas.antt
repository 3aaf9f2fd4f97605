-- Strings of JSON.
use Rattle.std.proofs.Common.{◌≡◌, ℕ, List, [], ◌∷◌, ◌++◌, length, drop, Option, sym, ap, ◌∙◌, subst, refl, arith, append_assoc}
use Rattle.std.specs.Io.KnownBytes.{Appends}
use Rattle.std.specs.Str.Lossy.{utf8_invalid_len, utf8_lossy, utf8_valid_len}
use Rattle.std.proofs.KnownBytes.{Appends-trans}
use Rattle.std.proofs.lemmas.Grind.{flat_map-append}
use Rattle.std.proofs.lemmas.Str.{utf8_lossy_chunk, utf8_lossy_last_chunk}
use Rattle.life_base.specs.Writing.{WritesPrefix}
use Rattle.life_base.proofs.WritingLemmas.{prefix-after, prefix-grows}
use Rattle.file_keys.specs.Json.{json_byte, json_text, json_name}
use Rattle.file_keys.specs.Pieces.{replacement_of}

pub text_both : (xs ys : List ℕ) → json_text (xs ++ ys) ≡ json_text xs ++ json_text ys
text_both xs ys = flat_map-append json_byte xs ys

-- the text of bytes is that of their first chunk, and then that of the rest
chunk_at : (bytes valid invalid rest : List ℕ) → bytes ≡ valid ++ (invalid ++ rest) → length valid ≡ utf8_valid_len bytes
    → length invalid ≡ utf8_invalid_len (drop (utf8_valid_len bytes) bytes) → (length invalid ≡ 0 → length rest ≡ 0)
    → utf8_lossy bytes ≡ valid ++ (replacement_of invalid ++ utf8_lossy rest)
chunk_at bytes valid [] rest parts valid_len invalid_len last = utf8_lossy_last_chunk bytes valid [] rest parts valid_len refl (last refl)
chunk_at bytes valid (b ∷ more) rest parts valid_len invalid_len last =
    utf8_lossy_chunk bytes valid (b ∷ more) rest parts valid_len invalid_len (omega arith)

-- what was written of a name, before what is left of it
abbrev pub Written : Option (List ℕ) → Option (List ℕ) → List ℕ → List ℕ → Type 0
Written a b name rest = (prefix : List ℕ) × (json_name name ≡ prefix ++ json_name rest) × Appends a b prefix

module _ (name bytes valid invalid rest prefix : List ℕ) (is : json_name name ≡ prefix ++ json_name bytes) (parts : bytes ≡ valid ++ (invalid ++ rest))
    (valid_len : length valid ≡ utf8_valid_len bytes) (invalid_len : length invalid ≡ utf8_invalid_len (drop (utf8_valid_len bytes) bytes))
    (last : length invalid ≡ 0 → length rest ≡ 0) where
  further : json_name name ≡ (prefix ++ json_text (valid ++ replacement_of invalid)) ++ json_name rest
  further = is ∙ ap (λ (t : List ℕ). prefix ++ json_text t) (chunk_at bytes valid invalid rest parts valid_len invalid_len last
      ∙ sym (append_assoc valid (replacement_of invalid) (utf8_lossy rest)))
      ∙ ap (λ (t : List ℕ). prefix ++ t) (text_both (valid ++ replacement_of invalid) (utf8_lossy rest))
      ∙ sym (append_assoc prefix (json_text (valid ++ replacement_of invalid)) (json_name rest))

  pub written_further : (a b c : Option (List ℕ)) → Appends a b prefix → Appends b c (json_text (valid ++ replacement_of invalid)) → Written a c name rest
  written_further a b c first second =
      (prefix ++ json_text (valid ++ replacement_of invalid), further, Appends-trans a b c prefix (json_text (valid ++ replacement_of invalid)) first second)

  pub written_broken : (a b c : Option (List ℕ)) → Appends a b prefix → WritesPrefix b c (json_text (valid ++ replacement_of invalid))
      → WritesPrefix a c (json_name name)
  written_broken a b c first broken = subst (WritesPrefix a c) (sym further)
      (prefix-grows a c (prefix ++ json_text (valid ++ replacement_of invalid)) (json_name rest)
      (prefix-after a b c prefix (json_text (valid ++ replacement_of invalid)) first broken))
