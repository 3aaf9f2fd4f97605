-- Numbers that no kind of fault has.
use Rattle.std.proofs.Common.{◌≡◌, ◌≢◌, ◌==◌, ℕ, Bool, List, [], ◌∷◌, None, find, refl, ap, arith}
use Rattle.std.proofs.lemmas.Grind.{common_steps}
use Rattle.life_base.specs.declared.kind.Kind.{Kind}
use Rattle.life_base.specs.Kinds.{kind_number}
use Rattle.golly_canon_c.specs.declared.names.TheConstants.{KINDS}
use Rattle.golly_canon_c.specs.Naming.{advice_or_none, status_advice, status_name, status_sentence}

-- no kind is found by a number that none has
none_found : (number : ℕ) (kinds : List Kind) → ((kind : Kind) → number ≢ kind_number kind) → find (λ kind. kind_number kind == number) kinds ≡ None
none_found number [] differs = refl
none_found number (kind ∷ kinds) differs = grind (arith, common_steps, differs kind, none_found number kinds differs)

-- such a number has no name
pub unnamed : (number : ℕ) → number ≢ 0 → number ≢ 64 → number ≢ 65 → ((kind : Kind) → number ≢ kind_number kind) → status_name number ≡ []
unnamed number not_ok not_space not_form differs = grind (arith, common_steps, none_found number KINDS differs)

-- nor a sentence
pub unsaid : (number : ℕ) → number ≢ 64 → number ≢ 65 → ((kind : Kind) → number ≢ kind_number kind) → status_sentence number ≡ []
unsaid number not_space not_form differs = grind (arith, common_steps, none_found number KINDS differs)

-- and a file that is refused with it has no advice
pub unadvised : (number : ℕ) (is_table : Bool) (bytes : List ℕ) → ((kind : Kind) → number ≢ kind_number kind) → status_advice number is_table bytes ≡ []
unadvised number is_table bytes differs = ap (λ found. advice_or_none found is_table bytes) (none_found number KINDS differs)
