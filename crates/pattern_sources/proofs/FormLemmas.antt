-- The text of a pattern in a form, in a store of 2^31 squares.
use Rattle.std.proofs.Common.{◌≡◌, ℕ, ◌^◌, inl, inr, min, subst, List, Result, Ok, Err, IfOk, IfErr}
use Rattle.life_base.specs.Refusal.{OrMemory}
use Rattle.life_base.specs.declared.cell.TheConstants.{MAX_LEVEL}
use Rattle.life_base.specs.declared.fault.Fault.{Fault}
use Rattle.life_quad.specs.Store.{Nodes}
use Rattle.life_pattern.specs.Store.{ForEachFile}
use Rattle.life_pattern.specs.declared.pattern.Pattern.{Pattern}
use Rattle.pattern_forms.specs.InForm.{FileLacksForm, IsTextWithin, RefusesFormFor, most_of_form}
use Rattle.life_base.specs.declared.form.Form.{Form}
use Rattle.pattern_sources.specs.Forms.{IsTextIn}
use Rattle.pattern_sources.specs.Sources.{RefusesInForm}

module _ {X : Type 0} (form : Form) (store : Nodes) (pattern : Pattern) (r : Result X Fault) (limit : store.limit ≡ 2 ^ 31) where
  pub text_within : (items : X → List ℕ)
      → IfOk r (λ x. ForEachFile store pattern (λ bytes. IsTextWithin form MAX_LEVEL (most_of_form store) bytes (items x)))
      → IfOk r (λ x. ForEachFile store pattern (λ bytes. IsTextIn form MAX_LEVEL bytes (items x)))
  text_within items =
      subst (λ (n : ℕ). IfOk r (λ x. ForEachFile store pattern (λ bytes. IsTextWithin form MAX_LEVEL (min (2 ^ 21) n) bytes (items x)))) limit

  pub refuses_within : IfErr r (λ fault. OrMemory fault (ForEachFile store pattern
      (λ bytes. RefusesFormFor form (FileLacksForm form MAX_LEVEL (most_of_form store) bytes) fault)))
      → IfErr r (λ fault. OrMemory fault (ForEachFile store pattern (λ bytes. RefusesInForm form bytes fault)))
  refuses_within why = go r why
    where
      go : (r : Result X Fault) → IfErr r (λ fault. OrMemory fault (ForEachFile store pattern
          (λ bytes. RefusesFormFor form (FileLacksForm form MAX_LEVEL (most_of_form store) bytes) fault)))
          → IfErr r (λ fault. OrMemory fault (ForEachFile store pattern (λ bytes. RefusesInForm form bytes fault)))
      go (Ok x) why = tt
      go (Err fault) (inl memory) = inl memory
      go (Err fault) (inr why) = inr (λ bytes read.
          inr (subst (λ (n : ℕ). RefusesFormFor form (FileLacksForm form MAX_LEVEL (min (2 ^ 21) n) bytes) fault) limit (why bytes read)))
