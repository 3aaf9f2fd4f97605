-- The kinds of a format name lines.
use Rattle.std.proofs.Common.{◌≡◌, List, [], ◌∷◌, Bool, true, false, not, refl, sym, ◌∙◌}
use Rattle.std.specs.List.{list_all, AllByRecursion}
use Rattle.life_base.specs.Refusal.{is_placeless}
use Rattle.life_base.specs.declared.kind.Kind.{Kind}
use Rattle.life_base.specs.declared.kind.Kind.TheVariants as kinds
use Rattle.life_base.proofs.Basics.{right_of_and, left_of_and}
use Rattle.std.proofs.lemmas.Bool.{not-true}

-- the kinds that name no line
abbrev pub placeless_kinds : List Kind
placeless_kinds =
    kinds.Full ∷ kinds.Memory ∷ kinds.Spent ∷ kinds.RuleMismatch ∷ kinds.NeedsTable ∷ kinds.TooManyCells ∷ kinds.GenerationTooLarge ∷ kinds.StateBeyondTable
    ∷ kinds.ReadFault ∷ kinds.WriteFault ∷ kinds.InputTooLong ∷ []

-- the kind of a line that is too long
abbrev pub is_length_kind : Kind → Bool
is_length_kind kinds.LineTooLong = true
is_length_kind _ = false

module _ (is_kind : Kind → Bool) where
  none-of : (list : List Kind) → list_all (λ kind. not (is_kind kind)) list ≡ true → AllByRecursion (λ kind. is_kind kind ≡ false) list
  none-of [] h = tt
  none-of (kind ∷ list) h = (not-true (is_kind kind) (left_of_and _ _ h), none-of list (right_of_and _ _ h))

  by-kind : AllByRecursion (λ kind. is_kind kind ≡ false) placeless_kinds → (kind : Kind) → is_kind kind ≡ true → is_placeless kind ≡ false
  by-kind n kinds.Full h = sym h ∙ n.0
  by-kind n kinds.Memory h = sym h ∙ n.1.0
  by-kind n kinds.Spent h = sym h ∙ n.1.1.0
  by-kind n kinds.RuleMismatch h = sym h ∙ n.1.1.1.0
  by-kind n kinds.NeedsTable h = sym h ∙ n.1.1.1.1.0
  by-kind n kinds.TooManyCells h = sym h ∙ n.1.1.1.1.1.0
  by-kind n kinds.GenerationTooLarge h = sym h ∙ n.1.1.1.1.1.1.0
  by-kind n kinds.StateBeyondTable h = sym h ∙ n.1.1.1.1.1.1.1.0
  by-kind n kinds.ReadFault h = sym h ∙ n.1.1.1.1.1.1.1.1.0
  by-kind n kinds.WriteFault h = sym h ∙ n.1.1.1.1.1.1.1.1.1.0
  by-kind n kinds.InputTooLong h = sym h ∙ n.1.1.1.1.1.1.1.1.1.1.0
  by-kind n _ h = refl

  -- kinds of which none is one of these name a line each
  pub names_line : list_all (λ kind. not (is_kind kind)) placeless_kinds ≡ true → (kind : Kind) → is_kind kind ≡ true → is_placeless kind ≡ false
  names_line none = by-kind (none-of placeless_kinds none)
