use Rattle.std.proofs.Common.{◌≡◌, ℕ, ◌∷◌, [], ◌++◌, List, ℤ, w64, to_z, of_z, to_z-of_z, FitsSigned, rules}
use Rattle.std.specs.Fmt.{signed_decimal}
use Rattle.std.proofs.lemmas.Result.{on_ok_weaker}
use Rattle.life_rle.proofs.PutItems.{three-texts}
use Rattle.life_rle.proofs.writing.append_corner.Goals as goal

-- the integer that was written
written : (n : ℤ) (old new : List ℕ) → FitsSigned w64 n → new ≡ old ++ signed_decimal (to_z w64 (of_z w64 n)) → new ≡ old ++ signed_decimal n
written n old new f e = simp to_z-of_z at e

pub returns-clause-ok : goal.returns-clause-ok
returns-clause-ok c =
    let at = c.args.position in
    on_ok_weaker c.append_number-2.result
    (λ e. three-texts (signed_decimal at.x) (44 ∷ []) (signed_decimal at.y)
    c.args.out.now.items c.append_number.new.out.items c.append.new.out.items c.append_number-2.new.out.items
    (written at.x _ _ (search rules) c.in_ok-append_number.ensures.ok) c.in_ok-append.ensures.ok (written at.y _ _ (search rules) e))
    c.append_number-2.ensures.ok
