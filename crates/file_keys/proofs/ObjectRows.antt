-- The definitions of the objects of `keys --json` at worked examples, by computation.
use Rattle.std.proofs.Common.{◌≡◌, [], ◌∷◌, ◌++◌, None, refl, codes, decimal}
use Rattle.std.specs.declared.io.ErrorKind.TheVariants as io
use Rattle.life_base.specs.Refusal.{fault_of}
use Rattle.life_base.specs.declared.kind.Kind.TheVariants.{Memory}
use Rattle.file_keys.specs.Json.{json_text}
use Rattle.file_keys.specs.Keys.{without_advice}
use Rattle.file_keys.specs.Objects.{fault_members, members_text}
use Rattle.file_keys.specs.declared.keys.outcome.Outcome.TheVariants.{Refused, Unopened}

-- texts within a string
plain : json_text (codes "a b.rle") ≡ codes "a b.rle"
plain = refl

quoted : json_text (codes "\"q\\\n") ≡ codes "\\\"q\\\\\\n"
quoted = refl

controls : json_text (1 ∷ 8 ∷ 9 ∷ 12 ∷ 13 ∷ 31 ∷ 127 ∷ 195 ∷ 169 ∷ []) ≡ codes "\\u0001\\b\\t\\f\\r\\u001f" ++ (127 ∷ 195 ∷ 169 ∷ [])
controls = refl

-- what follows the name of a file
on_a_line : fault_members (codes "ZeroCount") 3 (codes "A count is 0.") None
    ≡ codes "\",\"kind\":\"ZeroCount\",\"line\":" ++ (decimal 3 ++ codes ",\"reason\":\"A count is 0.\"}\n")
on_a_line = refl

on_no_line : members_text (Refused (without_advice (fault_of Memory))) ≡ codes "\",\"kind\":\"Memory\",\"reason\":\"Memory was refused.\"}\n"
on_no_line = refl

absent : members_text (Unopened io.NotFound) ≡ codes "\",\"kind\":\"ReadFault\",\"reason\":\"no such file\"}\n"
absent = refl
