use Rattle.std.proofs.Common.{rules, ◌∙◌, ap, inr, option_map, string_bytes}
use Rattle.life_cli.proofs.origins.open_files.Goals as goal

pub returns-in_default-opener-clause-failed : goal.returns-in_default-opener-clause-failed
returns-in_default-opener-clause-failed g c =
    inr (
      c.expecting-first.result,
      c.opener.new.self,
      string_bytes c.in-Some.name,
      (c.in-Ok.first, (c.origin_of.result, search rules, rw c.in-Ok.is at c.opener.ensures), c.expecting-first.ensures.inner ∙ c.new.ensures.inner),
      ap (option_map string_bytes) c.in-Some.is,
      (
        c.in_default-opener.field-0,
        c.opener-in-Some.new.self,
        (c.origin_of-in-Some.result, search rules, rw c.in_default-opener.is at c.opener-in-Some.ensures),
      ),
    )

pub returns-in-Some-clause-opened : goal.returns-in-Some-clause-opened
returns-in-Some-clause-opened g c = (
  c.opener.new.self,
  (c.in-Ok.first, (c.origin_of.result, search rules, rw c.in-Ok.is at c.opener.ensures), c.expecting-first.ensures.inner ∙ c.new.ensures.inner),
  rw c.in-Some.is (
    c.opener-in-Some.new.self,
    (
      c.in-Ok-opener.second,
      (c.origin_of-in-Some.result, search rules, rw c.in-Ok-opener.is at c.opener-in-Some.ensures),
      c.expecting-second.ensures.inner ∙ c.new-in-Some.ensures.inner,
    ),
  ),
)

pub returns-clause-opened : goal.returns-clause-opened
returns-clause-opened g c = (
  c.opener.new.self,
  (c.in-Ok.first, (c.origin_of.result, search rules, rw c.in-Ok.is at c.opener.ensures), c.expecting-first.ensures.inner ∙ c.new.ensures.inner),
  rw c.in-None.is tt,
)
