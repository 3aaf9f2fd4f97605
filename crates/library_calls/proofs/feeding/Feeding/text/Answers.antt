use Rattle.std.proofs.Common.{◌≡◌, ◌∙◌, false, [], ap, subst}
use Rattle.std.proofs.lemmas.Result.{IfOk-weaker, IfErr-weaker, err_from_is_err_and}
use Rattle.life_base.specs.declared.cell.TheConstants.{MAX_LEVEL}
use Rattle.life_pattern.specs.Store.{IsRead, RefusesIn}
use Rattle.library_calls.specs.Outputs.{Piecewise, IsOutputText, RefusesTextOf}
use Rattle.library_calls.specs.Texts.{Fits, SomeToRead}
use Rattle.library_calls.proofs.NeedFacts.{end-low, file-fits, if-err, if-ok, on-ok, only-more, where-ok}
use Rattle.library_calls.proofs.TextFacts.{text-fault}
use Rattle.library_calls.proofs.feeding.Feeding.text.Goals as goal

pub text_of_read-requires : goal.text_of_read-requires
text_of_read-requires c = (
  c.self.inside.reader.bytes,
  (if-ok (λ pattern. (c.self.inside.reader.spent ≡ false) × IsRead MAX_LEVEL c.self.inside.reader.bytes c.finish-found.new.store pattern)
      c.finish-found.result c.in_ok-pattern.pattern c.in_ok-pattern.was c.finish-found.ensures.pattern).1,
)

pub returns-in_err-pattern-clause-fault : goal.returns-in_err-pattern-clause-fault
returns-in_err-pattern-clause-fault c =
    let p = err_from_is_err_and c.from_residual.result c.from_residual.ensures.1 in
    let bytes = c.self.inside.reader.bytes in
    let store = c.finish-found.new.store in
    let fault = c.in_err-pattern.field-0.0 in
    let only = (c.prefixes_hold.ensures bytes [] [] c.self.inside.store c.self.inside.store c.self.invariant.2).1 in
    rw (p.1, p.2) (λ limit is. subst (λ (v : Piecewise). RefusesTextOf v.output limit v.bytes fault) c.self.view_is
    (text-fault _ limit bytes store fault (c.finish-found.ensures.ends.keeps.limit ∙ ap (λ (v : Piecewise). v.space) c.self.view_is ∙ is)
    (if-err (RefusesIn MAX_LEVEL bytes store) c.finish-found.result fault c.in_err-pattern.was (c.finish-found.ensures.fault c.self.invariant.0))
    (end-low bytes c.self.inside.store store c.finish-found.result fault c.in_err-pattern.was only
    (record { distinct = c.len.ensures.distinct; live = λ t there. (c.len.ensures.only t there).0 }) c.finish-found.ensures.ends)))

pub returns-clause-text : goal.returns-clause-text
returns-clause-text c =
    IfOk-weaker c.text_of_read.result _ _ (λ text is limit space. subst (λ (v : Piecewise). IsOutputText v.output limit v.bytes text.items) c.self.view_is
    (is limit c.self.inside.reader.bytes (c.finish-found.ensures.ends.keeps.limit ∙ ap (λ (v : Piecewise). v.space) c.self.view_is ∙ space)
    (if-ok (λ pattern. (c.self.inside.reader.spent ≡ false) × IsRead MAX_LEVEL c.self.inside.reader.bytes c.finish-found.new.store pattern)
    c.finish-found.result c.in_ok-pattern.pattern c.in_ok-pattern.was c.finish-found.ensures.pattern).1)) c.text_of_read.ensures.text

pub returns-clause-fits : goal.returns-clause-fits
returns-clause-fits c =
    where-ok c.text_of_read.result (λ limit is. subst (λ (v : Piecewise). Fits (SomeToRead v.bytes) limit) c.self.view_is
    (file-fits c.self.inside.reader.bytes limit c.finish-found.new.store c.in_ok-pattern.pattern
    (if-ok (λ pattern. (c.self.inside.reader.spent ≡ false) × IsRead MAX_LEVEL c.self.inside.reader.bytes c.finish-found.new.store pattern)
    c.finish-found.result c.in_ok-pattern.pattern c.in_ok-pattern.was c.finish-found.ensures.pattern).1
    (on-ok c.finish-found.result c.in_ok-pattern.pattern c.in_ok-pattern.was c.finish-found.ensures.ends.all)
    (c.finish-found.ensures.ends.keeps.limit ∙ ap (λ (v : Piecewise). v.space) c.self.view_is ∙ is)))

pub returns-clause-fault : goal.returns-clause-fault
returns-clause-fault c =
    let bytes = c.self.inside.reader.bytes in
    let only = (c.prefixes_hold.ensures bytes [] [] c.self.inside.store c.self.inside.store c.self.invariant.2).1 in
    IfErr-weaker c.text_of_read.result _ _ (λ fault why limit is. subst (λ (v : Piecewise). RefusesTextOf v.output limit v.bytes fault) c.self.view_is
    (why limit bytes (c.finish-found.ensures.ends.keeps.limit ∙ ap (λ (v : Piecewise). v.space) c.self.view_is ∙ is)
    (if-ok (λ pattern. (c.self.inside.reader.spent ≡ false) × IsRead MAX_LEVEL bytes c.finish-found.new.store pattern)
    c.finish-found.result c.in_ok-pattern.pattern c.in_ok-pattern.was c.finish-found.ensures.pattern).1
    (only-more bytes c.self.inside.store c.finish-found.new.store only c.finish-found.ensures.ends.adds))) c.text_of_read.ensures.fault
