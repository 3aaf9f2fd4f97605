use Rattle.std.proofs.Common.{◌∙◌}
use Rattle.std.proofs.lemmas.Result.{err_from_is_err_and}
use Rattle.life_base.specs.declared.cell.TheConstants.{MAX_LEVEL}
use Rattle.pattern_sources.specs.Forms.{IsTextIn}
use Rattle.pattern_sources.specs.Sources.{RefusesInForm}
use Rattle.pattern_sources.proofs.FormLemmas.{refuses_within, text_within}
use Rattle.pattern_sources.proofs.SourceLemmas.{comes_of_pattern, nothing_comes, refused_in, refused_text}
use Rattle.pattern_sources.proofs.forms.text_of_source.Goals as goal

pub returns-in_err-pattern : goal.returns-in_err-pattern
returns-in_err-pattern g c =
    let p = err_from_is_err_and c.from_residual.result c.from_residual.ensures.1 in
    rw (p.1, p.2) (nothing_comes _ (IsTextIn c.args.form MAX_LEVEL)
    (RefusesInForm c.args.form) _ _ _ _ c.seeded-store.ensures.most c.seeded-store.ensures.stored
    c.pattern_of.ensures.squares (λ bytes refuses. refused_in c.args.form bytes _ refuses) c.in_err-pattern.ensures.reads)

pub text_in-requires : goal.text_in-requires
text_in-requires g c = (c.in_ok-pattern.ensures.reads.pattern.bytes, c.in_ok-pattern.ensures.reads.pattern.is)

pub returns : goal.returns
returns g c =
    let limit = c.pattern_of.ensures.reads.reads.keeps.limit ∙ c.seeded-store.ensures.most in
    comes_of_pattern _ (IsTextIn c.args.form MAX_LEVEL) (RefusesInForm c.args.form) _ c.pattern_of.new.store c.in_ok-pattern.pattern c.text_in.result
    c.in_ok-pattern.ensures.reads.pattern c.in_ok-pattern.ensures.reads.works
    (text_within c.args.form _ _ c.text_in.result limit (λ text. text.items) c.text_in.ensures.text)
    (refused_text c.args.form _ _ c.pattern_of.new.store c.in_ok-pattern.pattern c.text_in.result c.in_ok-pattern.ensures.only
    (refuses_within c.args.form _ _ c.text_in.result limit c.text_in.ensures.fault))
