use Rattle.std.proofs.Common.{◌++◌, ◌∷◌, [], pos, ap, ◌∙◌}
use Rattle.std.proofs.lemmas.Result.{IfOk-weaker}
use Rattle.life_rle.specs.declared.wrapping.ItemLines.{ItemLines}
use Rattle.life_rle.specs.Written.{position_text, header_text}
use Rattle.life_rle.specs.Writer.{text_with}
use Rattle.life_rle.proofs.PutItems.{lines-text}
use Rattle.life_rle.proofs.writing.blank_text.Goals as goal

pub returns-clause-text : goal.returns-clause-text
returns-clause-text c =
    let rule = c.args.rule.now in
    let position = position_text (pos 0) (pos 0) c.args.generation in
    IfOk-weaker c.finish.result _ _
    (λ _ e.
    lines-text position (header_text 0 0 rule) rule [] c.append_position.new.out.items c.append_header.new.out.items _
    (c.in_ok-append_position.ensures.ok ∙ ap (λ bytes. bytes ++ (position ++ 10 ∷ [])) c.new-text.ensures.items)
    c.in_ok-append_header.ensures.ok (e ∙ ap (λ (lines : ItemLines). text_with rule lines []) c.behind.ensures))
    (c.finish.ensures.text rule)
