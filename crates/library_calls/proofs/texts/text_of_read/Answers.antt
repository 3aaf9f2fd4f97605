use Rattle.std.proofs.Common.{◌∙◌, inl, inr}
use Rattle.std.proofs.lemmas.Result.{IfOk-weaker, IfErr-weaker}
use Rattle.library_calls.proofs.Answering.{and-lacks, both}
use Rattle.library_calls.proofs.FormFacts.{form-fault, form-text}
use Rattle.library_calls.proofs.TextFacts.{later-fault, next-fault, of-fault, of-form, rle-fault, wants}
use Rattle.library_calls.proofs.texts.text_of_read.Goals as goal

pub returns-in-Canonical-clause-text : goal.returns-in-Canonical-clause-text
returns-in-Canonical-clause-text c =
    of-form c.args.store.now c.args.pattern (λ text. text.items) c.text_in.result c.in-Canonical.is
    (IfOk-weaker c.text_in.result _ _ (λ text is limit bytes space read. form-text c.files_are_on_plane.ensures c.texts_are_files.ensures
    c.canonical_is_least.ensures c.in-Canonical.form limit c.args.store.now bytes text.items space (is bytes read)) c.text_in.ensures.text)

pub returns-in-Canonical-clause-fault : goal.returns-in-Canonical-clause-fault
returns-in-Canonical-clause-fault c =
    of-fault c.args.store.now c.args.pattern c.text_in.result c.in-Canonical.is
    (IfErr-weaker c.text_in.result _ _ (λ fault why limit bytes space read only. form-fault c.in-Canonical.form limit c.args.store.now bytes fault space
    (elim why [ inl memory ↦ inl memory | inr large ↦ inr (large bytes read) ])) c.text_in.ensures.fault)

pub returns-in-Rle-clause-text : goal.returns-in-Rle-clause-text
returns-in-Rle-clause-text c =
    of-form c.args.store.now c.args.pattern (λ text. text.items) c.rle_of.result c.in-Rle.is
    (IfOk-weaker c.rle_of.result _ _ (λ text h limit bytes space read. (h.0 bytes read, h.1 bytes read))
    (both _ _ c.rle_of.result c.rle_of.ensures.text c.rle_of.ensures.same))

pub returns-in-Rle-clause-fault : goal.returns-in-Rle-clause-fault
returns-in-Rle-clause-fault c =
    of-fault c.args.store.now c.args.pattern c.rle_of.result c.in-Rle.is
    (IfErr-weaker c.rle_of.result _ _ (λ fault why limit bytes is read only. rle-fault limit bytes c.args.store.now c.args.pattern fault read why)
    c.rle_of.ensures.fault)

pub returns-in-Lines-clause-text : goal.returns-in-Lines-clause-text
returns-in-Lines-clause-text c =
    of-form c.args.store.now c.args.pattern (λ text. text.items) c.five_lines_of.result c.in-Lines.is
    (IfOk-weaker c.five_lines_of.result _ _ (λ text is limit bytes space read. is bytes read) c.five_lines_of.ensures.text)

pub returns-in-Lines-clause-fault : goal.returns-in-Lines-clause-fault
returns-in-Lines-clause-fault c =
    IfErr-weaker c.five_lines_of.result _ _ (wants c.args.output c.args.store.now c.args.pattern) c.five_lines_of.ensures.memory

pub returns-in-Next-clause-text : goal.returns-in-Next-clause-text
returns-in-Next-clause-text c =
    of-form c.args.store.now c.args.pattern (λ text. text.items) c.next_by_rule-text.result c.in-Next.is
    (IfOk-weaker c.next_by_rule-text.result _ _ (λ text is limit bytes space read. is bytes read) c.next_by_rule-text.ensures.stepped)

pub returns-in-Next-clause-fault : goal.returns-in-Next-clause-fault
returns-in-Next-clause-fault c =
    of-fault c.args.store.now c.args.pattern c.next_by_rule-text.result c.in-Next.is
    (IfErr-weaker c.next_by_rule-text.result _ _ (λ fault why limit bytes is read only. next-fault limit bytes c.args.store.now
    c.next_by_rule-text.new.store c.args.pattern fault (c.next_by_rule-text.ensures.keeps.limit ∙ is) read only
    (record { distinct = c.len.ensures.distinct; live = λ t there. (c.len.ensures.only t there).0 }) c.next_by_rule-text.ensures.adds why.0 why.1)
    (and-lacks _ c.next_by_rule-text.result c.next_by_rule-text.ensures.refused c.next_by_rule-text.ensures.needed))

pub returns-in-Later-clause-text : goal.returns-in-Later-clause-text
returns-in-Later-clause-text c =
    of-form c.args.store.now c.args.pattern (λ text. text.items) c.later_by_rule.result c.in-Later.is
    (IfOk-weaker c.later_by_rule.result _ _ (λ text is limit bytes space read. is bytes read) c.later_by_rule.ensures.later)

pub returns-in-Later-clause-fault : goal.returns-in-Later-clause-fault
returns-in-Later-clause-fault c =
    of-fault c.args.store.now c.args.pattern c.later_by_rule.result c.in-Later.is
    (IfErr-weaker c.later_by_rule.result _ _ (λ fault why limit bytes is read only. later-fault c.in-Later.generations limit bytes c.args.store.now
    c.later_by_rule.new.store c.args.pattern fault read why) c.later_by_rule.ensures.refused)
