use Rattle.std.proofs.lemmas.Result.{IfOk-weaker}
use Rattle.life_base.specs.Lines.{whole_lines}
use Rattle.life_quad.specs.Store.{stored_squares}
use Rattle.life_quad.proofs.KeepingLemmas.{keeps-then, adds-as, adds-then}
use Rattle.life_reader.proofs.Stored.{feed-fault}
use Rattle.std.proofs.Common.{ℕ, ◌+◌, ◌<◌, List, [], ◌++◌, length, ap, sym, ◌∙◌, subst, arith, inl, IfErr, OnOk}
use Rattle.life_base.specs.declared.cell.TheConstants.{MAX_LEVEL}
use Rattle.life_pattern.specs.Store.{IsNew}
use Rattle.life_reader.specs.Needs.{LacksFor, LacksForPrefix}
use Rattle.life_reader.specs.Space.{AddsLines, AddsFile, HoldsFile, HoldsPrefix, HoldsOnly, sufficient_for}
use Rattle.life_pattern.specs.Store.{IsRead, RefusesIn}
use Rattle.life_reader.proofs.Adding.{prefixes_hold}
use Rattle.life_reader.proofs.NeedFacts.{whole-needs}
use Rattle.life_reader.proofs.files.read.Goals as goal
use Rattle.life_base.proofs.Results.{error_is, err_again}

pub returns-in_err-feed-clause-fault : goal.returns-in_err-feed-clause-fault
returns-in_err-feed-clause-fault c =
    rw (error_is c.from_residual.result c.from_residual.ensures.1)
    (feed-fault _ _ _ _ c.new-reader.ensures.bytes (c.in_err-feed.ensures.fault c.new-reader.ensures.spent))

pub returns-clause-pattern : goal.returns-clause-pattern
returns-clause-pattern c =
    let all = c.in_ok-feed.ensures.bytes ∙ ap (λ (b : List ℕ). b ++ c.args.bytes.now) c.new-reader.ensures.bytes in
    IfOk-weaker c.finish.result _ _ (λ pattern h. subst (λ (b : List ℕ). IsRead MAX_LEVEL b c.finish.new.store pattern) all h.1) c.finish.ensures.pattern

pub returns-clause-fault : goal.returns-clause-fault
returns-clause-fault c =
    let all = c.in_ok-feed.ensures.bytes ∙ ap (λ (b : List ℕ). b ++ c.args.bytes.now) c.new-reader.ensures.bytes in
    subst (λ (b : List ℕ). IfErr c.finish.result (RefusesIn MAX_LEVEL b c.finish.new.store)) all (c.finish.ensures.fault c.in_ok-feed.ensures.open.1)

pub returns-in_err-feed-clause-reads : goal.returns-in_err-feed-clause-reads
returns-in_err-feed-clause-reads c =
    let none = ap (λ (b : List ℕ). b ++ c.args.bytes.now) c.new-reader.ensures.bytes in
    let feeds = c.in_err-feed.ensures.feeds in
    let lines = subst (λ (b : List ℕ). AddsLines (whole_lines b) c.args.store.now c.feed.new.store) none feeds.adds in
    let base = stored_squares c.args.store.now in
    rw (error_is c.from_residual.result c.from_residual.ensures.1) (record {
      all = tt;
      needed = λ e. whole-needs (IsNew c.feed.new.store) c.args.bytes.now
          (subst (λ (b : List ℕ). LacksForPrefix MAX_LEVEL b c.feed.new.store) none (feeds.needed (err_again e)));
      adds = adds-as _ lines (λ P s. whole-needs P c.args.bytes.now s);
      space = λ e. subst (λ (b : List ℕ). c.args.store.now.limit < length base + sufficient_for (length b)) none
          (feeds.space (err_again e) base (λ t there. inl there));
      keeps = feeds.keeps;
    })

pub returns-clause-reads : goal.returns-clause-reads
returns-clause-reads c =
    let none = ap (λ (b : List ℕ). b ++ c.args.bytes.now) c.new-reader.ensures.bytes in
    let all = c.in_ok-feed.ensures.bytes ∙ none in
    let feeds = c.in_ok-feed.ensures.feeds in
    let ends = c.finish.ensures.ends in
    let lines = subst (λ (b : List ℕ). AddsLines (whole_lines b) c.args.store.now c.feed.new.store) none feeds.adds in
    let file = subst (λ (b : List ℕ). AddsFile b c.feed.new.store c.finish.new.store) all ends.adds in
    let base = stored_squares c.args.store.now in
    let prefix : HoldsPrefix base c.new-reader.result.bytes c.args.store.now = λ t there. inl there in
    let held_prefix = (prefixes_hold c.new-reader.result.bytes c.args.bytes.now base c.args.store.now c.feed.new.store prefix).0 feeds.adds in
    let only = (prefixes_hold (c.new-reader.result.bytes ++ c.args.bytes.now) [] base c.feed.new.store c.feed.new.store held_prefix).1 in
    let limit = feeds.keeps.limit in
    record {
      all = subst (λ (b : List ℕ). OnOk c.finish.result (HoldsFile b (stored_squares c.finish.new.store))) all ends.all;
      needed = λ e. subst (λ (b : List ℕ). LacksFor MAX_LEVEL b c.finish.new.store) all (ends.needed e);
      adds = adds-then _ lines file (λ P s. whole-needs P c.args.bytes.now s) (λ P a. a);
      space = λ e.
          let tight = ends.space e base (subst (λ (b : List ℕ). HoldsOnly base b c.feed.new.store) (sym c.in_ok-feed.ensures.bytes) only) in
          let tight_here = subst (λ (b : List ℕ). c.feed.new.store.limit < length base + sufficient_for (length b)) all tight in
          omega (arith, limit, tight_here);
      keeps = keeps-then feeds.keeps ends.keeps;
    }
