use Rattle.std.proofs.Common.{append_assoc, ◌≡◌, ℕ, List, ◌++◌, [], ◌∷◌, sym, ap, ◌∙◌, refl}
use Rattle.life_base.proofs.Results.{error_is}
use Rattle.life_base.specs.declared.line_log.LineLog.{LineLog}
use Rattle.life_quad.proofs.KeepingLemmas.{adds-as}
use Rattle.life_pattern.specs.Store.{IsNew}
use Rattle.life_reader.specs.Taking.{bytes_of, consumed_lines}
use Rattle.life_reader.proofs.PrefixFacts.{line-reported, prefix-ended, prefix-along, bytes-more}
use Rattle.life_reader.proofs.NeedFacts.{ended-needs}
use Rattle.life_reader.proofs.prefix.FilePrefix.end_line.Goals as goal

pub returns-in_err-take_ended-clause-fault : goal.returns-in_err-take_ended-clause-fault
returns-in_err-take_ended-clause-fault c =
    rw (error_is c.from_residual.result c.from_residual.ensures.1)
    (line-reported c.take_ended.new.store (bytes_of c.args.self.now.pieces.lines) c.args.self.now.kept.items c.args.end.now c.args.self.now.ended
    c.args.self.now.progress c.in_err-take_ended.field-0.0
    c.requires.prefix.is c.requires.going c.requires.no_feed c.in_err-take_ended.ensures.takes.fault)

pub take_ended-requires-clause-progress : goal.take_ended-requires-clause-progress
take_ended-requires-clause-progress c = record { begun = c.requires.prefix.is.begun; stands = c.requires.prefix.stands }

pub returns-clause-bytes : goal.returns-clause-bytes
returns-clause-bytes c =
    let old : List (List ℕ) = c.args.self.now.pieces.lines in
    let end : List ℕ = c.args.end.now in
    let e = c.in_ok-take_ended.ensures in
    let mid : bytes_of c.then.result.lines ≡ bytes_of old ++ end =
    ap bytes_of (c.then.ensures ∙ ap (λ (l : LineLog). l.lines ++ end ∷ []) c.take_ended.ensures.pieces) ∙ bytes-more old end in
    let bytes : bytes_of c.then-self.result.lines ≡ bytes_of old ++ end ++ 10 ∷ [] =
    ap bytes_of c.then-self.ensures ∙ bytes-more c.then.result.lines (10 ∷ []) ∙ ap (λ (b : List ℕ). b ++ 10 ∷ []) mid in
    let line = e.takes.line_consumed in
    record {
      prefix = record {
        is = prefix-along (sym bytes) (sym e.kept) refl refl
            (prefix-ended (bytes_of old) c.args.self.now.kept.items end c.args.self.now.ended c.take_ended.new.self.ended c.args.self.now.progress
            c.take_ended.new.self.progress
            (c.requires.prefix.is.going c.requires.going) c.requires.no_feed line.progress.begun line.lines line.count);
        stands = line.progress.stands;
      };
      came = bytes ∙ append_assoc (bytes_of old) end (10 ∷ []);
    }

pub returns-in_err-take_ended-clause-stores : goal.returns-in_err-take_ended-clause-stores
returns-in_err-take_ended-clause-stores c =
    let old = c.args.self.now in
    let stores = c.in_err-take_ended.ensures.takes.stores in
    rw (error_is c.from_residual.result c.from_residual.ensures.1) (record {
      needed = λ e rest. ended-needs (IsNew c.take_ended.new.store) (bytes_of old.pieces.lines) old.kept.items c.args.end.now rest old.ended
          (consumed_lines old.progress)
          (c.requires.prefix.is.going c.requires.going) c.requires.no_feed (stores.needed e);
      adds = adds-as _ stores.adds (λ P s rest. ended-needs P (bytes_of old.pieces.lines) old.kept.items c.args.end.now rest old.ended
          (consumed_lines old.progress)
          (c.requires.prefix.is.going c.requires.going) c.requires.no_feed s);
      keeps = stores.keeps;
    })

pub returns-clause-stores : goal.returns-clause-stores
returns-clause-stores c =
    let old = c.args.self.now in
    let stores = c.in_ok-take_ended.ensures.takes.stores in
    record {
      needed = λ e. absurd (cc);
      adds = adds-as _ stores.adds (λ P s rest. ended-needs P (bytes_of old.pieces.lines) old.kept.items c.args.end.now rest old.ended
          (consumed_lines old.progress)
          (c.requires.prefix.is.going c.requires.going) c.requires.no_feed s);
      keeps = stores.keeps;
    }

pub take_ended-requires-clause-short : goal.take_ended-requires-clause-short
take_ended-requires-clause-short c = c.requires.prefix.is.short
