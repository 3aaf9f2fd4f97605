use Rattle.std.proofs.Common.{◌≡◌, ℕ, ◌+◌, ◌-◌, ◌^◌, min, Err, ap, sym, ◌∙◌, subst}
use Rattle.life_base.proofs.Results.{error_is}
use Rattle.life_base.specs.Refusal.{fault_at, fault_of}
use Rattle.life_base.specs.declared.kind.Kind.{Kind}
use Rattle.life_base.specs.declared.kind.Kind.TheVariants.{Full}
use Rattle.life_base.specs.declared.cell.TheConstants.{MAX_LEVEL}
use Rattle.life_quad.proofs.KeepingLemmas.{keeps-then, adds-then}
use Rattle.life_pattern.specs.Store.{RefusesIn}
use Rattle.life_reader.specs.Taking.{bytes_of}
use Rattle.life_reader.proofs.PrefixFacts.{end-says, end-fault}
use Rattle.life_pattern.specs.Store.{IsNew}
use Rattle.life_reader.proofs.NeedFacts.{kind-full, left-needs}
use Rattle.life_reader.proofs.Stored.{stores-err}
use Rattle.life_reader.proofs.prefix.FilePrefix.finish.Goals as goal

pub returns-in-Ok-clause-pattern : goal.returns-in-Ok-clause-pattern
returns-in-Ok-clause-pattern c =
    let r = c.in-Ok.ensures.pattern in
    record {
      universe = r.0;
      reads = end-says (bytes_of c.args.self.pieces.lines) c.take_rest.new.self.ended c.take_rest.new.self.progress r.0 c.in_ok-take_rest.ensures.end r.1;
      is = r.2;
    }

pub returns-clause-fault : goal.returns-clause-fault
returns-clause-fault c =
    let reported = c.at.ensures ∙ ap (λ (n : ℕ). fault_at n c.in-Err.kind) c.saturating_add.ensures in
    subst (RefusesIn MAX_LEVEL (bytes_of c.args.self.pieces.lines) c.end.new.store) (sym reported)
    (end-fault c.end.new.store (bytes_of c.args.self.pieces.lines) c.take_rest.new.self.ended c.take_rest.new.self.progress c.in-Err.kind
    c.in_ok-take_rest.ensures.end c.in-Err.ensures.fault)

pub returns-in_err-take_rest-clause-stores : goal.returns-in_err-take_rest-clause-stores
returns-in_err-take_rest-clause-stores c =
    rw (error_is c.from_residual.result c.from_residual.ensures.1) (stores-err c.in_err-take_rest.ensures.stores)

pub end-requires : goal.end-requires
end-requires c = record { begun = c.in_ok-take_rest.ensures.end.begun; stands = c.in_ok-take_rest.ensures.stands }

pub returns-in-Ok-clause-stores : goal.returns-in-Ok-clause-stores
returns-in-Ok-clause-stores c =
    let prefix = c.take_rest.new.self in
    let first = c.in_ok-take_rest.ensures.stores in
    let call = c.in-Ok.ensures.stores in
    record {
      needed = λ e. absurd (cc);
      adds = adds-then _ first.adds call.adds (λ P a. a)
          (λ P s. left-needs P (bytes_of c.args.self.pieces.lines) prefix.ended prefix.progress c.in_ok-take_rest.ensures.end s);
      keeps = keeps-then first.keeps call.keeps;
    }

pub returns-clause-stores : goal.returns-clause-stores
returns-clause-stores c =
    let prefix = c.take_rest.new.self in
    let first = c.in_ok-take_rest.ensures.stores in
    let call = c.in-Err.ensures.stores in
    record {
      needed = λ e.
          let fault : c.at.result ≡ fault_of Full = cc in
          let reported = c.at.ensures ∙ ap (λ (n : ℕ). fault_at n c.in-Err.kind) c.saturating_add.ensures in
          let kind : c.in-Err.kind ≡ Full = kind-full (min (prefix.ended + 1) (2 ^ 64 - 1)) c.in-Err.kind (sym reported ∙ fault) in
          left-needs (IsNew c.end.new.store) (bytes_of c.args.self.pieces.lines) prefix.ended prefix.progress c.in_ok-take_rest.ensures.end
          (call.needed (ap (λ (k : Kind). Err k) kind));
      adds = adds-then _ first.adds call.adds (λ P a. a)
          (λ P s. left-needs P (bytes_of c.args.self.pieces.lines) prefix.ended prefix.progress c.in_ok-take_rest.ensures.end s);
      keeps = keeps-then first.keeps call.keeps;
    }

pub returns-in-Ok-clause-all : goal.returns-in-Ok-clause-all
returns-in-Ok-clause-all c =
    c.in-Ok.ensures.all (bytes_of c.args.self.pieces.lines) c.take_rest.new.self.ended c.in_ok-take_rest.ensures.end
