use Rattle.std.proofs.Common.{◌≡◌, ◌+◌, ◌-◌, ◌^◌, ◌⊎◌, min, Err, ap, sym, ◌∙◌, subst}
use Rattle.life_base.specs.Refusal.{fault_of}
use Rattle.life_base.specs.declared.kind.Kind.{Kind}
use Rattle.life_base.specs.declared.kind.Kind.TheVariants.{Full}
use Rattle.life_base.specs.declared.cell.TheConstants.{MAX_LEVEL}
use Rattle.life_base.specs.declared.fault.Fault.{Fault}
use Rattle.life_pattern.specs.Store.{IsShortageOf}
use Rattle.life_reader.specs.Taking.{IsLineFault, consumed_lines}
use Rattle.life_reader.proofs.PrefixFacts.{fault-of-kind}
use Rattle.life_reader.proofs.NeedFacts.{kind-full}
use Rattle.life_reader.proofs.prefix.FilePrefix.take_line.Goals as goal

pub returns-in-Ok-clause-takes : goal.returns-in-Ok-clause-takes
returns-in-Ok-clause-takes c =
    let call = c.in-Ok.ensures in
    record {
      line_consumed = record { lines = call.lines; progress = call.progress; count = c.saturating_add-self.ensures };
      fault = tt;
      stores = record { needed = λ e. absurd (cc); adds = call.stores.adds; keeps = call.stores.keeps };
    }

pub returns-in-Err-clause-takes : goal.returns-in-Err-clause-takes
returns-in-Err-clause-takes c =
    let call = c.in-Err.ensures in
    record {
      line_consumed = tt;
      fault = subst (λ (f : Fault). IsShortageOf c.take_line.new.store f
          ⊎ IsLineFault MAX_LEVEL (consumed_lines c.args.self.now.progress) c.args.line.now c.args.self.now.ended f) (sym c.fault_here.ensures)
          (fault-of-kind c.take_line.new.store (consumed_lines c.args.self.now.progress) c.args.line.now c.args.self.now.ended c.in-Err.kind call.fault);
      stores = record {
        needed = λ e.
            let reported : c.fault_here.result ≡ fault_of Full = cc in
            let kind : c.in-Err.kind ≡ Full = kind-full (min (c.args.self.now.ended + 1) (2 ^ 64 - 1)) c.in-Err.kind (sym c.fault_here.ensures ∙ reported) in
            call.stores.needed (ap (λ (k : Kind). Err k) kind);
        adds = call.stores.adds;
        keeps = call.stores.keeps;
      };
    }
