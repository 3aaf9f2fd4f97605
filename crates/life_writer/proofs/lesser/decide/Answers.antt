use Rattle.std.proofs.Common.{◌≡◌, ◌+◌, ◌-◌, refl, ap, ◌∙◌, take, length, arith, length-take-le}
use Rattle.life_writer.specs.declared.lesser.Lesser.TheVariants.{Undecided, New, Old}
use Rattle.life_writer.proofs.LesserFacts.{cut, copied, decided-of, still-undecided, new-now, old-now}
use Rattle.life_writer.proofs.lesser.decide.Goals as goal

pub returns-in-Undecided : goal.returns-in-Undecided
returns-in-Undecided c =
    let items = c.args.bytes.now.items in
    let whole = cut items c.args.count c.args.end c.requires.count in
    let long : length (take c.args.count items) ≡ c.args.count = length-take-le c.args.count items (omega (arith, c.requires.count, c.requires.end)) in
    record {
      is = still-undecided (take c.args.count items) _ _ _ whole c.args.count (c.args.count + c.in-Undecided.more) c.in-Undecided.more
          (omega (arith, long)) refl
          (decided-of items _ _ c.args.count c.args.end c.deref.ensures.value c.deref-2.ensures.value (Undecided c.in-Undecided.more)
          c.in-Undecided.ensures);
      bytes = c.truncate.ensures.items;
    }

pub returns-in-New : goal.returns-in-New
returns-in-New c =
    let items = c.args.bytes.now.items in
    let whole = cut items c.args.count c.args.end c.requires.count in
    let long : c.len-whole.result ≡ length items = omega (arith, c.len-whole.ensures, c.args.bytes.now.ok) in
    record {
      is = new-now (take c.args.count items) _ _ _ whole
          (decided-of items _ _ c.args.count c.args.end c.deref.ensures.value c.deref-2.ensures.value New c.in-New.ensures);
      bytes = c.truncate-in-New.ensures.items
          ∙ ap (take (c.args.count + (c.len-whole.result - c.args.end))) c.copy_within.ensures.items
          ∙ copied items c.args.count c.args.end _ c.len-whole.result c.args.bytes.now.ok.0 long c.requires.count c.requires.end;
    }

pub returns-in-Old : goal.returns-in-Old
returns-in-Old c =
    let items = c.args.bytes.now.items in
    let whole = cut items c.args.count c.args.end c.requires.count in
    record {
      is = old-now (take c.args.count items) _ _ _ whole
          (decided-of items _ _ c.args.count c.args.end c.deref.ensures.value c.deref-2.ensures.value Old c.in-Old.ensures);
      bytes = c.truncate-in-Old.ensures.items;
    }
