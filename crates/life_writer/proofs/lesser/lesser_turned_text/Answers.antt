use Rattle.std.proofs.Common.{◌≤◌, ℕ, sym, subst}
use Rattle.life_mc.specs.Macrocell.{largest_state}
use Rattle.life_quad.proofs.LawLemmas.{known_squares_are_full}
use Rattle.life_quad.proofs.TurningLemmas.{depth-turned}
use Rattle.life_pattern.specs.Store.{content}
use Rattle.life_pattern.specs.Universe.{least_level}
use Rattle.life_writer.proofs.SeenFacts.{states-turned}
use Rattle.life_writer.proofs.lesser.lesser_turned_text.Goals as goal

pub lesser_seen_text-requires : goal.lesser_seen_text-requires
lesser_seen_text-requires c =
    let p = c.args.pattern.now in
    let root = content c.args.store.now p.root in
    let full = (known_squares_are_full c.args.store.now p.root c.requires.known.0).0 in
    record {
      root = record {
        known = c.requires.known;
        level = subst (λ (n : ℕ). least_level p.rule ≤ n) (sym (depth-turned c.args.turn root full)) c.requires.level;
        states = states-turned (largest_state p.rule) c.args.turn root c.requires.states;
      };
    }
