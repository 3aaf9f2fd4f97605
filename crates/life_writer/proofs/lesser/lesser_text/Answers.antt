use Rattle.std.proofs.Common.{List, ℕ, refl, subst}
use Rattle.life_base.specs.declared.cell.TheConstants.{MAX_LEVEL}
use Rattle.life_writer.specs.Lesser.{IsLesserText}
use Rattle.life_writer.specs.Listing.{canon_text}
use Rattle.life_pattern.specs.Store.{universe_in}
use Rattle.life_writer.proofs.PieceFacts.{text-of-trimmed}
use Rattle.life_writer.proofs.lesser.lesser_text.Goals as goal

lesser-is : (c : goal.In_ok-lesser_seen_text)
    → IsLesserText c.args.best.items (canon_text MAX_LEVEL (universe_in c.args.store.now c.args.pattern.now)) c.in_ok-lesser_seen_text.field-0.items
lesser-is c =
    subst (λ (whole : List ℕ). IsLesserText c.args.best.items whole c.in_ok-lesser_seen_text.field-0.items)
    (text-of-trimmed c.args.store.now c.args.pattern.now c.requires _ refl) c.in_ok-lesser_seen_text.ensures.lesser

pub returns-clause-one : goal.returns-clause-one
returns-clause-one c = (lesser-is c).one

pub returns-clause-first : goal.returns-clause-first
returns-clause-first c = (lesser-is c).first

pub returns-clause-second : goal.returns-clause-second
returns-clause-second c = (lesser-is c).second
