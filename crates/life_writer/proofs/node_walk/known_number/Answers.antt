use Rattle.std.proofs.Common.{◌≡◌, ◌≤◌, sym, ◌∙◌, false}
use Rattle.life_base.specs.Tree.{depth, is_blank_tree}
use Rattle.life_writer.specs.Walking.{seen_in}
use Rattle.life_writer.proofs.WalkingFacts.{number-keys, there-keys}
use Rattle.life_writer.proofs.node_walk.known_number.Goals as goal

pub returns-clause-number : goal.returns-clause-number
returns-clause-number g c =
    let content = seen_in (g.O.Orientation.seen c.args.orientation.now) (g.S.Squares.content c.args.squares.now) in
    let some : 1 ≤ depth (content c.args.id) = c.in_default.ensures in
    let shown : is_blank_tree (content c.args.id) ≡ false = sym c.is_blank_at.ensures ∙ c.if-is_blank_at.false in
    number-keys content c.args.id c.args.numbers.now.ids
    (λ k d l e. g.met.S.SharedSquares.same_id c.args.squares.now _ c.args.id (c.requires.numbers k d l) c.requires.id
    (g.met.O.Orientation.apart c.args.orientation.now _ _ e))
    c.get.result c.get.ensures.distinct some shown c.get.ensures.number c.get.ensures.counted

pub returns-clause-there : goal.returns-clause-there
returns-clause-there g c =
    there-keys (seen_in (g.O.Orientation.seen c.args.orientation.now) (g.S.Squares.content c.args.squares.now)) c.args.id c.args.numbers.now.ids
    (λ k d l e. g.met.S.SharedSquares.same_id c.args.squares.now _ c.args.id (c.requires.numbers k d l) c.requires.id
    (g.met.O.Orientation.apart c.args.orientation.now _ _ e))
    c.get.result c.get.ensures.number
