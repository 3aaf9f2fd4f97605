use Rattle.std.proofs.Common.{◌≡◌, ◌⊎◌, ℕ, List, [], ◌∷◌, ◌++◌, sym, ap, ◌∙◌, subst, Result, Err, IfErr}
use Rattle.life_base.specs.declared.cell.TheConstants.{MAX_LEVEL}
use Rattle.life_base.specs.declared.kind.Kind.{Kind}
use Rattle.life_base.specs.declared.kind.Kind.TheVariants.{Full}
use Rattle.life_reader.specs.Calls.{Stores}
use Rattle.life_pattern.specs.Files.{Breaks}
use Rattle.life_pattern.specs.Store.{IsKnown, Keeps, content}
use Rattle.life_quad.specs.Keeping.{IsShortageKind}
use Rattle.life_quad.specs.Store.{Nodes, stored_squares}
use Rattle.life_reader.specs.Taking.{StandsFor, IsReadyToTake, consumed_lines}
use Rattle.life_reader.proofs.PatternFacts.{rle-fault}
use Rattle.life_pattern.specs.Store.{IsNew}
use Rattle.life_reader.specs.Needs.{SomeOfLines}
use Rattle.life_reader.specs.Space.{AddsLines}
use Rattle.life_reader.proofs.progress.Progress.take_line.Goals as goal

pub take_rle_line-requires-clause-built : goal.take_rle_line-requires-clause-built
take_rle_line-requires-clause-built c =
    subst (StandsFor (IsKnown c.args.store.now) (content c.args.store.now)) c.in-Rle.is (c.begin.ensures.stands c.args.store.now c.requires.stands)

pub take_macrocell_line-requires-clause-squares : goal.take_macrocell_line-requires-clause-squares
take_macrocell_line-requires-clause-squares c =
    subst (StandsFor (IsKnown c.args.store.now) (content c.args.store.now)) c.in-Macrocell.is (c.begin.ensures.stands c.args.store.now c.requires.stands)

pub returns-in-Rle-clause-fault : goal.returns-in-Rle-clause-fault
returns-in-Rle-clause-fault c =
    let ready = subst (IsReadyToTake c.args.line.now) c.in-Rle.is c.begin.ensures.ready in
    let lines : consumed_lines c.args.self.now ≡ c.in-Rle.lines.lines = sym c.begin.ensures.lines ∙ ap consumed_lines c.in-Rle.is in
    subst (λ (ls : List (List ℕ)). IfErr c.take_rle_line.result
    (λ kind. IsShortageKind (stored_squares c.take_rle_line.new.squares) c.take_rle_line.new.squares.limit kind ⊎ Breaks MAX_LEVEL ls c.args.line.now kind))
    (sym lines)
    (rle-fault c.take_rle_line.result c.take_rle_line.new.squares c.in-Rle.lines.lines c.args.line.now ready.0 c.take_rle_line.ensures.fault)

-- what a call for this line leaves in the store, where these are the lines before it
stores-of : {A : Type 0} {old new : Nodes} {r : Result A Kind} {all lines : List (List ℕ)} (line : List ℕ) → all ≡ lines
    → (r ≡ Err Full → SomeOfLines MAX_LEVEL (IsNew new) (lines ++ line ∷ [])) → AddsLines (lines ++ line ∷ []) old new → Keeps old new
    → Stores Full old new r (λ P. SomeOfLines MAX_LEVEL P (all ++ line ∷ []))
stores-of line e needed adds keeps = rw e (record { needed = needed; adds = adds; keeps = keeps })

pub returns-in-Rle-clause-stores : goal.returns-in-Rle-clause-stores
returns-in-Rle-clause-stores c =
    let call = c.take_rle_line.ensures.stores in
    stores-of c.args.line.now (sym c.begin.ensures.lines ∙ ap consumed_lines c.in-Rle.is) call.needed call.adds call.keeps

pub returns-in-Macrocell-clause-stores : goal.returns-in-Macrocell-clause-stores
returns-in-Macrocell-clause-stores c =
    let call = c.take_macrocell_line.ensures.stores in
    stores-of c.args.line.now (sym c.begin.ensures.lines ∙ ap consumed_lines c.in-Macrocell.is) call.needed call.adds call.keeps
