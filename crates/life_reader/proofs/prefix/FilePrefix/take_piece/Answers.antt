use Rattle.std.proofs.Common.{append_assoc, ◌≡◌, ℕ, ◌+◌, ◌-◌, ◌<◌, ◌≤◌, List, ◌++◌, [], ◌∷◌, length, take, drop, sym, ap, ◌∙◌, subst, arith, length-drop, rules}
use Rattle.std.proofs.lemmas.Grind.{common_steps}
use Rattle.life_base.proofs.Results.{error_is}
use Rattle.life_base.proofs.LineEnds.{all_behind}
use Rattle.life_base.specs.Lines.{whole_lines}
use Rattle.life_quad.proofs.KeepingLemmas.{keeps-then, adds-then}
use Rattle.life_pattern.specs.Store.{IsKnown, content}
use Rattle.life_reader.specs.Taking.{bytes_of, IsOver, StandsFor}
use Rattle.life_reader.specs.declared.progress.Progress.{Progress}
use Rattle.life_reader.proofs.PatternFacts.{both-ok}
use Rattle.life_reader.proofs.Stored.{prefix-no-space}
use Rattle.life_reader.proofs.FeedFacts.{feed-before, feed-within, piece-split, is-none}
use Rattle.life_reader.proofs.PrefixFacts.{reported-along, over-or-clean}
use Rattle.life_base.specs.declared.cell.TheConstants.{MAX_LEVEL}
use Rattle.life_reader.specs.Needs.{LacksForPrefix, SomeOfLines}
use Rattle.life_reader.proofs.prefix.FilePrefix.take_piece.Goals as goal

pub end_line-requires-clause-no_feed : goal.end_line-requires-clause-no_feed
end_line-requires-clause-no_feed c = feed-before c.loop-end.rest.now c.in-Some.end c.in-Some.ensures.end

pub returns-in_err-end_line-clause-fault : goal.returns-in_err-end_line-clause-fault
returns-in_err-end_line-clause-fault c =
    let rest : List ℕ = c.loop-end.rest.now in
    let all = piece-split (bytes_of c.loop-end.self.pieces.lines) rest c.in-Some.end c.in-Some.ensures.end c.loop-end.invariant.bytes in
    rw (error_is c.from_residual.result c.from_residual.ensures.1)
    (reported-along c.end_line.new.store (bytes_of c.loop-end.self.pieces.lines ++ take c.in-Some.end rest ++ 10 ∷ [])
    (drop (c.in-Some.end + 1) rest)
    (bytes_of c.args.self.now.pieces.lines ++ c.args.piece.now) c.in_err-end_line.field-0.0 all c.in_err-end_line.ensures.fault)

pub overflow_add-rest : goal.overflow_add-rest
overflow_add-rest c =
    let h : c.in-Some.end < length c.loop-end.rest.now = feed-within c.loop-end.rest.now c.in-Some.end c.in-Some.ensures.end in
    let l : length c.loop-end.rest.now ≤ length c.args.piece.now = c.loop-end.invariant.shorter in
    first_of (omega arith, search (rules, h, l), grind (arith, common_steps, h, l))

pub loop-end-preserved : goal.loop-end-preserved
loop-end-preserved c =
    let rest : List ℕ = c.loop-end.rest.now in
    let behind : take (length rest - (c.in-Some.end + 1)) (drop (c.in-Some.end + 1) rest) ≡ drop (c.in-Some.end + 1) rest = all_behind rest
    (c.in-Some.end + 1) in
    record {
      prefix = c.in_ok-end_line.ensures.bytes.prefix;
      bytes = ap (λ (r : List ℕ). bytes_of c.end_line.new.self.pieces.lines ++ r) behind
          ∙ ap (λ (b : List ℕ). b ++ drop (c.in-Some.end + 1) rest)
          (c.in_ok-end_line.ensures.bytes.came ∙ sym (append_assoc (bytes_of c.loop-end.self.pieces.lines) (take c.in-Some.end rest) (10 ∷ [])))
          ∙ piece-split (bytes_of c.loop-end.self.pieces.lines) rest c.in-Some.end c.in-Some.ensures.end c.loop-end.invariant.bytes;
      shorter = subst (λ (r : List ℕ). length r ≤ length c.args.piece.now) (sym behind)
          (omega (arith, length-drop (c.in-Some.end + 1) rest, c.loop-end.invariant.shorter));
      keeps = keeps-then c.loop-end.invariant.keeps c.end_line.ensures.stores.keeps;
      adds = adds-then _ c.loop-end.invariant.adds c.end_line.ensures.stores.adds (λ P a. a)
          (λ P s. subst (λ (b : List ℕ). SomeOfLines MAX_LEVEL P (whole_lines b))
          (piece-split (bytes_of c.loop-end.self.pieces.lines) rest c.in-Some.end c.in-Some.ensures.end c.loop-end.invariant.bytes)
          (s (drop (c.in-Some.end + 1) rest)));
    }

pub end_piece-requires-clause-last : goal.end_piece-requires-clause-last
end_piece-requires-clause-last c =
    over-or-clean (IsOver c.loop-end.self.progress) c.loop-end.rest.now (c.next_end.ensures.none (is-none c.next_end.result c.in_default.not-Some))

pub end_piece-requires-clause-prefix : goal.end_piece-requires-clause-prefix
end_piece-requires-clause-prefix c = c.loop-end.invariant.prefix.is

pub returns-in_err-end_line-clause-stores : goal.returns-in_err-end_line-clause-stores
returns-in_err-end_line-clause-stores c =
    let rest : List ℕ = c.loop-end.rest.now in
    let all = piece-split (bytes_of c.loop-end.self.pieces.lines) rest c.in-Some.end c.in-Some.ensures.end c.loop-end.invariant.bytes in
    let stores = c.in_err-end_line.ensures.stores in
    rw (error_is c.from_residual.result c.from_residual.ensures.1) (record {
      needed = λ e. subst (λ (b : List ℕ). LacksForPrefix MAX_LEVEL b c.end_line.new.store) all (stores.needed e (drop (c.in-Some.end + 1) rest));
      adds = adds-then _ c.loop-end.invariant.adds stores.adds (λ P a. a)
          (λ P s. subst (λ (b : List ℕ). SomeOfLines MAX_LEVEL P (whole_lines b)) all (s (drop (c.in-Some.end + 1) rest)));
      keeps = keeps-then c.loop-end.invariant.keeps stores.keeps;
    })

pub end_line-requires-clause-prefix : goal.end_line-requires-clause-prefix
end_line-requires-clause-prefix c = c.loop-end.invariant.prefix

pub returns-clause-bytes : goal.returns-clause-bytes
returns-clause-bytes c =
    both-ok c.end_piece.result c.end_piece.ensures.prefix c.end_piece.ensures.bytes (λ prefix bytes. record {
      prefix = record {
        is = prefix;
        stands = subst (λ (p : Progress). StandsFor (IsKnown c.loop-end.store) (content c.loop-end.store) p) (sym c.end_piece.ensures.progress)
            c.loop-end.invariant.prefix.stands;
      };
      came = bytes ∙ c.loop-end.invariant.bytes;
    })

pub returns-clause-stores : goal.returns-clause-stores
returns-clause-stores c =
    record {
      needed = λ e. absurd (prefix-no-space _ c.end_piece.result c.end_piece.ensures.fault e);
      adds = c.loop-end.invariant.adds;
      keeps = c.loop-end.invariant.keeps;
    }
