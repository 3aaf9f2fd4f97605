use Rattle.std.proofs.Common.{◌≡◌, ℕ, ◌+◌, ◌<◌, List, [], ◌∷◌, length, map, drop, get_or, false, sym, ap, ◌∙◌, Option}
use Rattle.std.proofs.Math.ListN.{drop_of_length-le}
use Rattle.life_base.specs.Text.{is_whitespace}
use Rattle.life_table.specs.Reading.{entry_of, all_some}
use Rattle.life_table.specs.declared.table.Entry.{Entry}
use Rattle.life_table.proofs.Listed.{joined, solid, at_start, all_read, word_read, word_unread, solid_next, solid_skips}
use Rattle.life_table.proofs.entries.Scope.of_bytes.Goals as goal
use Rattle.life_table.proofs.entries.Scope.of_bytes.Goals.{then-not-is_whitespace+in-Some+in_ok-push, else-not-is_whitespace}

pub loop-byte-init : goal.loop-byte-init
loop-byte-init c = at_start _ c.new-entries.result.items c.new-entries.ensures.items

-- the words of this byte on, where it isn't whitespace
module _ (f : List ℕ → Option Entry) (done : List Entry) (text : List ℕ) (i : ℕ) where
  word_next : (whole : Option (List Entry)) → i < length text → is_whitespace (get_or text i 0) ≡ false
      → whole ≡ joined done (all_some (map f (solid (drop i text))))
      → whole ≡ joined done (all_some (map f ((get_or text i 0 ∷ []) ∷ solid (drop (i + 1) text))))
  word_next whole h e w = w ∙ ap (λ words. joined done (all_some (map f words))) (solid_next text i h e)

pub loop-byte-preserved : goal.loop-byte-preserved
loop-byte-preserved c =
    let f : List ℕ → Option Entry = entry_of c.args.self.now.n_states c.args.self.now.vars.now in
    let text = c.args.text.now in
    let i = c.loop-byte.byte-index in
    let done = c.loop-byte.entries.items in
    elim c.if-not-is_whitespace.branch [
      | then-not-is_whitespace+in-Some+in_ok-push w ↦ rw (w.entries-is, w.in_ok-push.ensures.items)
          (word_read f _ done (get_or text i 0 ∷ []) (solid (drop (i + 1) text)) w.in-Some.entry
          (word_next f done text i _ c.loop-byte-test.true (sym c.is_whitespace.ensures ∙ w.if-not-is_whitespace.true) c.loop-byte.invariant)
          (sym w.entry_of.ensures ∙ w.in-Some.is))
      | else-not-is_whitespace w ↦ rw w.entries-is (c.loop-byte.invariant ∙ ap (λ words. joined done (all_some (map f words)))
          (solid_skips text i c.loop-byte-test.true (sym c.is_whitespace.ensures ∙ w.if-not-is_whitespace.false)))
    ]

pub returns-in_default-clause-ok : goal.returns-in_default-clause-ok
returns-in_default-clause-ok c =
    let f : List ℕ → Option Entry = entry_of c.args.self.now.n_states c.args.self.now.vars.now in
    let text = c.args.text.now in
    let i = c.loop-byte.byte-index in
    let done = c.loop-byte.entries.items in
    word_unread f _ done (get_or text i 0 ∷ []) (solid (drop (i + 1) text))
    (word_next f done text i _ c.loop-byte-test.true (sym c.is_whitespace.ensures ∙ c.if-not-is_whitespace.true) c.loop-byte.invariant)
    (sym c.entry_of.ensures ∙ c.in_default.is)

pub returns-clause-ok : goal.returns-clause-ok
returns-clause-ok c =
    let f : List ℕ → Option Entry = entry_of c.args.self.now.n_states c.args.self.now.vars.now in
    let done = c.loop-byte.entries.items in
    all_read f _ done
    (c.loop-byte.invariant ∙ ap (λ (t : List ℕ). joined done (all_some (map f (solid t)))) (drop_of_length-le c.args.text.now c.loop-byte-test.false))
