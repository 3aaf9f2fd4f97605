-- A file in extended RLE says what it says in the layer below.
use Rattle.std.proofs.Common.{◌≡◌, ℕ, ◌+◌, List, [], ◌∷◌, ◌++◌, length, Bool, true, false, cond, ◌||◌, refl, ap, ◌∙◌, sym, subst, append_assoc, inl, inr, codes, ℤ, Option, Some, None, Result, Ok, Err, append-nil}
use Rattle.std.specs.Option.{option_or}
use Rattle.life_rle.proofs.Progress.{option_or-both}
use Rattle.life_base.specs.Numbers.{result_map}
use Rattle.life_base.specs.Text.{is_too_long, is_blank, begins_with}
use Rattle.life_base.specs.declared.kind.Kind.{Kind}
use Rattle.life_base.specs.declared.kind.Kind.TheVariants as kinds
use Rattle.life_base.specs.declared.rule.Rule.{Rule as LayerRule}
use Rattle.life_rle.specs.declared.position.Position.{Position as LayerPosition}
use Rattle.life_rle.specs.declared.line.Opening.TheVariants.{Comment, PositionLine, Header}
use Rattle.life_rle.specs.declared.line.Later.TheVariants.{Passed, Data}
use Rattle.life_rle.specs.Position.{and_then, position_of, is_position_line, default_position}
use Rattle.life_rle.specs.Header.{header_of as layer_header_of}
use Rattle.life_rle.specs.Pattern.{Rle as LayerRle, rle_cell as layer_cell, PlacedItem, placed_item, placed_after, placed_fault, first_fault}
use Rattle.life_rle.specs.declared.item.Item.{Item as LayerItem}
use Rattle.life_rle.specs.declared.line.Opening.{Opening}
use Rattle.life_rle.specs.declared.line.Later.{Later}
use Rattle.life_rle.specs.Items.{Next, End, Mark, Spelled, Broken, Spells}
use Rattle.life_rle.specs.Grammar.{opening_of, later_of, IsPreamble, LineSpells, BodySpells, IsUnmarked, IsMarked, IsRle, BreaksRle, before_header as breaks_before, by_form, by_text, by_item}
use Rattle.claims.specs.Outcomes.{◌>>=◌}
use Rattle.claims.specs.Rules.{Rule}
use Rattle.claims.specs.Pattern.{Pattern}
use Rattle.claims.specs.Rle.{PositionFields, Lines, before_header, after_header, after_end, no_position_fields, claimed_header_of, with_texts, claimed_texts_of, with_rle_line, claimed_rle_cell}
use Rattle.claims.specs.Files.{claimed_fault_at, read_lines, end_of_rle}
use Rattle.claims.proofs.RuleLaw.{rule_in}
use Rattle.claims.proofs.RlePlane.{position_in, file_in, item_answer, rle_cell_is}
use Rattle.claims.proofs.RlePosition.{position_is}
use Rattle.claims.proofs.RleHeader.{header_is}
use Rattle.claims.proofs.RleData.{from_here, with_items, with_none, spelled_is}
use Rattle.claims.proofs.Running.{Runs, runs_on, refused_behind, ended_behind}

-- ---- a line before the header

-- what a line says, by what it is in the layer
abbrev opened : LayerPosition → Result Opening Kind → Result Lines Kind
opened p (Ok Comment) = Ok (before_header (position_in p))
opened p (Ok (PositionLine here)) = Ok (before_header (position_in here))
opened p (Ok (Header rule)) = Ok (after_header (record { rule = rule_in rule; position = position_in p; items = [] }))
opened p (Err kind) = Err kind

open_tests : (p : LayerPosition) (long blank command hash x : Bool) (here : Result LayerPosition Kind) (rule : Result LayerRule Kind)
    → cond long (Err kinds.LineTooLong) (cond blank (Ok (before_header (position_in p)))
    (cond command (result_map position_in here >>= λ q. Ok (before_header q))
    (cond hash (Ok (before_header (position_in p)))
    (cond x (result_map rule_in rule >>= λ r. Ok (after_header (record { rule = r; position = position_in p; items = [] }))) (Err kinds.NoHeader)))))
    ≡ opened p (cond long (Err kinds.LineTooLong) (cond blank (Ok Comment)
    (cond command (and_then here (λ position. Ok (PositionLine position)))
    (cond hash (Ok Comment) (cond x (and_then rule (λ r. Ok (Header r))) (Err kinds.NoHeader))))))
open_tests p true blank command hash x here rule = refl
open_tests p false true command hash x here rule = refl
open_tests p false false true hash x (Ok q) rule = refl
open_tests p false false true hash x (Err kind) rule = refl
open_tests p false false false true x here rule = refl
open_tests p false false false false true here (Ok r) = refl
open_tests p false false false false true here (Err kind) = refl
open_tests p false false false false false here rule = refl

open_is : (p : LayerPosition) (line : List ℕ) → with_rle_line (before_header (position_in p)) line ≡ opened p (opening_of 62 line)
unfolding with_rle_line
open_is p line =
    ap (λ (here : Result PositionFields Kind). cond (is_too_long line) (Err kinds.LineTooLong) (cond (is_blank line) (Ok (before_header (position_in p)))
    (cond (is_position_line line) (here >>= λ q. Ok (before_header q))
    (cond (begins_with line (codes "#")) (Ok (before_header (position_in p)))
    (cond (begins_with line (codes "x")) (claimed_header_of line >>= λ r. Ok (after_header (record { rule = r; position = position_in p; items = [] })))
    (Err kinds.NoHeader))))))
    (position_is line)
    ∙ ap (λ (rule : Result Rule Kind). cond (is_too_long line) (Err kinds.LineTooLong) (cond (is_blank line) (Ok (before_header (position_in p)))
    (cond (is_position_line line) (result_map position_in (position_of 62 line) >>= λ q. Ok (before_header q))
    (cond (begins_with line (codes "#")) (Ok (before_header (position_in p)))
    (cond (begins_with line (codes "x")) (rule >>= λ r. Ok (after_header (record { rule = r; position = position_in p; items = [] })))
    (Err kinds.NoHeader))))))
    (header_is line)
    ∙ open_tests p (is_too_long line) (is_blank line) (is_position_line line) (begins_with line (codes "#")) (begins_with line (codes "x"))
    (position_of 62 line) (layer_header_of line)

-- ---- a line after it

abbrev judged : LayerRle → List ℕ → Result Later Kind → Result Lines Kind
judged file line (Ok Passed) = Ok (after_header (file_in file))
judged file line (Ok Data) = with_texts (file_in file) (claimed_texts_of line)
judged file line (Err kind) = Err kind

later_tests : (file : LayerRle) (line : List ℕ) (long blank command hash second : Bool)
    → cond long (Err kinds.LineTooLong) (cond blank (Ok (after_header (file_in file)))
    (cond command (Err kinds.LateHeader) (cond hash (Ok (after_header (file_in file)))
    (cond second (Err kinds.SecondHeader) (with_texts (file_in file) (claimed_texts_of line))))))
    ≡ judged file line (cond long (Err kinds.LineTooLong) (cond blank (Ok Passed) (cond command (Err kinds.LateHeader)
    (cond hash (Ok Passed) (cond second (Err kinds.SecondHeader) (Ok Data))))))
later_tests file line true blank command hash second = refl
later_tests file line false true command hash second = refl
later_tests file line false false true hash second = refl
later_tests file line false false false true second = refl
later_tests file line false false false false true = refl
later_tests file line false false false false false = refl

later_is : (file : LayerRle) (line : List ℕ) → with_rle_line (after_header (file_in file)) line ≡ judged file line (later_of line)
unfolding with_rle_line
later_is file line =
    later_tests file line (is_too_long line) (is_blank line) (is_position_line line) (begins_with line (codes "#"))
    (begins_with line (codes "x ") || begins_with line (codes "x="))

ended_is : (file : LayerRle) (line : List ℕ) → with_rle_line (after_end (file_in file)) line ≡ Ok (after_end (file_in file))
unfolding with_rle_line
ended_is file line = refl

-- items of a line, none of which breaks a rule
data_is : (file : LayerRle) (line : List ℕ) (items : List LayerItem) (last : Next) → later_of line ≡ Ok Data → Spells 62 line items last
    → first_fault 62 file.rule (placed_after file.position file.items items) ≡ None
    → with_rle_line (after_header (file_in file)) line ≡ from_here (with_items file items) last
data_is file line items last e s sound = later_is file line ∙ ap (judged file line) e ∙ spelled_is items line file last s sound

line_is : (file : LayerRle) (line : List ℕ) (items : List LayerItem) → LineSpells 62 line items End
    → first_fault 62 file.rule (placed_after file.position file.items items) ≡ None
    → with_rle_line (after_header (file_in file)) line ≡ Ok (after_header (file_in (with_items file items)))
line_is file line items (inl h) sound =
    later_is file line ∙ ap (judged file line) h.0 ∙ ap (λ (f : LayerRle). Ok (after_header (file_in f))) (sym (with_none file))
    ∙ ap (λ (t : List LayerItem). Ok (after_header (file_in (with_items file t)))) (sym h.1)
line_is file line items (inr h) sound = data_is file line items End h.0 h.1 sound

last_is : (file : LayerRle) (line : List ℕ) (items : List LayerItem) → LineSpells 62 line items Mark
    → first_fault 62 file.rule (placed_after file.position file.items items) ≡ None
    → with_rle_line (after_header (file_in file)) line ≡ Ok (after_end (file_in (with_items file items)))
last_is file line items (inl h) sound = let e : Mark ≡ End = h.2 in cc
last_is file line items (inr h) sound = data_is file line items Mark h.0 h.1 sound

-- ---- lines

placed_more : (position : LayerPosition) (before first rest : List LayerItem)
    → placed_after position before (first ++ rest) ≡ placed_after position before first ++ placed_after position (before ++ first) rest
placed_more position before [] rest = ap (λ (t : List LayerItem). placed_after position t rest) (sym (append-nil before))
placed_more position before (item ∷ first) rest =
    ap (λ (t : List PlacedItem). placed_item position before item ∷ t)
    (placed_more position (before ++ item ∷ []) first rest
    ∙ ap (λ (t : List LayerItem). placed_after position (before ++ item ∷ []) first ++ placed_after position t rest) (append_assoc before (item ∷ []) first))

fault_more : (rule : LayerRule) (first rest : List PlacedItem)
    → first_fault 62 rule (first ++ rest) ≡ option_or (first_fault 62 rule first) (first_fault 62 rule rest)
fault_more rule [] rest = refl
fault_more rule (p ∷ first) rest =
    ap (option_or (placed_fault 62 rule p)) (fault_more rule first rest)
    ∙ apart (placed_fault 62 rule p) (first_fault 62 rule first) (first_fault 62 rule rest)
  where
    apart : (a b c : Option Kind) → option_or a (option_or b c) ≡ option_or (option_or a b) c
    apart None b c = refl
    apart (Some kind) b c = refl

-- no fault among all, and so none among the first and none among the rest
no_fault : (rule : LayerRule) (position : LayerPosition) (before first rest items : List LayerItem) → items ≡ first ++ rest
    → first_fault 62 rule (placed_after position before items) ≡ None
    → (first_fault 62 rule (placed_after position before first) ≡ None) × (first_fault 62 rule (placed_after position (before ++ first) rest) ≡ None)
no_fault rule position before first rest items e sound =
    option_or-both (first_fault 62 rule (placed_after position before first)) (first_fault 62 rule (placed_after position (before ++ first) rest))
    (sym (fault_more rule (placed_after position before first) (placed_after position (before ++ first) rest))
    ∙ ap (first_fault 62 rule) (sym (placed_more position before first rest))
    ∙ ap (λ (t : List LayerItem). first_fault 62 rule (placed_after position before t)) (sym e) ∙ sound)

preamble_runs : (lines : List (List ℕ)) (given position : LayerPosition) → IsPreamble 62 given lines position
    → Runs with_rle_line (before_header (position_in given)) lines (before_header (position_in position))
preamble_runs [] given position e = ap (λ (p : LayerPosition). before_header (position_in p)) (sym e)
preamble_runs (line ∷ lines) given position (inl h) =
    (before_header (position_in given), open_is given line ∙ ap (opened given) h.0, preamble_runs lines given position h.1)
preamble_runs (line ∷ lines) given position (inr h) =
    (before_header (position_in h.0), open_is given line ∙ ap (opened given) h.1, preamble_runs lines h.0 position h.2)

body_runs : (lines : List (List ℕ)) (items : List LayerItem) (file : LayerRle) → BodySpells 62 lines items
    → first_fault 62 file.rule (placed_after file.position file.items items) ≡ None
    → Runs with_rle_line (after_header (file_in file)) lines (after_header (file_in (with_items file items)))
body_runs [] items file e sound =
    ap (λ (f : LayerRle). after_header (file_in f)) (sym (with_none file))
    ∙ ap (λ (t : List LayerItem). after_header (file_in (with_items file t))) (sym e)
body_runs (line ∷ lines) items file b sound =
    let none = no_fault file.rule file.position file.items b.0 b.1 items b.2 sound in
    let next = with_items file b.0 in
    let all : with_items next b.1 ≡ with_items file items =
    ap (λ (t : List LayerItem). record file { items = t }) (append_assoc file.items b.0 b.1 ∙ ap (λ (t : List LayerItem). file.items ++ t) (sym b.2)) in (
      after_header (file_in next),
      line_is file line b.0 b.3 none.0,
      subst (λ (f : LayerRle). Runs with_rle_line (after_header (file_in next)) lines (after_header (file_in f))) all (body_runs lines b.1 next b.4 none.1),
    )

free_runs : (lines : List (List ℕ)) (file : LayerRle) → Runs with_rle_line (after_end (file_in file)) lines (after_end (file_in file))
free_runs [] file = refl
free_runs (line ∷ lines) file = (after_end (file_in file), ended_is file line, free_runs lines file)

abbrev pub begun : Lines
begun = before_header no_position_fields

unmarked_runs : (lines : List (List ℕ)) (file : LayerRle) → IsUnmarked 62 lines file → Runs with_rle_line begun lines (after_header (file_in file))
unmarked_runs lines file b =
    let fresh : LayerRle = record { rule = file.rule; position = file.position; items = [] } in
    let header : Runs with_rle_line (before_header (position_in file.position)) (b.header ∷ b.body) (after_header (file_in file)) = (
      after_header (file_in fresh),
      open_is file.position b.header ∙ ap (opened file.position) b.rule,
      body_runs b.body file.items fresh b.items b.sound,
    ) in
    subst (λ (t : List (List ℕ)). Runs with_rle_line begun t (after_header (file_in file))) (sym b.whole)
    (runs_on with_rle_line begun (before_header (position_in file.position)) (after_header (file_in file)) b.before (b.header ∷ b.body)
    (preamble_runs b.before default_position file.position b.preamble) header)

marked_runs : (lines : List (List ℕ)) (file : LayerRle) → IsMarked 62 lines file → Runs with_rle_line begun lines (after_end (file_in file))
marked_runs lines file b =
    let prefix : LayerRle = record file { items = b.earlier } in
    let none = no_fault file.rule file.position [] b.earlier b.final file.items b.items b.sound in
    let same : with_items prefix b.final ≡ file = ap (λ (t : List LayerItem). record file { items = t }) (sym b.items) in
    let last : Runs with_rle_line (after_header (file_in prefix)) (b.last ∷ b.free) (after_end (file_in file)) = (
      after_end (file_in file),
      last_is prefix b.last b.final b.marked none.1 ∙ ap (λ (f : LayerRle). Ok (after_end (file_in f))) same,
      free_runs b.free file,
    ) in
    subst (λ (t : List (List ℕ)). Runs with_rle_line begun t (after_end (file_in file))) (sym b.whole)
    (runs_on with_rle_line begun (after_header (file_in prefix)) (after_end (file_in file)) b.prefix (b.last ∷ b.free)
    (unmarked_runs b.prefix prefix b.begun) last)

-- what a file says, in both
pub record SaysRle (lines : List (List ℕ)) (file : LayerRle) (pattern : Pattern) : Type 0 where
  pub is : read_lines with_rle_line end_of_rle 1 begun lines ≡ Ok pattern
  pub rule : pattern.rule ≡ rule_in file.rule
  pub generation : pattern.generation ≡ file.position.generation
  pub cells : (x y : ℤ) → pattern.cell x y ≡ layer_cell file x y

abbrev pattern_in : LayerRle → Pattern
pattern_in file = record { rule = rule_in file.rule; generation = file.position.generation; cell = claimed_rle_cell (file_in file) }

pub rle_says : (lines : List (List ℕ)) (file : LayerRle) → IsRle 62 lines file → (pattern : Pattern) × SaysRle lines file pattern
rle_says lines file valid = (
  pattern_in file,
  record {
    is = elim valid [
      | inl b ↦ ended_behind with_rle_line end_of_rle begun (after_header (file_in file)) lines 1 (unmarked_runs lines file b)
      | inr b ↦ ended_behind with_rle_line end_of_rle begun (after_end (file_in file)) lines 1 (marked_runs lines file b)
    ];
    rule = refl;
    generation = refl;
    cells = rle_cell_is file;
  },
)

-- lines lead somewhere, where this line has this fault
abbrev Fails : List (List ℕ) → List ℕ → Kind → Type 0
Fails prefix line kind = (said : Lines) × Runs with_rle_line begun prefix said × (with_rle_line said line ≡ Err kind)

breaks_fails : (prefix : List (List ℕ)) (line : List ℕ) (kind : Kind) → BreaksRle 62 prefix line kind → Fails prefix line kind
breaks_fails prefix line kind (breaks_before position h e) = (
  before_header (position_in position),
  preamble_runs prefix default_position position h,
  open_is position line ∙ ap (opened position) e,
)
breaks_fails prefix line kind (by_form file u e) =
    (after_header (file_in file), unmarked_runs prefix file u, later_is file line ∙ ap (judged file line) e)
breaks_fails prefix line kind (by_text file items u e s sound) =
    (after_header (file_in file), unmarked_runs prefix file u, data_is file line items (Broken kind) e s sound)
breaks_fails prefix line kind (by_item file items item rest u e s sound fault) = (
  after_header (file_in file),
  unmarked_runs prefix file u,
  data_is file line items (Spelled item rest) e s sound
      ∙ ap (λ (o : Option Kind). item_answer (with_items file items) item o >>= λ now. with_texts now (claimed_texts_of rest)) fault,
)

-- a line that breaks a rule is refused
pub rle_refuses : (prefix more : List (List ℕ)) (line : List ℕ) (kind : Kind) → BreaksRle 62 prefix line kind
    → read_lines with_rle_line end_of_rle 1 begun (prefix ++ line ∷ more) ≡ Err (claimed_fault_at (1 + length prefix) kind)
rle_refuses prefix more line kind b =
    let f = breaks_fails prefix line kind b in refused_behind with_rle_line end_of_rle begun f.0 prefix more line kind 1 f.1 f.2

-- lines without a header lack it after the last one
pub rle_lacks : (lines : List (List ℕ)) (position : LayerPosition) → IsPreamble 62 default_position lines position
    → read_lines with_rle_line end_of_rle 1 begun lines ≡ Err (claimed_fault_at (1 + length lines) kinds.NoHeader)
rle_lacks lines position h =
    ended_behind with_rle_line end_of_rle begun (before_header (position_in position)) lines 1 (preamble_runs lines default_position position h)
