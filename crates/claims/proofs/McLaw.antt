-- The lines of a macrocell file say what they say in the layer below.
use Rattle.std.proofs.Common.{◌≡◌, ℕ, suc, ◌-◌, ◌^◌, List, [], ◌∷◌, ◌++◌, length, drop, map, Bool, true, false, cond, not, ◌&&◌, ◌||◌, refl, ap, ◌∙◌, sym, arith, inl, inr, nat_le, nat_lt, codes, Option, Some, None, Result, Ok, Err, append-nil}
use Rattle.std.specs.Option.{option_to_list, unwrap_or}
use Rattle.std.specs.Result.{result_ok, result_err}
use Rattle.std.proofs.lemmas.Bool.Decides.{nat_tests}
use Rattle.std.proofs.lemmas.Bool.{cases_Bool}
use Rattle.life_base.specs.Numbers.{u64_of, result_map}
use Rattle.life_base.specs.Text.{is_empty, is_blank, is_too_long, begins_with, trim, is_digit_text, value_of}
use Rattle.life_base.specs.Rules.{rule_of as layer_rule_of}
use Rattle.life_base.specs.declared.kind.Kind.{Kind}
use Rattle.life_base.specs.declared.kind.Kind.TheVariants as kinds
use Rattle.life_base.specs.declared.rule.Rule.{Rule as LayerRule}
use Rattle.life_mc.specs.Reading.{rule_on, generation_on, square_on, square_of_text, broken_after, broken_by_node}
use Rattle.life_mc.specs.declared.line.Line.{Line}
use Rattle.life_mc.proofs.Stands.{rule_parsed_so, generation_parsed_so}
use Rattle.life_mc.proofs.Valid.{no_command}
use Rattle.life_mc.proofs.Forms.{blank_no_hash}
use Rattle.claims.specs.Outcomes.{◌>>=◌}
use Rattle.claims.specs.Rules.{Rule, claimed_rule_of}
use Rattle.claims.specs.Macrocell.{Node, ClaimedMacrocell, node_of, with_node, is_claimed_command, generation_of, with_macrocell_line}
use Rattle.claims.proofs.RuleLaw.{rule_in, rule_of_is}
use Rattle.claims.proofs.NodeLaw.{line_in, levels_of, Fits, passes, fails, moved, text_fits}

below_is : (n : ℕ) → nat_lt n (2 ^ 64) ≡ nat_le n (2 ^ 64 - 1)
below_is n = grind (arith, nat_tests)

-- a generation
pub generation_is : (text : List ℕ) → generation_of text ≡ u64_of text
generation_is text = ap (λ v. cond (not (is_digit_text text)) (Err kinds.BadNumber) (cond v (Ok (value_of text)) (Err kinds.TooLarge)))
    (below_is (value_of text))

some_nodes : (nodes : List Node) → not (is_empty nodes) ≡ nat_lt 0 (length (levels_of nodes))
some_nodes [] = refl
some_nodes (node ∷ nodes) = sym (positive (length (levels_of nodes)))
  where
    positive : (n : ℕ) → nat_lt 0 (suc n) ≡ true
    positive n = grind (arith, nat_tests)

module _ (rule : LayerRule) (generation : ℕ) (nodes : List Node) (line : List ℕ) where
  -- what the line gives more
  pub record Gives (ruled : Option LayerRule) (dated : Option ℕ) (square : Option Line) (next : ClaimedMacrocell) : Type 0 where
    pub is_rule : next.rule ≡ rule_in (unwrap_or ruled rule)
    pub is_generation : next.generation ≡ unwrap_or dated generation
    pub are_nodes : map line_in next.nodes ≡ map line_in nodes ++ option_to_list square

  abbrev P : ClaimedMacrocell → Type 0
  P = Gives (rule_on line) (generation_on line) (square_on line)

  abbrev file : ClaimedMacrocell
  file = record { rule = rule_in rule; generation = generation; nodes = nodes }

  given : (ruled : Option LayerRule) (dated : Option ℕ) (square : Option Line) → rule_on line ≡ ruled → generation_on line ≡ dated → square_on line ≡ square
      → (next : ClaimedMacrocell) → Gives ruled dated square next → P next
  given ruled dated square e f g next h = record {
    is_rule = h.is_rule ∙ ap (λ (o : Option LayerRule). rule_in (unwrap_or o rule)) (sym e);
    is_generation = h.is_generation ∙ ap (λ (o : Option ℕ). unwrap_or o generation) (sym f);
    are_nodes = h.are_nodes ∙ ap (λ (o : Option Line). map line_in nodes ++ option_to_list o) (sym g);
  }

  no_rule : is_claimed_command (codes "#R") line ≡ false → rule_on line ≡ None
  no_rule e = ap (λ v. cond v (result_ok (layer_rule_of (drop 2 line))) None) e

  no_generation : is_claimed_command (codes "#G") line ≡ false → generation_on line ≡ None
  no_generation e = ap (λ v. cond v (Some (value_of (trim (drop 2 line)))) None) e

  square_is : (blank hash : Bool) → is_blank line ≡ blank → begins_with line (codes "#") ≡ hash
      → square_on line ≡ cond (not blank && not hash) (square_of_text (trim line)) None
  square_is blank hash e f = ap (λ v. cond (not v && not (begins_with line (codes "#"))) (square_of_text (trim line)) None) e
      ∙ ap (λ v. cond (not blank && not v) (square_of_text (trim line)) None) f

  passed_over : (blank : Bool) → is_blank line ≡ blank → cond (not blank && not (begins_with line (codes "#"))) (square_of_text (trim line)) None ≡ None
      → is_claimed_command (codes "#R") line ≡ false → is_claimed_command (codes "#G") line ≡ false → P file
  passed_over blank e s r g =
      given None None None (no_rule r) (no_generation g) (square_is blank (begins_with line (codes "#")) e refl ∙ s) file
      (record { is_rule = refl; is_generation = refl; are_nodes = sym (append-nil (map line_in nodes)) })

  -- the claims' answer after the test of the length
  abbrev with_short : Result ClaimedMacrocell Kind
  with_short =
      cond (is_blank line) (Ok file)
      (cond (begins_with line (codes "#FRAME")) (Err kinds.Timeline)
      (cond ((is_claimed_command (codes "#R") line || is_claimed_command (codes "#G") line) && not (is_empty nodes)) (Err kinds.LateHeader)
      (cond (is_claimed_command (codes "#R") line) (claimed_rule_of (drop 2 line) >>= λ r. Ok (record file { rule = r }))
      (cond (is_claimed_command (codes "#G") line) (generation_of (trim (drop 2 line)) >>= λ n. Ok (record file { generation = n }))
      (cond (begins_with line (codes "#")) (Ok file)
      (node_of (trim line) >>= λ node. with_node (rule_in rule) nodes node >>= λ ns. Ok (record file { nodes = ns })))))))

  rule_step : (found : Result LayerRule Kind) → layer_rule_of (drop 2 line) ≡ found → is_claimed_command (codes "#R") line ≡ true
      → Fits P (result_err found) (result_map rule_in found >>= λ r. Ok (record file { rule = r }))
  rule_step (Ok r) e c =
      let reported = rule_parsed_so line r c e in
      passes _ (given (Some r) None None reported.0 reported.1 reported.2 _
      (record { is_rule = refl; is_generation = refl; are_nodes = sym (append-nil (map line_in nodes)) }))
  rule_step (Err kind) e c = fails kind

  generation_step : (digits small : Bool) → is_claimed_command (codes "#R") line ≡ false → is_claimed_command (codes "#G") line ≡ true
      → let n = value_of (trim (drop 2 line)) in
      Fits P (result_err (cond (not digits) (Err kinds.BadNumber) (cond small (Ok n) (Err kinds.TooLarge))))
      (cond (not digits) (Err kinds.BadNumber) (cond small (Ok n) (Err kinds.TooLarge)) >>= λ m. Ok (record file { generation = m }))
  generation_step false small r g = fails kinds.BadNumber
  generation_step true false r g = fails kinds.TooLarge
  generation_step true true r g =
      let reported = generation_parsed_so line (value_of (trim (drop 2 line))) r g refl in
      passes _ (given None (Some (value_of (trim (drop 2 line)))) None reported.0 reported.1 reported.2 _
      (record { is_rule = refl; is_generation = refl; are_nodes = sym (append-nil (map line_in nodes)) }))

  node_step : (o : Option Kind) (found : Result (List Node) Kind) → is_blank line ≡ false → begins_with line (codes "#") ≡ false
      → Fits (λ next. map line_in next ≡ map line_in nodes ++ option_to_list (square_of_text (trim line))) o found
      → Fits P o (found >>= λ ns. Ok (record file { nodes = ns }))
  node_step o found b h (passes ns e) =
      passes _ (given None None (square_of_text (trim line)) (no_rule (no_command 0 82 line h)) (no_generation (no_command 0 71 line h))
      (square_is false false b h) _
      (record { is_rule = refl; is_generation = refl; are_nodes = e }))
  node_step o found b h (fails kind) = fails kind

  abbrev pub broken_here : Option Kind
  broken_here = broken_after 62 rule (levels_of nodes) line

  behind_commands : is_blank line ≡ false → begins_with line (codes "#FRAME") ≡ false → is_claimed_command (codes "#R") line ≡ false
      → is_claimed_command (codes "#G") line ≡ false → Fits P broken_here with_short
  behind_commands b f r g = elim (cases_Bool (begins_with line (codes "#"))) [
    | inl h ↦
        let e : broken_here ≡ None = rw (b, f, r, g, h) refl in
        let w : with_short ≡ Ok file = rw (b, f, r, g, h) refl in
        moved P e w (passes file (passed_over false b (ap (λ v. cond (not v) (square_of_text (trim line)) None) h) r g))
    | inr h ↦
        let e : broken_here ≡ broken_by_node 62 rule (levels_of nodes) (trim line) = rw (b, f, r, g, h) refl in
        let w : with_short ≡ (node_of (trim line) >>= λ node. with_node (rule_in rule) nodes node >>= λ ns. Ok (record file { nodes = ns })) =
        rw (b, f, r, g, h) refl in
        moved P e (w ∙ sym (apart (node_of (trim line)))) (node_step _ _ b h (text_fits rule nodes (trim line)))
  ]
    where
      apart : (found : Result Node Kind) → ((found >>= λ node. with_node (rule_in rule) nodes node) >>= λ ns. Ok (record file { nodes = ns }))
          ≡ (found >>= λ node. with_node (rule_in rule) nodes node >>= λ ns. Ok (record file { nodes = ns }))
      apart (Ok node) = refl
      apart (Err kind) = refl

  command_in_time : is_blank line ≡ false → begins_with line (codes "#FRAME") ≡ false → not (is_empty nodes) ≡ false → Fits P broken_here with_short
  command_in_time b f l =
      let m : nat_lt 0 (length (levels_of nodes)) ≡ false = sym (some_nodes nodes) ∙ l in
      elim (cases_Bool (is_claimed_command (codes "#R") line)) [
        | inl r ↦
            let e : broken_here ≡ result_err (layer_rule_of (drop 2 line)) = rw (b, f, r, m) refl in
            let w : with_short ≡ (claimed_rule_of (drop 2 line) >>= λ ruled. Ok (record file { rule = ruled })) = rw (b, f, r, l) refl in
            moved P e (w ∙ ap (λ (x : Result Rule Kind). x >>= λ ruled. Ok (record file { rule = ruled })) (rule_of_is (drop 2 line))) (rule_step _ refl r)
        | inr r ↦ elim (cases_Bool (is_claimed_command (codes "#G") line)) [
          | inl g ↦
              let text = trim (drop 2 line) in
              let e : broken_here ≡ result_err (u64_of text) = rw (b, f, r, g, m) refl in
              let w : with_short ≡ (generation_of text >>= λ n. Ok (record file { generation = n })) = rw (b, f, r, g, l) refl in
              moved P e (w ∙ ap (λ (x : Result ℕ Kind). x >>= λ n. Ok (record file { generation = n })) (generation_is text))
              (generation_step (is_digit_text text) (nat_le (value_of text) (2 ^ 64 - 1)) r g)
          | inr g ↦ behind_commands b f r g
        ]
      ]

  command_late : is_blank line ≡ false → begins_with line (codes "#FRAME") ≡ false → not (is_empty nodes) ≡ true → Fits P broken_here with_short
  command_late b f l =
      let m : nat_lt 0 (length (levels_of nodes)) ≡ true = sym (some_nodes nodes) ∙ l in
      elim (cases_Bool (is_claimed_command (codes "#R") line)) [
        | inl r ↦
            let e : broken_here ≡ Some kinds.LateHeader = rw (b, f, r, m) refl in
            let w : with_short ≡ Err kinds.LateHeader = rw (b, f, r, l) refl in
            moved P e w (fails kinds.LateHeader)
        | inr r ↦ elim (cases_Bool (is_claimed_command (codes "#G") line)) [
          | inl g ↦
              let e : broken_here ≡ Some kinds.LateHeader = rw (b, f, r, g, m) refl in
              let w : with_short ≡ Err kinds.LateHeader = rw (b, f, r, g, l) refl in
              moved P e w (fails kinds.LateHeader)
          | inr g ↦ behind_commands b f r g
        ]
      ]

  -- a line that isn't too long
  pub short_fits : Fits P broken_here with_short
  short_fits = elim (cases_Bool (is_blank line)) [
    | inl b ↦
        let e : broken_here ≡ None = rw b refl in
        let w : with_short ≡ Ok file = rw b refl in
        moved P e w (passes file (passed_over true b refl (no_command 0 82 line (blank_no_hash line b)) (no_command 0 71 line (blank_no_hash line b))))
    | inr b ↦ elim (cases_Bool (begins_with line (codes "#FRAME"))) [
      | inl f ↦
          let e : broken_here ≡ Some kinds.Timeline = rw (b, f) refl in
          let w : with_short ≡ Err kinds.Timeline = rw (b, f) refl in
          moved P e w (fails kinds.Timeline)
      | inr f ↦ elim (cases_Bool (not (is_empty nodes))) [ inl l ↦ command_late b f l | inr l ↦ command_in_time b f l ]
    ]
  ]

  abbrev pub broken_line : Option Kind
  broken_line = cond (is_too_long line) (Some kinds.LineTooLong) broken_here

  long_step : (v : Bool) → Fits P (cond v (Some kinds.LineTooLong) broken_here) (cond v (Err kinds.LineTooLong) with_short)
  long_step true = fails kinds.LineTooLong
  long_step false = short_fits

  -- a line after the first, in both
  pub line_fits : Fits P broken_line (with_macrocell_line file line)
  unfolding with_macrocell_line
  line_fits = long_step (is_too_long line)
