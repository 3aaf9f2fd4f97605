-- What the lines say together with one more that breaks no rule.
use Rattle.std.proofs.Common.{◌≡◌, ℕ, List, [], ◌∷◌, ◌++◌, Bool, true, false, not, refl, ap, sym, ◌∙◌, subst, Option, Some, None, if◌then◌else◌, append-nil}
use Rattle.std.specs.List.{list_any}
use Rattle.std.proofs.lemmas.List.Elements.{All-nil}
use Rattle.life_base.specs.Text.{is_empty}
use Rattle.life_table.specs.Reading.{NumberedLine, parsed_in, parsed_by, name_of, name_on, section_of, table_texts, from_rule, from_first, contents, line_content, is_passed_over, is_section_line}
use Rattle.life_table.specs.Reader.{parsed_after, nothing_parsed}
use Rattle.life_table.specs.declared.directive.Section.{Section}
use Rattle.life_table.specs.declared.directive.Section.TheVariants.{Ahead, Open, Behind}
use Rattle.life_table.specs.declared.directive.Directive.{Directive}
use Rattle.life_table.specs.declared.directive.Directive.TheVariants.{Nothing, RuleName, TableOpens, TableEnds}
use Rattle.life_table.proofs.Cases.{Says, Case, passed, named, ahead, opens, ends, silent, says, behind}
use Rattle.life_table.proofs.Prefixes.{Grown, Stage, start, ruled, tabled, stage, is_table, is_section, rule_passed, grown_passed, grown_named, grown_ahead, grown_opens, grown_behind, grown_ends, grown_text, name_at_start, section_at_start, section_ahead, section_within}
use Rattle.life_table.proofs.Saying.{TextsStand, says_more}

-- the rule line has a name, and the texts stand
pub record Stands (ps : List NumberedLine) : Type 0 where
  pub named : name_of ps ≡ None → from_rule ps ≡ []
  pub texts : TextsStand (table_texts ps)

module _ (ps : List NumberedLine) (x : NumberedLine) (stands : Stands ps) where
  abbrev More : Directive → Type 0
  More directive = (parsed_by (ps ++ x ∷ []) ≡ parsed_after (parsed_by ps) directive) × Stands (ps ++ x ∷ [])

  parsed_grown : (name : Option (List ℕ)) (section : Section) (more : List NumberedLine) → Grown ps x name section more
      → parsed_by (ps ++ x ∷ []) ≡ parsed_in name section (table_texts ps ++ more)
  parsed_grown name section more g =
      ap (λ (o : Option (List ℕ)). parsed_in o (section_of (ps ++ x ∷ [])) (table_texts (ps ++ x ∷ []))) g.name
      ∙ ap (λ (s : Section). parsed_in name s (table_texts (ps ++ x ∷ []))) g.section ∙ ap (parsed_in name section) g.texts

  parsed_still : (name : Option (List ℕ)) (section : Section) → Grown ps x name section [] → parsed_by (ps ++ x ∷ []) ≡ parsed_in name section (table_texts ps)
  parsed_still name section g = parsed_grown name section [] g ∙ ap (parsed_in name section) (append-nil (table_texts ps))

  texts_still : (name : Option (List ℕ)) (section : Section) → Grown ps x name section [] → TextsStand (table_texts (ps ++ x ∷ []))
  texts_still name section g = subst TextsStand (sym (g.texts ∙ append-nil (table_texts ps))) stands.texts

  -- where a name was given it stays
  still_named : (name : List ℕ) (section : Section) (more : List NumberedLine) → Grown ps x (Some name) section more → name_of (ps ++ x ∷ []) ≡ None
      → from_rule (ps ++ x ∷ []) ≡ []
  still_named name section more g none = absurd (let z : Some name ≡ None = sym g.name ∙ none in let w : ⊥ = cc in w)

  named_by : {R : Type 0} → (r : NumberedLine) (rs : List NumberedLine) → from_rule ps ≡ r ∷ rs → ((name : List ℕ) → name_of ps ≡ Some name → R) → R
  named_by r rs e f = go (name_of ps) refl f
    where
      go : {R : Type 0} → (o : Option (List ℕ)) → name_of ps ≡ o → ((name : List ℕ) → name_of ps ≡ Some name → R) → R
      go None h f = absurd (let z : r ∷ rs ≡ [] = sym e ∙ stands.named h in let w : ⊥ = cc in w)
      go (Some name) h f = f name h

  -- a line that says nothing, or ends or begins a part
  still : (directive : Directive) (name : List ℕ) (section : Section) → Grown ps x (name_of ps) section [] → name_of ps ≡ Some name
      → parsed_in (name_of ps) section (table_texts ps) ≡ parsed_after (parsed_by ps) directive → More directive
  still directive name section g n e =
      let g' : Grown ps x (Some name) section [] = subst (λ (o : Option (List ℕ)). Grown ps x o section []) n g in
      (parsed_still (name_of ps) section g ∙ e, record { named = still_named name section [] g'; texts = texts_still (name_of ps) section g })

  passed_more : section_of ps ≡ Ahead → name_of ps ≡ None → is_passed_over x.1 ≡ true → More Nothing
  passed_more s n p =
      let none = stands.named n in
      let g = grown_passed ps x none p in (
        parsed_still None Ahead g ∙ ap (λ (o : Option (List ℕ)). parsed_in o Ahead (table_texts ps)) (sym n)
            ∙ ap (λ (t : Section). parsed_in (name_of ps) t (table_texts ps)) (sym s),
        record { named = λ _. rule_passed ps x none p; texts = texts_still None Ahead g },
      )

  named_more : section_of ps ≡ Ahead → name_of ps ≡ None → is_passed_over x.1 ≡ false → (name : List ℕ) → name_on x.1 ≡ Some name → More (RuleName name)
  named_more s n p name e =
      let g : Grown ps x (Some name) Ahead [] = subst (λ (o : Option (List ℕ)). Grown ps x o Ahead []) e (grown_named ps x (stands.named n) p) in (
        parsed_still (Some name) Ahead g ∙ ap (λ (t : Section). parsed_in (Some name) t (table_texts ps)) (sym s),
        record { named = still_named name Ahead [] g; texts = texts_still (Some name) Ahead g },
      )

  -- the stage that a section tells
  if_ahead : {R : Type 0} (name : List ℕ) → section_of ps ≡ Ahead → name_of ps ≡ Some name
      → ((r : NumberedLine) (rs : List NumberedLine) → from_rule ps ≡ r ∷ rs → from_first is_table rs ≡ [] → R) → R
  if_ahead name s n f = go (stage ps) f
    where
      go : {R : Type 0} → Stage ps → ((r : NumberedLine) (rs : List NumberedLine) → from_rule ps ≡ r ∷ rs → from_first is_table rs ≡ [] → R) → R
      go (start e) f = absurd (let z : Some name ≡ None = sym n ∙ name_at_start ps x e in let w : ⊥ = cc in w)
      go (ruled r rs e t) f = f r rs e t
      go (tabled r rs e t bs b) f = absurd (no_part (list_any is_section bs) (sym (section_within ps x r rs e t bs b) ∙ s))
        where
          no_part : (v : Bool) → (if v then Behind else Open) ≡ Ahead → ⊥
          no_part true h = cc
          no_part false h = cc

  if_within : {R : Type 0} (v : Bool) → section_of ps ≡ (if v then Behind else Open)
      → ((r : NumberedLine) (rs : List NumberedLine) → from_rule ps ≡ r ∷ rs → (t : NumberedLine) (bs : List NumberedLine) → from_first is_table rs ≡ t ∷ bs
      → list_any is_section bs ≡ v → R) → R
  if_within v s f = go (stage ps) f
    where
      not_ahead : (v : Bool) → Ahead ≡ (if v then Behind else Open) → ⊥
      not_ahead true h = cc
      not_ahead false h = cc

      same : (a b : Bool) → (let p : Section = if a then Behind else Open in p) ≡ (if b then Behind else Open) → a ≡ b
      same true true h = refl
      same false false h = refl
      same true false h = absurd (let z : ⊥ = cc in z)
      same false true h = absurd (let z : ⊥ = cc in z)

      go : {R : Type 0} → Stage ps → ((r : NumberedLine) (rs : List NumberedLine) → from_rule ps ≡ r ∷ rs → (t : NumberedLine) (bs : List NumberedLine)
          → from_first is_table rs ≡ t ∷ bs → list_any is_section bs ≡ v → R) → R
      go (start e) f = absurd (not_ahead v (sym (section_at_start ps x e) ∙ s))
      go (ruled r rs e t) f = absurd (not_ahead v (sym (section_ahead ps x r rs e t) ∙ s))
      go (tabled r rs e t bs b) f = f r rs e t bs b (same (list_any is_section bs) v (sym (section_within ps x r rs e t bs b) ∙ s))

  -- what a test leaves of the text of the line
  abbrev filter_one : Bool → List NumberedLine
  filter_one b = if not b then (x.0, line_content x.1) ∷ [] else []

  says_line : section_of ps ≡ Open → is_section_line x.1 ≡ false → is_empty (line_content x.1) ≡ false → (directive : Directive)
      → Says (parsed_by ps) x.0 (line_content x.1) directive → More directive
  says_line s l e directive more = if_within false s (λ r rs er t bs et any. named_by r rs er (λ name n.
      let g = grown_text ps x r rs er t bs et any l in
      let one : contents (x ∷ []) ≡ (x.0, line_content x.1) ∷ [] = ap (λ (b : Bool). filter_one b) e in
      let g' : Grown ps x (name_of ps) Open ((x.0, line_content x.1) ∷ []) = subst (λ (ms : List NumberedLine). Grown ps x (name_of ps) Open ms) one g in
      let here : Says (parsed_in (name_of ps) Open (table_texts ps)) x.0 (line_content x.1) directive = subst
      (λ (z : Section). Says (parsed_in (name_of ps) z (table_texts ps)) x.0 (line_content x.1) directive) s more in
      let m = says_more (name_of ps) (table_texts ps) x.0 (line_content x.1) stands.texts directive here in
      let back : parsed_after (parsed_in (name_of ps) Open (table_texts ps)) directive ≡ parsed_after (parsed_by ps) directive = ap
      (λ (z : Section). parsed_after (parsed_in (name_of ps) z (table_texts ps)) directive) (sym s) in (
        parsed_grown (name_of ps) Open ((x.0, line_content x.1) ∷ []) g' ∙ m.0 ∙ back,
        record {
          named = still_named name Open ((x.0, line_content x.1) ∷ []) (subst (λ (o : Option (List ℕ)). Grown ps x o Open ((x.0, line_content x.1) ∷ [])) n g');
          texts = subst TextsStand (sym g'.texts) m.1;
        },
      )))

  pub line_more : (directive : Directive) → Case (parsed_by ps) x.0 x.1 directive → More directive
  line_more directive (passed s n p is) = subst More (sym is) (passed_more s n p)
  line_more directive (named s n p name e is) = subst More (sym is) (named_more s n p name e)
  line_more directive (ahead s name n p is) = subst More (sym is) (if_ahead name s n (λ r rs e t.
      still Nothing name Ahead (grown_ahead ps x r rs e t p) n (ap (λ (z : Section). parsed_in (name_of ps) z (table_texts ps)) (sym s))))
  line_more directive (opens s name n p is) = subst More (sym is)
      (if_ahead name s n (λ r rs e t. still TableOpens name Open (grown_opens ps x r rs e t p) n refl))
  line_more directive (ends s l d is) = subst More (sym is) (if_within false s (λ r rs e t bs b any. named_by r rs e (λ name n.
      still TableEnds name Behind (grown_ends ps x r rs e t bs b any l) n refl)))
  line_more directive (silent s l e is) = subst More (sym is) (if_within false s (λ r rs er t bs b any. named_by r rs er (λ name n.
      let none : contents (x ∷ []) ≡ [] = ap (λ (v : Bool). filter_one v) e in
      let g : Grown ps x (name_of ps) Open [] = subst (λ (ms : List NumberedLine). Grown ps x (name_of ps) Open ms) none
      (grown_text ps x r rs er t bs b any l) in
      still Nothing name Open g n (ap (λ (z : Section). parsed_in (name_of ps) z (table_texts ps)) (sym s)))))
  line_more directive (says s l e more) = says_line s l e directive more
  line_more directive (behind s is) = subst More (sym is) (if_within true s (λ r rs e t bs b any. named_by r rs e (λ name n.
      still Nothing name Behind (grown_behind ps x r rs e t bs b any) n (ap (λ (z : Section). parsed_in (name_of ps) z (table_texts ps)) (sym s)))))

pub stands_start : Stands []
unfolding name_of section_of table_texts
stands_start = record {
  named = λ _. refl;
  texts = record { early = λ _. All-nil _; read = λ n h en eh. All-nil _; settled = All-nil _; variables = λ n en. refl };
}

pub parsed_start : parsed_by [] ≡ nothing_parsed
unfolding name_of section_of table_texts
parsed_start = refl
