-- A rule file says what it says in the layer, or is refused at the same line with the same kind.
use Rattle.std.proofs.Common.{◌≡◌, ℕ, ◌+◌, ◌<◌, List, [], ◌∷◌, ◌++◌, map, length, take, Bool, true, false, cond, refl, ap, ◌∙◌, sym, subst, arith, ◌⊎◌, inl, inr, append_assoc, length-append, get_or, Option, Some, None, Result, Ok, Err, is_none, option_map, append-nil}
use Rattle.std.proofs.lemmas.List.{take-append-le}
use Rattle.std.proofs.lemmas.Bool.{cases_Bool}
use Rattle.std.proofs.lemmas.Option.{same_Some}
use Rattle.std.proofs.Math.Seq.{take-append_seam, get_or-append_seam}
use Rattle.std.proofs.Math.ListN.{get_or-append}
use Rattle.life_base.specs.Numbers.{result_map}
use Rattle.life_base.specs.Text.{numbered_from, lines_of}
use Rattle.life_base.specs.declared.fault.Fault.{Fault}
use Rattle.life_base.specs.declared.kind.Kind.{Kind}
use Rattle.life_base.specs.declared.kind.Kind.TheVariants as kinds
use Rattle.life_base.proofs.Refusals.{UnbrokenBelow, refusal_at, refusal_at_end, refusal_unique}
use Rattle.life_table.specs.Grammar.{symmetry_word}
use Rattle.life_table.specs.Reader.{parsed_after}
use Rattle.life_table.specs.Reading.{IsTableFile, AreTable, Describes, RefusesTable, parsed_by, parse_line, number_after, broken_table_rule, missing_table_part, missing_part_of, is_ahead, is_described}
use Rattle.life_table.specs.Valid.{neighbour_count}
use Rattle.life_table.specs.declared.table.Var.{Var}
use Rattle.life_table.specs.declared.table.Table.{Table as LayerTable}
use Rattle.life_table.proofs.ByLines.{by_lines, Reach, reach_none, reach_more, directive_broken, missing_is}
use Rattle.life_table.proofs.FileLines.{parsed_start}
use Rattle.life_table.proofs.Accepted.{accepted}
use Rattle.claims.specs.Outcomes.{◌>>=◌}
use Rattle.claims.specs.Files.{claimed_fault_at, on_line}
use Rattle.claims.specs.Table.{Variable, Table, Section, ahead, with_table_line, end_of_table, read_table_lines, table_of}
use Rattle.claims.specs.TableLaws.{TablesRead, TablesRefuse}
use Rattle.claims.specs.Tables.{transition_in, AreVariables, IsTable}
use Rattle.claims.proofs.Tables.Named.{Parsed, Place, Directive}
use Rattle.claims.proofs.Tables.Text.{table_in}
use Rattle.claims.proofs.Tables.Line.{Stands, is_ahead as stands_ahead, is_named, is_open, is_behind, Steps, steps, halts, section_fits, complete_is}

abbrev parsed_of : List (List ℕ) → Parsed
parsed_of lines = parsed_by (numbered_from 1 lines)

-- ---- one line

went : (reported : Parsed) (x : Result Section Kind) → Steps (Ok reported) x → (next : Section) × (x ≡ Ok next) × Stands reported next
went reported x (steps t next s) = (next, refl, s)

stopped : (kind : Kind) (x : Result Section Kind) → Steps (Err kind) x → x ≡ Err kind
stopped kind x (halts k) = refl

module _ (before : List (List ℕ)) (section : Section) (reached : Reach before) (stands : Stands (parsed_of before) section) (line : List ℕ) where
  fits_here : Steps (result_map (parsed_after (parsed_of before)) (parse_line (parsed_of before) (number_after before) line))
      (with_table_line section (length before + 1) line)
  fits_here = section_fits (parsed_of before) section stands reached.good (length before + 1) line

  goes_on : (directive : Directive) → parse_line (parsed_of before) (number_after before) line ≡ Ok directive
      → (next : Section) × (with_table_line section (length before + 1) line ≡ Ok next) × Stands (parsed_of (before ++ line ∷ [])) next
  goes_on directive e =
      let w = went (parsed_after (parsed_of before) directive) (with_table_line section (length before + 1) line)
      (subst (λ r. Steps (result_map (parsed_after (parsed_of before)) r) (with_table_line section (length before + 1) line)) e fits_here) in
      let m = reach_more before line directive reached e in
      (w.0, w.1, subst (λ (p : Parsed). Stands p w.0) (sym m.0) w.2)

  stops_here : (kind : Kind) → parse_line (parsed_of before) (number_after before) line ≡ Err kind → with_table_line section (length before + 1) line ≡ Err kind
  stops_here kind e =
      stopped kind (with_table_line section (length before + 1) line)
      (subst (λ r. Steps (result_map (parsed_after (parsed_of before)) r) (with_table_line section (length before + 1) line)) e fits_here)

-- ---- all lines

-- they lead on to their end
record Ends (before : List (List ℕ)) (section : Section) (more : List (List ℕ)) : Type 0 where
  pub next : Section
  pub is : read_table_lines (length before + 1) section more ≡ on_line (length (before ++ more) + 1) (end_of_table next)
  pub stands : Stands (parsed_of (before ++ more)) next
  pub reached : Reach (before ++ more)

-- one of them breaks a rule
record Breaks (before : List (List ℕ)) (section : Section) (more : List (List ℕ)) : Type 0 where
  pub prefix : List (List ℕ)
  pub line : List ℕ
  pub rest : List (List ℕ)
  pub kind : Kind
  pub split : before ++ more ≡ prefix ++ line ∷ rest
  pub reached : Reach prefix
  pub breaks : broken_table_rule prefix line ≡ Some kind
  pub is : read_table_lines (length before + 1) section more ≡ Err (claimed_fault_at (length prefix + 1) kind)

abbrev Walks : List (List ℕ) → Section → List (List ℕ) → Type 0
Walks before section more = Ends before section more ⊎ Breaks before section more

walks : (more before : List (List ℕ)) (section : Section) → Reach before → Stands (parsed_of before) section → Walks before section more
walks [] before section r s = inl (record {
  next = section;
  is = ap (λ (ls : List (List ℕ)). on_line (length ls + 1) (end_of_table section)) (sym (append-nil before));
  stands = subst (λ (ls : List (List ℕ)). Stands (parsed_of ls) section) (sym (append-nil before)) s;
  reached = subst Reach (sym (append-nil before)) r;
})
walks (line ∷ more) before section r s =
    by (parse_line (parsed_of before) (number_after before) line) refl (λ next. walks more (before ++ line ∷ []) next)
  where
    on : (next : Section) → with_table_line section (length before + 1) line ≡ Ok next
        → read_table_lines (length before + 1) section (line ∷ more) ≡ read_table_lines (length (before ++ line ∷ []) + 1) next more
    on next e =
        ap (λ (found : Result Section Kind). on_line (length before + 1) found >>= λ (n : Section). read_table_lines (length before + 1 + 1) n more) e
        ∙ ap (λ n. read_table_lines n next more) (let k : length before + 1 + 1
        ≡ length (before ++ line ∷ []) + 1 = omega (arith, length-append before (line ∷ [])) in k)

    further : (next : Section) → with_table_line section (length before + 1) line ≡ Ok next → Walks (before ++ line ∷ []) next more
        → Walks before section (line ∷ more)
    further next e (inl w) = inl (record {
      next = w.next;
      is = on next e ∙ w.is ∙ ap (λ (ls : List (List ℕ)). on_line (length ls + 1) (end_of_table w.next)) (append_assoc before (line ∷ []) more);
      stands = subst (λ (ls : List (List ℕ)). Stands (parsed_of ls) w.next) (append_assoc before (line ∷ []) more) w.stands;
      reached = subst Reach (append_assoc before (line ∷ []) more) w.reached;
    })
    further next e (inr w) = inr (record {
      prefix = w.prefix;
      line = w.line;
      rest = w.rest;
      kind = w.kind;
      split = sym (append_assoc before (line ∷ []) more) ∙ w.split;
      reached = w.reached;
      breaks = w.breaks;
      is = on next e ∙ w.is;
    })

    by : (found : Result Directive Kind) → parse_line (parsed_of before) (number_after before) line ≡ found
        → ((next : Section) → Reach (before ++ line ∷ []) → Stands (parsed_of (before ++ line ∷ [])) next → Walks (before ++ line ∷ []) next more)
        → Walks before section (line ∷ more)
    by (Ok directive) e below =
        let g = goes_on before section r s line directive e in
        let m = reach_more before line directive r e in
        further g.0 g.1 (below g.0 m.1 g.2)
    by (Err kind) e below = inr (record {
      prefix = before;
      line = line;
      rest = more;
      kind = kind;
      split = refl;
      reached = r;
      breaks = directive_broken before line kind e;
      is = ap (λ (found : Result Section Kind). on_line (length before + 1) found >>= λ (n : Section). read_table_lines (length before + 1 + 1) n more)
          (stops_here before section r s line kind e);
    })

-- ---- the end

abbrev lacks : Option (List ℕ) → Bool → Bool → Option Kind
lacks name a d = cond (is_none name) (Some kinds.NoRuleLine) (cond a (Some kinds.NoTable) (cond d None (Some kinds.BadDescriptor)))

-- a table that is said, or what is lacking
record IsWhole (parsed : Parsed) (section : Section) : Type 0 where
  pub name : List ℕ
  pub variables : List Variable
  pub is_name : parsed.name ≡ Some name
  pub same : AreVariables parsed.vars variables
  pub nothing : missing_part_of parsed ≡ None
  pub is : end_of_table section ≡ Ok (table_in parsed name variables)

record IsLacking (parsed : Parsed) (section : Section) : Type 0 where
  pub kind : Kind
  pub lacks_it : missing_part_of parsed ≡ Some kind
  pub is : end_of_table section ≡ Err kind

lacking_is : (parsed : Parsed) (name : Option (List ℕ)) (at : Place) (d : Bool) → parsed.name ≡ name → parsed.section ≡ at → is_described parsed ≡ d
    → missing_part_of parsed ≡ lacks name (is_ahead at) d
lacking_is parsed name at d e f g =
    ap (λ (o : Option (List ℕ)). lacks o (is_ahead parsed.section) (is_described parsed)) e
    ∙ ap (λ (s : Place). lacks name (is_ahead s) (is_described parsed)) f
    ∙ ap (lacks name (is_ahead at)) g

ended : (parsed : Parsed) (section : Section) → Stands parsed section → IsWhole parsed section ⊎ IsLacking parsed section
ended parsed section (stands_ahead new e at) = inr (record {
  kind = kinds.NoRuleLine;
  lacks_it = lacking_is parsed None _ _ e at refl;
  is = refl;
})
ended parsed section (is_named name new e at) = inr (record {
  kind = kinds.NoTable;
  lacks_it = lacking_is parsed (Some name) _ _ e at refl;
  is = refl;
})
ended parsed section (is_open name variables e at same) = elim (cases_Bool (is_described parsed)) [
  | inl d ↦ inl (record {
    name = name;
    variables = variables;
    is_name = e;
    same = same;
    nothing = lacking_is parsed (Some name) _ true e at d;
    is = ap (λ v. cond v (Ok (table_in parsed name variables)) (Err kinds.BadDescriptor)) (complete_is name variables parsed ∙ d);
  })
  | inr d ↦ inr (record {
    kind = kinds.BadDescriptor;
    lacks_it = lacking_is parsed (Some name) _ false e at d;
    is = ap (λ v. cond v (Ok (table_in parsed name variables)) (Err kinds.BadDescriptor)) (complete_is name variables parsed ∙ d);
  })
]
ended parsed section (is_behind name variables e at d same) = inl (record {
  name = name;
  variables = variables;
  is_name = e;
  same = same;
  nothing = lacking_is parsed (Some name) _ true e at d;
  is = refl;
})

described_is : (parsed : Parsed) (layer : LayerTable) → Describes parsed layer → (name : List ℕ) → parsed.name ≡ Some name → (variables : List Variable)
    → AreVariables parsed.vars variables
    → IsTable layer (table_in parsed name variables)
described_is parsed layer d name e variables same = record {
  name = same_Some name layer.name (sym e ∙ d.name);
  n_states = d.n_states;
  neighbours = ap (option_map neighbour_count) d.neighborhood;
  symmetry = ap (option_map symmetry_word) d.symmetry;
  variables = subst (λ (vs : List Var). AreVariables vs variables) d.vars same;
  transitions = ap (map transition_in) d.lines;
}

-- ---- a file

-- a table is read, in both
pub record IsRead (bytes : List ℕ) : Type 0 where
  pub table : Table
  pub is : table_of bytes ≡ Ok table
  pub file : IsTableFile (lines_of bytes)
  pub same : (layer : LayerTable) → AreTable (lines_of bytes) layer → IsTable layer table

-- it is refused in both
pub record IsRefused (bytes : List ℕ) : Type 0 where
  pub fault : Fault
  pub is : table_of bytes ≡ Err fault
  pub refuses : RefusesTable (lines_of bytes) fault

unbroken_prefix : (lines prefix rest : List (List ℕ)) (line : List ℕ) → lines ≡ prefix ++ line ∷ rest
    → UnbrokenBelow IsTableFile broken_table_rule missing_table_part prefix (length prefix)
    → UnbrokenBelow IsTableFile broken_table_rule missing_table_part lines (length prefix)
unbroken_prefix lines prefix rest line e u =
    subst (λ (ls : List (List ℕ)). UnbrokenBelow IsTableFile broken_table_rule missing_table_part ls (length prefix)) (sym e)
    (λ k h.
    let a : take k (prefix ++ line ∷ rest) ≡ take k prefix = take-append-le k prefix (line ∷ rest) (omega (arith, h)) in
    let b : get_or (prefix ++ line ∷ rest) k [] ≡ get_or prefix k [] = get_or-append prefix (line ∷ rest) [] k h in
    rw (a, b) (u k h))

of_lines : (bytes : List ℕ) → Walks [] ahead (lines_of bytes) → IsRead bytes ⊎ IsRefused bytes
unfolding table_of
of_lines bytes (inl w) = elim (ended (parsed_of (lines_of bytes)) w.next w.stands) [
  | inl whole ↦ inl (record {
    table = table_in (parsed_of (lines_of bytes)) whole.name whole.variables;
    is = ap (λ n. read_table_lines n ahead (lines_of bytes)) (let k : 1 ≡ 0 + 1 = omega arith in k) ∙ w.is
        ∙ ap (on_line (length (lines_of bytes) + 1)) whole.is;
    file = record { unbroken = w.reached.unbroken; whole = missing_is (lines_of bytes) ∙ whole.nothing };
    same = λ layer are. described_is (parsed_of (lines_of bytes)) layer are.says whole.name whole.is_name whole.variables whole.same;
  })
  | inr l ↦
      let m : missing_table_part (lines_of bytes) ≡ Some l.kind = missing_is (lines_of bytes) ∙ l.lacks_it in
      inr (record {
        fault = claimed_fault_at (length (lines_of bytes) + 1) l.kind;
        is = ap (λ n. read_table_lines n ahead (lines_of bytes)) (let k : 1 ≡ 0 + 1 = omega arith in k) ∙ w.is
            ∙ ap (on_line (length (lines_of bytes) + 1)) l.is;
        refuses = refusal_at_end IsTableFile broken_table_rule missing_table_part by_lines (lines_of bytes) l.kind w.reached.unbroken
            (λ g. let z : None ≡ Some l.kind = sym g.whole
            ∙ m in cc) m;
      })
]
of_lines bytes (inr w) =
    let e : lines_of bytes ≡ w.prefix ++ w.line ∷ w.rest = w.split in
    let f : take (length w.prefix) (lines_of bytes) ≡ w.prefix = ap (take (length w.prefix)) e ∙ take-append_seam w.prefix (w.line ∷ w.rest) in
    let g : get_or (lines_of bytes) (length w.prefix) [] ≡ w.line = ap (λ (ls : List (List ℕ)). get_or ls (length w.prefix) []) e
    ∙ get_or-append_seam w.prefix w.line w.rest [] in
    let below : length w.prefix < length (lines_of bytes) = (let k = ap length e in omega (arith, k, length-append w.prefix (w.line ∷ w.rest))) in
    let b : broken_table_rule (take (length w.prefix) (lines_of bytes)) (get_or (lines_of bytes) (length w.prefix) []) ≡ Some w.kind = rw (f, g) w.breaks in
    inr (record {
      fault = claimed_fault_at (length w.prefix + 1) w.kind;
      is = ap (λ n. read_table_lines n ahead (lines_of bytes)) (let k : 1 ≡ 0 + 1 = omega arith in k) ∙ w.is;
      refuses = refusal_at IsTableFile broken_table_rule missing_table_part by_lines (lines_of bytes) (length w.prefix) w.kind below
          (unbroken_prefix (lines_of bytes) w.prefix w.rest w.line e w.reached.unbroken) b;
    })

pub reported : (bytes : List ℕ) → IsRead bytes ⊎ IsRefused bytes
reported bytes =
    of_lines bytes (walks (lines_of bytes) [] ahead reach_none (subst (λ (p : Parsed). Stands p ahead) (sym parsed_start)
    (stands_ahead (record { n_states = refl; neighborhood = refl; symmetry = refl; vars = refl; lines = refl }) refl refl)))

-- ---- the laws

pub tables_read : TablesRead
tables_read bytes = (
  λ layer are. elim (reported bytes) [
    | inl r ↦ (r.table, r.is, r.same layer are)
    | inr r ↦ absurd (r.refuses.refused are.file)
  ],
  λ table e. elim (reported bytes) [
    | inl r ↦
        let w = (accepted (lines_of bytes)).0 r.file in
        (w.0, w.1, subst (IsTable w.0) (ok_of r.table table (sym r.is ∙ e)) (r.same w.0 w.1))
    | inr r ↦ absurd (let k : Err r.fault ≡ Ok table = sym r.is ∙ e in cc)
  ],
)
  where
    ok_of : (a b : Table) → ◌≡◌ {A = Result Table Fault} (Ok a) (Ok b) → a ≡ b
    ok_of a b e = cc

pub tables_refuse : TablesRefuse
tables_refuse bytes fault = (
  λ refuses. elim (reported bytes) [
    | inl r ↦ absurd (refuses.refused r.file)
    | inr r ↦ r.is ∙ ap Err (refusal_unique IsTableFile broken_table_rule missing_table_part (lines_of bytes) r.fault fault r.refuses refuses)
  ],
  λ e. elim (reported bytes) [
    | inl r ↦ absurd (let k : Ok r.table ≡ Err fault = sym r.is ∙ e in cc)
    | inr r ↦ subst (RefusesTable (lines_of bytes)) (err_of r.fault fault (sym r.is ∙ e)) r.refuses
  ],
)
  where
    err_of : (a b : Fault) → ◌≡◌ {A = Result Table Fault} (Err a) (Err b) → a ≡ b
    err_of a b e = cc
