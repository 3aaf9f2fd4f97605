use Rattle.std.proofs.Common.{◌∙◌, ◌∷◌, List, ap, sym, map, Bor, ℕ}
use Rattle.std.proofs.lemmas.Result.{err_from_is_err_and}
use Rattle.std.specs.Map.{lookup}
use Rattle.std.specs.Str.{bytes_eq}
use Rattle.file_keys.specs.Duplicates.{with_name}
use Rattle.file_keys.specs.declared.duplicates.groups.Group.{Group}
use Rattle.file_keys.proofs.GroupLemmas.{class_of, inserted, one_more, pushed, unpushed}
use Rattle.file_keys.proofs.duplicates.groups.Groups.add.Goals as goal

pub returns-in_err-push-clause-err : goal.returns-in_err-push-clause-err
returns-in_err-push-clause-err c =
    let p = err_from_is_err_and c.from_residual.result c.from_residual.ensures.1 in
    let w : Group = record { first = c.in-Some.group.now.first; more = c.push.new.self } in
    let holds = c.get_mut.follows.holds w in
    rw p.1 (ap (map class_of) holds.0 ∙ unpushed c.args.key c.args.self.now.by_key.entries c.in-Some.group.now w (sym c.in-Some.ensures.value)
    (ap (λ (l : List (Bor (List ℕ))). c.in-Some.group.now.first.now ∷ map (λ (n : Bor (List ℕ)). n.now) l) c.in_err-push.ensures.items))

pub returns-in-Some-clause-ok : goal.returns-in-Some-clause-ok
returns-in-Some-clause-ok c =
    let w : Group = record { first = c.in-Some.group.now.first; more = c.push.new.self } in
    let holds = c.get_mut.follows.holds w in
    ap (map class_of) holds.0 ∙ pushed c.args.key c.args.name.now c.args.self.now.by_key.entries c.in-Some.group.now w (sym c.in-Some.ensures.value)
    (one_more c.in-Some.group.now.first c.args.name _ _ c.in_ok-push.ensures.items)

pub returns-clause-ok : goal.returns-clause-ok
returns-clause-ok c =
    let w : Group = record { first = c.args.name; more = c.new.result } in
    let same = c.get_mut.follows.holds-at-none in
    ap (map class_of) c.in_ok-insert.ensures.entries ∙ inserted c.args.key c.args.name.now c.get_mut.follows.lender-at-none.entries w
    (ap (λ m. lookup (bytes_eq c.args.key) m.entries) same ∙ sym c.in_default.ensures.value)
    (ap (λ (l : List (Bor (List ℕ))). c.args.name.now ∷ map (λ (n : Bor (List ℕ)). n.now) l) c.new.ensures.items)
    ∙ ap (λ m. with_name (map class_of m.entries) c.args.key c.args.name.now) same
