use Rattle.std.proofs.Common.{arith, inl, inr}
use Rattle.life_base.specs.declared.cell.TheConstants.{MAX_LEVEL}
use Rattle.life_quad.proofs.KeepingLemmas.{keeps-then, adds-as, adds-then}
use Rattle.life_reader.proofs.Adding.{file-few}
use Rattle.life_pattern.proofs.ReadFacts.{read-stays, same-read, read-equal}
use Rattle.life_canon.proofs.compare.same.Goals as goal
use Rattle.life_base.proofs.Results.{error_is, err_again}

pub returns-clause-answer : goal.returns-clause-answer
returns-clause-answer c =
    let p = read-stays MAX_LEVEL c.args.first.now _ _ c.in_ok-a.a c.in_ok-b.ensures.reads.keeps c.in_ok-a.ensures.pattern in
    let q = c.in_ok-b.ensures.pattern in
    let test = c.are_same.ensures in (
      λ h. let e = test.0 h in same-read c.args.first.now c.args.second.now _ c.in_ok-a.a c.in_ok-b.b p q e.0 e.1 e.2,
      λ s. test.1 (read-equal c.args.first.now c.args.second.now _ c.in_ok-a.a c.in_ok-b.b p q s),
    )

pub returns-clause-accepted : goal.returns-clause-accepted
returns-clause-accepted c =
    let a = c.in_ok-a.ensures.pattern in
    let b = c.in_ok-b.ensures.pattern in
    ((a.universe, a.reads), (b.universe, b.reads))

pub returns-in_err-a-clause-fault : goal.returns-in_err-a-clause-fault
returns-in_err-a-clause-fault c =
    rw (error_is _ c.from_residual.ensures.1) (elim c.in_err-a.ensures.fault [ inl refuses ↦ inl refuses | inr want ↦ inr (inr want) ])

pub returns-in_err-b-clause-fault : goal.returns-in_err-b-clause-fault
returns-in_err-b-clause-fault c =
    let read = c.in_ok-a.ensures.pattern in
    rw (error_is _ c.from_residual-in_err-b.ensures.1)
    (elim c.in_err-b.ensures.fault [ inl refuses ↦ inr (inl ((read.universe, read.reads), refuses)) | inr want ↦ inr (inr want) ])

pub returns-in_err-a-clause-reads : goal.returns-in_err-a-clause-reads
returns-in_err-a-clause-reads c =
    let first = c.in_err-a.ensures.reads in
    rw (error_is _ c.from_residual.ensures.1) (record {
      all = tt;
      needed = λ e. inl (first.needed (err_again e));
      adds = adds-as _ first.adds (λ P s. inl s);
      space = λ e. let tight = first.space (err_again e) in omega (arith, tight);
      keeps = first.keeps;
    })

pub returns-in_err-b-clause-reads : goal.returns-in_err-b-clause-reads
returns-in_err-b-clause-reads c =
    let read = c.in_ok-a.ensures.pattern in
    let first = c.in_ok-a.ensures.reads in
    let second = c.in_err-b.ensures.reads in
    let few = file-few c.args.first.now c.args.store.now c.read.new.store c.len.ensures.distinct (λ t there. (c.len.ensures.only t there).0) first.adds in
    let limit = first.keeps.limit in
    rw (error_is _ c.from_residual-in_err-b.ensures.1) (record {
      all = tt;
      needed = λ e. inr ((read.universe, read.reads), second.needed (err_again e));
      adds = adds-then _ first.adds second.adds (λ P s. inl s) (λ P s. inr s);
      space = λ e. let tight = second.space (err_again e) in omega (arith, few, limit, tight);
      keeps = keeps-then first.keeps second.keeps;
    })

pub returns-clause-reads : goal.returns-clause-reads
returns-clause-reads c =
    let first = c.in_ok-a.ensures.reads in
    let second = c.in_ok-b.ensures.reads in
    record {
      all = (λ t live of. second.keeps.stored t (first.all t live of), second.all);
      needed = λ e. absurd (cc);
      adds = adds-then _ first.adds second.adds (λ P s. inl s) (λ P s. inr s);
      space = λ e. absurd (cc);
      keeps = keeps-then first.keeps second.keeps;
    }
