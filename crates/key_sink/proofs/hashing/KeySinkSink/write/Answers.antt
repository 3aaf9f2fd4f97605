use Rattle.std.proofs.Common.{◌++◌, sym, ap, ◌∙◌, subst, take_all, length, le_refl}
use Rattle.std.proofs.Math.Logic.{∥∥₁_map}
use Rattle.sha2.specs.Hashers.{Holds256}
use Rattle.key_sink.specs.Pieces.{joined_pieces}
use Rattle.key_sink.proofs.PieceFacts.{joined-more}
use Rattle.key_sink.proofs.hashing.KeySinkSink.write.Goals as goal

pub invariant_of-self : goal.invariant_of-self
invariant_of-self c = record {
  holds = ∥∥₁_map c.args.self.now.holds
      (λ h. subst (Holds256 c.update.new.self) (sym (ap joined_pieces c.then-self.ensures ∙ joined-more c.args.self.now.reported.lines c.args.buf.now))
      (c.update.ensures _ h));
}

pub returns-clause-bytes : goal.returns-clause-bytes
returns-clause-bytes c =
    ap joined_pieces c.then-self.ensures ∙ joined-more c.args.self.now.reported.lines c.args.buf.now
    ∙ ap (λ t. joined_pieces c.args.self.now.reported.lines ++ t)
    (sym (take_all (length c.args.buf.now) c.args.buf.now (le_refl (length c.args.buf.now))))
