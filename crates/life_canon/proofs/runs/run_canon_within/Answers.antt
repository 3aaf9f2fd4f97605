use Rattle.std.proofs.Common.{ap, arith, inl, inr, refl, rules, subst, sym, true, false, true≢false, Bool, List, ℕ, ◌++◌, ◌≡◌, ◌⊎◌, ◌∙◌, flat_map, ◌≢◌, Result, Ok, Err, IfErr}
use Rattle.std.specs.Io.KnownBytes.{Appends}
use Rattle.life_base.proofs.Results.{error_is}
use Rattle.life_base.specs.DeviceRuns.{SourceRun}
use Rattle.life_base.specs.Refusal.{fault_of}
use Rattle.life_base.specs.Writing.{WritesPrefix}
use Rattle.life_base.specs.declared.cell.TheConstants.{MAX_LEVEL}
use Rattle.life_base.specs.declared.fault.Fault.{Fault}
use Rattle.life_base.specs.declared.kind.Kind.TheVariants.{WriteFault}
use Rattle.life_mc.specs.Writing.{node_text, header_lines_text}
use Rattle.life_quad.specs.Store.{Nodes}
use Rattle.life_writer.specs.Listing.{canon_text, lines_for, listed_squares}
use Rattle.life_reader.specs.Reading.{HasRead, by_want}
use Rattle.life_canon.specs.Running.{Wrote, by_reading, by_writing}
use Rattle.life_pattern.specs.Store.{content, universe_in}
use Rattle.life_pattern.specs.Universe.{least_level}
use Rattle.life_pattern.specs.declared.pattern.Pattern.{Pattern}
use Rattle.life_canon.proofs.CallFacts.{canonical-text}
use Rattle.life_pattern.proofs.Fits.{read-fits}
use Rattle.life_writer.proofs.PieceFacts.{pieces-text}
use Rattle.life_reader.proofs.Stored.{no-space, source-err, source-still, write-no-space}
use Rattle.life_canon.proofs.runs.run_canon_within.Goals as goal

-- the prefix and the lines of the pattern that was read are its text
wrote : (most : ℕ) (store : Nodes) (source : SourceRun) (pattern : Pattern) (IsWritten : List ℕ → Type 0) (prefix : List ℕ)
    → HasRead MAX_LEVEL most store source pattern → prefix ≡ header_lines_text pattern.rule pattern.generation
    → IsWritten (prefix ++ flat_map node_text (lines_for pattern.rule (listed_squares (content store pattern.root) (least_level pattern.rule))))
    → Wrote MAX_LEVEL most source IsWritten
wrote most store source pattern IsWritten prefix has is written = record {
  bytes = has.bytes;
  text = canon_text MAX_LEVEL (universe_in store pattern);
  read = has.read;
  canonical = canonical-text has.bytes store pattern has.is _ refl;
  written = subst IsWritten (pieces-text store pattern (read-fits has.bytes store pattern has.is) prefix _ is refl) written;
}

-- a sink that neither failed nor stalled
no_failure : {P : Type 0} (failures : ℕ) (stalled : Bool) → failures ≡ 0 → stalled ≡ false → (failures ≡ 1) ⊎ (stalled ≡ true) → P
no_failure failures stalled none takes (inl e) = absurd (omega arith)
no_failure failures stalled none takes (inr e) = absurd (true≢false (sym e ∙ takes))

-- a refusal before anything was written
as_it_was : {X W : Type 0} (r : Result X Fault) (writer : W) → IfErr r (λ fault. fault.kind ≢ WriteFault → writer ≡ writer)
as_it_was (Ok x) writer = tt
as_it_was (Err fault) writer = λ other. refl

pub deliver_squares-requires-clause-known : goal.deliver_squares-requires-clause-known
deliver_squares-requires-clause-known g c =
    let reads = c.in_ok-pattern.ensures.reads.pattern in
    (read-fits reads.bytes c.read_from_within.new.store c.in_ok-pattern.pattern reads.is).known

pub deliver_squares-requires-clause-states : goal.deliver_squares-requires-clause-states
deliver_squares-requires-clause-states g c =
    let reads = c.in_ok-pattern.ensures.reads.pattern in
    (read-fits reads.bytes c.read_from_within.new.store c.in_ok-pattern.pattern reads.is).states

pub deliver_squares-requires-clause-level : goal.deliver_squares-requires-clause-level
deliver_squares-requires-clause-level g c =
    let reads = c.in_ok-pattern.ensures.reads.pattern in
    (read-fits reads.bytes c.read_from_within.new.store c.in_ok-pattern.pattern reads.is).level

pub deliver_squares-requires-clause-bound : goal.deliver_squares-requires-clause-bound
deliver_squares-requires-clause-bound g c = λ q k l s. c.in_ok-numbers.ensures.bound q k.0 l s

pub returns-clause-flushed : goal.returns-clause-flushed
returns-clause-flushed g c = search rules

pub deliver_squares-requires-clause-works : goal.deliver_squares-requires-clause-works
deliver_squares-requires-clause-works g c = c.requires.working.1

pub returns-in_err-pattern-clause-unwritten : goal.returns-in_err-pattern-clause-unwritten
returns-in_err-pattern-clause-unwritten g c = as_it_was c.from_residual.result _

pub returns-in_err-numbers-clause-unwritten : goal.returns-in_err-numbers-clause-unwritten
returns-in_err-numbers-clause-unwritten g c = as_it_was c.from_residual-in_err-numbers.result _

pub returns-in_err-pattern-clause-runs : goal.returns-in_err-pattern-clause-runs
returns-in_err-pattern-clause-runs g c =
    rw (error_is c.from_residual.result c.from_residual.ensures.1) (record {
      ok = tt;
      err = by_reading c.in_err-pattern.ensures.reads.fault;
      reads = source-err c.in_err-pattern.ensures.reads.reads;
      write_reported = no_failure _ _ c.requires.working.1 c.requires.working.2;
    })

pub returns-in_err-numbers-clause-runs : goal.returns-in_err-numbers-clause-runs
returns-in_err-numbers-clause-runs g c =
    let memory = ap fault_of c.in_err-numbers.ensures.kind in
    rw (error_is c.from_residual-in_err-numbers.result c.from_residual-in_err-numbers.ensures.1) (record {
      ok = tt;
      err = by_reading (by_want (inl memory));
      reads = source-still c.in_ok-pattern.ensures.reads.reads (no-space memory);
      write_reported = no_failure _ _ c.requires.working.1 c.requires.working.2;
    })

pub returns-in_err-deliver_squares-clause-runs : goal.returns-in_err-deliver_squares-clause-runs
returns-in_err-deliver_squares-clause-runs g c =
    let kind = c.in_err-deliver_squares.ensures.sink.kind in
    rw (error_is c.from_residual-in_err-deliver_squares.result c.from_residual-in_err-deliver_squares.ensures.1) (record {
      ok = tt;
      err = by_writing (ap fault_of kind) (record {
        wrote = wrote _ _ _ _ (WritesPrefix _ _) _ c.in_ok-pattern.ensures.reads.pattern c.in_ok-numbers.ensures.prefix c.in_err-deliver_squares.ensures.text;
        cause = c.in_err-deliver_squares.ensures.sink.cause;
      });
      reads = source-still c.in_ok-pattern.ensures.reads.reads (write-no-space kind);
      write_reported = λ e. kind;
    })

pub returns-clause-runs : goal.returns-clause-runs
returns-clause-runs g c =
    let sink = c.in_ok-deliver_squares.ensures.sink in
    record {
      ok = wrote _ _ _ _ (Appends _ _) _ c.in_ok-pattern.ensures.reads.pattern c.in_ok-numbers.ensures.prefix c.in_ok-deliver_squares.ensures.text;
      err = tt;
      reads = source-still c.in_ok-pattern.ensures.reads.reads (λ e. absurd (cc));
      write_reported = no_failure _ _ sink.works (sink.stalled ∙ c.requires.working.2);
    }
