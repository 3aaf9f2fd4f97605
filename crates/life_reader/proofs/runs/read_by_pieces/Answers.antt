use Rattle.std.proofs.Common.{rules, take}
use Rattle.life_quad.proofs.KeepingLemmas.{keeps-then}
use Rattle.life_reader.specs.Reading.{by_length, by_want}
use Rattle.life_reader.proofs.RunFacts.{reading-on, reading-ends, piece-adds, piece-tight, beyond-most, ended-refused, ended-open, ended-lacks, ended-adds, ended-holds, ended-tight, ended-whole, lacks-prefix, refused-not-full}
use Rattle.life_reader.proofs.runs.read_by_pieces.Goals as goal
use Rattle.life_base.proofs.Results.{error_is, err_again}

pub loop-reader-preserved : goal.loop-reader-preserved
loop-reader-preserved g c = (
  rw c.make.ensures
      (reading-on _ _ _ _ _ _ _ _ _ _ _ _ _ c.loop-reader.invariant.0 c.in_ok-count.ensures.bytes.0 (search rules) c.in_ok-refused.ensures.going
      c.in_ok-refused.ensures.refused c.in_ok-refused.ensures.adds),
  search rules,
  search rules,
  rw c.make.ensures (keeps-then c.loop-reader.invariant.3 c.feed_piece.ensures.keeps),
  search rules,
)

-- the source failed
pub returns-in_err-count-clause-reads : goal.returns-in_err-count-clause-reads
returns-in_err-count-clause-reads g c =
    record {
      pattern = search rules;
      works = search rules;
      fault = search rules;
      reads = reading-ends _ _ _ _ _ _ _ c.loop-reader.invariant.0 c.loop-reader.invariant.3 (search rules) (search rules) (search rules);
    }

-- too much came
pub returns-then-total-most-clause-reads : goal.returns-then-total-most-clause-reads
returns-then-total-most-clause-reads g c =
    record {
      pattern = tt;
      works = tt;
      fault = by_length c.of.ensures
          (beyond-most _ c.loop-reader.store (g.R.Source.remaining c.args.source.now) (g.R.Source.remaining c.loop-reader.source)
          (g.R.Source.remaining c.read.new.self)
          c.loop-reader.total c.in_ok-count.count
          c.args.most c.loop-reader.refused c.loop-reader.reader (take c.in_ok-count.count c.read.new.buf) c.loop-reader.invariant.0
          c.in_ok-count.ensures.bytes.0
          (search rules) (search rules));
      reads = reading-ends _ _ _ _ _ _ _ c.loop-reader.invariant.0 c.loop-reader.invariant.3 (search rules) (search rules) tt;
    }

-- a piece found no space or no memory
pub returns-in_err-refused-clause-reads : goal.returns-in_err-refused-clause-reads
returns-in_err-refused-clause-reads g c =
    let piece = take c.in_ok-count.count c.read.new.buf in
    let call = c.in_err-refused.ensures in
    rw (error_is c.from_residual-in_err-refused.result c.from_residual-in_err-refused.ensures.1) (record {
      pattern = tt;
      works = tt;
      fault = by_want call.want;
      reads = record {
        all = tt;
        needed = λ e. lacks-prefix _ _ _ _ _ _ c.loop-reader.total c.in_ok-count.count c.args.most _ c.loop-reader.refused c.loop-reader.reader piece
            c.loop-reader.invariant.0 c.in_ok-count.ensures.bytes.0 (search rules) (search rules) (call.needed (err_again e));
        adds = piece-adds _ _ _ _ _ _ c.loop-reader.total c.in_ok-count.count c.args.most 0 c.loop-reader.refused c.loop-reader.reader piece
            c.loop-reader.invariant.0 c.in_ok-count.ensures.bytes.0 c.feed_piece.ensures.adds;
        space = λ e. piece-tight _ _ c.loop-reader.store _ _ _ c.loop-reader.total c.in_ok-count.count c.args.most _ c.loop-reader.refused
            c.loop-reader.reader piece
            c.loop-reader.invariant.0 c.in_ok-count.ensures.bytes.0 (search rules) (search rules) (call.needed (err_again e)).0
            c.loop-reader.invariant.3.limit (call.space (err_again e));
        reported = search rules;
        keeps = keeps-then c.loop-reader.invariant.3 c.feed_piece.ensures.keeps;
      };
    })

-- a line was refused
pub returns-in-Some-clause-reads : goal.returns-in-Some-clause-reads
returns-in-Some-clause-reads g c =
    record {
      pattern = tt;
      works = tt;
      fault = ended-refused _ _ _ _ _ _ _ _ _ _ _ _ _ c.loop-reader.invariant.0 (search rules) (search rules) c.in_ok-count.ensures.bytes
          c.loop-reader.invariant.2
          c.in-Some.fault c.in-Some.is;
      reads = reading-ends _ _ _ _ _ _ _ c.loop-reader.invariant.0 c.loop-reader.invariant.3
          (λ e. refused-not-full _ _ _ _ _ _ _ c.loop-reader.invariant.0 c.in-Some.fault c.in-Some.is (cc)) (search rules) tt;
    }

-- the end of the file
pub returns-in-None-clause-reads : goal.returns-in-None-clause-reads
returns-in-None-clause-reads g c =
    let call = c.finish.ensures in
    record {
      pattern = search rules;
      works = search rules;
      fault = ended-open _ _ _ _ _ _ _ _ _ _ _ _ _ c.loop-reader.invariant.0 (search rules) (search rules) c.in_ok-count.ensures.bytes
          c.loop-reader.invariant.2
          c.in-None.is _ call.fault;
      reads = record {
        all = ended-holds _ _ _ _ _ _ _ _ _ _ _ _ _ c.loop-reader.invariant.0 (search rules) (search rules) c.in_ok-count.ensures.bytes
            c.loop-reader.invariant.2
            c.in-None.is c.finish.result call.ends.all;
        needed = λ e. ended-lacks _ _ _ _ _ _ _ _ _ _ _ _ _ c.loop-reader.invariant.0 (search rules) (search rules) c.in_ok-count.ensures.bytes
            c.loop-reader.invariant.2
            c.in-None.is (call.ends.needed e);
        adds = ended-adds _ _ _ _ _ _ _ c.loop-reader.invariant.0 c.in-None.is call.ends.adds;
        space = λ e. ended-tight _ _ c.loop-reader.store _ _ _ _ _ _ _ _ _ _ c.loop-reader.invariant.0 (search rules) (search rules)
            c.in_ok-count.ensures.bytes
            c.loop-reader.invariant.2
            c.in-None.is c.loop-reader.invariant.3.limit (call.ends.space e);
        reported = search rules;
        keeps = keeps-then c.loop-reader.invariant.3 call.ends.keeps;
      };
    }

pub returns-in-None-clause-only : goal.returns-in-None-clause-only
returns-in-None-clause-only g c =
    ended-whole _ _ _ _ _ _ _ _ _ _ _ _ _ c.loop-reader.invariant.0 (search rules) (search rules) c.in_ok-count.ensures.bytes c.loop-reader.invariant.2
    c.in-None.is c.finish.result c.finish.ensures.pattern c.finish.ensures.ends.adds
