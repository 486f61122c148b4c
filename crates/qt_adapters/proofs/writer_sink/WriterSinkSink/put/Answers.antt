use Rattle.std.proofs.Common.{◌∙◌, ◌++◌, take}
use Rattle.qt_adapters.proofs.Writing.{more_taken, prefix_taken, parts_more}
use Rattle.qt_adapters.proofs.writer_sink.WriterSinkSink.put.Goals as goal

pub returns-then-count-eq0-clause-written : goal.returns-then-count-eq0-clause-written
returns-then-count-eq0-clause-written g c =
    let so_far = c.loop-rest.invariant in
    let part = c.write_part-count in
    let first = c.args.self.now.held in
    let before = c.loop-rest.self.held in
    let now = part.new.self.held in
    let rest = c.loop-rest.rest.now in
    let piece = c.args.piece.now in
    let none = c.if-count-eq0.true in
    rw c.fail.ensures.held
    (prefix_taken first before now so_far.done rest piece part.result so_far.parts so_far.written none part.ensures.held)

pub loop-rest-preserved : goal.loop-rest-preserved
loop-rest-preserved g c =
    let so_far = c.loop-rest.invariant in
    let part = c.write_part-count in
    let rest = c.loop-rest.rest.now in
    let more = take part.result rest in
    let before = c.loop-rest.self.held in
    record {
      faults = part.ensures.faults ∙ so_far.faults;
      done = so_far.done ++ more;
      parts = rw c.split_at.ensures.back (parts_more so_far.done rest c.args.piece.now part.result so_far.parts);
      written = more_taken c.args.self.now.held before part.new.self.held so_far.done more so_far.written part.ensures.held;
    }
