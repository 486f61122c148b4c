use Rattle.std.proofs.Common.{◌≡◌, ◌+◌, ◌^◌, ◌≤◌, ◌++◌}
use Rattle.qt_root2.specs.Real.{plus_real}
use Rattle.qt_report.specs.Report.{total_of}
use Rattle.qt_run.specs.Tally.{numerators, real_number, whole_part}
use Rattle.qt_run.proofs.Listed.{chances_of}
use Rattle.qt_run.proofs.tally.Tally.into_distribution.Given as goal

abbrev pub invariant-loop-output : goal.invariant-loop-output
invariant-loop-output l = record {
  listed : l.chances.items ++ chances_of l.output-iterator ≡ chances_of l.fn.self;
  room : whole_part l.total + numerators l.output-iterator ≤ 2 ^ 126;
  summed : plus_real (real_number l.total) (total_of (chances_of l.output-iterator)) ≡ total_of (chances_of l.fn.self);
}
