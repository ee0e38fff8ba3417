use Rattle.std.proofs.Common.{◌+◌, ◌-◌, ◌++◌}
use Rattle.std.specs.List.{range_with_len}
use Rattle.problem_data.specs.SomeRules.{with_rules}
use Rattle.geo_core.specs.Cores.{Tries, Refutes}
use Rattle.geo_core.proofs.LeftOut.{AllBelow}
use Rattle.geo_core.proofs.leaving.leave_out.Given as goal

-- the rules kept and those behind are left, and the log refutes them
abbrev pub invariant-leaving : goal.invariant-leaving
invariant-leaving g l = record {
  tried : Tries l.problem l.budget (l.i - 1) (l.kept.items ++ range_with_len l.i ((l.count + 1) - l.i)) l.layouts.items;
  below : AllBelow l.kept.items l.i;
  refutes : Refutes (with_rules l.problem (l.kept.items ++ range_with_len l.i ((l.count + 1) - l.i))) l.log.events;
}
