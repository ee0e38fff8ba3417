use Rattle.object_pruning.specs.Runs.{AreRunsTo}
use Rattle.object_pruning.proofs.run_making.runs_of.Given as goal

abbrev pub invariant-loop-k : goal.invariant-loop-k
invariant-loop-k l = AreRunsTo l.groups l.k l.runs.items
