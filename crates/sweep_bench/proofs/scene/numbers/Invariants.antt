use Rattle.sweep.specs.Picks.{ArePicks}
use Rattle.sweep_bench.proofs.scene.numbers.Given as goal

-- each is the number of a condition
abbrev pub invariant-loop-k : goal.invariant-loop-k
invariant-loop-k l = ArePicks l.n l.list.items
