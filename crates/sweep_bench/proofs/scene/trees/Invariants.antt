use Rattle.std.specs.Prelude.{map}
use Rattle.geo_conditions.specs.Conditions.{AllFit}
use Rattle.sweep_bench.proofs.scene.trees.Given as goal

-- the conditions so far fit the state
abbrev pub invariant-loop-k : goal.invariant-loop-k
invariant-loop-k l = AllFit (map (λ x. x.inner.cond) l.list.items) l.s
