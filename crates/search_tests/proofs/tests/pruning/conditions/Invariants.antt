use Rattle.std.proofs.Common.{map}
use Rattle.geo_conditions.specs.Conditions.{AllFit}
use Rattle.search_tests.proofs.tests.pruning.conditions.Given as goal

-- each condition so far fits the state
abbrev pub invariant-loop-row : goal.invariant-loop-row
invariant-loop-row l = AllFit (map (λ x. x.cond) l.list.items) l.s
