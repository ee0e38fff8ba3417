use Rattle.std.proofs.Common.{◌≡◌, take}
use Rattle.problem_data.specs.Truth.{listed_objects}
use Rattle.rule_expand.proofs.formulas.positions_listed.Given as goal

abbrev pub invariant-loop-name : goal.invariant-loop-name
invariant-loop-name l = l.positions.items ≡ listed_objects l.source.problem.now (take l.name-index l.names)
