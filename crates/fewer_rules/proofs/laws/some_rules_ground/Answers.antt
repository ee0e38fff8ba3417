use Rattle.std.proofs.Common.{ℕ, List}
use Rattle.problem_data.specs.Problem.{ProblemData}
use Rattle.problem_data.specs.SomeRules.{AreRules, with_rules}
use Rattle.fewer_rules.specs.Fewer.{HasConditions}
use Rattle.fewer_rules.proofs.Names.{right_with}
use Rattle.fewer_rules.proofs.Rules.{expands_with, grounds_with}
use Rattle.fewer_rules.proofs.NoFault.{no_fault}
use Rattle.fewer_rules.proofs.laws.some_rules_ground.Goals as goal

conditions_with : (p : ProblemData) (keep : List ℕ) → AreRules p keep → HasConditions p → HasConditions (with_rules p keep)
conditions_with p keep kept h = record {
  names = right_with p keep kept h.names;
  expands = expands_with p keep kept h.expands;
  grounds = grounds_with p keep kept h.grounds;
}

pub returns-clause-ground : goal.returns-clause-ground
returns-clause-ground c = conditions_with

pub returns-clause-no_fault : goal.returns-clause-no_fault
returns-clause-no_fault c = λ p v keep h kept place word. no_fault (with_rules p keep) place word (conditions_with p keep kept (record { names = h.names; expands = h.expands; grounds = h.grounds }))
