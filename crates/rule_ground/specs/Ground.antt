-- The conditions of a problem, and its fault where they are too many or too large.
use Rattle.std.specs.Prelude.{◌≡◌, ℕ, List, [], Option, None, Some, Result, Ok, Err}
use Rattle.geo_tokens.specs.declared.fault.TextFault.{TextFault}
use Rattle.geo_tokens.specs.declared.fault.TextFault.TheVariants as faults
use Rattle.problem_data.specs.Problem.{ProblemData}
use Rattle.linear_conditions.specs.CondTree.{CondTree}
use Rattle.rule_ground.specs.Rules.{grounded}

-- how many conditions a problem has at most: each one of a rule has a leaf that is counted, but for
-- one a rule, and objects have few by themselves
abbrev pub most_conditions : ℕ
most_conditions = 1010000

abbrev pub conditions_in : Result (List CondTree) TextFault → List CondTree
conditions_in (Ok cs) = cs
conditions_in (Err e) = []

abbrev pub fault_in : Result (List CondTree) TextFault → Option TextFault
fault_in (Ok cs) = None
fault_in (Err e) = Some e

-- the conditions of the objects by themselves, and then those of all rules, in file order; none,
-- where there is a fault
abbrev pub conditions : ProblemData → List CondTree
conditions p = conditions_in (grounded p)

abbrev pub ground_fault : ProblemData → Option TextFault
ground_fault p = fault_in (grounded p)

-- it is the fault; want of memory is free
abbrev pub IsFaultOf : Option TextFault → TextFault → Type 0
IsFaultOf o faults.Memory = Unit {0}
IsFaultOf o (faults.At place word) = o ≡ Some (faults.At place word)
