-- The conditions of a problem, or the first fault of its rules: names and kinds come first, then rules without macros that are
-- too large or multiply coordinates, and then the conditions.
use Rattle.std.specs.Prelude.{◌≡◌, ℕ, map, None, Some, Result, Ok, Err}
use Rattle.std.specs.declared.vec.Vec.{Vec}
use Rattle.std.specs.declared.alloc.Global.{Global}
use Rattle.geo_tokens.specs.declared.fault.FaultWord.{FaultWord}
use Rattle.geo_tokens.specs.declared.fault.TextFault.{TextFault}
use Rattle.geo_tokens.specs.declared.fault.TextFault.TheVariants as faults
use Rattle.geo_conditions.specs.declared.cond.Cond.{Cond}
use Rattle.problem_data.specs.Problem.{ProblemData}
use Rattle.rule_names.specs.Answers.{AreNamesRight, HasFirstMistake}
use Rattle.rule_expand.specs.Rules.{expansion_fault}
use Rattle.linear_conditions.specs.CondTree.{cond_view}
use Rattle.rule_ground.specs.Ground.{conditions, ground_fault}

-- the names are right, each rule keeps within its limits, and these are the conditions
pub record IsGrounded (p : ProblemData) (v : Vec Cond Global) : Type 0 where
  pub names : AreNamesRight p
  pub expands : expansion_fault p ≡ None
  pub grounds : ground_fault p ≡ None
  pub conditions : map cond_view v.items ≡ conditions p

-- the first fault of the rules is this word at this place
pub data IsUngrounded (p : ProblemData) (place : ℕ) (word : FaultWord) : Type 0 where
  misnamed : HasFirstMistake p place word → IsUngrounded p place word
  unexpanded : AreNamesRight p → expansion_fault p ≡ Some (faults.At place word) → IsUngrounded p place word
  ungrounded : AreNamesRight p → expansion_fault p ≡ None → ground_fault p ≡ Some (faults.At place word) → IsUngrounded p place word

-- a call's answer: the conditions, or the first fault, unless memory ran out
abbrev pub AnswersGrounded : Result (Vec Cond Global) TextFault → ProblemData → Type 0
AnswersGrounded (Ok v) p = IsGrounded p v
AnswersGrounded (Err (faults.At place word)) p = IsUngrounded p place word
AnswersGrounded (Err faults.Memory) p = Unit {0}
