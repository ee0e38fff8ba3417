-- What holds of a problem holds of it with some of its rules, as statements.
use Rattle.std.specs.Prelude.{◌≡◌, ℕ, List, None}
use Rattle.std.specs.List.{Contains}
use Rattle.std.specs.declared.vec.Vec.{Vec}
use Rattle.std.specs.declared.alloc.Global.{Global}
use Rattle.geo_base.specs.Tuple.{Tuple}
use Rattle.geo_tokens.specs.declared.fault.FaultWord.{FaultWord}
use Rattle.geo_conditions.specs.declared.cond.Cond.{Cond}
use Rattle.problem_data.specs.Problem.{ProblemData}
use Rattle.problem_data.specs.SomeRules.{AreRules, with_rules}
use Rattle.problem_data.specs.Layouts.{IsLayout}
use Rattle.rule_names.specs.Answers.{AreNamesRight}
use Rattle.rule_expand.specs.Rules.{expansion_fault}
use Rattle.rule_ground.specs.Ground.{ground_fault}
use Rattle.rule_ground.specs.Phases.{IsGrounded, IsUngrounded}

-- neither the names of the problem nor its rules have a fault
pub record HasConditions (p : ProblemData) : Type 0 where
  pub names : AreNamesRight p
  pub expands : expansion_fault p ≡ None
  pub grounds : ground_fault p ≡ None

-- a problem without a fault has none with some of its rules
abbrev pub SomeRulesGround : Type 0
SomeRulesGround = (p : ProblemData) (keep : List ℕ) → AreRules p keep → HasConditions p → HasConditions (with_rules p keep)

-- where a problem has these conditions, grounding it with some of its rules has no fault
abbrev pub SomeRulesHaveNoFault : Type 0
SomeRulesHaveNoFault = (p : ProblemData) (v : Vec Cond Global) (keep : List ℕ) → IsGrounded p v → AreRules p keep → (place : ℕ) (word : FaultWord) → IsUngrounded (with_rules p keep) place word → ⊥

-- a layout of a problem with some rules is one of it with fewer
abbrev pub FewerRulesHold : Type 0
FewerRulesHold = (p : ProblemData) (keep fewer : List ℕ) → ((n : ℕ) → Contains fewer n → Contains keep n) → (t : Tuple) → IsLayout (with_rules p keep) t → IsLayout (with_rules p fewer) t
