-- Which texts are accepted, and what the first fault of another text is. Behind the phases of
-- reading come those of the rules: names and kinds, then rules without macros that are too large,
-- then such that multiply coordinates, then conditions that are too many or have too large numbers.
use Rattle.std.specs.Prelude.{◌≡◌, ◌≤◌, ◌↔◌, ℕ, List, length, map, None, Some, Result, Ok, Err}
use Rattle.geo_tokens.specs.declared.fault.FaultWord.{FaultWord}
use Rattle.geo_tokens.specs.declared.fault.TextFault.{TextFault}
use Rattle.geo_tokens.specs.declared.fault.TextFault.TheVariants as faults
use Rattle.problem_data.specs.Problem.{ProblemData}
use Rattle.problem_data.specs.Accepted.{Accepts}
use Rattle.problem_text.specs.FirstFault.{HasFirstFault}
use Rattle.rule_names.specs.Answers.{AreNamesRight, HasFirstMistake}
use Rattle.rule_expand.specs.Rules.{AllAskSame, expansion_fault, plain_rule_data, rules_expanded}
use Rattle.geo_base.specs.Tuple.{Tuple}
use Rattle.problem_data.specs.Cells.{IsTuple, IsWideTuple}
use Rattle.rule_values.specs.Calm.{AreCalm}
use Rattle.geo_conditions.specs.declared.cond.Cond.{Cond}
use Rattle.linear_conditions.specs.CondTree.{cond_view}
use Rattle.rule_ground.specs.Ground.{conditions, ground_fault, most_conditions}
use Rattle.geo_conditions.specs.Conditions.{AllFit, AllHold}
use Rattle.problem_data.specs.Layouts.{IsLayout}
use Rattle.rule_ground.specs.Start.{first_state}
use Rattle.command_reply.specs.declared.accepted.Accepted.{Accepted}

-- the text spells the problem, the names of its rules are right, each rule without macros keeps
-- within its limits, and so do the conditions of all rules
pub record IsAccepted (text : List ℕ) (p : ProblemData) : Type 0 where
  pub spells : Accepts text p
  pub names : AreNamesRight p
  pub expands : expansion_fault p ≡ None
  pub grounds : ground_fault p ≡ None

-- the first fault of the text is this word at this place
pub data IsRefused (text : List ℕ) (place : ℕ) (word : FaultWord) : Type 0 where
  unread : HasFirstFault text place word → IsRefused text place word
  misnamed : (p : ProblemData) → Accepts text p → HasFirstMistake p place word → IsRefused text place word
  unexpanded : (p : ProblemData) → Accepts text p → AreNamesRight p → expansion_fault p ≡ Some (faults.At place word) → IsRefused text place word
  ungrounded : (p : ProblemData) → Accepts text p → AreNamesRight p → expansion_fault p ≡ None → ground_fault p ≡ Some (faults.At place word) → IsRefused text place word

-- these conditions are those of the problem
abbrev pub AreConditions : ProblemData → List Cond → Type 0
AreConditions p cs = map cond_view cs ≡ conditions p

-- an accepted problem, its rules without macros, and its conditions
pub record HasRead (text : List ℕ) (a : Accepted) : Type 0 where
  pub accepted : IsAccepted text a.problem
  pub rules : map plain_rule_data a.rules.items ≡ rules_expanded a.problem
  pub are : AreConditions a.problem a.conditions.items
  pub fit : AllFit a.conditions.items (first_state a.problem)
  pub meaning : (t : Tuple) → IsWideTuple a.problem t → AllHold a.conditions.items t ↔ IsLayout a.problem t
  pub few : length a.conditions.items ≤ most_conditions
  pub asks : (t : Tuple) → AllAskSame a.problem t a.problem.rules (map plain_rule_data a.rules.items)
  pub calm : (t : Tuple) → IsTuple a.problem t → AreCalm a.problem t (map plain_rule_data a.rules.items)

-- a call's answer: the problem, or the first fault, unless memory ran out
abbrev pub AnswersAccepted : Result Accepted TextFault → List ℕ → Type 0
AnswersAccepted (Ok a) text = HasRead text a
AnswersAccepted (Err (faults.At place word)) text = IsRefused text place word
AnswersAccepted (Err faults.Memory) text = Unit {0}
