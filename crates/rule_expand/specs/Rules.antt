-- All rules of a problem without their macros, and which of them are refused.
use Rattle.std.specs.Prelude.{◌≡◌, ℕ, ◌||◌, nat_lt, Bool, true, false, if◌then◌else◌, List, [], ◌∷◌, map, Option, None, Some}
use Rattle.std.specs.Option.{option_map_or}
use Rattle.geo_tokens.specs.declared.fault.TextFault.{TextFault}
use Rattle.geo_tokens.specs.declared.fault.TextFault.TheVariants as faults
use Rattle.geo_tokens.specs.declared.fault.FaultWord.TheVariants.{Expand, Product}
use Rattle.problem_data.specs.Problem.{RangeData, DemandData, RuleData, ProblemData}
use Rattle.problem_data.specs.Problem as written
use Rattle.problem_data.specs.ProblemView.{range_data}
use Rattle.problem_data.specs.Tuple.{Tuple}
use Rattle.problem_data.specs.Truth.{formula_holds}
use Rattle.rule_expand.specs.Plain.{PlainFormulaTree}
use Rattle.rule_expand.specs.PlainView.{plain_formula_view}
use Rattle.rule_expand.specs.PlainTruth.{plain_holds}
use Rattle.rule_expand.specs.Expansion.{expanded}
use Rattle.rule_expand.specs.Counts.{nodes, depth}
use Rattle.rule_expand.specs.Degree.{formula_breaks}
use Rattle.rule_expand.specs.declared.plain.PlainBody.{PlainBody}
use Rattle.rule_expand.specs.declared.plain.PlainBody.TheVariants as bodies
use Rattle.rule_expand.specs.declared.plain.PlainRule.{PlainRule}
use Rattle.rule_expand.specs.declared.limits.ExpandFault.{ExpandFault}
use Rattle.rule_expand.specs.declared.limits.ExpandFault.TheVariants.{TooLarge, Memory}

-- what a rule without macros asks for
pub data PlainDemand : Type 0 where
  apart : PlainDemand
  within : List RangeData → PlainDemand
  plain : PlainFormulaTree → PlainDemand

-- a rule, with the place of its name in the text
pub record PlainRuleData : Type 0 where
  pub place : ℕ
  pub demand : PlainDemand

abbrev pub body_data : PlainBody → PlainDemand
body_data bodies.Apart = apart
body_data (bodies.Within rs) = within (map range_data rs.items)
body_data (bodies.Plain f) = plain (plain_formula_view f)

abbrev pub plain_rule_data : PlainRule → PlainRuleData
plain_rule_data r = record { place = r.place; demand = body_data r.body }

abbrev pub demand_expanded : ProblemData → DemandData → PlainDemand
demand_expanded p written.apart = apart
demand_expanded p (written.within rs) = within rs
demand_expanded p (written.plain f) = plain (expanded p f)

abbrev pub rule_expanded : ProblemData → RuleData → PlainRuleData
rule_expanded p r = record { place = r.place; demand = demand_expanded p r.demand }

-- the rules in file order
abbrev pub rules_expanded : ProblemData → List PlainRuleData
rules_expanded p = map (rule_expanded p) p.rules

-- more nodes than 20,000, or deeper than 256
abbrev pub is_large : PlainDemand → Bool
is_large apart = false
is_large (within rs) = false
is_large (plain f) = nat_lt 20000 (nodes f) || nat_lt 256 (depth f)

abbrev pub multiplies_coordinates : PlainDemand → Bool
multiplies_coordinates apart = false
multiplies_coordinates (within rs) = false
multiplies_coordinates (plain f) = formula_breaks f

-- the place of the first rule that a test takes
abbrev pub first_place : (PlainDemand → Bool) → List PlainRuleData → Option ℕ
first_place test [] = None
first_place test (r ∷ rest) = if test r.demand then Some r.place else first_place test rest

-- the first rule that is too large is refused; where there is none, the first that multiplies coordinates
abbrev pub expansion_fault : ProblemData → Option TextFault
expansion_fault p =
    option_map_or (λ place. Some (faults.At place Expand)) (first_place is_large (rules_expanded p))
    (option_map_or (λ place. Some (faults.At place Product)) (first_place multiplies_coordinates (rules_expanded p)) None)

-- it is the fault; want of memory is free
abbrev pub IsFaultOf : Option TextFault → TextFault → Type 0
IsFaultOf o faults.Memory = Unit {0}
IsFaultOf o (faults.At place word) = o ≡ Some (faults.At place word)

-- the rule without macros asks for the same on the tuple
abbrev pub AsksSame : ProblemData → Tuple → DemandData → PlainDemand → Type 0
AsksSame p t written.apart apart = Unit {0}
AsksSame p t (written.within rs) (within qs) = qs ≡ rs
AsksSame p t (written.plain f) (plain g) = plain_holds p t g [] ≡ formula_holds p t f
AsksSame p t written.apart (within qs) = ⊥
AsksSame p t written.apart (plain g) = ⊥
AsksSame p t (written.within rs) apart = ⊥
AsksSame p t (written.within rs) (plain g) = ⊥
AsksSame p t (written.plain f) apart = ⊥
AsksSame p t (written.plain f) (within qs) = ⊥

-- one rule without macros for each rule, in the same order, at its place and with its meaning on the tuple
abbrev pub AllAskSame : ProblemData → Tuple → List RuleData → List PlainRuleData → Type 0
AllAskSame p t [] [] = Unit {0}
AllAskSame p t [] (q ∷ qs) = ⊥
AllAskSame p t (r ∷ rs) [] = ⊥
AllAskSame p t (r ∷ rs) (q ∷ qs) = (q.place ≡ r.place) × AsksSame p t r.demand q.demand × AllAskSame p t rs qs

-- why a rule has no tree: it is too large, or want of memory, which is free
abbrev pub IsRuleFault : PlainRuleData → ExpandFault → Type 0
IsRuleFault r TooLarge = is_large r.demand ≡ true
IsRuleFault r Memory = Unit {0}

-- the fault of the rules that are too large
abbrev pub large_fault : ProblemData → Option TextFault
large_fault p = option_map_or (λ place. Some (faults.At place Expand)) (first_place is_large (rules_expanded p)) None
