-- From what the rules give to the words in which it is told.
use Rattle.std.proofs.Common.{◌≡◌, List, map, refl, sym, ap, subst}
use Rattle.std.specs.Prelude.{IfOk, MatchResult, None, Result, Ok, Err}
use Rattle.std.specs.declared.vec.Vec.{Vec}
use Rattle.std.specs.declared.alloc.Global.{Global}
use Rattle.geo_tokens.specs.declared.fault.TextFault.{TextFault}
use Rattle.geo_tokens.specs.declared.fault.TextFault.TheVariants as faults
use Rattle.geo_conditions.specs.declared.cond.Cond.{Cond}
use Rattle.problem_data.specs.Problem.{ProblemData}
use Rattle.rule_expand.specs.Rules.{PlainRuleData, rules_expanded}
use Rattle.linear_conditions.specs.CondTree.{CondTree, cond_view}
use Rattle.rule_ground.specs.Faults.{AnswersRules}
use Rattle.rule_ground.specs.Ground.{conditions, conditions_in, fault_in, ground_fault, IsFaultOf}
use Rattle.rule_ground.specs.Own.{own_conditions}
use Rattle.rule_ground.specs.Rules.{before, ground_rules, grounded, no_counts}

-- an answer without a fault has conditions
pub no-fault : (r : Result (List CondTree) TextFault) → fault_in r ≡ None → r ≡ Ok (conditions_in r)
no-fault (Ok cs) e = refl
no-fault (Err x) e = cc

module _ (p : ProblemData) where
  -- the rules are those of the problem
  pub of-problem : (rules : List PlainRuleData) (r : Result (Vec Cond Global) TextFault) → rules ≡ rules_expanded p → AnswersRules (before (own_conditions p) (ground_rules p rules no_counts)) r → AnswersRules (grounded p) r
  of-problem rules r e h = subst (λ rs. AnswersRules (before (own_conditions p) (ground_rules p rs no_counts)) r) e h

  pub told : (r : Result (Vec Cond Global) TextFault) → AnswersRules (grounded p) r →
      MatchResult r (λ v. (map cond_view v.items ≡ conditions p) × (ground_fault p ≡ None)) (λ e. IsFaultOf (ground_fault p) e)
  told (Ok v) h = (sym (ap conditions_in h), ap fault_in h)
  told (Err (faults.At place word)) h = ap fault_in h
  told (Err faults.Memory) h = tt

  pub of-conditions : (r : Result (Vec Cond Global) TextFault) (P : Vec Cond Global → Type 0) → AnswersRules (grounded p) r → ((v : Vec Cond Global) → grounded p ≡ Ok (map cond_view v.items) → P v) → IfOk r P
  of-conditions (Ok v) P h f = f v h
  of-conditions (Err e) P h f = tt
