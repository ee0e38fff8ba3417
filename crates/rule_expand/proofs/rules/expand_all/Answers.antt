use Rattle.std.proofs.Common.{◌≡◌, ◌∙◌, ap, sym, subst, ℕ, List, Option, None, Some}
use Rattle.std.proofs.lemmas.Result.{err_from_is_err_and}
use Rattle.std.specs.Option.{option_map_or}
use Rattle.geo_tokens.specs.declared.fault.FaultWord.TheVariants.{Expand, Product}
use Rattle.geo_tokens.specs.declared.fault.TextFault.{TextFault}
use Rattle.geo_tokens.specs.declared.fault.TextFault.TheVariants as faults
use Rattle.problem_data.specs.Problem.{ProblemData}
use Rattle.rule_expand.specs.Rules.{PlainRuleData, AllAskSame, IsFaultOf, expansion_fault, first_place, is_large, large_fault, multiplies_coordinates, rules_expanded}
use Rattle.rule_expand.proofs.Wholes.{all-ask-same}
use Rattle.rule_expand.proofs.rules.expand_all.Goals as goal

-- a rule that is too large is refused before one that multiplies coordinates
large-before : (large product : Option ℕ) (e : TextFault) → IsFaultOf (option_map_or (λ place. Some (faults.At place Expand)) large None) e
    → IsFaultOf (option_map_or (λ place. Some (faults.At place Expand)) large (option_map_or (λ place. Some (faults.At place Product)) product None)) e
large-before (Some place) product e h = h
large-before None product faults.Memory h = tt
large-before None product (faults.At place word) h = absurd cc

large-first : (p q : ProblemData) (e : TextFault) → p ≡ q → IsFaultOf (large_fault p) e → IsFaultOf (expansion_fault q) e
large-first p q e same h =
    subst (λ (u : ProblemData). IsFaultOf (expansion_fault u) e) same (large-before (first_place is_large (rules_expanded p)) (first_place multiplies_coordinates (rules_expanded p)) e h)

pub returns-in_err-rules-clause-expanded : goal.returns-in_err-rules-clause-expanded
returns-in_err-rules-clause-expanded c =
    let r = err_from_is_err_and c.from_residual-in_err-rules.result c.from_residual-in_err-rules.ensures.1 in
    rw (r.1, r.2) (large-first _ _ _ c.in_ok-source.ensures.1 c.in_err-rules.ensures)

pub returns-clause-meaning : goal.returns-clause-meaning
returns-clause-meaning c = λ t.
    let P : List PlainRuleData → Type 0 = λ qs. AllAskSame c.args.problem.now t c.args.problem.now.rules qs in
    subst P (sym (c.in_ok-rules.ensures.0 ∙ ap rules_expanded c.in_ok-source.ensures.1)) (all-ask-same c.args.problem.now t c.args.problem.now.rules)
