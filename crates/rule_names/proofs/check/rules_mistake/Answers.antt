use Rattle.std.proofs.Common.{◌≡◌, ◌∙◌, ℕ, ap, refl, Option}
use Rattle.problem_data.specs.Problem.{DemandData, RuleData, ProblemData}
use Rattle.rule_names.specs.declared.mistake.Mistake.{Mistake}
use Rattle.rule_names.specs.Mistakes.{first_of}
use Rattle.rule_names.specs.Names.{demand_mistakes, rules_mistakes}
use Rattle.rule_names.proofs.Firsts.{part_step, part_done}
use Rattle.rule_names.proofs.check.rules_mistake.Goals as goal

of_rule : (p : ProblemData) (n m : ℕ) (b d : DemandData) (o : Option Mistake) → n ≡ m → b ≡ d → o ≡ first_of (demand_mistakes p n b) → o ≡ first_of (demand_mistakes p m d)
of_rule p n m b d o e f h = h ∙ ap (λ (x : ℕ). first_of (demand_mistakes p x b)) e ∙ ap (λ (x : DemandData). first_of (demand_mistakes p m x)) f

pub each-preserved : goal.each-preserved
each-preserved c =
    let p = c.args.problem.now in
    part_step (λ (r : RuleData). demand_mistakes p r.place r.demand) (rules_mistakes p) (λ x others. refl) refl c.rules-rules.result.now c.each.rule-index c.rule-item.result _ _ _ _ c.each-test.true c.rule-item.is c.earlier-found.ensures.value
    (of_rule p _ _ _ _ _ c.place.ensures c.demand.ensures c.in_ok-here.ensures) c.each.invariant

pub returns : goal.returns
returns c =
    let p = c.args.problem.now in
    part_done (λ (r : RuleData). demand_mistakes p r.place r.demand) (rules_mistakes p) (λ x others. refl) refl c.rules-rules.result.now c.each.rule-index _ _ c.each-test.false c.each.invariant
    ∙ ap (λ rs. first_of (rules_mistakes p rs)) c.rules-rules.ensures
