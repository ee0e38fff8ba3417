use Rattle.std.proofs.Common.{◌≡◌, ℕ, List, Vec, Global, map, sym, subst, ap, ◌∙◌}
use Rattle.problem_data.specs.Problem.{ShapeData, ObjectData, MacroData, RuleData, ProblemData}
use Rattle.problem_data.specs.SomeRules.{numbered, with_rules}
use Rattle.problem_data.specs.Accepted.{IsSaid}
use Rattle.problem_data.proofs.SomeRules.{some_said}
use Rattle.problem_data.proofs.problem.with_rules.Goals as goal

pub invariant_of-result : goal.invariant_of-result
invariant_of-result c =
    let p : ProblemData = c.args.problem.now in
    let shapes : c.in_ok-clone.field-0.value.items ≡ p.shapes = ap (λ (v : Vec ShapeData Global). v.items) c.in_ok-clone.ensures.cases ∙ ap (λ (q : ProblemData). q.shapes) c.problem.view_is in
    let objects : c.in_ok-clone-2.field-0.value.items ≡ p.objects = ap (λ (v : Vec ObjectData Global). v.items) c.in_ok-clone-2.ensures.cases ∙ ap (λ (q : ProblemData). q.objects) c.problem.view_is in
    let macros : c.in_ok-clone-3.field-0.value.items ≡ p.macros = ap (λ (v : Vec MacroData Global). v.items) c.in_ok-clone-3.ensures.cases ∙ ap (λ (q : ProblemData). q.macros) c.problem.view_is in
    let rules : c.in_ok-rules.rules.items ≡ map (numbered p.rules) c.args.keep.now = c.in_ok-rules.ensures ∙ ap (λ (rs : List RuleData). map (numbered rs) c.args.keep.now) c.rules.ensures in
    subst IsSaid (sym (λ i. record {
      version = ap (λ (q : ProblemData). q.version) c.problem.view_is i;
      dims = ap (λ (q : ProblemData). q.dims) c.problem.view_is i;
      shapes = shapes i;
      objects = objects i;
      macros = macros i;
      rules = rules i;
      order = (c.in_ok-order.ensures.items ∙ c.search_order.ensures) i;
      sides = (c.in_ok-sides.ensures.items ∙ c.sides.ensures) i;
    }))
    (some_said p c.args.keep.now (subst IsSaid c.problem.view_is c.problem.invariant) c.requires)
