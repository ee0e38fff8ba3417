use Rattle.std.proofs.Common.{◌≡◌, ◌∙◌, ℕ, ap, refl, Option}
use Rattle.problem_data.specs.Problem.{MacroData, ProblemData}
use Rattle.problem_data.specs.Tree.{BodyTree}
use Rattle.rule_names.specs.declared.mistake.Mistake.{Mistake}
use Rattle.rule_names.specs.Mistakes.{first_of}
use Rattle.rule_names.specs.Sight.{Sight}
use Rattle.rule_names.specs.Names.{body_mistakes, macros_mistakes}
use Rattle.rule_names.proofs.Firsts.{part_step, part_done}
use Rattle.rule_names.proofs.check.macros_mistake.Goals as goal

of_macro : (p : ProblemData) (n m : ℕ) (s t : Sight) (b d : BodyTree) (o : Option Mistake) → n ≡ m → s ≡ t → b ≡ d → o ≡ first_of (body_mistakes p n s b) → o ≡ first_of (body_mistakes p m t d)
of_macro p n m s t b d o e f g h =
    h ∙ ap (λ (x : ℕ). first_of (body_mistakes p x s b)) e ∙ ap (λ (x : Sight). first_of (body_mistakes p m x b)) f ∙ ap (λ (x : BodyTree). first_of (body_mistakes p m t x)) g

pub each-preserved : goal.each-preserved
each-preserved c =
    let p = c.args.problem.now in
    part_step (λ (d : MacroData). body_mistakes p d.place d.params d.body) (macros_mistakes p) (λ x others. refl) refl c.macros-macros.result.now c.each.one-index c.one-item.result _ _ _ _ c.each-test.true c.one-item.is c.earlier-found.ensures.value
    (of_macro p _ _ _ _ _ _ _ c.place.ensures c.params.ensures c.body.ensures c.in_ok-here.ensures) c.each.invariant

pub returns : goal.returns
returns c =
    let p = c.args.problem.now in
    part_done (λ (d : MacroData). body_mistakes p d.place d.params d.body) (macros_mistakes p) (λ x others. refl) refl c.macros-macros.result.now c.each.one-index _ _ c.each-test.false c.each.invariant
    ∙ ap (λ ms. first_of (macros_mistakes p ms)) c.macros-macros.ensures
