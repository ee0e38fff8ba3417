use Rattle.std.proofs.Common.{◌≡◌, Bool, List, false, map, sym, ap, subst}
use Rattle.problem_data.specs.Value.{Thing}
use Rattle.rule_expand.specs.PlainView.{plain_formula_view}
use Rattle.rule_values.specs.Elements.{elements_view}
use Rattle.rule_ground.specs.Grounding.{element_of, needs}
use Rattle.rule_ground.proofs.Arms.{boxes-whole}
use Rattle.rule_ground.proofs.elements.asks_shapes.Goals as goal

pub returns-in-Boxes : goal.returns-in-Boxes
returns-in-Boxes c p fix =
    let asked = needs c.args.subject (plain_formula_view c.args.f.now) in
    subst (λ (xs : List Thing). map (element_of p false fix) xs ≡ map (element_of p asked fix) xs) (sym (ap elements_view c.in-Boxes.is)) (boxes-whole p fix false asked c.in-Boxes._boxes.now)

pub returns-in-Listed : goal.returns-in-Listed
returns-in-Listed c p fix = ap (λ (b : Bool). map (element_of p b fix) (elements_view c.args.things.now)) c.needs-in-Listed.ensures
