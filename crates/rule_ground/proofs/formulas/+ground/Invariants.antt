use Rattle.std.proofs.Common.{◌≡◌, ◌+◌, ◌*◌, drop, map}
use Rattle.rule_expand.specs.PlainView.{plain_formula_view, plain_formulas_view}
use Rattle.rule_expand.specs.Counts.{nodes, nodes_in}
use Rattle.linear_conditions.specs.CondTree.{cond_view}
use Rattle.linear_conditions.specs.Views.{fixings_view}
use Rattle.rule_values.specs.Elements.{elements_view}
use Rattle.rule_values.specs.View.{env_view}
use Rattle.rule_ground.specs.Answers.{behind, body_at, busy}
use Rattle.rule_ground.specs.Grounding.{alone, element_of, gather, ground_element, ground_elements, ground_operands, ground_place, ground_places}
use Rattle.rule_ground.specs.Shapes.{shape_places}
use Rattle.rule_ground.proofs.formulas.+ground.Given as goal

abbrev pub decreases-ground : goal.decreases-ground
decreases-ground l = 8 * nodes (plain_formula_view l.f.now)

abbrev pub decreases-ground_all_of : goal.decreases-ground_all_of
decreases-ground_all_of l = 8 * nodes_in (plain_formulas_view l.fs.now) + 2

abbrev pub decreases-ground_any_of : goal.decreases-ground_any_of
decreases-ground_any_of l = 8 * nodes_in (plain_formulas_view l.fs.now) + 2

abbrev pub decreases-ground_operands : goal.decreases-ground_operands
decreases-ground_operands l = 8 * nodes_in (plain_formulas_view l.fs.now) + 1

abbrev pub decreases-ground_pair : goal.decreases-ground_pair
decreases-ground_pair l = 8 * (nodes (plain_formula_view l.f.now) + nodes (plain_formula_view l.g.now)) + 1

abbrev pub decreases-ground_equivalence : goal.decreases-ground_equivalence
decreases-ground_equivalence l = 8 * (nodes (plain_formula_view l.f.now) + nodes (plain_formula_view l.g.now)) + 2

abbrev pub decreases-ground_quantified : goal.decreases-ground_quantified
decreases-ground_quantified l = 8 * nodes (plain_formula_view l.f.now) + 7

abbrev pub decreases-ground_elements : goal.decreases-ground_elements
decreases-ground_elements l = 8 * nodes (plain_formula_view l.site.now.formula.now) + 6

abbrev pub decreases-ground_element : goal.decreases-ground_element
decreases-ground_element l = 8 * nodes (plain_formula_view l.site.now.formula.now) + 5

abbrev pub decreases-ground_split : goal.decreases-ground_split
decreases-ground_split l = 8 * nodes (plain_formula_view l.site.now.formula.now) + 4

abbrev pub decreases-ground_optional : goal.decreases-ground_optional
decreases-ground_optional l = 8 * nodes (plain_formula_view l.site.now.formula.now) + 1

abbrev pub decreases-ground_group : goal.decreases-ground_group
decreases-ground_group l = 8 * nodes (plain_formula_view l.site.now.formula.now) + 3

abbrev pub decreases-ground_places : goal.decreases-ground_places
decreases-ground_places l = 8 * nodes (plain_formula_view l.site.now.formula.now) + 2

abbrev pub decreases-ground_place : goal.decreases-ground_place
decreases-ground_place l = 8 * nodes (plain_formula_view l.site.now.formula.now) + 1

abbrev pub decreases-ground_whole : goal.decreases-ground_whole
decreases-ground_whole l = 8 * nodes (plain_formula_view l.site.now.formula.now) + 1

abbrev pub invariant-ground_operands-loop-f : goal.invariant-ground_operands-loop-f
invariant-ground_operands-loop-f l =
    ground_operands l.problem (plain_formulas_view l.fs) l.all l.sign (env_view l.env) (fixings_view l.fixings) l.fn.counter
    ≡ behind (map cond_view l.parts.items) (ground_operands l.problem (plain_formulas_view (drop l.f-index l.fs)) l.all l.sign (env_view l.env) (fixings_view l.fixings) l.counter)

abbrev pub invariant-ground_elements-loop-i : goal.invariant-ground_elements-loop-i
invariant-ground_elements-loop-i l =
    busy l.manner (ground_elements l.problem (body_at l.problem l.site) l.manner (fixings_view l.fixings) (map (element_of l.problem l.asked (fixings_view l.fixings)) (elements_view l.things)) l.fn.counter)
    ≡ busy l.manner (behind (map cond_view l.children.items) (gather (ground_element l.problem (body_at l.problem l.site) l.manner (fixings_view l.fixings)) (map (element_of l.problem l.asked (fixings_view l.fixings)) (drop l.i (elements_view l.things))) l.counter))

abbrev pub invariant-ground_places-loop-before : goal.invariant-ground_places-loop-before
invariant-ground_places-loop-before l =
    behind (map cond_view l.fn.children.items) (ground_places (body_at l.problem l.site) l.manner (fixings_view l.fixings) l.object.0 (shape_places l.problem l.object.0) l.fn.counter)
    ≡ behind (map cond_view l.children.items) (gather (λ s j. alone (ground_place (body_at l.problem l.site) l.manner (fixings_view l.fixings) l.object.0 s j)) (drop l.before (shape_places l.problem l.object.0)) l.counter)
