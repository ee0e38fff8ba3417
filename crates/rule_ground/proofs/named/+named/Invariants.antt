use Rattle.std.proofs.Common.{◌≡◌, ◌+◌, ◌*◌, drop, length, map}
use Rattle.rule_expand.specs.PlainView.{plain_formula_view}
use Rattle.linear_conditions.specs.CondTree.{cond_view}
use Rattle.linear_conditions.specs.Views.{fixings_view}
use Rattle.rule_ground.specs.declared.quantifiers.Manner.TheVariants as ways
use Rattle.rule_ground.specs.Answers.{behind}
use Rattle.rule_ground.specs.Grounding.{alone, gather, ground_named, ground_place, ground_places}
use Rattle.rule_ground.specs.Shapes.{places}
use Rattle.rule_ground.proofs.named.+named.Given as goal

abbrev pub decreases-ground_named : goal.decreases-ground_named
decreases-ground_named l = 4 * length l.names.now

abbrev pub decreases-named_object : goal.decreases-named_object
decreases-named_object l = 4 * length l.rest.now + 3

abbrev pub decreases-named_split : goal.decreases-named_split
decreases-named_split l = 4 * length l.rest.now + 2

abbrev pub decreases-named_whole : goal.decreases-named_whole
decreases-named_whole l = 4 * length l.rest.now + 1

abbrev pub decreases-named_place : goal.decreases-named_place
decreases-named_place l = 4 * length l.rest.now + 1

abbrev pub invariant-named_split-loop-before : goal.invariant-named_split-loop-before
invariant-named_split-loop-before l =
    ground_places (λ x more j. ground_named l.problem l.rest (plain_formula_view l.f) more j) ways.All (fixings_view l.fixings) l.object.0 (places l.problem l.object.0) l.fn.counter
    ≡ behind (map cond_view l.children.items) (gather (λ s j. alone (ground_place (λ x more i. ground_named l.problem l.rest (plain_formula_view l.f) more i) ways.All (fixings_view l.fixings) l.object.0 s j)) (drop l.before (places l.problem l.object.0)) l.counter)
