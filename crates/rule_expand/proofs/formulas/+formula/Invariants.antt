use Rattle.std.proofs.Common.{◌+◌, ◌*◌, drop}
use Rattle.std.specs.Option.{option_map_or}
use Rattle.rule_syntax.specs.View.{formula_view}
use Rattle.problem_data.specs.Value.{macro_position}
use Rattle.rule_expand.specs.Costs.{formula_cost, formulas_cost, formula_costs_of}
use Rattle.rule_expand.specs.Expansion.{expansions_of}
use Rattle.rule_expand.specs.ScopeView.{scope_view}
use Rattle.rule_expand.proofs.Operands.{Continues, formula_trees}
use Rattle.rule_expand.proofs.formulas.+formula.Given as goal

abbrev pub decreases-expand_formula : goal.decreases-expand_formula
decreases-expand_formula l = 8 * formula_cost (formula_costs_of l.source.now.problem.now l.in_sight) l.source.now.problem.now (formula_view l.f.now)

abbrev pub decreases-expand_negation : goal.decreases-expand_negation
decreases-expand_negation l = 8 * formula_cost (formula_costs_of l.source.now.problem.now l.in_sight) l.source.now.problem.now (formula_view l.f.now) + 1

abbrev pub decreases-expand_all_of : goal.decreases-expand_all_of
decreases-expand_all_of l = 8 * formulas_cost (formula_costs_of l.source.now.problem.now l.in_sight) l.source.now.problem.now (formula_trees l.fs.now) + 2

abbrev pub decreases-expand_any_of : goal.decreases-expand_any_of
decreases-expand_any_of l = 8 * formulas_cost (formula_costs_of l.source.now.problem.now l.in_sight) l.source.now.problem.now (formula_trees l.fs.now) + 2

abbrev pub decreases-expand_each : goal.decreases-expand_each
decreases-expand_each l = 8 * formulas_cost (formula_costs_of l.source.now.problem.now l.in_sight) l.source.now.problem.now (formula_trees l.fs.now) + 1

abbrev pub decreases-expand_pair : goal.decreases-expand_pair
decreases-expand_pair l = 8 * (formula_cost (formula_costs_of l.source.now.problem.now l.in_sight) l.source.now.problem.now (formula_view l.f.now) + formula_cost (formula_costs_of l.source.now.problem.now l.in_sight) l.source.now.problem.now (formula_view l.g.now)) + 1

abbrev pub decreases-expand_implication : goal.decreases-expand_implication
decreases-expand_implication l = 8 * (formula_cost (formula_costs_of l.source.now.problem.now l.in_sight) l.source.now.problem.now (formula_view l.f.now) + formula_cost (formula_costs_of l.source.now.problem.now l.in_sight) l.source.now.problem.now (formula_view l.g.now)) + 2

abbrev pub decreases-expand_equivalence : goal.decreases-expand_equivalence
decreases-expand_equivalence l = 8 * (formula_cost (formula_costs_of l.source.now.problem.now l.in_sight) l.source.now.problem.now (formula_view l.f.now) + formula_cost (formula_costs_of l.source.now.problem.now l.in_sight) l.source.now.problem.now (formula_view l.g.now)) + 2

abbrev pub decreases-expand_quantified : goal.decreases-expand_quantified
decreases-expand_quantified l = 8 * formula_cost (formula_costs_of l.source.now.problem.now l.in_sight) l.source.now.problem.now (formula_view l.f.now) + 1

abbrev pub decreases-expand_formula_call : goal.decreases-expand_formula_call
decreases-expand_formula_call l = 8 * option_map_or (formula_costs_of l.source.now.problem.now l.in_sight) (macro_position l.source.now.problem.now l.m.now.name) 0 + 1

abbrev pub invariant-expand_each-loop-f : goal.invariant-expand_each-loop-f
invariant-expand_each-loop-f l = Continues (expansions_of l.source.problem.now l.in_sight) l.source.problem.now (formula_trees l.fs) (formula_trees (drop l.f-index l.fs)) (scope_view l.source.problem.now l.scope) l.fn.next l.fn.room l.deep l.next l.room l.parts.items
