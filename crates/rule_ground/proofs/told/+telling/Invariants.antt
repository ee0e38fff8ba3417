use Rattle.std.proofs.Common.{◌+◌, ◌*◌}
use Rattle.rule_expand.specs.Counts.{nodes, nodes_in}
use Rattle.rule_expand.specs.PlainView.{plain_formula_view, plain_formulas_view}
use Rattle.rule_ground.proofs.told.+telling.Given as goal

abbrev pub decreases-told_of : goal.decreases-told_of
decreases-told_of l = 2 * nodes (plain_formula_view l.f.now)

abbrev pub decreases-told_operands : goal.decreases-told_operands
decreases-told_operands l = 2 * nodes_in (plain_formulas_view l.fs.now) + 1

abbrev pub decreases-told_implication : goal.decreases-told_implication
decreases-told_implication l = 2 * (nodes (plain_formula_view l.f.now) + nodes (plain_formula_view l.g.now)) + 1
