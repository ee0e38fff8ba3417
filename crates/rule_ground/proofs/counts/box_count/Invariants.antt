use Rattle.std.proofs.Common.{◌≡◌, ◌*◌, ◌≤◌, length}
use Rattle.std.specs.List.{range_with_len}
use Rattle.rule_ground.specs.BoxCounts.{total}
use Rattle.rule_values.specs.Shapes.{boxes_at}
use Rattle.rule_ground.proofs.counts.box_count.Given as goal

abbrev pub invariant-loop-before : goal.invariant-loop-before
invariant-loop-before l = record { is : l.count ≡ total (λ s. length (boxes_at l.problem l.o.0 s)) (range_with_len 1 l.before); few : l.count ≤ 16 * l.before }
