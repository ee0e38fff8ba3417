use Rattle.std.proofs.Common.{◌≡◌, ◌*◌, ◌≤◌}
use Rattle.std.specs.List.{range_with_len}
use Rattle.rule_ground.specs.BoxCounts.{total, box_count}
use Rattle.rule_ground.proofs.counts.count_within.Given as goal

abbrev pub invariant-loop-o : goal.invariant-loop-o
invariant-loop-o l = record { is : l.sum ≡ total (λ o. box_count l.problem o * (l.problem.dims * 2)) (range_with_len 0 l.o); few : l.sum ≤ l.o * (200 * 65536) }
