use Rattle.std.proofs.Common.{◌≡◌, ◌*◌, ◌≤◌, length}
use Rattle.std.specs.List.{range_with_len}
use Rattle.rule_ground.specs.BoxCounts.{total}
use Rattle.rule_ground.specs.Apart.{apart_behind}
use Rattle.rule_ground.proofs.counts.count_apart.Given as goal

abbrev pub invariant-loop-i : goal.invariant-loop-i
invariant-loop-i l = record { is : l.sum ≡ total (λ i. length (apart_behind l.problem i)) (range_with_len 0 l.i); few : l.sum ≤ l.i * (200 * 65536) }
