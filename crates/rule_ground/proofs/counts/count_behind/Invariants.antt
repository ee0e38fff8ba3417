use Rattle.std.proofs.Common.{◌≡◌, ◌+◌, ◌-◌, ◌*◌, ◌≤◌}
use Rattle.std.specs.List.{range_with_len}
use Rattle.rule_ground.specs.BoxCounts.{total, box_count}
use Rattle.rule_ground.proofs.counts.count_behind.Given as goal

abbrev pub invariant-loop-j : goal.invariant-loop-j
invariant-loop-j l = record { is : l.sum ≡ total (λ j. box_count l.problem l.i * box_count l.problem j) (range_with_len (l.i + 1) (l.j - (l.i + 1))); few : l.sum ≤ l.j * 65536 }
