use Rattle.std.proofs.Common.{◌≡◌, ◌+◌, ◌-◌, ◌≤◌, length, drop}
use Rattle.std.specs.List.{prefix_len}
use Rattle.geo_tokens.specs.Bytes.{is_line_byte}
use Rattle.geo_tokens.proofs.front.line_len.Given as goal

abbrev pub invariant-loop-n : goal.invariant-loop-n
invariant-loop-n l = record { in_range : l.n ≤ length l.bytes; rest : l.n + prefix_len is_line_byte (drop l.n l.bytes) ≡ prefix_len is_line_byte l.bytes }

abbrev pub decreases-loop-n : goal.decreases-loop-n
decreases-loop-n l = length l.initial.bytes - l.n
