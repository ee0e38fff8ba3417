use Rattle.std.proofs.Common.{◌≡◌, ◌++◌}
use Rattle.std.specs.List.{flat_map, range_with_len}
use Rattle.std.specs.Prelude.{[], slice_index_or}
use Rattle.search_commands.specs.Why.{without_line}
use Rattle.search_commands.proofs.core_lines.push_layouts.Given as goal

-- the lines and the blocks before it
abbrev pub invariant-loop-k : goal.invariant-loop-k
invariant-loop-k l = l.text.items ≡ l.initial.text.items ++ flat_map (λ k. without_line l.problem (slice_index_or l.rules k 0) (slice_index_or l.layouts k [])) (range_with_len 0 l.k)
