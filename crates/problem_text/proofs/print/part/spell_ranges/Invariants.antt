use Rattle.std.proofs.Common.{◌≡◌, ◌++◌, map, drop}
use Rattle.std.specs.Prelude.{flat_map}
use Rattle.rule_print.specs.Canonical.{written}
use Rattle.problem_text.specs.Canonical.{range_spelling}
use Rattle.problem_data.specs.ProblemView.{range_data}
use Rattle.problem_text.proofs.print.part.spell_ranges.Given as goal

abbrev pub invariant-each : goal.invariant-each
invariant-each l = map written l.into.items ++ flat_map range_spelling (map range_data (drop l.range-index l.ranges)) ≡ map written l.fn.into.items ++ flat_map range_spelling (map range_data l.fn.ranges)
