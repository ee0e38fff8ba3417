use Rattle.std.proofs.Common.{◌≡◌, ◌++◌, map, drop}
use Rattle.std.specs.Prelude.{flat_map}
use Rattle.rule_print.specs.Canonical.{written}
use Rattle.problem_text.specs.Canonical.{pieces_spelling}
use Rattle.problem_text.proofs.print.part.spell_each_pieces.Given as goal

abbrev pub invariant-each : goal.invariant-each
invariant-each l = map written l.into.items ++ flat_map pieces_spelling (drop l.pieces-index l.ranges) ≡ map written l.fn.into.items ++ flat_map pieces_spelling l.fn.ranges
