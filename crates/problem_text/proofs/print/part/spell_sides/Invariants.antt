use Rattle.std.proofs.Common.{◌≡◌, ◌++◌, map, drop}
use Rattle.std.specs.Prelude.{flat_map}
use Rattle.rule_print.specs.Canonical.{written}
use Rattle.problem_text.specs.Canonical.{side_spelling}
use Rattle.problem_text.proofs.print.part.spell_sides.Given as goal

abbrev pub invariant-sides : goal.invariant-sides
invariant-sides l = map written l.into.items ++ flat_map side_spelling (drop l.side-index l.sides) ≡ map written l.fn.into.items ++ flat_map side_spelling l.fn.sides
