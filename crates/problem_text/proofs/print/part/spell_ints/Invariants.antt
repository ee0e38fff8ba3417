use Rattle.std.proofs.Common.{◌≡◌, ◌++◌, map, drop}
use Rattle.std.specs.Prelude.{flat_map}
use Rattle.rule_print.specs.Canonical.{written}
use Rattle.problem_text.specs.Canonical.{int_spelling}
use Rattle.problem_text.proofs.print.part.spell_ints.Given as goal

abbrev pub invariant-values : goal.invariant-values
invariant-values l = map written l.into.items ++ flat_map int_spelling (drop l.value-index l.values) ≡ map written l.fn.into.items ++ flat_map int_spelling l.fn.values
