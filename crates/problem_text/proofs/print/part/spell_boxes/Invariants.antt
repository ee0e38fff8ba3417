use Rattle.std.proofs.Common.{◌≡◌, ◌++◌, map, drop}
use Rattle.std.specs.Prelude.{flat_map}
use Rattle.rule_print.specs.Canonical.{written}
use Rattle.problem_text.specs.Canonical.{box_spelling}
use Rattle.problem_text.proofs.print.part.spell_boxes.Given as goal

abbrev pub invariant-boxes : goal.invariant-boxes
invariant-boxes l = map written l.into.items ++ flat_map box_spelling (drop l.own-index l.boxes) ≡ map written l.fn.into.items ++ flat_map box_spelling l.fn.boxes
