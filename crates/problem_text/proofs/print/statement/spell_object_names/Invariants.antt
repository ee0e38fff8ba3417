use Rattle.std.proofs.Common.{◌≡◌, ◌++◌, map, drop}
use Rattle.rule_print.specs.Canonical.{written}
use Rattle.problem_text.specs.Canonical.{listed, name_spelling, name_at}
use Rattle.problem_text.proofs.PrintingLists.{left_listed}
use Rattle.problem_text.proofs.print.statement.spell_object_names.Given as goal

abbrev pub invariant-positions : goal.invariant-positions
invariant-positions l = map written l.into.items ++ left_listed l.is_first (λ i. name_spelling (name_at (map (λ o. o.name) l.objects) i)) (drop l.position-index l.positions) ≡ map written l.fn.into.items ++ listed (λ i. name_spelling (name_at (map (λ o. o.name) l.fn.objects) i)) l.fn.positions
