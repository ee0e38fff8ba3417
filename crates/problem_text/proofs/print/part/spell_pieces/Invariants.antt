use Rattle.std.proofs.Common.{◌≡◌, ◌++◌, map, drop}
use Rattle.rule_print.specs.Canonical.{written}
use Rattle.problem_text.specs.Canonical.{listed, range_spelling}
use Rattle.problem_data.specs.ProblemView.{range_data}
use Rattle.problem_text.proofs.PrintingLists.{left_listed}
use Rattle.problem_text.proofs.print.part.spell_pieces.Given as goal

abbrev pub invariant-pieces : goal.invariant-pieces
invariant-pieces l = map written l.into.items ++ left_listed l.is_first range_spelling (map range_data (drop l.piece-index l.pieces)) ≡ map written l.fn.into.items ++ listed range_spelling (map range_data l.fn.pieces)
