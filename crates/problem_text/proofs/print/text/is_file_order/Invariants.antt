use Rattle.std.proofs.Common.{◌≡◌, drop}
use Rattle.problem_text.specs.Canonical.{counts_from}
use Rattle.problem_text.proofs.print.text.is_file_order.Given as goal

abbrev pub invariant-positions : goal.invariant-positions
invariant-positions l = counts_from l.place (drop l.place l.order) ≡ counts_from 0 l.fn.order
