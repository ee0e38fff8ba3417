use Rattle.std.proofs.Common.{◌≡◌, length}
use Rattle.problem_syntax.proofs.EndedLoop.{with_items}
use Rattle.problem_syntax.specs.Reading.{more_shapes_at, names_or_absent_at}
use Rattle.problem_syntax.proofs.shapes.names_or_absent.Given as goal

-- what was read, with what is read behind it, is the whole
abbrev pub invariant-items : goal.invariant-items
invariant-items l = with_items l.names.items (more_shapes_at l.text l.rest) ≡ names_or_absent_at l.text l.fn.tokens

abbrev pub decreases-items : goal.decreases-items
decreases-items l = length l.rest
