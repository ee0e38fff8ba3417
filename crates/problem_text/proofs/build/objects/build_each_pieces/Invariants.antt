use Rattle.std.proofs.Common.{◌≡◌, take, map}
use Rattle.problem_data.specs.View.{pieces_view}
use Rattle.problem_data.specs.Meaning.{pieces_of}
use Rattle.problem_text.proofs.build.objects.build_each_pieces.Given as goal

-- what was made so far
abbrev pub invariant-loop-pieces : goal.invariant-loop-pieces
invariant-loop-pieces l = l.made.items ≡ map (λ p. pieces_of (pieces_view p)) (take l.pieces-index l.ranges)
