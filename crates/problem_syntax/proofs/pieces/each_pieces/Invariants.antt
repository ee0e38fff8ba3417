use Rattle.std.proofs.Common.{◌≡◌, length}
use Rattle.geo_tokens.specs.Reading.{many_at}
use Rattle.geo_tokens.specs.Gives.{with_front}
use Rattle.problem_data.specs.Marks.{int_firsts}
use Rattle.problem_data.specs.View.{pieces_views}
use Rattle.problem_syntax.specs.Reading.{pieces_at, each_pieces_at}
use Rattle.problem_syntax.proofs.pieces.each_pieces.Given as goal

-- what was read, with what is read behind it, is the whole
abbrev pub invariant-items : goal.invariant-items
invariant-items l = with_front (pieces_views l.read) (many_at int_firsts (pieces_at l.second) l.rest) ≡ each_pieces_at l.second l.fn.tokens

abbrev pub decreases-items : goal.decreases-items
decreases-items l = length l.rest
