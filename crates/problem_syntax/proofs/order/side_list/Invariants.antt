use Rattle.std.proofs.Common.{◌≡◌, length}
use Rattle.geo_tokens.specs.Reading.{many_at}
use Rattle.geo_tokens.specs.Gives.{with_front}
use Rattle.problem_data.specs.Marks.{side_words}
use Rattle.problem_syntax.specs.Reading.{side_at, side_list_at}
use Rattle.problem_syntax.proofs.order.side_list.Given as goal

-- what was read, with what is read behind it, is the whole
abbrev pub invariant-items : goal.invariant-items
invariant-items l = with_front l.read.items (many_at side_words side_at l.rest) ≡ side_list_at l.fn.tokens

abbrev pub decreases-items : goal.decreases-items
decreases-items l = length l.rest
