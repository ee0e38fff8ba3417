use Rattle.std.proofs.Common.{◌≡◌, length}
use Rattle.geo_tokens.specs.declared.token.Keyword.TheVariants as keywords
use Rattle.geo_tokens.specs.Words.{word}
use Rattle.geo_tokens.specs.Reading.{many_at}
use Rattle.geo_tokens.specs.Gives.{with_front}
use Rattle.problem_syntax.specs.Reading.{box_at, boxes_at}
use Rattle.problem_data.specs.View.{box_views}
use Rattle.problem_syntax.proofs.objects.boxes.Given as goal

-- what was read, with what is read behind it, is the whole
abbrev pub invariant-items : goal.invariant-items
invariant-items l = with_front (box_views l.read) (many_at (word keywords.Box) box_at l.rest) ≡ boxes_at l.fn.tokens

abbrev pub decreases-items : goal.decreases-items
decreases-items l = length l.rest
