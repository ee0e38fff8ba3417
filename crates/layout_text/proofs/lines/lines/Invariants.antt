use Rattle.std.proofs.Common.{◌≡◌, length}
use Rattle.geo_tokens.specs.Words.{names}
use Rattle.geo_tokens.specs.Reading.{many_at}
use Rattle.geo_tokens.specs.Gives.{with_front}
use Rattle.layout_text.specs.Reading.{line_at}
use Rattle.layout_text.specs.View.{line_views}
use Rattle.layout_text.proofs.lines.lines.Given as goal

-- what was read, with what is read behind it, is the whole
abbrev pub invariant-items : goal.invariant-items
invariant-items l = with_front (line_views l.read) (many_at names (line_at l.text) l.rest) ≡ many_at names (line_at l.text) l.fn.tokens

abbrev pub decreases-items : goal.decreases-items
decreases-items l = length l.rest
