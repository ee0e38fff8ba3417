use Rattle.std.proofs.Common.{◌≡◌, length}
use Rattle.geo_tokens.specs.Reading.{many_at}
use Rattle.geo_tokens.specs.Gives.{with_front}
use Rattle.problem_data.specs.Marks.{statement_firsts}
use Rattle.problem_syntax.specs.Reading.{statement_at}
use Rattle.problem_data.specs.View.{statement_views}
use Rattle.problem_syntax.proofs.statements.statements.Given as goal

-- what was read, with what is read behind it, is the whole
abbrev pub invariant-items : goal.invariant-items
invariant-items l = with_front (statement_views l.read) (many_at statement_firsts (statement_at l.text l.levels l.second) l.rest) ≡ many_at statement_firsts (statement_at l.text l.levels l.second) l.fn.tokens

abbrev pub decreases-items : goal.decreases-items
decreases-items l = length l.rest
