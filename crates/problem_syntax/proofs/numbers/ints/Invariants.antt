use Rattle.std.proofs.Common.{◌≡◌, length}
use Rattle.geo_tokens.specs.Reading.{many_at}
use Rattle.geo_tokens.specs.Gives.{with_front}
use Rattle.problem_data.specs.Marks.{int_firsts}
use Rattle.problem_syntax.specs.Reading.{int_at, ints_at}
use Rattle.problem_syntax.proofs.numbers.ints.Given as goal

-- what was read, with what is read behind it, is the whole
abbrev pub invariant-items : goal.invariant-items
invariant-items l = with_front l.read.items (many_at int_firsts int_at l.rest) ≡ ints_at l.fn.tokens

abbrev pub decreases-items : goal.decreases-items
decreases-items l = length l.rest
