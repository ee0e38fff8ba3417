use Rattle.std.proofs.Common.{◌≡◌, length}
use Rattle.geo_tokens.specs.declared.token.Sym.TheVariants as symbols
use Rattle.geo_tokens.specs.Words.{symbol}
use Rattle.geo_tokens.specs.Reading.{many_at}
use Rattle.geo_tokens.specs.Gives.{with_front}
use Rattle.problem_syntax.specs.Reading.{next_at, listed_at, range_at}
use Rattle.problem_syntax.proofs.pieces.listed_ranges.Given as goal

-- what was read, with what is read behind it, is the whole
abbrev pub invariant-items : goal.invariant-items
invariant-items l = with_front l.read.items (many_at (symbol symbols.Comma) (next_at range_at) l.rest) ≡ listed_at range_at l.fn.tokens

abbrev pub decreases-items : goal.decreases-items
decreases-items l = length l.rest
