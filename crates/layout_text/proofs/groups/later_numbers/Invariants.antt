use Rattle.std.proofs.Common.{◌≡◌, length}
use Rattle.geo_tokens.specs.declared.token.Sym.TheVariants.{Comma}
use Rattle.geo_tokens.specs.Words.{symbol}
use Rattle.geo_tokens.specs.Reading.{many_at}
use Rattle.geo_tokens.specs.Gives.{with_front}
use Rattle.problem_syntax.specs.Reading.{next_at, int_at}
use Rattle.layout_text.proofs.groups.later_numbers.Given as goal

-- what was read, with what is read behind it, is the whole
abbrev pub invariant-items : goal.invariant-items
invariant-items l = with_front l.read.items (many_at (symbol Comma) (next_at int_at) l.rest) ≡ many_at (symbol Comma) (next_at int_at) l.fn.tokens

abbrev pub decreases-items : goal.decreases-items
decreases-items l = length l.rest
