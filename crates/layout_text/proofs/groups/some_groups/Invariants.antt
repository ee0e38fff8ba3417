use Rattle.std.proofs.Common.{◌≡◌, length}
use Rattle.geo_tokens.specs.declared.token.Sym.TheVariants.{Slash}
use Rattle.geo_tokens.specs.Words.{symbol}
use Rattle.geo_tokens.specs.Reading.{many_at}
use Rattle.geo_tokens.specs.Gives.{with_front}
use Rattle.layout_text.specs.Reading.{next_group_at, some_groups_at}
use Rattle.layout_text.specs.View.{group_views}
use Rattle.layout_text.proofs.groups.some_groups.Given as goal

-- what was read, with what is read behind it, is the whole
abbrev pub invariant-items : goal.invariant-items
invariant-items l = with_front (group_views l.read) (many_at (symbol Slash) next_group_at l.rest) ≡ some_groups_at l.fn.tokens

abbrev pub decreases-items : goal.decreases-items
decreases-items l = length l.rest
