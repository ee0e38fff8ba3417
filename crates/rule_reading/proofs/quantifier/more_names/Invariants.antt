use Rattle.std.proofs.Common.{◌≡◌, length}
use Rattle.geo_tokens.specs.Words.{symbol}
use Rattle.geo_tokens.specs.Reading.{many_at}
use Rattle.geo_tokens.specs.Gives.{with_front}
use Rattle.geo_tokens.specs.declared.token.Sym.TheVariants as syms
use Rattle.rule_syntax.specs.Reading.{next_name_at}
use Rattle.rule_syntax.specs.View.{names_view}
use Rattle.rule_reading.proofs.quantifier.more_names.Given as goal

abbrev pub invariant-items : goal.invariant-items
invariant-items l = with_front (names_view l.names) (many_at (symbol syms.Comma) (next_name_at l.text) l.rest) ≡ many_at (symbol syms.Comma) (next_name_at l.text) l.fn.tokens

abbrev pub decreases-items : goal.decreases-items
decreases-items l = length l.rest
