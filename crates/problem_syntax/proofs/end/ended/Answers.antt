use Rattle.std.proofs.Common.{refl}
use Rattle.std.specs.Prelude.{Ok, Some}
use Rattle.geo_tokens.specs.declared.token.Sym.TheVariants as symbols
use Rattle.geo_tokens.specs.Words.{symbol}
use Rattle.geo_tokens.specs.Reading.{Got}
use Rattle.geo_tokens.proofs.Followed.{followed}
use Rattle.problem_data.specs.View.{statement_view}
use Rattle.problem_syntax.proofs.end.ended.Goals as goal

pub returns : goal.returns
returns c = followed statement_view (symbol symbols.Semicolon) (Ok (c.args.statement, c.args.tokens)) c.followed_by.result (Got (Some (statement_view c.args.statement)) c.args.tokens.now) c.followed_by.ensures refl
