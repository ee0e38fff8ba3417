use Rattle.std.proofs.Common.{ap}
use Rattle.geo_tokens.specs.declared.token.Kind.{Kind}
use Rattle.token_stream.specs.declared.run.Ended.TheVariants as ends
use Rattle.token_stream.proofs.Turns.{gap_last, token_last, name_last, bad_last}
use Rattle.token_stream.proofs.stream.TokenStream.finish.Goals as goal

pub returns-in-Gap : goal.returns-in-Gap
returns-in-Gap c = λ text ts has. gap_last c.args.self.now text ts has c.in-Gap.ensures.end

pub returns-in-Token : goal.returns-in-Token
returns-in-Token c = λ text ts has. (
  token_last c.args.self.now text ts has c.in-Token.kind c.in-Token.ensures.end,
  has.count,
  name_last c.args.self.now text ts has c.in-Token.kind c.in-Token.ensures.end (λ e. c.in-Token.ensures.name (ap (λ (k : Kind). ends.Token k) e)),
)

pub returns-in-Bad : goal.returns-in-Bad
returns-in-Bad c = λ text ts has. bad_last c.args.self.now text ts has c.in-Bad.word c.in-Bad.ensures.end
