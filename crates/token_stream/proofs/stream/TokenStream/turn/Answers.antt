use Rattle.std.proofs.Common.{ap, refl}
use Rattle.geo_tokens.specs.declared.token.Kind.{Kind}
use Rattle.token_stream.specs.declared.run.Ended.TheVariants as ends
use Rattle.token_stream.proofs.Runs.{word_over}
use Rattle.token_stream.proofs.Turns.{gap_begun, gap_stuck, token_begun, token_stuck, token_counted, token_named, bad_now}
use Rattle.token_stream.proofs.stream.TokenStream.turn.Goals as goal

pub returns-then-begin-clause-taken : goal.returns-then-begin-clause-taken
returns-then-begin-clause-taken c = λ over text ts has.
    gap_begun c.args.self.now text ts has c.args.byte over c.begin.new.self c.in-Gap.ensures.end c.if-begin.ensures.begun c.begin.ensures.counted

pub returns-else-begin-clause-taken : goal.returns-else-begin-clause-taken
returns-else-begin-clause-taken c = λ over text ts has.
    gap_stuck c.args.self.now text ts has c.args.byte over c.in-Gap.ensures.end c.if-begin.ensures.begun

pub returns-then-begin-2-clause-taken : goal.returns-then-begin-2-clause-taken
returns-then-begin-2-clause-taken c = λ over text ts has. (
  token_begun c.args.self.now text ts has c.args.byte over c.begin-in-Token.new.self c.in-Token.kind c.in-Token.ensures.end c.if-begin-2.ensures.begun c.begin-in-Token.ensures.counted,
  token_counted c.args.self.now text ts has c.args.byte over,
  token_named c.args.self.now text ts has c.args.byte over c.begin-in-Token.new.self c.in-Token.kind c.in-Token.ensures.end (λ e.
      let w = c.in-Token.ensures.name (ap (λ (k : Kind). ends.Token k) e) in
      (w, c.begin-in-Token.ensures.word (word_over c.args.self.now.run c.args.byte w over))),
)

pub returns-else-begin-2-clause-taken : goal.returns-else-begin-2-clause-taken
returns-else-begin-2-clause-taken c = λ over text ts has. (
  token_stuck c.args.self.now text ts has c.args.byte over c.in-Token.kind c.in-Token.ensures.end c.if-begin-2.ensures.begun,
  token_counted c.args.self.now text ts has c.args.byte over,
  refl,
  token_named c.args.self.now text ts has c.args.byte over c.begin-in-Token.new.self c.in-Token.kind c.in-Token.ensures.end (λ e.
      let w = c.in-Token.ensures.name (ap (λ (k : Kind). ends.Token k) e) in
      (w, c.begin-in-Token.ensures.word (word_over c.args.self.now.run c.args.byte w over))),
)

pub returns-in-Bad-clause-taken : goal.returns-in-Bad-clause-taken
returns-in-Bad-clause-taken c = λ over text ts has. bad_now c.args.self.now text ts has c.args.byte over c.in-Bad.word c.in-Bad.ensures.end
