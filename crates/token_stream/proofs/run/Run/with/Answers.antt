use Rattle.std.proofs.Common.{sym, ◌∙◌}
use Rattle.token_stream.proofs.Runs.{comment_on, word_on, digits_on}
use Rattle.token_stream.proofs.run.Run.with.Goals as goal

pub returns-in-Comment : goal.returns-in-Comment
returns-in-Comment c = rw c.in-Comment.is (comment_on c.args.byte c.if-byte-ne-LINE_END.true)

pub returns-in-Word : goal.returns-in-Word
returns-in-Word c = rw c.in-Word.is (word_on c.args.byte (sym c.is_word_byte.ensures ∙ c.if-is_word_byte.true))

pub returns-in-Digits : goal.returns-in-Digits
returns-in-Digits c = rw c.in-Digits.is (digits_on c.in-Digits.value c.with_digit.result c.args.byte (sym c.is_digit.ensures ∙ c.if-is_digit.true) c.with_digit.ensures)
