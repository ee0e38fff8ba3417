use Rattle.std.proofs.Common.{◌∙◌}
use Rattle.token_stream.proofs.Words.{long_word, is_name}
use Rattle.token_stream.proofs.word.Word.ended.Goals as goal

pub returns-then-self-gt-NAME_BYTES : goal.returns-then-self-gt-NAME_BYTES
returns-then-self-gt-NAME_BYTES c = λ rest more of made over. long_word c.args.self.now rest more of made over c.if-self-gt-NAME_BYTES.true

pub returns-in-None : goal.returns-in-None
returns-in-None c = λ rest more of made over.
    is_name c.args.self.now rest more of made over c.if-self-gt-NAME_BYTES.false (λ w e. c.in-None.ensures {u = tt} w (c.bytes.ensures ∙ e))
