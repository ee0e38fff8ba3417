use Rattle.std.proofs.Common.{inl, inr, sym, ◌∙◌}
use Rattle.token_stream.proofs.Numbers.{is_number, wrong_number}
use Rattle.token_stream.proofs.run.number_ended.Goals as goal

pub returns-then-value-gt-GREATEST-clause-end : goal.returns-then-value-gt-GREATEST-clause-end
returns-then-value-gt-GREATEST-clause-end c = λ rest more run over behind.
    wrong_number c.args.value c.args.next rest more run.0 run.1 over behind (elim c.if-value-gt-GREATEST.either [
      | inl l ↦ inl (sym c.is_letter.ensures ∙ l)
      | inr g ↦ inr g.1
    ])

pub returns-else-value-gt-GREATEST-clause-end : goal.returns-else-value-gt-GREATEST-clause-end
returns-else-value-gt-GREATEST-clause-end c = λ rest more run over behind.
    is_number c.args.value c.args.next rest more run.0 run.1 over behind c.if-value-gt-GREATEST.false.1 (sym c.is_letter.ensures ∙ c.if-value-gt-GREATEST.false.0)
