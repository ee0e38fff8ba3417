use Rattle.std.proofs.Common.{inl, inr, subst}
use Rattle.token_stream.specs.declared.run.Run.{Run}
use Rattle.token_stream.specs.Run.{IsRun, IsOver}
use Rattle.token_stream.proofs.Runs.{space_ended, comment_ended}
use Rattle.token_stream.proofs.stream.TokenStream.ended.Goals as goal

pub returns-in-Space-clause-end : goal.returns-in-Space-clause-end
returns-in-Space-clause-end c = λ rest more has over behind. elim c.in-Space.is [
  | inl e ↦ space_ended rest more (subst (λ (run : Run). IsRun run rest) e has.run)
  | inr e ↦ inr (comment_ended rest more (subst (λ (run : Run). IsRun run rest) e has.run) (subst (λ (run : Run). IsOver run more) e over))
]
