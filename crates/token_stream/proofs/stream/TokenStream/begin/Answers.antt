use Rattle.std.proofs.Common.{◌≡◌, [], ◌∷◌, true, sym, ap, ◌∙◌, subst, arith}
use Rattle.token_stream.specs.declared.stream.TokenStream.{TokenStream}
use Rattle.token_stream.specs.declared.word.Word.{Word}
use Rattle.token_stream.specs.declared.run.Run.{Run}
use Rattle.token_stream.specs.Run.{IsRun, is_word}
use Rattle.token_stream.specs.Word.{IsWordOf}
use Rattle.token_stream.proofs.Runs.{word_is}
use Rattle.token_stream.proofs.stream.TokenStream.begin.Goals as goal
use Rattle.token_stream.proofs.stream.TokenStream.begin.Goals.{in-Word, in_default}

pub returns-after-run-clause-begun : goal.returns-after-run-clause-begun
returns-after-run-clause-begun c =
    let word : is_word c.in-Some.run' ≡ true → IsWordOf c.match-run.self.word [] = λ e. elim c.match-run.branch [
      | in-Word w ↦ subst (λ (u : Word). IsWordOf u []) (sym (ap (λ (s : TokenStream). s.word) w.self-is)) w.new-self.ensures
      | in_default w ↦ absurd (w.in_default.not-Word (word_is c.in-Some.run' e))
    ] in
    let start : c.match-run.self.start ≡ c.args.self.now.count = elim c.match-run.branch [
      | in-Word w ↦ ap (λ (s : TokenStream). s.start) w.self-is
      | in_default w ↦ ap (λ (s : TokenStream). s.start) w.self-is
    ] in
    let count : c.match-run.self.count ≡ c.args.self.now.count = elim c.match-run.branch [
      | in-Word w ↦ ap (λ (s : TokenStream). s.count) w.self-is
      | in_default w ↦ ap (λ (s : TokenStream). s.count) w.self-is
    ] in (
      record {
        run = subst (λ (run : Run). IsRun run (c.args.byte ∷ [])) (sym c.put.ensures.run) (c.in-Some.ensures {u = tt});
        word = λ e. (let e' : is_word c.in-Some.run' ≡ true = ap is_word (sym c.put.ensures.run) ∙ e in c.put.ensures.word e' [] (omega arith) (word e'));
        place = omega (arith, c.put.ensures.start, c.put.ensures.counted, start, count);
      },
      c.put.ensures.start ∙ start,
    )
