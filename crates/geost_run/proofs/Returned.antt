-- What `to_json` writes of a text, `from_json` answers as `show` answers that text.
use Rattle.std.proofs.Common.{◌≡◌, inl, inr, ℕ, ◌≤◌, List, length, sym, ap, ◌∙◌, subst}
use Rattle.command_input.specs.declared.command.Command.TheVariants.{FromJson, ToJson}
use Rattle.command_input.specs.declared.command.Status.{Status}
use Rattle.command_input.specs.declared.command.Status.TheVariants.{Answered}
use Rattle.command_input.specs.Words.{HasForm}
use Rattle.command_reply.proofs.Refusals.{same_problem}
use Rattle.json_commands.specs.Reading.{spelled}
use Rattle.json_commands.specs.ToJson.{WritesProblem}
use Rattle.json_commands.proofs.Spelled.{from_json_sound}
use Rattle.json_round_trip.specs.Return.{IsShownAgain}
use Rattle.json_round_trip.proofs.Return.{problem_returns}
use Rattle.json_round_trip.proofs.Spelled.{line_spells}
use Rattle.json_sheets.specs.SheetText.{sheet_text, TextSpells}
use Rattle.json_sheets.proofs.Alike.{one_built}
use Rattle.geo_json.specs.SheetOf.{sheet_of}
use Rattle.problem_data.specs.Accepted.{most_bytes, IsSaid}
use Rattle.problem_data.specs.Problem.{ProblemData}
use Rattle.problem_data.proofs.SomeRules.{wholly_said}
use Rattle.problem_text.specs.Canonical.{problem_text}
use Rattle.text_commands.specs.Show.{ShowsProblem}
use Rattle.geost_run.specs.Answer.{Answer}
use Rattle.geost_run.specs.Headline.{IsTheAnswer, IsShort, PromisesReturn}
use Rattle.geost_run.specs.Questions.{AnswerTo}
use Rattle.geost_run.proofs.OneQuestion.{answers_to}

-- an answer of `from_json` is the only one
only_answer : (text shown : List ℕ) → AnswerTo FromJson text shown Answered → IsTheAnswer FromJson text shown Answered
only_answer text shown a = record {
  answers = a;
  only = λ other another b.
      let e : Answered ≡ another = from_json_sound.one_status text shown other Answered another a b in
      let same : AnswerTo FromJson text other Answered = subst (λ (s : Status). AnswerTo FromJson text other s) (sym e) b in
      (elim (from_json_sound.one_text text shown other Answered a same) [ inl is ↦ sym is | inr d ↦ absurd d.2 ], sym e);
}

written_returns : (input text shown : List ℕ) → WritesProblem input text → IsShort text → ShowsProblem input shown → AnswerTo FromJson text shown Answered
written_returns input text shown a short b =
    let p : ProblemData = a.problem in
    let said : IsSaid p = wholly_said p (record { text = input; accepts = a.accepted.spells }) in
    let spells : TextSpells text (sheet_text (sheet_of p)) = subst (λ (t : List ℕ). TextSpells t (sheet_text (sheet_of p))) (sym a.says) (line_spells p said) in
    let built : short.built ≡ sheet_text (sheet_of p) = one_built text short.built (sheet_text (sheet_of p)) short.spells spells in
    let small : length (sheet_text (sheet_of p)) ≤ most_bytes = subst (λ (t : List ℕ). length t ≤ most_bytes) built short.small in
    let back : IsShownAgain short.built (problem_text p) = subst (λ (t : List ℕ). IsShownAgain t (problem_text p)) (sym built)
    (problem_returns p said (record { names = a.accepted.names; expands = a.accepted.expands; grounds = a.accepted.grounds }) small) in
    spelled short.few short.built short.spells (record {
      problem = back.problem;
      accepted = record { spells = back.accepts; names = back.has.names; expands = back.has.expands; grounds = back.has.grounds };
      says = b.says ∙ ap problem_text (same_problem input b.problem p b.accepted a.accepted) ∙ sym back.says;
    })

pub return_headline : (words : List (List ℕ)) → HasForm words ToJson → (input text : List ℕ) → Answer words input text Answered → PromisesReturn input text
return_headline words form input text a = λ short shown b. only_answer text shown (written_returns input text shown (answers_to words ToJson input text Answered form a) short b)
