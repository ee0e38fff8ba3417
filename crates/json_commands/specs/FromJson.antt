-- What `from_json` answers.
use Rattle.std.specs.Prelude.{◌≡◌, List, ℕ}
use Rattle.problem_data.specs.Problem.{ProblemData}
use Rattle.problem_text.specs.Canonical.{problem_text}
use Rattle.command_input.specs.declared.command.Status.{Status}
use Rattle.command_input.specs.declared.command.Status.TheVariants.{Answered, Refused}
use Rattle.command_reply.specs.Accepted.{IsAccepted}
use Rattle.command_reply.specs.Question.{Question}
use Rattle.command_reply.specs.Refusal.{RefusedAnswer}
use Rattle.json_commands.specs.Reading.{json_question}

-- the text of statements is that of a problem, and the text its canonical spelling
pub record SpellsAgain (built text : List ℕ) : Type 0 where
  pub problem : ProblemData
  pub accepted : IsAccepted built problem
  pub says : text ≡ problem_text problem

-- the text and the status that answer a text of statements
abbrev pub RepliesBuilt : List ℕ → List ℕ → Status → Type 0
RepliesBuilt built text Answered = SpellsAgain built text
RepliesBuilt built text Refused = RefusedAnswer built text
RepliesBuilt built text _ = ⊥

-- The canonical spelling of a problem; any other text of statements is refused at its first fault.
abbrev pub built_question : Question
built_question = record {
  answer = RepliesBuilt;
  differ = λ input status text other. ⊥;
  faultless = λ input. (p : ProblemData) × IsAccepted input p;
  most = 1048577;
}

-- `from_json`. The canonical spelling of the problem that the value of the text spells.
abbrev pub from_json_question : Question
from_json_question = json_question built_question
