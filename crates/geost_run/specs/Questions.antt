-- What each command asks.
use Rattle.std.specs.Prelude.{List, ℕ}
use Rattle.std.specs.Option.{option_copied}
use Rattle.command_input.specs.declared.command.Command.{Command}
use Rattle.command_input.specs.declared.command.Command.TheVariants.{
  First,
  Show,
  Judge,
  Check,
  Draw,
  All,
  Make,
  Best,
  CheckBest,
  Load,
  Why,
  ToJson,
  FromJson,
  FirstJson,
}
use Rattle.command_input.specs.declared.command.Status.{Status}
use Rattle.command_reply.specs.Question.{Question, FrontOf}
use Rattle.check_commands.specs.Check.{check_question}
use Rattle.check_commands.specs.CheckBest.{check_best_question}
use Rattle.json_commands.specs.FromJson.{from_json_question}
use Rattle.json_commands.specs.ToJson.{to_json_question}
use Rattle.json_search_commands.specs.FirstJson.{first_json_question}
use Rattle.layout_commands.specs.Draw.{draw_question}
use Rattle.layout_commands.specs.Judge.{judge_question}
use Rattle.layout_commands.specs.Load.{load_question}
use Rattle.search_commands.specs.All.{all_question}
use Rattle.search_commands.specs.Best.{best_question}
use Rattle.search_commands.specs.First.{first_question}
use Rattle.search_commands.specs.Make.{make_question}
use Rattle.search_commands.specs.Why.{why_question}
use Rattle.text_commands.specs.Show.{show_question}

-- What each command asks: one line a command.
abbrev pub question_of : Command → Question
question_of (First n) = first_question n
question_of Show = show_question
question_of Judge = judge_question
question_of Check = check_question
question_of Draw = draw_question
question_of (All page) = all_question page.most page.budget (option_copied page.token)
question_of (Make seed n) = make_question seed n
question_of (Best d n) = best_question d n
question_of (CheckBest d e) = check_best_question d e
question_of (Load d) = load_question d
question_of (Why n) = why_question n
question_of ToJson = to_json_question
question_of FromJson = from_json_question
question_of (FirstJson n) = first_json_question n

-- The text and the status that an input has with a command.
abbrev pub AnswerTo : Command → List ℕ → List ℕ → Status → Type 0
AnswerTo command = (question_of command).answer

-- What a command may have written when it was cut off.
abbrev pub BeginsOf : Command → List ℕ → List ℕ → Type 0
BeginsOf command = FrontOf (AnswerTo command)

-- The texts of the input are without a fault. `make` reads none, so that every input is.
abbrev pub IsFaultless : Command → List ℕ → Type 0
IsFaultless command = (question_of command).faultless

-- How many bytes a command takes at most: none, or one text and one byte, or two texts and one
-- byte; a derivation may be longer, and the last piece of it goes past its end.
abbrev pub most_taken : Command → ℕ
most_taken command = (question_of command).most
