-- What `make` answers.
use Rattle.std.specs.Prelude.{◌≡◌, ◌++◌, ℕ, List, codes, decimal}
use Rattle.geo_base.specs.Tuple.{Tuple}
use Rattle.geo_conditions.specs.declared.cond.Cond.{Cond}
use Rattle.layout_text.specs.Block.{token_line}
use Rattle.problem_data.specs.Problem.{ProblemData}
use Rattle.problem_generator.specs.Made.{made_text}
use Rattle.command_input.specs.declared.command.Status.{Status}
use Rattle.command_input.specs.declared.command.Status.TheVariants.{Answered, No, Budget}
use Rattle.command_reply.specs.Question.{Question}
use Rattle.search_commands.specs.First.{WritesLayout, WritesNone, WritesSpent}

-- objects N and conditions M, each on a line of its own
abbrev pub counts : ℕ → ℕ → List ℕ
counts objects conditions = codes "objects " ++ (decimal objects ++ (codes "\nconditions " ++ (decimal conditions ++ codes "\n")))

-- the numbers of objects and of conditions of each problem that is made, and the lines behind them
abbrev pub summary : List ℕ → List ℕ
summary lines = counts 40 3600 ++ lines

abbrev pub layout_summary : ProblemData → Tuple → List ℕ
layout_summary p t = summary (codes "answer layout\n" ++ token_line t)

abbrev pub IsNoneSummary : ProblemData → List Cond → List ℕ → Type 0
IsNoneSummary p cs text = text ≡ summary (codes "answer none\n")

abbrev pub budget_summary : ProblemData → List ℕ
budget_summary p = summary (codes "answer budget\n")

-- `make SEED N`. A summary of what `first N` finds of the text that is made from the seed, with the
-- token of a layout. That text has no fault, and the input is not looked at.
abbrev pub MakeAnswer : ℕ → ℕ → List ℕ → List ℕ → Status → Type 0
MakeAnswer seed n input text Answered = WritesLayout layout_summary n (made_text seed) text
MakeAnswer seed n input text No = WritesNone IsNoneSummary n (made_text seed) text
MakeAnswer seed n input text Budget = WritesSpent budget_summary n (made_text seed) text
MakeAnswer seed n input text _ = ⊥

-- no input has a fault
abbrev pub make_question : ℕ → ℕ → Question
make_question seed n = record {
  answer = MakeAnswer seed n;
  differ = λ input status text other. ⊥;
  faultless = λ input. Unit {0};
  most = 0;
}
