-- What `draw` answers.
use Rattle.std.specs.Prelude.{◌≡◌, ℕ, List, codes}
use Rattle.geo_base.specs.Tuple.{Tuple}
use Rattle.layout_drawing.specs.Drawing.{IsDrawing, IsLarge}
use Rattle.layout_text.specs.FirstFault as layouts
use Rattle.problem_data.specs.Problem.{ProblemData}
use Rattle.command_input.specs.declared.command.Status.{Status}
use Rattle.command_input.specs.declared.command.Status.TheVariants.{Answered, No, Refused}
use Rattle.command_reply.specs.Given.{Gives}
use Rattle.command_reply.specs.Question.{Question}
use Rattle.command_reply.specs.Refusal.{RefusedPairAnswer}
use Rattle.layout_commands.specs.Judge.{IsGivenTexts}

-- the text is the drawing of the tuple that is given
pub record DrawsTuple (input text : List ℕ) : Type 0 where
  pub problem : ProblemData
  pub tuple : Tuple
  pub gives : Gives input problem tuple
  pub drawing : IsDrawing problem tuple text

-- its drawing would have too many cells
pub record IsTooLarge (input text : List ℕ) : Type 0 where
  pub problem : ProblemData
  pub tuple : Tuple
  pub gives : Gives input problem tuple
  pub large : IsLarge problem tuple
  pub says : text ≡ codes "large\n"

-- `draw`. The drawing of the tuple, or `large` where it would have too many cells; other texts are
-- refused at their first fault.
abbrev pub DrawAnswer : List ℕ → List ℕ → Status → Type 0
DrawAnswer input text Answered = DrawsTuple input text
DrawAnswer input text No = IsTooLarge input text
DrawAnswer input text Refused = RefusedPairAnswer layouts.HasFaultFrom input text
DrawAnswer input text _ = ⊥

abbrev pub draw_question : Question
draw_question = record {
  answer = DrawAnswer;
  differ = λ input status text other. ⊥;
  faultless = IsGivenTexts;
  most = 2097153;
}
