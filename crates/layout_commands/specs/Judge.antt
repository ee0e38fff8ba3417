-- What `judge` answers.
use Rattle.std.specs.Prelude.{◌≡◌, ◌++◌, ◌-◌, ℕ, List, codes}
use Rattle.geo_base.specs.Tuple.{Tuple}
use Rattle.geo_meaning.specs.Judged.{IsFirstBroken, rule_at}
use Rattle.layout_text.specs.FirstFault as layouts
use Rattle.problem_data.specs.Problem.{ProblemData}
use Rattle.problem_data.specs.Layouts.{IsLayout}
use Rattle.command_input.specs.declared.command.Status.{Status}
use Rattle.command_input.specs.declared.command.Status.TheVariants.{Answered, No, Refused}
use Rattle.command_reply.specs.Given.{Gives}
use Rattle.command_reply.specs.Question.{Question}
use Rattle.command_reply.specs.Refusal.{RefusedPairAnswer}

-- the name of the rule with this number, from 1
abbrev pub rule_name : ProblemData → ℕ → List ℕ
rule_name p n = (rule_at p (n - 1)).name

-- broken RULE
abbrev pub broken_rule : List ℕ → List ℕ
broken_rule name = codes "broken " ++ (name ++ codes "\n")

-- every rule holds on the tuple that is given
pub record JudgesGood (input text : List ℕ) : Type 0 where
  pub problem : ProblemData
  pub tuple : Tuple
  pub gives : Gives input problem tuple
  pub layout : IsLayout problem tuple
  pub says : text ≡ codes "good\n"

-- the rule with this number is the first that does not hold on it
pub record JudgesBroken (input text : List ℕ) : Type 0 where
  pub problem : ProblemData
  pub tuple : Tuple
  pub number : ℕ
  pub gives : Gives input problem tuple
  pub broken : IsFirstBroken problem tuple number
  pub says : text ≡ broken_rule (rule_name problem number)

-- `judge`. `good` where every rule holds on the tuple, else the name of the first rule that does
-- not; other texts are refused at their first fault.
abbrev pub JudgeAnswer : List ℕ → List ℕ → Status → Type 0
JudgeAnswer input text Answered = JudgesGood input text
JudgeAnswer input text No = JudgesBroken input text
JudgeAnswer input text Refused = RefusedPairAnswer layouts.HasFaultFrom input text
JudgeAnswer input text _ = ⊥

-- the input is a problem and a tuple of it
abbrev pub IsGivenTexts : List ℕ → Type 0
IsGivenTexts input = (p : ProblemData) × (t : Tuple) × Gives input p t

abbrev pub judge_question : Question
judge_question = record {
  answer = JudgeAnswer;
  differ = λ input status text other. ⊥;
  faultless = IsGivenTexts;
  most = 2097153;
}
