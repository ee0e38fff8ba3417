-- What `best` answers.
use Rattle.std.specs.Prelude.{◌≡◌, ◌++◌, ◌≤◌, ◌-◌, ℕ, List, [], codes, map, Option, None, Some}
use Rattle.std.specs.Fmt.{signed_decimal}
use Rattle.geo_base.specs.Tuple.{Tuple}
use Rattle.geo_conditions.specs.declared.cond.Cond.{Cond}
use Rattle.layout_text.specs.Block.{block_of}
use Rattle.linear_conditions.specs.CondTree.{cond_view}
use Rattle.problem_data.specs.Problem.{ProblemData}
use Rattle.geo_best.specs.declared.extent.Extent.{Extent}
use Rattle.geo_best.specs.declared.one_round.Best.{Best}
use Rattle.geo_best.specs.declared.one_round.Best.TheVariants as bests
use Rattle.geo_best.specs.Rounds.{IsBest, PromisesLeast, round_conditions}
use Rattle.command_input.specs.declared.command.Status.{Status}
use Rattle.command_input.specs.declared.command.Status.TheVariants.{Answered, No, Refused, Budget, BadDimension}
use Rattle.command_reply.specs.Accepted.{IsAccepted}
use Rattle.command_reply.specs.Dimension.{HasFewerDimensions, IsAlone}
use Rattle.command_reply.specs.Question.{Question}
use Rattle.command_reply.specs.Refusal.{RefusedAnswer}
use Rattle.search_commands.specs.First.{IsNoneBehind, out_of_budget}

-- the lines of the last layout found: best E and its block; none, where none was found
abbrev pub extent_lines : ProblemData → Option Extent → List ℕ
extent_lines p None = []
extent_lines p (Some x) = codes "best " ++ (signed_decimal x.end ++ (codes "\n" ++ block_of p x.layout))

-- the lines of a layout without a box
abbrev pub bare_lines : ProblemData → Tuple → List ℕ
bare_lines p t = codes "best -\n" ++ block_of p t

-- these lines, and behind them `none` and a derivation under the conditions of the round behind
-- that layout, which is valid on the first state
pub record SaysEnd (p : ProblemData) (d : ℕ) (last : Option Extent) (text : List ℕ) : Type 0 where
  pub conditions : List Cond
  pub are : map cond_view conditions ≡ round_conditions p d last
  pub none : IsNoneBehind p conditions (extent_lines p last) text

-- what the rounds come to, as a text and a status
abbrev pub SaysBest : ProblemData → ℕ → ℕ → Best → List ℕ → Status → Type 0
SaysBest p d n (bests.Least e t log) text Answered = SaysEnd p d (Some (record { end = e; layout = t })) text
SaysBest p d n (bests.Bare t) text Answered = text ≡ bare_lines p t
SaysBest p d n (bests.Refused log) text No = SaysEnd p d None text
SaysBest p d n bests.Budget text Budget = text ≡ out_of_budget n
SaysBest p d n _ text _ = ⊥

-- the input is a problem that has the dimension, and this is said of what its rounds come to
pub record WritesBest (d n : ℕ) (input text : List ℕ) (status : Status) : Type 0 where
  pub problem : ProblemData
  pub best : Best
  pub accepted : IsAccepted input problem
  pub there : d ≤ problem.dims
  pub is_best : IsBest problem (d - 1) n best
  pub promises : PromisesLeast problem (d - 1) best
  pub says : SaysBest problem (d - 1) n best text status

-- `best D N`, with the dimension from 1. The least end of a layout, the first layout that has it,
-- and behind them `none` and a derivation that no layout ends before; `best -` and a layout without
-- a box; `none` and a derivation, where there is no layout; or `budget`, where a round uses it up.
-- Any other text is refused at its first fault, and behind that a dimension that the problem has
-- not.
abbrev pub BestAnswer : ℕ → ℕ → List ℕ → List ℕ → Status → Type 0
BestAnswer d n input text Answered = WritesBest d n input text Answered
BestAnswer d n input text No = WritesBest d n input text No
BestAnswer d n input text Budget = WritesBest d n input text Budget
BestAnswer d n input text Refused = RefusedAnswer input text
BestAnswer d n input text BadDimension = HasFewerDimensions IsAlone d input text
BestAnswer d n input text _ = ⊥

-- the texts are the lines of one layout, and behind them derivations under the same conditions
pub record BothSayEnd (d : ℕ) (input text other : List ℕ) : Type 0 where
  pub problem : ProblemData
  pub last : Option Extent
  pub accepted : IsAccepted input problem
  pub one : SaysEnd problem (d - 1) last text
  pub another : SaysEnd problem (d - 1) last other

-- the input is a problem that has the dimension
pub record HasDimension (d : ℕ) (input : List ℕ) : Type 0 where
  pub problem : ProblemData
  pub accepted : IsAccepted input problem
  pub there : d ≤ problem.dims

-- behind `none` each valid derivation may stand
abbrev pub best_question : ℕ → ℕ → Question
best_question d n = record {
  answer = BestAnswer d n;
  differ = λ input status text other. BothSayEnd d input text other;
  faultless = HasDimension d;
  most = 1048577;
}
