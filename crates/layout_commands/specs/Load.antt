-- What `load` answers.
use Rattle.std.specs.Prelude.{◌≡◌, ◌≤◌, ◌++◌, ◌-◌, ℕ, List, codes, flat_map}
use Rattle.geo_base.specs.Tuple.{Tuple}
use Rattle.geo_load.specs.Blocks.{Blocks, present}
use Rattle.geo_load.specs.Order.{HasNoOrder, IsBestOrder, IsLoading, IsRound}
use Rattle.geo_load.specs.declared.order.Loading.TheVariants.{Order, Cycle}
use Rattle.problem_data.specs.Problem.{ProblemData}
use Rattle.problem_data.specs.Tuple.{object_of}
use Rattle.command_input.specs.declared.command.Status.{Status}
use Rattle.command_input.specs.declared.command.Status.TheVariants.{Answered, No, Refused, BadDimension}
use Rattle.command_reply.specs.Dimension.{HasFaultIn, HasFewerDimensions, IsFirst}
use Rattle.command_reply.specs.Given.{Gives}
use Rattle.command_reply.specs.Question.{Question}
use Rattle.command_reply.specs.Refusal.{RefusedPairAnswer}

-- the names of the objects, each on a line
abbrev pub name_lines : ProblemData → List ℕ → List ℕ
name_lines p objects = flat_map (λ o. (object_of p o).name ++ codes "\n") objects

-- which objects block which where they come in along the dimension d, counted from 1
abbrev pub BlocksAlong : ℕ → ProblemData → Tuple → ℕ → ℕ → Type 0
BlocksAlong d p t = Blocks p t (d - 1)

-- the problem and the tuple that are given, and the problem has the dimension
pub record GivesIn (d : ℕ) (input : List ℕ) (p : ProblemData) (t : Tuple) : Type 0 where
  pub gives : Gives input p t
  pub there : d ≤ p.dims

-- the objects come in in this order; it has each object that is present once and is free, and no
-- free order comes before it
pub record LoadsInOrder (d : ℕ) (input text : List ℕ) : Type 0 where
  pub problem : ProblemData
  pub tuple : Tuple
  pub order : List ℕ
  pub given : GivesIn d input problem tuple
  pub loading : IsLoading (BlocksAlong d problem tuple) (present problem tuple) (Order order)
  pub best : IsBestOrder (BlocksAlong d problem tuple) (present problem tuple) order
  pub says : text ≡ codes "order\n" ++ name_lines problem order

-- each object of the cycle blocks the next one, and the last one the first; and no order of the
-- objects that are present is free
pub record LoadsInNone (d : ℕ) (input text : List ℕ) : Type 0 where
  pub problem : ProblemData
  pub tuple : Tuple
  pub cycle : List ℕ
  pub given : GivesIn d input problem tuple
  pub loading : IsLoading (BlocksAlong d problem tuple) (present problem tuple) (Cycle cycle)
  pub round : IsRound (BlocksAlong d problem tuple) cycle
  pub none : HasNoOrder (BlocksAlong d problem tuple) (present problem tuple)
  pub says : text ≡ codes "cycle\n" ++ name_lines problem cycle

-- `load` along the dimension d, counted from 1. The order in which the objects come in, or a cycle
-- of objects; `bad dimension` where the problem has fewer dimensions; other texts are refused at
-- their first fault.
abbrev pub LoadAnswer : ℕ → List ℕ → List ℕ → Status → Type 0
LoadAnswer d input text Answered = LoadsInOrder d input text
LoadAnswer d input text No = LoadsInNone d input text
LoadAnswer d input text Refused = RefusedPairAnswer (HasFaultIn d) input text
LoadAnswer d input text BadDimension = HasFewerDimensions IsFirst d input text
LoadAnswer d input text _ = ⊥

-- the input is a problem that has the dimension, and a tuple of it
abbrev pub IsGivenIn : ℕ → List ℕ → Type 0
IsGivenIn d input = (p : ProblemData) × (t : Tuple) × GivesIn d input p t

abbrev pub load_question : ℕ → Question
load_question d = record {
  answer = LoadAnswer d;
  differ = λ input status text other. ⊥;
  faultless = IsGivenIn d;
  most = 2097153;
}
