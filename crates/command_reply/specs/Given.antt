-- What is read of two texts, a problem and a layout of it.
use Rattle.std.specs.Prelude.{ℕ, List, Result, Ok, Err}
use Rattle.geo_tokens.specs.declared.fault.TextFault.{TextFault}
use Rattle.geo_tokens.specs.declared.fault.TextFault.TheVariants as faults
use Rattle.layout_text.specs.FirstFault as layouts
use Rattle.problem_data.specs.Cells.{IsTuple}
use Rattle.geo_base.specs.Tuple.{Tuple}
use Rattle.problem_data.specs.Problem.{ProblemData}
use Rattle.command_reply.specs.Accepted.{IsAccepted, HasRead}
use Rattle.command_reply.specs.Texts.{AreTextsOf, IsRefusedPair}
use Rattle.command_reply.specs.declared.given.Given.{Given}

-- the text is cut into one that is accepted and one that gives a tuple of its problem
pub record IsGiven (text : List ℕ) (g : Given) : Type 0 where
  pub first : List ℕ
  pub second : List ℕ
  pub cut : AreTextsOf text first second
  pub read : HasRead first g.accepted
  pub spells : layouts.Accepts g.accepted.problem second g.layout
  pub tuple : IsTuple g.accepted.problem g.layout

-- a call's answer: what the two texts give, or their first fault, unless memory ran out
abbrev pub AnswersGiven : Result Given TextFault → List ℕ → Type 0
AnswersGiven (Ok g) text = IsGiven text g
AnswersGiven (Err (faults.At place word)) text = IsRefusedPair layouts.HasFaultFrom text place word
AnswersGiven (Err faults.Memory) text = Unit {0}

-- the input is a problem and a layout text of it, which gives the tuple
pub record Gives (input : List ℕ) (p : ProblemData) (t : Tuple) : Type 0 where
  pub first : List ℕ
  pub second : List ℕ
  pub cut : AreTextsOf input first second
  pub accepted : IsAccepted first p
  pub spells : layouts.Accepts p second t
