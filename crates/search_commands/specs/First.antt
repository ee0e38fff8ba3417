-- What `first` answers.
use Rattle.std.specs.Prelude.{◌≡◌, ◌++◌, ℕ, List, [], ◌∷◌, codes, decimal}
use Rattle.geo_base.specs.Tuple.{Tuple}
use Rattle.geo_conditions.specs.declared.cond.Cond.{Cond}
use Rattle.geo_conditions.specs.Walk.{values, IsListing, More, End, OutOfBudget}
use Rattle.derivation.specs.declared.event.Event.{Event}
use Rattle.derivation.specs.Nodes.{Node, node_events}
use Rattle.derivation.specs.Valid.{Valid}
use Rattle.layout_text.specs.Block.{block_of}
use Rattle.layout_search.specs.FirstLayout.{walk_of, IsFirstLayout, HasNoLayout}
use Rattle.printed_derivation.specs.Laws.{printed}
use Rattle.printed_derivation.specs.Printable.{IsPrintable}
use Rattle.problem_data.specs.Problem.{ProblemData}
use Rattle.problem_text.specs.NameTable.{name_table}
use Rattle.rule_ground.specs.Order.{variables_for}
use Rattle.rule_ground.specs.Start.{first_state}
use Rattle.command_input.specs.declared.command.Status.{Status}
use Rattle.command_input.specs.declared.command.Status.TheVariants.{Answered, No, Refused, Budget}
use Rattle.command_reply.specs.Accepted.{IsAccepted, AreConditions}
use Rattle.command_reply.specs.Question.{Question}
use Rattle.command_reply.specs.Refusal.{RefusedAnswer}

-- budget N
abbrev pub out_of_budget : ℕ → List ℕ
out_of_budget n = codes "budget " ++ (decimal n ++ codes "\n")

-- the events are a derivation, which is valid on the problem's first state under these conditions,
-- and they can be printed
pub record ShowsNone (p : ProblemData) (cs : List Cond) (events : List Event) : Type 0 where
  pub root : Node
  pub tree : events ≡ node_events root
  pub valid : Valid cs (first_state p) root
  pub printable : IsPrintable (name_table p) events

-- the text is `none` and the lines of such a derivation
pub record SaysNone (p : ProblemData) (cs : List Cond) (text : List ℕ) : Type 0 where
  pub events : List Event
  pub shows : ShowsNone p cs events
  pub says : text ≡ printed (name_table p) events

-- the same behind other lines
abbrev pub IsNoneBehind : ProblemData → List Cond → List ℕ → List ℕ → Type 0
IsNoneBehind p cs lines text = (derivation : List ℕ) × SaysNone p cs derivation × (text ≡ lines ++ derivation)

-- ---- What is found of a text: the listing of one layout among the first N members of the walk.

-- the text is a problem with these conditions, and this is its first layout: it satisfies every
-- rule by its cells and its formula, and precedes every other layout
pub record FindsLayout (n : ℕ) (input : List ℕ) (p : ProblemData) (cs : List Cond) (t : Tuple) : Type 0 where
  pub accepted : IsAccepted input p
  pub are : AreConditions p cs
  pub listing : IsListing (walk_of p cs) 1 n (values (variables_for p) t ∷ []) More
  pub first : IsFirstLayout p t

-- the problem has no layout
pub record FindsNone (n : ℕ) (input : List ℕ) (p : ProblemData) (cs : List Cond) : Type 0 where
  pub accepted : IsAccepted input p
  pub are : AreConditions p cs
  pub listing : IsListing (walk_of p cs) 1 n [] End
  pub none : HasNoLayout p

-- none of the first N members is a layout, and the walk goes on
pub record RunsOut (n : ℕ) (input : List ℕ) (p : ProblemData) (cs : List Cond) : Type 0 where
  pub accepted : IsAccepted input p
  pub are : AreConditions p cs
  pub listing : IsListing (walk_of p cs) 1 n [] OutOfBudget

-- ---- What is written of it, with lines for a layout, where there is none, and where the walk goes on.

pub record WritesLayout (lines : ProblemData → Tuple → List ℕ) (n : ℕ) (input text : List ℕ) : Type 0 where
  pub problem : ProblemData
  pub conditions : List Cond
  pub tuple : Tuple
  pub found : FindsLayout n input problem conditions tuple
  pub says : text ≡ lines problem tuple

pub record WritesNone (Says : ProblemData → List Cond → List ℕ → Type 0) (n : ℕ) (input text : List ℕ) : Type 0 where
  pub problem : ProblemData
  pub conditions : List Cond
  pub found : FindsNone n input problem conditions
  pub says : Says problem conditions text

pub record WritesSpent (lines : ProblemData → List ℕ) (n : ℕ) (input text : List ℕ) : Type 0 where
  pub problem : ProblemData
  pub conditions : List Cond
  pub found : RunsOut n input problem conditions
  pub says : text ≡ lines problem

-- `first N`. The first layout; or `none`, where there is no layout, and a valid derivation behind
-- it; or `budget`. Any other text is refused at its first fault.
abbrev pub FirstAnswer : ℕ → List ℕ → List ℕ → Status → Type 0
FirstAnswer n input text Answered = WritesLayout block_of n input text
FirstAnswer n input text No = WritesNone SaysNone n input text
FirstAnswer n input text Budget = WritesSpent (λ p. out_of_budget n) n input text
FirstAnswer n input text Refused = RefusedAnswer input text
FirstAnswer n input text _ = ⊥

-- each of the texts is `none` and the lines of a derivation of the input's problem
abbrev pub BothSayNone : List ℕ → List ℕ → List ℕ → Type 0
BothSayNone input text other = (p : ProblemData) × (cs : List Cond) × IsAccepted input p × AreConditions p cs × SaysNone p cs text × SaysNone p cs other

-- behind the `none` of `first` each valid derivation may stand
abbrev pub first_question : ℕ → Question
first_question n = record {
  answer = FirstAnswer n;
  differ = λ input status text other. (status ≡ No) × BothSayNone input text other;
  faultless = λ input. (p : ProblemData) × IsAccepted input p;
  most = 1048577;
}
