-- What the program promises, in one place.
use Rattle.std.specs.Prelude.{◌≡◌, ◌⊎◌, ◌≤◌, ◌^◌, ◌-◌, ◌++◌, ℕ, ℤ, List, [], length, codes, filter, Option, Some}
use Rattle.geo_base.specs.Tuple.{Tuple}
use Rattle.geo_conditions.specs.declared.cond.Cond.{Cond}
use Rattle.geo_conditions.specs.Walk.{EndWord, GoesOn, IsFront, More, is_full}
use Rattle.layout_text.specs.Block.{block_of}
use Rattle.layout_search.specs.FirstLayout.{walk_of}
use Rattle.layout_search.specs.Page.{PassesNoneOver, blocks_of}
use Rattle.json_sheets.specs.SheetText.{TextSpells}
use Rattle.problem_data.specs.Accepted.{most_bytes}
use Rattle.problem_data.specs.Problem.{ProblemData}
use Rattle.problem_data.specs.Layouts.{IsLayout}
use Rattle.rule_ground.specs.Order.{ComesBefore}
use Rattle.check_commands.specs.Check.{CheckAnswer}
use Rattle.check_commands.specs.CheckBest.{CheckBestAnswer}
use Rattle.check_commands.specs.Claims.{Claim, no_layout, none_below}
use Rattle.command_input.specs.declared.command.Command.{Command}
use Rattle.command_input.specs.declared.command.Command.TheVariants.{FromJson, Show}
use Rattle.command_input.specs.declared.command.Status.{Status}
use Rattle.command_input.specs.declared.command.Status.TheVariants.{Answered, No, Refused, Budget, Memory, BadDimension, BadToken}
use Rattle.command_reply.specs.Accepted.{IsAccepted, AreConditions}
use Rattle.command_reply.specs.Dimension.{HasFewerDimensions, IsAlone}
use Rattle.command_reply.specs.Refusal.{RefusedAnswer}
use Rattle.command_reply.specs.Texts.{AreTextsOf}
use Rattle.geo_best.specs.declared.extent.Extent.{Extent}
use Rattle.geo_best.specs.Rounds.{IsBare, IsLeast, RoundsEnd}
use Rattle.layout_search.specs.declared.first.Outcome.TheVariants.{OutOfBudget}
use Rattle.search_commands.specs.All.{HasBadToken, IsFrom, last_line, last_status}
use Rattle.search_commands.specs.Best.{bare_lines, extent_lines}
use Rattle.search_commands.specs.First.{SaysNone, out_of_budget}
use Rattle.search_commands.specs.Why.{SaysCore}
use Rattle.geo_core.specs.Cores.{ComesTo}
use Rattle.geo_core.specs.Refusing.{IsCore}
use Rattle.geo_core.specs.declared.leaving.Core.TheVariants as cores
use Rattle.geost_run.specs.Questions.{AnswerTo}

-- `check` says yes to the text behind its problem and a line feed, where what stands behind the
-- problem's `end` has at most 2^40 bytes
abbrev pub IsConfirmed : List ℕ → List ℕ → Type 0
IsConfirmed input text = (first second : List ℕ) → AreTextsOf (input ++ (codes "\n" ++ text)) first second → length second ≤ 2 ^ 40
    → CheckAnswer (input ++ (codes "\n" ++ text)) (codes "yes\n") Answered

-- the same of `check_best`, for the number e in the dimension d
abbrev pub IsConfirmedBelow : ℕ → ℤ → List ℕ → List ℕ → Type 0
IsConfirmedBelow d e input text = (first second : List ℕ) → AreTextsOf (input ++ (codes "\n" ++ text)) first second → length second ≤ 2 ^ 40
    → CheckBestAnswer d e (input ++ (codes "\n" ++ text)) (codes "yes\n") Answered

-- A printed layout satisfies every rule by its direct meaning, over cells and finite quantifiers,
-- and comes before every other layout.
pub record PromisesLayout (input text : List ℕ) : Type 0 where
  pub problem : ProblemData
  pub tuple : Tuple
  pub accepted : IsAccepted input problem
  pub layout : IsLayout problem tuple
  pub first : (u : Tuple) → IsLayout problem u → (u ≡ tuple) ⊎ ComesBefore problem tuple u
  pub says : text ≡ block_of problem tuple

-- `none` means that there is no layout, and behind it stands a derivation that is valid on the
-- problem's first state under its conditions, to which `check` says yes.
pub record PromisesNone (input text : List ℕ) : Type 0 where
  pub problem : ProblemData
  pub conditions : List Cond
  pub accepted : IsAccepted input problem
  pub are : AreConditions problem conditions
  pub none : (t : Tuple) → IsLayout problem t → ⊥
  pub says : SaysNone problem conditions text
  pub confirmed : IsConfirmed input text

-- `budget` comes where the first n members of the walk are no layouts and the walk goes on behind
-- them.
pub record PromisesSpent (n : ℕ) (input text : List ℕ) : Type 0 where
  pub problem : ProblemData
  pub conditions : List Cond
  pub members : List (List ℤ)
  pub accepted : IsAccepted input problem
  pub are : AreConditions problem conditions
  pub front : IsFront (walk_of problem conditions) members
  pub count : length members ≡ n
  pub no_layouts : filter (is_full (walk_of problem conditions)) members ≡ []
  pub goes_on : GoesOn (walk_of problem conditions) members
  pub says : text ≡ out_of_budget n

-- `first N`, for every accepted problem; other text is refused at its first fault.
abbrev pub Promises : ℕ → List ℕ → List ℕ → Status → Type 0
Promises n input text Answered = PromisesLayout input text
Promises n input text No = PromisesNone input text
Promises n input text Budget = PromisesSpent n input text
Promises n input text Refused = RefusedAnswer input text
Promises n input text _ = ⊥

-- A layout that ends at E in the dimension d, from 1, and comes before every other one that does.
-- No layout ends before, as the derivation behind it shows, to which `check_best` says yes.
pub record PromisesExtent (d : ℕ) (input text : List ℕ) : Type 0 where
  pub problem : ProblemData
  pub extent : Extent
  pub derivation : List ℕ
  pub accepted : IsAccepted input problem
  pub least : IsLeast problem (d - 1) extent.end extent.layout
  pub confirmed : IsConfirmedBelow d extent.end input derivation
  pub says : text ≡ extent_lines problem (Some extent) ++ derivation

-- A layout without a box, which comes before every other one.
pub record PromisesBare (d : ℕ) (input text : List ℕ) : Type 0 where
  pub problem : ProblemData
  pub tuple : Tuple
  pub accepted : IsAccepted input problem
  pub bare : IsBare problem (d - 1) tuple
  pub says : text ≡ bare_lines problem tuple

-- One of the rounds has more than n members in its walk, and none of the first n is what it looks
-- for.
pub record PromisesSpentRound (d n : ℕ) (input text : List ℕ) : Type 0 where
  pub problem : ProblemData
  pub last : Option Extent
  pub accepted : IsAccepted input problem
  pub spent : RoundsEnd problem (d - 1) n last OutOfBudget
  pub says : text ≡ out_of_budget n

-- `best D N`, for every accepted problem that has the dimension.
abbrev pub PromisesBest : ℕ → ℕ → List ℕ → List ℕ → Status → Type 0
PromisesBest d n input text Answered = PromisesExtent d input text ⊎ PromisesBare d input text
PromisesBest d n input text No = PromisesNone input text
PromisesBest d n input text Budget = PromisesSpentRound d n input text
PromisesBest d n input text Refused = RefusedAnswer input text
PromisesBest d n input text BadDimension = HasFewerDimensions IsAlone d input text
PromisesBest d n input text _ = ⊥

-- Layouts of an accepted problem in the stated order, from the first one or from the one behind that
-- of the token. Each layout there stands among them or comes after all of them; behind `end` none is
-- missing, and behind `more` there are as many as were asked for.
pub record PromisesListing (most n : ℕ) (token : Option (List ℕ)) (input text : List ℕ) (status : Status) : Type 0 where
  pub problem : ProblemData
  pub after : Option Tuple
  pub layouts : List Tuple
  pub word : EndWord
  pub accepted : IsAccepted input problem
  pub from : IsFrom problem token after
  pub passes : PassesNoneOver problem after layouts word
  pub full : word ≡ More → length layouts ≡ most
  pub says : text ≡ blocks_of problem layouts ++ last_line n word
  pub ends : status ≡ last_status word

-- `all C N` and `all C N TOKEN`, for every accepted problem.
abbrev pub PromisesAll : ℕ → ℕ → Option (List ℕ) → List ℕ → List ℕ → Status → Type 0
PromisesAll most n token input text Answered = PromisesListing most n token input text Answered
PromisesAll most n token input text Budget = PromisesListing most n token input text Budget
PromisesAll most n token input text BadToken = HasBadToken token input text
PromisesAll most n token input text Refused = RefusedAnswer input text
PromisesAll most n token input text _ = ⊥

-- The rules R refuse together, as the derivation behind them shows: with them the problem has no
-- layout, and without any one of them it has the layout that stands in the same place.
pub record PromisesCore (input text : List ℕ) : Type 0 where
  pub problem : ProblemData
  pub rules : List ℕ
  pub layouts : List Tuple
  pub accepted : IsAccepted input problem
  pub core : IsCore problem rules layouts
  pub says : SaysCore problem rules layouts text

-- One of the rounds has more than n members in its walk, and none of the first n is a layout.
pub record PromisesSpentCore (n : ℕ) (input text : List ℕ) : Type 0 where
  pub problem : ProblemData
  pub accepted : IsAccepted input problem
  pub spent : ComesTo problem n cores.Budget
  pub says : text ≡ out_of_budget n

-- `why N`, for every accepted problem.
abbrev pub PromisesWhy : ℕ → List ℕ → List ℕ → Status → Type 0
PromisesWhy n input text Answered = PromisesCore input text
PromisesWhy n input text No = PromisesLayout input text
PromisesWhy n input text Budget = PromisesSpentCore n input text
PromisesWhy n input text Refused = RefusedAnswer input text
PromisesWhy n input text _ = ⊥

-- The command answers the input with this text and this status, and with nothing else.
pub record IsTheAnswer (command : Command) (input text : List ℕ) (status : Status) : Type 0 where
  pub answers : AnswerTo command input text status
  pub only : (other : List ℕ) (another : Status) → AnswerTo command input other another
      → (other ≡ text) × (another ≡ status)

-- The text is short enough for `from_json`, and so is the text of statements that it spells.
pub record IsShort (text : List ℕ) : Type 0 where
  pub built : List ℕ
  pub spells : TextSpells text built
  pub few : length text ≤ most_bytes
  pub small : length built ≤ most_bytes

-- `from_json` answers what `to_json` wrote of an input as `show` answers that input.
abbrev pub PromisesReturn : List ℕ → List ℕ → Type 0
PromisesReturn input text = IsShort text → (shown : List ℕ) → AnswerTo Show input shown Answered
    → IsTheAnswer FromJson text shown Answered

-- The input begins with a problem of which the claim is so, whoever wrote the derivation behind it.
pub record BeginsWith (claim : Claim) (input : List ℕ) : Type 0 where
  pub problem : ProblemData
  pub first : List ℕ
  pub second : List ℕ
  pub cut : AreTextsOf input first second
  pub accepted : IsAccepted first problem
  pub none : claim.none problem

-- `check`, where it says `yes`: there is no layout.
abbrev pub BeginsWithNone : List ℕ → Type 0
BeginsWithNone input = BeginsWith no_layout input

-- `check_best`, where it says `yes`: no layout ends below e in the dimension d, from 1.
abbrev pub BeginsWithNoneBelow : ℕ → ℤ → List ℕ → Type 0
BeginsWithNoneBelow d e input = BeginsWith (none_below d e) input

-- a status with which the whole of a command's answer was written, or want of memory
abbrev pub IsComplete : Status → Type 0
IsComplete s = (s ≡ Answered) ⊎ ((s ≡ No) ⊎ ((s ≡ Budget) ⊎ (s ≡ Memory)))
