-- What `all` answers.
use Rattle.std.specs.Prelude.{◌≡◌, ◌++◌, ℕ, List, Option, None, Some, codes}
use Rattle.geo_base.specs.Tuple.{Tuple}
use Rattle.geo_conditions.specs.declared.cond.Cond.{Cond}
use Rattle.geo_conditions.specs.Walk.{Tree, EndWord, More, End, OutOfBudget}
use Rattle.layout_text.specs.Token.{IsTokenOf}
use Rattle.layout_search.specs.FirstLayout.{walk_after}
use Rattle.layout_search.specs.Page.{IsPage, blocks_of}
use Rattle.problem_data.specs.Problem.{ProblemData}
use Rattle.command_input.specs.declared.command.Status.{Status}
use Rattle.command_input.specs.declared.command.Status.TheVariants.{Answered, Refused, Budget, BadToken}
use Rattle.command_reply.specs.Accepted.{IsAccepted, AreConditions}
use Rattle.command_reply.specs.Question.{Question}
use Rattle.command_reply.specs.Refusal.{RefusedAnswer}
use Rattle.search_commands.specs.First.{out_of_budget}

-- the tuple is the one of which the word is the token, where a word is given
abbrev pub IsFrom : ProblemData → Option (List ℕ) → Option Tuple → Type 0
IsFrom p None None = Unit {0}
IsFrom p None (Some t) = ⊥
IsFrom p (Some word) None = ⊥
IsFrom p (Some word) (Some t) = IsTokenOf p t word

-- a word is given, and it is the token of no tuple
abbrev pub IsNoToken : ProblemData → Option (List ℕ) → Type 0
IsNoToken p None = ⊥
IsNoToken p (Some word) = (t : Tuple) → IsTokenOf p t word → ⊥

-- the line behind a listing, and the status that it ends with
abbrev pub last_line : ℕ → EndWord → List ℕ
last_line n More = codes "more\n"
last_line n End = codes "end\n"
last_line n OutOfBudget = out_of_budget n

abbrev pub last_status : EndWord → Status
last_status More = Answered
last_status End = Answered
last_status OutOfBudget = Budget

-- the text is the blocks of the layouts that are listed, as many as `most` among the first n
-- members of the walk behind the token's tuple, and the line that ends the listing
pub record ListsLayouts (most n : ℕ) (token : Option (List ℕ)) (input text : List ℕ) (status : Status) : Type 0 where
  pub problem : ProblemData
  pub conditions : List Cond
  pub after : Option Tuple
  pub layouts : List Tuple
  pub word : EndWord
  pub accepted : IsAccepted input problem
  pub are : AreConditions problem conditions
  pub from : IsFrom problem token after
  pub page : IsPage problem (walk_after problem conditions after) most n layouts word
  pub says : text ≡ blocks_of problem layouts ++ last_line n word
  pub ends : status ≡ last_status word

-- the blocks of a listing and the line behind it, with the status that it ends with
pub record SaysListing (p : ProblemData) (W : Tree) (most n : ℕ) (text : List ℕ) (status : Status) : Type 0 where
  pub layouts : List Tuple
  pub word : EndWord
  pub page : IsPage p W most n layouts word
  pub says : text ≡ blocks_of p layouts ++ last_line n word
  pub ends : status ≡ last_status word

-- the text is accepted, and the word is the token of no tuple
pub record HasBadToken (token : Option (List ℕ)) (input text : List ℕ) : Type 0 where
  pub problem : ProblemData
  pub accepted : IsAccepted input problem
  pub none : IsNoToken problem token
  pub says : text ≡ codes "bad token\n"

-- `all C N` and `all C N TOKEN`. The blocks of the first C layouts among the first N members of the
-- walk, behind the tuple of which TOKEN is the token, and then `more` where there are C of them,
-- `budget N` where the walk has more than N members, else `end`; `bad token` where the text is
-- accepted and TOKEN is the token of no tuple; other texts are refused at their first fault.
abbrev pub AllAnswer : ℕ → ℕ → Option (List ℕ) → List ℕ → List ℕ → Status → Type 0
AllAnswer most n token input text Answered = ListsLayouts most n token input text Answered
AllAnswer most n token input text Budget = ListsLayouts most n token input text Budget
AllAnswer most n token input text BadToken = HasBadToken token input text
AllAnswer most n token input text Refused = RefusedAnswer input text
AllAnswer most n token input text _ = ⊥

-- the text is accepted, and a word that is given is the token of a tuple
abbrev pub HasPage : Option (List ℕ) → List ℕ → Type 0
HasPage token input = (p : ProblemData) × (after : Option Tuple) × IsAccepted input p × IsFrom p token after

abbrev pub all_question : ℕ → ℕ → Option (List ℕ) → Question
all_question most n token = record {
  answer = AllAnswer most n token;
  differ = λ input status text other. ⊥;
  faultless = HasPage token;
  most = 1048577;
}
