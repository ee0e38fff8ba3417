-- Which word is the token of a tuple, and which tuple a word is read as.
use Rattle.std.specs.Prelude.{◌≡◌, ℕ, List, map, Vec, Option, Some, Result, Ok, Err}
use Rattle.std.specs.declared.alloc.Global.{Global}
use Rattle.geo_conditions.specs.declared.layout.Layout.{Layout}
use Rattle.geo_tokens.specs.declared.fault.TextFault.{TextFault}
use Rattle.geo_tokens.specs.declared.fault.TextFault.TheVariants as texts
use Rattle.geo_tokens.specs.declared.stop.Stop.{Stop}
use Rattle.geo_tokens.specs.declared.stop.Stop.TheVariants as stops
use Rattle.geo_tokens.specs.declared.token.Token.{Token}
use Rattle.geo_tokens.specs.Cut.{IsTokens}
use Rattle.problem_data.specs.Problem.{ProblemData}
use Rattle.problem_data.specs.Tuple.{Tuple}
use Rattle.problem_data.specs.Cells.{IsTuple}
use Rattle.layout_text.specs.declared.token.TokenFault.{TokenFault}
use Rattle.layout_text.specs.declared.token.TokenFault.TheVariants as faults
use Rattle.layout_text.specs.declared.tree.GroupText.{GroupText}
use Rattle.layout_text.specs.Block.{token_of}
use Rattle.layout_text.specs.Tree.{GroupTree}
use Rattle.layout_text.specs.View.{group_views}
use Rattle.layout_text.specs.Grammar.{TupleWords}
use Rattle.layout_text.specs.Faults.{spot_in}

-- the tuple is one of the problem, and the word is its token
pub record IsTokenOf (p : ProblemData) (t : Tuple) (word : List ℕ) : Type 0 where
  pub tuple : IsTuple p t
  pub spelled : word ≡ token_of t

-- a call's answer: the tuple of which the word is the token, or that it is the token of no tuple,
-- unless memory ran out
abbrev pub AnswersToken : Result Layout TokenFault → ProblemData → List ℕ → Type 0
AnswersToken (Ok t) p word = IsTokenOf p t word
AnswersToken (Err faults.BadToken) p word = (t : Tuple) → IsTokenOf p t word → ⊥
AnswersToken (Err faults.Memory) p word = Unit {0}

-- the answer is this tuple, unless memory ran out
abbrev pub IsReadAs : Result Layout TokenFault → Tuple → Type 0
IsReadAs (Ok u) t = u ≡ t
IsReadAs (Err faults.BadToken) t = ⊥
IsReadAs (Err faults.Memory) t = Unit {0}

-- ---- the groups of a word

-- the word is cut into tokens that spell these groups
pub record SaysGroups (word : List ℕ) (groups : List GroupTree) : Type 0 where
  pub list : List Token
  pub tokens : IsTokens word list
  pub spells : TupleWords (Some groups) list

-- a call's answer: the groups that the word says, or that it says none, unless memory ran out
abbrev pub AnswersGroups : Result (Vec GroupText Global) TokenFault → List ℕ → Type 0
AnswersGroups (Ok gs) word = SaysGroups word (group_views gs)
AnswersGroups (Err faults.BadToken) word = (gs : List GroupTree) → SaysGroups word gs → ⊥
AnswersGroups (Err faults.Memory) word = Unit {0}

-- the tuple that groups give
abbrev pub tuple_in : List GroupTree → Tuple
tuple_in gs = map spot_in gs

-- a text that is not cut into tokens is none, and neither are tokens that are not read to their end
abbrev pub unless_memory : TextFault → TokenFault
unless_memory (texts.At place word) = faults.BadToken
unless_memory texts.Memory = faults.Memory

abbrev pub unless_stopped : Stop → TokenFault
unless_stopped stops.Memory = faults.Memory
unless_stopped (stops.Wrong rest) = faults.BadToken
unless_stopped (stops.Deep rest) = faults.BadToken
