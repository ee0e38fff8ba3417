-- Which texts are layout texts of a problem, with the tuples that they spell, and what the first
-- fault of another text is. A text is looked at in four phases, its length, its tokens, its grammar
-- and its lines; the first phase with a fault decides, and in it the fault at the least place; at
-- one place `limit` goes before `range`, and `order` before `token`.
use Rattle.std.specs.Prelude.{◌≡◌, ℕ, ◌+◌, ◌<◌, ◌≤◌, List, length, Result, Ok, Err}
use Rattle.geo_tokens.specs.declared.token.Token.{Token}
use Rattle.geo_tokens.specs.declared.fault.FaultWord.{FaultWord}
use Rattle.geo_tokens.specs.declared.fault.FaultWord.TheVariants as words
use Rattle.geo_tokens.specs.declared.fault.TextFault.{TextFault}
use Rattle.geo_tokens.specs.declared.fault.TextFault.TheVariants as faults
use Rattle.geo_tokens.specs.Cut.{IsTokens, IsTokenFault}
use Rattle.geo_conditions.specs.declared.layout.Layout.{Layout}
use Rattle.problem_data.specs.declared.fault.Fault.{Fault}
use Rattle.problem_data.specs.Problem.{ProblemData}
use Rattle.problem_data.specs.Tuple.{Tuple}
use Rattle.problem_data.specs.Whole.{IsWhole}
use Rattle.problem_syntax.specs.WholeText.{FirstFault}
use Rattle.problem_data.specs.Least.{fault, IsFirst}
pub use Rattle.problem_data.specs.Accepted.{most_bytes}
use Rattle.layout_text.specs.Tree.{LayoutTree}
use Rattle.layout_text.specs.Grammar.{LayoutWords}
use Rattle.layout_text.specs.Faults.{tuple_of, IsFault}

-- the text is short enough, it is cut into these tokens, and they spell these lines
pub record Says (text : List ℕ) (tree : LayoutTree) : Type 0 where
  pub short : length text ≤ most_bytes
  pub list : List Token
  pub tokens : IsTokens text list
  pub spells : IsWhole (LayoutWords text) 0 list tree

-- the text says lines without a fault, and they give the tuple
pub record Accepts (p : ProblemData) (text : List ℕ) (t : Tuple) : Type 0 where
  pub tree : LayoutTree
  pub says : Says text tree
  pub right : (f : Fault) → IsFault p (length text) tree f → ⊥
  pub means : t ≡ tuple_of p tree.lines

-- the first fault of the text is this word at this place
pub data HasFirstFault (p : ProblemData) (text : List ℕ) (place : ℕ) (word : FaultWord) : Type 0 where
  long : most_bytes < length text → place ≡ most_bytes → word ≡ words.Long → HasFirstFault p text place word
  no_token : length text ≤ most_bytes → IsTokenFault text place word → HasFirstFault p text place word
  no_lines : length text ≤ most_bytes → (list : List Token) → IsTokens text list → FirstFault (LayoutWords text) 0 (length text) list place word → HasFirstFault p text place word
  in_lines : (tree : LayoutTree) → Says text tree → IsFirst (IsFault p (length text) tree) (fault place word) → HasFirstFault p text place word

-- the first fault, where the text begins at the place `from` of the whole input
pub record HasFaultFrom (p : ProblemData) (text : List ℕ) (from place : ℕ) (word : FaultWord) : Type 0 where
  pub within : ℕ
  pub first : HasFirstFault p text within word
  pub at : place ≡ from + within

-- a call's answer: the tuple that the text spells, or its first fault, unless memory ran out
abbrev pub AnswersLayout : Result Layout TextFault → ProblemData → List ℕ → ℕ → Type 0
AnswersLayout (Ok t) p text from = Accepts p text t
AnswersLayout (Err (faults.At place word)) p text from = HasFaultFrom p text from place word
AnswersLayout (Err faults.Memory) p text from = Unit {0}

-- nothing else is true of the text
abbrev pub IsOnlyLayout : Result Layout TextFault → ProblemData → List ℕ → ℕ → Type 0
IsOnlyLayout (Ok t) p text from = ((u : Tuple) → Accepts p text u → u ≡ t) × ((place : ℕ) (word : FaultWord) → HasFaultFrom p text from place word → ⊥)
IsOnlyLayout (Err (faults.At place word)) p text from = ((u : Tuple) → Accepts p text u → ⊥) × ((q : ℕ) (w : FaultWord) → HasFaultFrom p text from q w → (q ≡ place) × (w ≡ word))
IsOnlyLayout (Err faults.Memory) p text from = Unit {0}

-- the answer is this tuple, unless memory ran out
abbrev pub IsAnswered : Result Layout TextFault → Tuple → Type 0
IsAnswered (Ok u) t = u ≡ t
IsAnswered (Err (faults.At place word)) t = ⊥
IsAnswered (Err faults.Memory) t = Unit {0}
