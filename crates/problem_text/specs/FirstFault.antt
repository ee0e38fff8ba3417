-- What the first fault of a text is that is not accepted. A text is looked at in four phases, its
-- length, its tokens, its grammar and its statements; the first phase with a fault decides.
use Rattle.std.specs.Prelude.{◌≡◌, ℕ, ◌<◌, ◌≤◌, List, length, Result, Ok, Err}
use Rattle.geo_tokens.specs.declared.token.Token.{Token}
use Rattle.geo_tokens.specs.declared.fault.FaultWord.{FaultWord}
use Rattle.geo_tokens.specs.declared.fault.FaultWord.TheVariants as words
use Rattle.geo_tokens.specs.declared.fault.TextFault.{TextFault}
use Rattle.geo_tokens.specs.declared.fault.TextFault.TheVariants as faults
use Rattle.geo_tokens.specs.Cut.{IsTokens, IsTokenFault}
use Rattle.problem_data.specs.declared.problem.Problem.{Problem}
use Rattle.problem_data.specs.Tree.{ProblemTree}
use Rattle.problem_data.specs.Grammar.{ProblemWords}
use Rattle.problem_syntax.specs.WholeText.{FirstFault}
use Rattle.problem_data.specs.Problem.{ProblemData}
use Rattle.problem_data.specs.declared.fault.Fault.{Fault}
use Rattle.problem_data.specs.Meaning.{problem_of}
use Rattle.problem_data.specs.Parts.{Parts, parts_of}
use Rattle.problem_data.specs.Accepted.{most_bytes, Says, Accepts}
use Rattle.problem_data.specs.Least.{fault, IsFirst}
use Rattle.problem_data.specs.Faults.{IsFault}

-- the first fault of the text is this word at this place
pub data HasFirstFault (text : List ℕ) (place : ℕ) (word : FaultWord) : Type 0 where
  long : most_bytes < length text → place ≡ most_bytes → word ≡ words.Long → HasFirstFault text place word
  no_token : length text ≤ most_bytes → IsTokenFault text place word → HasFirstFault text place word
  no_statements : length text ≤ most_bytes → (list : List Token) → IsTokens text list → FirstFault (ProblemWords text) 64 (length text) list place word → HasFirstFault text place word
  in_statements : (tree : ProblemTree) → Says text tree → IsFirst (IsFault (parts_of tree)) (fault place word) → HasFirstFault text place word

-- a call's answer: the problem that the text spells, or its first fault, unless memory ran out
abbrev pub AnswersProblem : Result Problem TextFault → List ℕ → Type 0
AnswersProblem (Ok p) text = Accepts text p
AnswersProblem (Err (faults.At place word)) text = HasFirstFault text place word
AnswersProblem (Err faults.Memory) text = Unit {0}

-- a call's answer to statements: the problem that they spell, or their first fault, unless memory
-- ran out
abbrev pub AnswersParts : Result Problem TextFault → Parts → Type 0
AnswersParts (Ok p) parts = ((f : Fault) → IsFault parts f → ⊥) × (p ≡ problem_of parts)
AnswersParts (Err (faults.At place word)) parts = IsFirst (IsFault parts) (fault place word)
AnswersParts (Err faults.Memory) parts = Unit {0}

-- nothing else is true of the text
abbrev pub IsOnlyProblem : Result Problem TextFault → List ℕ → Type 0
IsOnlyProblem (Ok p) text = ((q : ProblemData) → Accepts text q → q ≡ p) × ((place : ℕ) (word : FaultWord) → HasFirstFault text place word → ⊥)
IsOnlyProblem (Err (faults.At place word)) text = ((q : ProblemData) → Accepts text q → ⊥) × ((p : ℕ) (w : FaultWord) → HasFirstFault text p w → (p ≡ place) × (w ≡ word))
IsOnlyProblem (Err faults.Memory) text = Unit {0}
