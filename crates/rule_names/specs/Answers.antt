-- What is answered for a problem.
use Rattle.std.specs.Prelude.{◌≡◌, ℕ, Result, Ok, Err}
use Rattle.std.specs.List.{Contains}
use Rattle.geo_tokens.specs.declared.fault.FaultWord.{FaultWord}
use Rattle.geo_tokens.specs.declared.fault.TextFault.{TextFault}
use Rattle.geo_tokens.specs.declared.fault.TextFault.TheVariants as faults
use Rattle.problem_data.specs.Problem.{ProblemData}
use Rattle.rule_names.specs.declared.mistake.Mistake.{Mistake}
use Rattle.rule_names.specs.Mistakes.{word_of, IsFirst}
use Rattle.rule_names.specs.Names.{mistakes}

-- each name in the macros and rules of a problem is known, and of the kind that stands there
abbrev pub AreNamesRight : ProblemData → Type 0
AreNamesRight p = (m : Mistake) → Contains (mistakes p) m → ⊥

-- the first mistake of a problem is at this place, with this word
pub record HasFirstMistake (p : ProblemData) (place : ℕ) (word : FaultWord) : Type 0 where
  pub mistake : Mistake
  pub first : IsFirst (mistakes p) mistake
  pub at : place ≡ mistake.place
  pub says : word ≡ word_of mistake.flaw

-- a call's answer: no mistake, or the first, unless memory ran out
abbrev pub AnswersNames : {A : Type 0} → Result A TextFault → ProblemData → Type 0
AnswersNames (Ok _) p = AreNamesRight p
AnswersNames (Err (faults.At place word)) p = HasFirstMistake p place word
AnswersNames (Err faults.Memory) p = Unit {0}

-- nothing else is true of the problem
abbrev pub IsOnlyAnswer : {A : Type 0} → Result A TextFault → ProblemData → Type 0
IsOnlyAnswer (Ok _) p = (place : ℕ) (word : FaultWord) → HasFirstMistake p place word → ⊥
IsOnlyAnswer (Err (faults.At place word)) p = (AreNamesRight p → ⊥) × ((q : ℕ) (w : FaultWord) → HasFirstMistake p q w → (q ≡ place) × (w ≡ word))
IsOnlyAnswer (Err faults.Memory) p = Unit {0}
