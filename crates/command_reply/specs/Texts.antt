-- The two texts of an input: a problem, and a text behind it that speaks of the problem.
use Rattle.std.specs.Prelude.{◌≡◌, ◌⊎◌, ◌++◌, ◌<◌, ℕ, List, [], length}
use Rattle.geo_tokens.specs.FirstEnd.{HasNoEnd, IsFirstEnd}
use Rattle.geo_tokens.specs.declared.fault.FaultWord.{FaultWord}
use Rattle.geo_tokens.specs.declared.fault.FaultWord.TheVariants as words
use Rattle.problem_data.specs.Problem.{ProblemData}
use Rattle.command_reply.specs.Accepted.{IsAccepted, IsRefused}

-- the first text ends with the first word `end` of the input, and the second one is what stands
-- behind; where there is no such word, the first text is the whole input
pub record AreTextsOf (input first second : List ℕ) : Type 0 where
  pub both : input ≡ first ++ second
  pub split : IsFirstEnd input (length first) ⊎ (HasNoEnd input × (second ≡ []))

-- no first text ends within as many bytes as a text may have, and the input goes on
pub record IsEndless (input : List ℕ) : Type 0 where
  pub long : 1048576 < length input
  pub none : (e : ℕ) → IsFirstEnd input e → 1048576 < e

-- The first fault of the two texts is this word at this place of the input. `Second` tells the
-- first faults of a text that speaks of a problem and begins at a place of the input.
pub data IsRefusedPair (Second : ProblemData → List ℕ → ℕ → ℕ → FaultWord → Type 0) (input : List ℕ) (place : ℕ) (word : FaultWord) : Type 0 where
  endless : IsEndless input → place ≡ 1048576 → word ≡ words.Long → IsRefusedPair Second input place word
  in_first : (first second : List ℕ) → AreTextsOf input first second → IsRefused first place word → IsRefusedPair Second input place word
  in_second : (first second : List ℕ) → AreTextsOf input first second → (p : ProblemData) → IsAccepted first p → Second p second (length first) place word
      → IsRefusedPair Second input place word
