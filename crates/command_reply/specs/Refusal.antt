-- What is written of a text that is refused.
use Rattle.std.specs.Prelude.{◌≡◌, ◌++◌, ℕ, List, codes, decimal}
use Rattle.geo_tokens.specs.declared.fault.FaultWord.{FaultWord}
use Rattle.geo_tokens.specs.Fault.{fault_bytes}
use Rattle.problem_data.specs.Problem.{ProblemData}
use Rattle.command_reply.specs.Accepted.{IsRefused}
use Rattle.command_reply.specs.Texts.{IsRefusedPair}

-- refused PLACE WORD
abbrev pub refusal : ℕ → FaultWord → List ℕ
refusal place word = codes "refused " ++ (decimal place ++ (codes " " ++ (fault_bytes word ++ codes "\n")))

-- The text is refused, and this is its first fault.
abbrev pub RefusedAnswer : List ℕ → List ℕ → Type 0
RefusedAnswer input text = (place : ℕ) × (word : FaultWord) × IsRefused input place word × (text ≡ refusal place word)

-- The two texts are refused, and this is their first fault. `Second` tells the first faults of a
-- text behind a problem.
abbrev pub RefusedPairAnswer : (ProblemData → List ℕ → ℕ → ℕ → FaultWord → Type 0) → List ℕ → List ℕ → Type 0
RefusedPairAnswer Second input text = (place : ℕ) × (word : FaultWord) × IsRefusedPair Second input place word × (text ≡ refusal place word)
