-- A problem whose names and rules have no fault has none when it is grounded.
use Rattle.std.proofs.Common.{◌≡◌, ℕ, None, Some, sym, ◌∙◌}
use Rattle.geo_tokens.specs.declared.fault.FaultWord.{FaultWord}
use Rattle.geo_tokens.specs.declared.fault.TextFault.{TextFault}
use Rattle.geo_tokens.specs.declared.fault.TextFault.TheVariants as faults
use Rattle.problem_data.specs.Problem.{ProblemData}
use Rattle.rule_ground.specs.Phases.{IsUngrounded, misnamed, unexpanded, ungrounded}
use Rattle.fewer_rules.specs.Fewer.{HasConditions}

pub no_fault : (p : ProblemData) (place : ℕ) (word : FaultWord) → HasConditions p → IsUngrounded p place word → ⊥
no_fault p place word h (misnamed m) = h.names m.mistake m.first.there
no_fault p place word h (unexpanded n e) = (let z : None ≡ Some (faults.At place word) = sym h.expands ∙ e in absurd cc)
no_fault p place word h (ungrounded n x e) = (let z : None ≡ Some (faults.At place word) = sym h.grounds ∙ e in absurd cc)
