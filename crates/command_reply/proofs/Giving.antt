-- What is refused of two texts.
use Rattle.std.proofs.Common.{◌≡◌, ℕ, List, length, subst}
use Rattle.std.specs.Prelude.{Err}
use Rattle.geo_tokens.specs.declared.fault.TextFault.{TextFault}
use Rattle.geo_tokens.specs.declared.fault.TextFault.TheVariants as faults
use Rattle.layout_text.specs.FirstFault.{HasFaultFrom, AnswersLayout}
use Rattle.problem_data.specs.Problem.{ProblemData}
use Rattle.command_reply.specs.Accepted.{IsAccepted, AnswersAccepted}
use Rattle.command_reply.specs.Texts.{AreTextsOf, in_first, in_second}
use Rattle.command_reply.specs.Given.{AnswersGiven}

module _ (text first second : List ℕ) (cut : AreTextsOf text first second) where
  -- the first of them
  pub refused_first : (f : TextFault) → AnswersAccepted (Err f) first → AnswersGiven (Err f) text
  refused_first (faults.At place word) r = in_first first second cut r
  refused_first faults.Memory r = tt

  -- the second one
  pub refused_second : (p : ProblemData) (n : ℕ) (f : TextFault) → IsAccepted first p → n ≡ length first → AnswersLayout (Err f) p second n → AnswersGiven (Err f) text
  refused_second p n (faults.At place word) a e r = in_second first second cut p a (subst (λ (m : ℕ). HasFaultFrom p second m place word) e r)
  refused_second p n faults.Memory a e r = tt
