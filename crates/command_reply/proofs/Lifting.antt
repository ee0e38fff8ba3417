-- What is read of the bytes that a command took is read of the whole input.
use Rattle.std.proofs.Common.{◌≡◌, inl, inr, ℕ, ◌≤◌, List, ◌++◌, length, sym, subst, ◌∙◌, ap, append-nil, arith}
use Rattle.std.specs.Prelude.{Option, Result, Ok, Err}
use Rattle.std.proofs.lemmas.Grind.{common_steps}
use Rattle.geo_tokens.specs.declared.fault.FaultWord.{FaultWord}
use Rattle.problem_data.specs.Problem.{ProblemData}
use Rattle.problem_data.specs.Accepted.{most_bytes, Accepts}
use Rattle.problem_text.specs.FirstFault.{HasFirstFault, long, no_token, no_statements, in_statements}
use Rattle.command_reply.specs.Accepted.{IsAccepted, IsRefused, unread, misnamed, unexpanded, ungrounded, HasRead, AnswersAccepted}
use Rattle.command_reply.specs.declared.accepted.Accepted.{Accepted}
use Rattle.geo_tokens.specs.declared.fault.TextFault.{TextFault}
use Rattle.geo_tokens.specs.declared.fault.TextFault.TheVariants as faults
use Rattle.command_input.specs.Reading.{Tells, IsReadFrom, IsFirstText}

-- the answer to the text that was read is the answer to the input
whole_text : (input text : List ℕ) → IsFirstText input text → length text ≤ most_bytes → text ≡ input
whole_text input text h short = elim h.whole [
  | inl none ↦ sym (h.front ∙ ap (λ t. text ++ t) none ∙ append-nil text)
  | inr over ↦ absurd (omega arith)
]

accepts_input : (input text : List ℕ) (p : ProblemData) → IsFirstText input text → Accepts text p → Accepts input p
accepts_input input text p h a = subst (λ (t : List ℕ). Accepts t p) (whole_text input text h a.says.short) a

fault_of_input : (input text : List ℕ) (place : ℕ) (word : FaultWord) → IsFirstText input text → HasFirstFault text place word → HasFirstFault input place word
fault_of_input input text place word h (long l at is) = long (let e = ap length h.front in grind (arith, common_steps, e, l)) at is
fault_of_input input text place word h (no_token s f) = subst (λ (t : List ℕ). HasFirstFault t place word) (whole_text input text h s) (no_token s f)
fault_of_input input text place word h (no_statements s list tokens f) = subst (λ (t : List ℕ). HasFirstFault t place word) (whole_text input text h s) (no_statements s list tokens f)
fault_of_input input text place word h (in_statements t says f) = subst (λ (u : List ℕ). HasFirstFault u place word) (whole_text input text h says.short) (in_statements t says f)

pub accepted_input : (input text : List ℕ) (p : ProblemData) → IsFirstText input text → IsAccepted text p → IsAccepted input p
accepted_input input text p h a = record { spells = accepts_input input text p h a.spells; names = a.names; expands = a.expands; grounds = a.grounds }

refused_of_input : (input text : List ℕ) (place : ℕ) (word : FaultWord) → IsFirstText input text → IsRefused text place word → IsRefused input place word
refused_of_input input text place word h (unread f) = unread (fault_of_input input text place word h f)
refused_of_input input text place word h (misnamed p a m) = misnamed p (accepts_input input text p h a) m
refused_of_input input text place word h (unexpanded p a right e) = unexpanded p (accepts_input input text p h a) right e
refused_of_input input text place word h (ungrounded p a right x e) = ungrounded p (accepts_input input text p h a) right x e

read_of_input : (input text : List ℕ) (a : Accepted) → IsFirstText input text → HasRead text a → HasRead input a
read_of_input input text a h r = record {
  accepted = accepted_input input text a.problem h r.accepted;
  rules = r.rules;
  are = r.are;
  fit = r.fit;
  meaning = r.meaning;
  few = r.few;
  asks = r.asks;
  calm = r.calm;
}

answered_of_input : (input text : List ℕ) (r : Result Accepted TextFault) → IsFirstText input text → AnswersAccepted r text → AnswersAccepted r input
answered_of_input input text (Ok a) h r = read_of_input input text a h r
answered_of_input input text (Err (faults.At place word)) h r = refused_of_input input text place word h r
answered_of_input input text (Err faults.Memory) h r = tt

-- what was read of the text that was taken
pub accepted_lifted : (left : Option (List ℕ)) (text seen : List ℕ) (r : Result Accepted TextFault) → IsReadFrom left text → seen ≡ text → AnswersAccepted r seen
    → (input : List ℕ) × Tells left input × AnswersAccepted r input
accepted_lifted left text seen r (input, told, h) e a = (input, told, answered_of_input input text r h (subst (AnswersAccepted r) e a))
