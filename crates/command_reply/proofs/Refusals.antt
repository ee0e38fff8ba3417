-- A text is accepted or refused, and not both.
use Rattle.std.proofs.Common.{◌≡◌, ℕ, List, length, sym, ◌∙◌, subst, arith}
use Rattle.std.specs.Prelude.{Option, None, Some, Err}
use Rattle.geo_tokens.specs.declared.fault.FaultWord.{FaultWord}
use Rattle.geo_tokens.specs.declared.fault.TextFault.{TextFault}
use Rattle.geo_tokens.specs.declared.fault.TextFault.TheVariants as faults
use Rattle.problem_data.specs.Problem.{ProblemData}
use Rattle.problem_data.specs.Accepted.{Accepts}
use Rattle.problem_text.specs.FirstFault.{AnswersProblem}
use Rattle.problem_text.proofs.OneProblem.{accepted_once, accepted_not_refused}
use Rattle.rule_names.specs.Answers.{AreNamesRight, HasFirstMistake, AnswersNames}
use Rattle.rule_expand.specs.Rules.{expansion_fault, IsFaultOf}
use Rattle.rule_ground.specs.Ground.{ground_fault}
use Rattle.rule_ground.specs.Ground as grounding
use Rattle.command_reply.specs.Accepted.{IsAccepted, IsRefused, unread, misnamed, unexpanded, ungrounded, AnswersAccepted}
use Rattle.command_reply.specs.Refusal.{RefusedAnswer}
use Rattle.command_reply.specs.Texts.{AreTextsOf, IsRefusedPair, endless, in_first, in_second}
use Rattle.command_reply.proofs.TwoTexts.{one-cut, long-front, spelled-short}

pub same_problem : (text : List ℕ) (p q : ProblemData) → IsAccepted text p → IsAccepted text q → p ≡ q
same_problem text p q a b = accepted_once text p q a.spells b.spells

pub right_or_wrong : (p : ProblemData) (place : ℕ) (word : FaultWord) → AreNamesRight p → HasFirstMistake p place word → ⊥
right_or_wrong p place word right h = right h.mistake h.first.there

pub within_or_large : (o : Option TextFault) (f : TextFault) → o ≡ None → o ≡ Some f → ⊥
within_or_large o f e g = let none : None ≡ Some f = sym e ∙ g in absurd cc

pub not_refused : (text : List ℕ) (p : ProblemData) (place : ℕ) (word : FaultWord) → IsAccepted text p → IsRefused text place word → ⊥
not_refused text p place word a (unread f) = accepted_not_refused text p place word a.spells f
not_refused text p place word a (misnamed q b h) = right_or_wrong p place word a.names (subst (λ (x : ProblemData). HasFirstMistake x place word) (accepted_once text q p b a.spells) h)
not_refused text p place word a (unexpanded q b right e) =
    within_or_large (expansion_fault p) (faults.At place word) a.expands (subst (λ (x : ProblemData). expansion_fault x ≡ Some (faults.At place word)) (accepted_once text q p b a.spells) e)
not_refused text p place word a (ungrounded q b right x e) =
    within_or_large (ground_fault p) (faults.At place word) a.grounds (subst (λ (y : ProblemData). ground_fault y ≡ Some (faults.At place word)) (accepted_once text q p b a.spells) e)

-- two texts of which neither has a fault are not refused
pub not_refused_pair : (Second : ProblemData → List ℕ → ℕ → ℕ → FaultWord → Type 0) (input a b : List ℕ) (p : ProblemData) (place : ℕ) (word : FaultWord)
    → AreTextsOf input a b → IsAccepted a p → (Second p b (length a) place word → ⊥) → IsRefusedPair Second input place word → ⊥
not_refused_pair Second input a b p place word cut acc right (endless e x y) = let s = spelled-short a p acc.spells in let l = long-front input a b e cut in omega (arith, s, l)
not_refused_pair Second input a b p place word cut acc right (in_first c d cut' f) =
    not_refused a p place word acc (subst (λ (z : List ℕ). IsRefused z place word) (sym (one-cut input a b c d cut cut').0) f)
not_refused_pair Second input a b p place word cut acc right (in_second c d cut' q acc' f) =
    let e = one-cut input a b c d cut cut' in
    let same : q ≡ p = same_problem a q p (subst (λ (z : List ℕ). IsAccepted z q) (sym e.0) acc') acc in
    right (subst (λ (x : ProblemData). Second x b (length a) place word) same
    (subst (λ (z : List ℕ). Second q b (length z) place word) (sym e.0) (subst (λ (z : List ℕ). Second q z (length c) place word) (sym e.1) f)))

-- ---- what the calls answered

pub refused_unread : (text : List ℕ) (f : TextFault) → AnswersProblem (Err f) text → AnswersAccepted (Err f) text
refused_unread text (faults.At place word) h = unread h
refused_unread text faults.Memory h = tt

pub refused_misnamed : (A : Type 0) (text : List ℕ) (p : ProblemData) (f : TextFault) → Accepts text p → AnswersNames {A = A} (Err f) p → AnswersAccepted (Err f) text
refused_misnamed A text p (faults.At place word) a h = misnamed p a h
refused_misnamed A text p faults.Memory a h = tt

pub refused_unexpanded : (text : List ℕ) (p : ProblemData) (f : TextFault) → Accepts text p → AreNamesRight p → IsFaultOf (expansion_fault p) f → AnswersAccepted (Err f) text
refused_unexpanded text p (faults.At place word) a right h = unexpanded p a right h
refused_unexpanded text p faults.Memory a right h = tt

pub refused_ungrounded : (text : List ℕ) (p : ProblemData) (f : TextFault) → Accepts text p → AreNamesRight p → expansion_fault p ≡ None → grounding.IsFaultOf (ground_fault p) f → AnswersAccepted (Err f) text
refused_ungrounded text p (faults.At place word) a right x h = ungrounded p a right x h
refused_ungrounded text p faults.Memory a right x h = tt

-- an accepted text is not answered with a refusal
pub refused_too : (input out : List ℕ) (p : ProblemData) → IsAccepted input p → RefusedAnswer input out → ⊥
refused_too input out p a (place, word, f, e) = not_refused input p place word a f
