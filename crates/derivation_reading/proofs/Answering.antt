-- What is answered to a whole text, and that nothing else is true of it.
use Rattle.std.proofs.Common.{◌≡◌, ◌+◌, ℕ, List, [], ◌++◌, Result, Ok, Err, Bool, true, refl, sym, ap, ◌∙◌, append-nil, subst, arith}
use Rattle.geo_tokens.specs.declared.fault.TextFault.{TextFault}
use Rattle.geo_tokens.specs.declared.fault.TextFault.TheVariants as faults
use Rattle.geo_tokens.specs.Names.{NameTable}
use Rattle.derivation.specs.declared.event.Event.{Event}
use Rattle.derivation.specs.Events.{Kept}
use Rattle.derivation_reading.specs.declared.feeder.Progress.{Progress}
use Rattle.derivation_reading.specs.declared.feeder.Progress.TheVariants.{Open, Done, Failed}
use Rattle.derivation_reading.specs.declared.feeder.Feeder.{Feeder}
use Rattle.derivation_reading.specs.FirstFault.{IsText, HasFaultFrom, AnswersDerivation, IsOnlyDerivation}
use Rattle.derivation_reading.specs.Feeding.{IsAt, HasCome, Comes, IsAtEnd, HasEnded, Ends, answer_of}
use Rattle.derivation_reading.proofs.OneReading.{one_text, text_or_first, first_faults}
use Rattle.derivation_reading.proofs.Recorded.{is_done}

-- ---- how far a reading has come by its answer

is_failed : (p : Progress) (fault : TextFault) → answer_of p ≡ Err fault → p ≡ Failed fault
is_failed (Open s) fault e = absurd cc
is_failed Done fault e = absurd cc
is_failed (Failed x) fault e = (let same : x ≡ fault = cc in ap Failed same)

module _ (n : NameTable) (from : ℕ) (text : List ℕ) where
  -- from the start on
  pub come : (f g : Feeder) (before later : List Event) → before ≡ [] → HasCome n from f [] [] → Comes f g text before later → HasCome n from g text later
  come f g before later none h comes =
      let r = comes n from [] [] h in
      subst (HasCome n from g text) (sym (r.1 ∙ ap (λ (x : List Event). x ++ r.0) none)) r.2

  -- and to the end
  pub end : (f g : Feeder) (before later : List Event) → HasCome n from f text before → Ends f g before later → HasEnded n from g text later
  end f g before later h ends = (let r = ends n from text before h in subst (HasEnded n from g text) (sym r.1) r.2)

  module _ (f : Feeder) (es : List Event) (result : Result Bool TextFault) (answer : result ≡ answer_of f.progress) where
    far : (p : Progress) → f.progress ≡ p → HasCome n from f text es → IsAt n from f p text es
    far p e h = subst (λ (q : Progress). IsAt n from f q text es) e h.far

    pub fault_come : (fault : TextFault) → result ≡ Err fault → HasCome n from f text es → HasFaultFrom n from text fault
    fault_come fault e h =
        subst (λ (u : List ℕ). HasFaultFrom n from u fault) (append-nil text) (far (Failed fault) (is_failed f.progress fault (sym answer ∙ e)) h [])

    pub text_come : result ≡ Ok true → HasCome n from f text es → IsText n text es
    text_come e h = subst (λ (u : List ℕ). IsText n u es) (append-nil text) (far Done (is_done f.progress (sym answer ∙ e)) h [])

    pub fault_ended : (fault : TextFault) → result ≡ Err fault → HasEnded n from f text es → HasFaultFrom n from text fault
    fault_ended fault e h = subst (λ (p : Progress). IsAtEnd n from p text es) (is_failed f.progress fault (sym answer ∙ e)) h.far

    -- behind the end it is a text or has a fault
    closed_text : (p : Progress) → f.progress ≡ p → (b : Bool) → answer_of p ≡ Ok b → IsAtEnd n from p text es → IsText n text es
    closed_text (Open s) is b e h = absurd h
    closed_text Done is b e h = h
    closed_text (Failed fault) is b e h = absurd cc

    pub text_ended : (b : Bool) → result ≡ Ok b → HasEnded n from f text es → IsText n text es
    text_ended b e h = closed_text f.progress refl b (sym answer ∙ e) h.far

  -- ---- nothing else is true

  same_place : (p q a b : ℕ) → p ≡ from + a → q ≡ from + b → a ≡ b → p ≡ q
  same_place p q a b e f g = omega arith

  pub only : (result : Result Kept TextFault) → AnswersDerivation result n from text → IsOnlyDerivation result n from text
  only (Ok log) h = (
    λ es other. one_text n text es log.events other h,
    λ place word fault. text_or_first n text log.events fault.0 word h fault.2,
  )
  only (Err (faults.At place word)) h = (
    λ es other. text_or_first n text es h.0 word other h.2,
    λ q w fault. (let same = first_faults n text fault.0 h.0 w word fault.2 h.2 in (same_place q place fault.0 h.0 fault.1 h.1 same.0, same.1)),
  )
  only (Err faults.Memory) h = tt
