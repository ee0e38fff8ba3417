-- A reading that has ended stays as it is.
use Rattle.std.proofs.Common.{◌≡◌, List, Bool, Result, refl, ap, ◌∙◌, subst}
use Rattle.geo_tokens.specs.declared.fault.TextFault.{TextFault}
use Rattle.derivation.specs.declared.event.Event.{Event}
use Rattle.derivation_reading.specs.declared.symbol.Symbol.{Symbol}
use Rattle.derivation_reading.specs.declared.feeder.Progress.{Progress}
use Rattle.derivation_reading.specs.declared.feeder.Progress.TheVariants.{Open, Done, Failed}
use Rattle.derivation_reading.specs.declared.feeder.Feeder.{Feeder}
use Rattle.derivation_reading.specs.Feeding.{Stays, StaysClosed, answer_of}

-- where nothing is done
pub stays_as_is : (p : Progress) (before : List Event) → StaysClosed p p before before
stays_as_is (Open s) before = tt
stays_as_is Done before = (refl, refl)
stays_as_is (Failed fault) before = (refl, refl)

-- of an open one nothing is said
pub stays_open : (p : Progress) (s : Symbol) (new : Progress) (before later : List Event) → p ≡ Open s → StaysClosed p new before later
stays_open (Open t) s new before later e = tt
stays_open Done s new before later e = absurd cc
stays_open (Failed fault) s new before later e = absurd cc

-- one behind the other
pub stays_both : (p q r : Progress) (before middle later : List Event) → StaysClosed p q before middle → StaysClosed q r middle later → StaysClosed p r before later
stays_both (Open s) q r before middle later a b = tt
stays_both Done q r before middle later a b = (let h = subst (λ (x : Progress). StaysClosed x r middle later) a.0 b in (h.0, h.1 ∙ a.1))
stays_both (Failed fault) q r before middle later a b = (let h = subst (λ (x : Progress). StaysClosed x r middle later) a.0 b in (h.0, h.1 ∙ a.1))

-- and what is answered
pub answered : (p : Progress) (new : Feeder) (result : Result Bool TextFault) (before later : List Event) → result ≡ answer_of new.progress
    → StaysClosed p new.progress before later → Stays p new result before later
answered (Open s) new result before later e h = tt
answered Done new result before later e h = record { progress = h.0; answer = e ∙ ap answer_of h.0; events = h.1 }
answered (Failed fault) new result before later e h = record { progress = h.0; answer = e ∙ ap answer_of h.0; events = h.1 }
