-- Reading a whole text.
use Rattle.std.proofs.Common.{◌≡◌, ℕ, List, [], ◌∷◌, Some, inl, inr, refl, sym, ap, ◌∙◌, subst}
use Rattle.std.proofs.lemmas.List.{append-nil}
use Rattle.geo_tokens.specs.declared.token.Token.{Token}
use Rattle.geo_tokens.specs.Words.{Lang}
use Rattle.geo_tokens.specs.Reading.{Read, Got, Parts}
use Rattle.geo_tokens.specs.Deep.{Spells, IsValue, IsFault, IsReading, IsText, IsTextFault, Departs}
use Rattle.geo_tokens.specs.Gives.{Fails, Stops, StopsText}
use Rattle.geo_tokens.specs.declared.stop.Stop.{Stop}
use Rattle.geo_tokens.specs.declared.stop.Stop.TheVariants as stops

parts_departs : (v rest : List Token) → Parts v rest → Departs v rest
parts_departs [] rest h = absurd h
parts_departs (t ∷ v) [] h = tt
parts_departs (t ∷ v) (s ∷ rest) h = h

nil_departs : (v rest : List Token) (t : Token) → v ≡ [] → Departs v (t ∷ rest)
nil_departs [] rest t e = tt
nil_departs (s ∷ v) rest t e = absurd cc

module _ {A : Type 0} (L : ℕ → Lang A) (w : List Token) where
  -- nothing is left
  pub text_value : (a : A) → IsValue L w a [] → IsText L w a
  text_value a r =
      let all : w ≡ r.run = r.parts ∙ append-nil r.run in
      record {
        spells = subst (λ (u : List Token). Spells L a u) (sym all) r.spells;
        only = λ b s. elim (r.only b [] (subst (λ (u : List Token). Spells L b u) (all ∙ sym (append-nil r.run)) s)) [
          | inl z ↦ z.1
          | inr z ↦ absurd z
        ];
      }

  -- something is left
  pub text_left : (a : A) (t : Token) (rest : List Token) → IsValue L w a (t ∷ rest) → IsTextFault L w (t ∷ rest)
  text_left a t rest r = record {
    run = r.run;
    parts = r.parts;
    value = a;
    more = [];
    begins = subst (λ (u : List Token). Spells L a u) (sym (append-nil r.run)) r.spells;
    only = λ b v s. elim (r.only b v s) [
      | inl z ↦ nil_departs v rest t z.0
      | inr z ↦ parts_departs v (t ∷ rest) z
    ];
  }

  pub text_fault : (rest : List Token) → IsFault L w rest → IsTextFault L w rest
  text_fault rest r = record { run = r.run; parts = r.parts; value = r.value; more = r.more; begins = r.begins; only = λ b v s. parts_departs v rest (r.only b v s) }

  pub text_stops : (limit : ℕ) (e : Stop) → Stops L limit w e → StopsText L limit w e
  text_stops limit stops.Memory h = tt
  text_stops limit (stops.Wrong rest) h = text_fault rest.now h
  text_stops limit (stops.Deep rest) h = h

  pub some_left : (a : A) (rest : List Token) → (rest ≡ [] → ⊥) → IsValue L w a rest → IsTextFault L w rest
  some_left a [] n r = absurd (n refl)
  some_left a (t ∷ rest) n r = text_left a t rest r

-- ---- what a function that reads a whole text says, by what reading gives

module _ {A : Type 0} (L : ℕ → Lang A) (n : ℕ) (w : List Token) (r : Read A) (is : IsReading L n w r) where
  pub text_stopped : (e : Stop) → Fails e r → StopsText L n w e
  text_stopped stops.Memory h = tt
  text_stopped (stops.Wrong rest) h = text_fault L w rest.now (subst (λ (u : Read A). IsReading L n w u) h is)
  text_stopped (stops.Deep rest) h = subst (λ (u : Read A). IsReading L n w u) h is

  pub text_not_done : (a : A) (rest : List Token) → r ≡ Got (Some a) rest → (rest ≡ [] → ⊥) → IsTextFault L w rest
  text_not_done a rest h some = some_left L w a rest some (subst (λ (u : Read A). IsReading L n w u) h is)

  pub text_done : (a : A) (rest : List Token) → r ≡ Got (Some a) rest → rest ≡ [] → IsText L w a
  text_done a rest h none = text_value L w a (subst (λ (u : Read A). IsReading L n w u) (h ∙ ap (λ (v : List Token). Got (Some a) v) none) is)
