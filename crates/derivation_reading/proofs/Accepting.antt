-- A token that goes on.
use Rattle.std.proofs.Common.{◌≡◌, ℕ, List, [], ◌∷◌, ◌++◌, ◌∙◌, reverse, inl, inr, refl, sym, subst}
use Rattle.std.proofs.lemmas.List.{append-nil}
use Rattle.derivation.specs.declared.event.Event.{Event}
use Rattle.derivation_reading.specs.declared.production.Behind.{Behind}
use Rattle.derivation_reading.specs.declared.production.Outcome.TheVariants as outcomes
use Rattle.derivation_reading.specs.declared.feeder.Progress.{Progress}
use Rattle.derivation_reading.specs.declared.feeder.Progress.TheVariants.{Failed}
use Rattle.derivation_reading.specs.declared.feeder.Feeder.{Feeder}
use Rattle.geo_tokens.specs.declared.fault.TextFault.TheVariants as faults
use Rattle.derivation_reading.specs.Grammar.{Next}
use Rattle.derivation_reading.specs.Outcomes.{symbols, said}
use Rattle.derivation_reading.specs.Feeding.{HasLeft, Accepts, Goes}

module _ (old new : Feeder) (x : Next) (place : ℕ) (before : List Event) where
  -- with no event
  pub went_on : (behind : Behind) → said (outcomes.Goes behind) ≡ x → HasLeft new.progress new.behind.items (symbols behind ++ reverse old.behind.items)
      → Accepts old new x place before before
  went_on behind e left =
      subst (λ (y : Next). Accepts old new y place before before) e
      (record { left = left; recorded = []; grown = sym (append-nil before); whole = λ whole. refl; all_or_none = inl refl })

  -- with an event
  pub gave : (behind : Behind) (event : Event) (later : List Event) → said (outcomes.Gives event behind) ≡ x → Goes old new (symbols behind) (event ∷ []) before later
      → Accepts old new x place before later
  gave behind event later e given = subst (λ (y : Next). Accepts old new y place before later) e given

module _ (old new : Feeder) (behind : Behind) (event : Event) (before : List Event) where
  -- an event that was recorded
  pub recorded : (later : List Event) → HasLeft new.progress new.behind.items (symbols behind ++ reverse old.behind.items) → later ≡ before ++ event ∷ []
      → Goes old new (symbols behind) (event ∷ []) before later
  recorded later left grown = record { left = left; recorded = event ∷ []; grown = grown; whole = λ no_memory. refl; all_or_none = inr refl }

  -- and one that was refused
  pub refused : (later : List Event) → new.progress ≡ Failed faults.Memory → later ≡ before → Goes old new (symbols behind) (event ∷ []) before later
  refused later memory same = record {
    left = subst (λ (p : Progress). HasLeft p new.behind.items (symbols behind ++ reverse old.behind.items)) (sym memory) tt;
    recorded = [];
    grown = same ∙ sym (append-nil before);
    whole = λ no_memory. absurd (no_memory memory);
    all_or_none = inl refl;
  }
