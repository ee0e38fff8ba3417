-- Lists of events that grow, and a record that keeps them.
use Rattle.std.specs.Prelude.{◌≡◌, ◌≤◌, ◌+◌, ◌-◌, ◌^◌, min, ℕ, Bool, true, false, List, ◌++◌, Result, is_ok}
use Rattle.derivation.specs.declared.event.Event.{Event}

-- the new list is the old one with events behind it
abbrev pub Continues : List Event → List Event → Type 0
Continues old new = (es : List Event) × (new ≡ old ++ es)

-- the events that are kept, and how often one was refused
pub record Kept : Type 0 where
  pub events : List Event
  pub refusals : ℕ

-- What a call makes of a record, whose events and count of refusals were old and before, and are new and later: kept events go on, and the
-- count never falls. Where the call fails the count rose, and where nothing is kept it does not fail.
pub record Growth (keeps : Bool) (old new : List Event) (before later : ℕ) (done : Bool) : Type 0 where
  pub events : keeps ≡ true → Continues old new
  pub refusals : before ≤ later
  pub refused : done ≡ false → min (before + 1) (2 ^ 64 - 1) ≤ later
  pub no_record : keeps ≡ false → done ≡ true

-- the same of a recorder, before and behind what did not fail
abbrev pub HasGrown : {R : Type 0} → Bool → (R → List Event) → (R → ℕ) → R → R → Type 0
HasGrown keeps list refusals old new = Growth keeps (list old) (list new) (refusals old) (refusals new) true

-- and behind a call with that result
abbrev pub Grows : {R T E : Type 0} → Bool → (R → List Event) → (R → ℕ) → R → R → Result T E → Type 0
Grows keeps list refusals old new result = Growth keeps (list old) (list new) (refusals old) (refusals new) (is_ok result)

-- the same of a call that keeps only the events of base, and may change what stands behind them
abbrev pub GrowsFrom : {R T E : Type 0} → Bool → (R → List Event) → (R → ℕ) → List Event → R → R → Result T E → Type 0
GrowsFrom keeps list refusals base old new result = Growth keeps base (list new) (refusals old) (refusals new) (is_ok result)
