-- The events of what exists: objects below a number of them, dimensions below K, the places 1 to 16, and numbers within the limit of a
-- derivation.
use Rattle.std.specs.Prelude.{◌<◌, ◌≤◌, ℕ}
use Rattle.geo_conditions.specs.declared.object.TheConstants.{MAX_SHAPES}
use Rattle.derivation.specs.declared.event.Event.{Event}
use Rattle.derivation.specs.declared.event.Event.TheVariants.{SplitShape, SplitUpto, SplitFrom, Drop, Raise, Lower, Gone, Dead, Cover, EndCovers, By, Cut, CutFrom}
use Rattle.derivation.specs.declared.side.Side.TheVariants.{Upto, From}
use Rattle.derivation.specs.Covers.{IsCut}

pub record IsPlace (s : ℕ) : Type 0 where
  pub least : 1 ≤ s
  pub most : s ≤ MAX_SHAPES

-- the objects, places and dimensions of the event exist
abbrev pub EventFits : ℕ → ℕ → Event → Type 0
EventFits n K (SplitShape o s) = (o.0 < n) × IsPlace s
EventFits n K (SplitUpto o d v) = (o.0 < n) × IsCut K (Upto d v)
EventFits n K (SplitFrom o d v) = (o.0 < n) × IsCut K (From d v)
EventFits n K (Drop o s) = (o.0 < n) × IsPlace s
EventFits n K (Raise o d v) = (o.0 < n) × IsCut K (From d v)
EventFits n K (Lower o d v) = (o.0 < n) × IsCut K (Upto d v)
EventFits n K (Gone o) = o.0 < n
EventFits n K (Dead i) = Unit {0}
EventFits n K (Cover s) = IsPlace s
EventFits n K EndCovers = Unit {0}
EventFits n K (By i) = Unit {0}
EventFits n K (Cut d v) = IsCut K (Upto d v)
EventFits n K (CutFrom d v) = IsCut K (From d v)
