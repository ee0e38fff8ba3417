-- Which events a text can have: its numbers are from -10^9 to 10^9.
use Rattle.std.specs.Prelude.{◌≤ℤ◌, ℤ, pos, negsuc}
use Rattle.derivation.specs.declared.event.Event.{Event}
use Rattle.derivation.specs.declared.event.Event.TheVariants.{SplitShape, SplitUpto, SplitFrom, Drop, Raise, Lower, Gone, Dead, Cover, EndCovers, By, Cut, CutFrom}

abbrev pub IsTextNumber : ℤ → Type 0
IsTextNumber v = (negsuc 999999999 ≤ℤ v) × (v ≤ℤ pos 1000000000)

-- the numbers of the event are ones that a text can have
abbrev pub IsLimited : Event → Type 0
IsLimited (SplitShape u s) = Unit {0}
IsLimited (SplitUpto u d v) = IsTextNumber v
IsLimited (SplitFrom u d v) = IsTextNumber v
IsLimited (Drop u s) = Unit {0}
IsLimited (Raise u d v) = IsTextNumber v
IsLimited (Lower u d v) = IsTextNumber v
IsLimited (Gone u) = Unit {0}
IsLimited (Dead i) = IsTextNumber (pos i)
IsLimited (Cover s) = Unit {0}
IsLimited EndCovers = Unit {0}
IsLimited (By i) = IsTextNumber (pos i)
IsLimited (Cut d v) = IsTextNumber v
IsLimited (CutFrom d v) = IsTextNumber v
