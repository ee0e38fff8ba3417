-- What the program's faults say of an outcome. Want of memory says nothing.
use Rattle.std.specs.Prelude.{◌≡◌, Bool, true, false, Result, Ok, Err, Option, IfSome}
use Rattle.geo_tokens.specs.declared.fault.FaultWord.TheVariants as words
use Rattle.geo_conditions.specs.Form.{Sum}
use Rattle.linear_conditions.specs.Sums.{fits_sum}
use Rattle.linear_conditions.specs.declared.wide.Atom.{Atom}
use Rattle.linear_conditions.specs.declared.wide.WideSum.{WideSum}
use Rattle.linear_conditions.specs.declared.short.Short.{Short}
use Rattle.linear_conditions.specs.declared.fault.GroundFault.{GroundFault}
use Rattle.linear_conditions.specs.declared.fault.GroundFault.TheVariants.{Overflow, TooMany, Memory}
use Rattle.linear_conditions.specs.Counts.{Counts, Outcome, Fault}
use Rattle.linear_conditions.specs.Views.{atom_view, short_view, wide_view}

abbrev pub IsFault : (A : Type 0) → Outcome A → GroundFault → Type 0
IsFault A o Overflow = o ≡ Fault words.Overflow
IsFault A o TooMany = o ≡ Fault words.Ground
IsFault A o Memory = Unit {0}

-- the fault of counts: they are past the limits, and memory is never wanted
abbrev pub IsPast : Outcome Counts → GroundFault → Type 0
IsPast o e = (e ≡ TooMany) × (o ≡ Fault words.Ground)

-- the fault of a form that does not fit
abbrev pub IsMisfit : Bool → GroundFault → Type 0
IsMisfit fits Overflow = fits ≡ false
IsMisfit fits TooMany = ⊥
IsMisfit fits Memory = Unit {0}

-- a call's answer: the form, which is within the bounds, and so is all that it is made of; or that something of this is not
abbrev pub Gives : Result WideSum GroundFault → Sum → Bool → Type 0
Gives (Ok f) s fits = (wide_view f ≡ s) × (fits ≡ true) × (fits_sum (wide_view f) ≡ true)
Gives (Err e) s fits = IsMisfit fits e

-- the same of a number or a coordinate
abbrev pub GivesAtom : Result Atom GroundFault → Sum → Bool → Type 0
GivesAtom (Ok a) s fits = (atom_view a ≡ s) × (fits ≡ true) × (fits_sum (atom_view a) ≡ true)
GivesAtom (Err e) s fits = IsMisfit fits e

-- a form with at most one coordinate, if there is an answer; without one nothing is known
abbrev pub GivesShort : Option Short → Sum → Bool → Type 0
GivesShort r f fits = IfSome r (λ s. (short_view s ≡ f) × (fits ≡ true) × (fits_sum (short_view s) ≡ true))
