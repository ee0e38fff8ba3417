-- Terms in order: each coordinate once, with factors that are not 0.
use Rattle.std.specs.Prelude.{◌≢◌, List, [], ◌∷◌, pos}
use Rattle.geo_conditions.specs.declared.form.Term.{Term}
use Rattle.geo_conditions.specs.Form.{StandsBefore}

-- the term stands before the first one of a list
abbrev pub IsAhead : Term → List Term → Type 0
IsAhead a [] = Unit {0}
IsAhead a (t ∷ ts) = StandsBefore a t

abbrev pub IsOrdered : List Term → Type 0
IsOrdered [] = Unit {0}
IsOrdered (t ∷ ts) = (t.factor ≢ pos 0) × IsAhead t ts × IsOrdered ts
