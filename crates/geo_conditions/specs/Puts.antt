-- An object that the program puts at a place in a box.
use Rattle.std.specs.Prelude.{ℕ, Option, None, Some}
use Rattle.geo_conditions.specs.declared.refute.Put.{Put}
use Rattle.geo_conditions.specs.Reach.{Put as Placing}
use Rattle.geo_conditions.specs.Regions.{region_of}

-- what is put, by numbers
abbrev pub placing_of : {K : ℕ} → Put K → Placing
placing_of p = record { object = p.object.0; place = p.place; region = region_of p.region }

abbrev pub put_of : {K : ℕ} → Option (Put K) → Option Placing
put_of None = None
put_of (Some p) = Some (placing_of p)
