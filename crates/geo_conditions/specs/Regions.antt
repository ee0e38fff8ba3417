-- A box of the program as a region of the definitions, and an object that is put in a box.
use Rattle.std.specs.Prelude.{ℕ}
use Rattle.geo_base.specs.declared.kbox.KBox.{KBox}
use Rattle.geo_conditions.specs.Reach.{Region}

-- the region of a box
abbrev pub region_of : {K : ℕ} → KBox K → Region
region_of b = record { lo = b.lo.coordinates; hi = b.hi.coordinates }
