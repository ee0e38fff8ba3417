-- Objects by their numbers.
use Rattle.std.specs.Prelude.{ℕ, List, map}
use Rattle.geo_conditions.specs.declared.object.ObjId.{ObjId}

-- the numbers of the objects
abbrev pub numbers_of : List ObjId → List ℕ
numbers_of os = map (λ o. o.0) os
