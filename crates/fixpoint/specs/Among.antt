-- Whether an object is in a list.
use Rattle.std.specs.Prelude.{◌==◌, ℕ, Bool, List}
use Rattle.std.specs.List.{list_any}
use Rattle.geo_conditions.specs.declared.object.ObjId.{ObjId}

-- the object is in the list
abbrev pub is_among : ℕ → List ObjId → Bool
is_among o list = list_any (λ u. u.0 == o) list
