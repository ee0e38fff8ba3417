use Rattle.std.proofs.Common.{◌≡◌, pos, replicate}
use Rattle.geo_conditions.proofs.layout.Layout.with_room.Given as goal

abbrev pub invariant-objects : goal.invariant-objects
invariant-objects l = l.layout ≡ replicate l._done (record { place = 1; origin = replicate l.dims (pos 0) })
