use Rattle.std.proofs.Common.{◌≡◌, ◌++◌, ◌-◌, true, false, replicate}
use Rattle.geo_conditions.specs.declared.object.TheConstants.{MAX_SHAPES}
use Rattle.geo_conditions.proofs.shapes.ShapeSet.up_to.Given as goal

abbrev pub invariant-loop-i : goal.invariant-loop-i
invariant-loop-i l = l.there ≡ replicate l.i true ++ replicate (MAX_SHAPES - l.i) false
