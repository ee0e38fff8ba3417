use Rattle.std.proofs.Common.{◌<◌, ℕ}
use Rattle.geo_base.specs.Tuple.{spot}
use Rattle.problem_data.specs.Cells.{box_at}
use Rattle.geo_load.specs.Blocks.{BoxBlocksOne}
use Rattle.geo_load.proofs.reach.blocks.Given as goal

-- none of the boxes looked at blocks the object
abbrev pub invariant-loop-a : goal.invariant-loop-a
invariant-loop-a l = (n : ℕ) → n < l.a-index → BoxBlocksOne l.problem l.layout l.d (box_at l.own n) (spot l.layout l.i.0).origin l.j.0 → ⊥
