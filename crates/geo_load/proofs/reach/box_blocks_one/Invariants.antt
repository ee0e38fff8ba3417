use Rattle.std.proofs.Common.{◌<◌, ℕ}
use Rattle.geo_base.specs.Tuple.{spot}
use Rattle.problem_data.specs.Cells.{box_at}
use Rattle.geo_load.specs.Blocks.{BoxBlocks}
use Rattle.geo_load.proofs.reach.box_blocks_one.Given as goal

-- the box blocks none of those looked at
abbrev pub invariant-loop-b : goal.invariant-loop-b
invariant-loop-b l = (n : ℕ) → n < l.b-index → BoxBlocks l.problem.dims l.d l.a (spot l.layout l.i.0).origin (box_at l.others n) (spot l.layout l.j.0).origin → ⊥
