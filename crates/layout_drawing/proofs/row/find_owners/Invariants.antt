use Rattle.std.proofs.Common.{◌<◌, ℕ, length}
use Rattle.layout_drawing.specs.Painting.{IsOwner, cell_at, owner_at}
use Rattle.layout_drawing.proofs.Painted.{OwnsBelow}
use Rattle.layout_drawing.proofs.row.find_owners.Given as goal

-- the cells have the owners that the blocks so far make
abbrev pub invariant-loop-block : goal.invariant-loop-block
invariant-loop-block l = (k : ℕ) → k < length l.row → IsOwner (λ o. OwnsBelow l.blocks l.block-index o (cell_at l.span.low l.others k)) (owner_at l.row k)
