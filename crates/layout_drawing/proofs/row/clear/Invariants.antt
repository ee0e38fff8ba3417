use Rattle.std.proofs.Common.{◌≡◌, ◌<◌, ℕ}
use Rattle.layout_drawing.specs.declared.owner.Owner.TheVariants.{Nobody}
use Rattle.layout_drawing.specs.Painting.{owner_at}
use Rattle.layout_drawing.proofs.row.clear.Given as goal

-- the cells so far are free
abbrev pub invariant-loop-owner : goal.invariant-loop-owner
invariant-loop-owner l = (k : ℕ) → k < l.owner-index → owner_at l.row k ≡ Nobody
