use Rattle.std.proofs.Common.{◌≡◌, ◌++◌, map, take}
use Rattle.layout_drawing.specs.Painting.{owner_sign}
use Rattle.layout_drawing.proofs.row.push_row.Given as goal

-- the signs of the cells so far
abbrev pub invariant-loop-owner : goal.invariant-loop-owner
invariant-loop-owner l = l.text.items ≡ l.fn.text.items ++ map owner_sign (take l.owner-index l.owner-items)
