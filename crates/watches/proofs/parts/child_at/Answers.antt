use Rattle.std.proofs.Common.{◌<◌, ◌%◌, ◌≤ℤ◌, pos, length, rules}
use Rattle.watches.proofs.Resting.{child_read}
use Rattle.watches.proofs.parts.child_at.Goals as goal

pub returns-in-AtLeast : goal.returns-in-AtLeast
returns-in-AtLeast c =
    let xs = c.as_slice-parts.result.now in
    let one : c.in-AtLeast.n ≤ℤ pos 1 = search rules in
    let there : c.args.k % length xs < length xs = search rules in
    child_read c.args.c.now c.index-parts-k.result c.in-AtLeast.n c.in-AtLeast.children xs (c.args.k % length xs) c.in-AtLeast.is c.as_slice-parts.ensures one there c.index-parts-k.is
