use Rattle.std.proofs.Common.{◌≡◌, ◌-◌, arith}
use Rattle.trail_arena.specs.Stack.{pile}
use Rattle.trail_arena.proofs.Rows.{row_of_none}
use Rattle.trail_arena.proofs.block.Block.new.Goals as goal

pub invariant_of-result : goal.invariant_of-result
invariant_of-result g c =
    let e = c.in_ok-base.ensures in
    (e.0, e.2, e.3, e.4, (row_of_none c.in_ok-base.cells.slots c.args.capacity e.1).1)

pub returns : goal.returns
returns g c =
    let e = c.in_ok-base.ensures in
    let all : c.args.capacity - 0 ≡ c.args.capacity = omega arith in
    (λ i. pile ((row_of_none c.in_ok-base.cells.slots c.args.capacity e.1).0 i) (all i))
