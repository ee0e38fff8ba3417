use Rattle.std.proofs.Common.{arith}
use Rattle.std.proofs.lemmas.Int.{ints}
use Rattle.indexical.proofs.overlap.gap.Goals as goal

pub overflow_sub-result : goal.overflow_sub-result
overflow_sub-result g c =
    let t = c.args.a.now.bounded.0 c.args.d c.requires in
    let l = c.args.a.now.bounded.1 c.args.d c.requires in
    let u = c.args.b.now.bounded.0 c.args.d c.requires in
    omega (arith, ints, t.0, t.1, l.0, l.1, u.0, u.1, rw c.offset.ensures at c.get.ensures, rw c.size.ensures at c.get-2.ensures, rw c.offset-2.ensures at c.get-3.ensures)

pub returns : goal.returns
returns g c =
    let t = c.args.a.now.bounded.0 c.args.d c.requires in
    let l = c.args.a.now.bounded.1 c.args.d c.requires in
    let u = c.args.b.now.bounded.0 c.args.d c.requires in
    omega (arith, ints, t.0, t.1, l.0, l.1, u.0, u.1, rw c.offset.ensures at c.get.ensures, rw c.size.ensures at c.get-2.ensures, rw c.offset-2.ensures at c.get-3.ensures)
