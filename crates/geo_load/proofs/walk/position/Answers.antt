use Rattle.std.proofs.Common.{◌<◌, ◌≤◌, length, arith}
use Rattle.geo_load.proofs.Members.{has_index}
use Rattle.geo_load.proofs.walk.position.Goals as goal

pub returns : goal.returns
returns c = λ h. (
    let s = has_index c.args.path.now c.args.o h in
    let lt : s.0 < length c.args.path.now = s.1 in
    let le : length c.args.path.now ≤ c.loop-k.k = c.loop-k-test.false in
    c.loop-k.invariant s.0 0 (omega (arith, lt, le)) (s.2 0)
    )
