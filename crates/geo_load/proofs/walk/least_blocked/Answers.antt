use Rattle.std.proofs.Common.{sym}
use Rattle.geo_load.specs.Pairs.{Says}
use Rattle.geo_load.proofs.Laws.{blocks_none, least_blocked}
use Rattle.geo_load.proofs.walk.least_blocked.Goals as goal

pub returns-then-is_blocked : goal.returns-then-is_blocked
returns-then-is_blocked c = least_blocked (Says c.args.answers.now) c.args.left.now c.args.o c.loop-u.u-index c.requires.ascending c.loop-u.invariant c.loop-u-test.true c.if-u-o.true (sym c.if-is_blocked.ensures)

pub unreachable-requires : goal.unreachable-requires
unreachable-requires c =
    let b = c.requires.blocks in
    blocks_none (Says c.args.answers.now) c.args.left.now c.args.o c.loop-u.u-index c.loop-u.invariant c.loop-u-test.false b.0 b.1 b.2 b.3
