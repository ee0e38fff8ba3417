use Rattle.geo_load.specs.Pairs.{Says}
use Rattle.geo_load.proofs.Members.{index_has}
use Rattle.geo_load.proofs.Laws.{blocks_none}
use Rattle.geo_load.proofs.order.is_clear.Goals as goal
use Rattle.std.proofs.Common.{get_or, sym}

pub returns-then-is_blocked-clause-no : goal.returns-then-is_blocked-clause-no
returns-then-is_blocked-clause-no c = (get_or c.args.left.now c.loop-u.u-index 0, index_has c.args.left.now c.loop-u.u-index 0 c.loop-u-test.true, c.if-u-o.true, sym c.if-is_blocked.ensures)

pub returns-clause-yes : goal.returns-clause-yes
returns-clause-yes c = blocks_none (Says c.args.answers.now) c.args.left.now c.args.o c.loop-u.u-index c.loop-u.invariant c.loop-u-test.false
