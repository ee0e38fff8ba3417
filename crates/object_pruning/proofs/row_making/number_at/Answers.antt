use Rattle.std.proofs.Common.{length}
use Rattle.sweep.proofs.PickedConditions.{pick_in}
use Rattle.object_pruning.proofs.row_making.number_at.Goals as goal

pub returns-clause-some : goal.returns-clause-some
returns-clause-some g c = (pick_in (length c.args.list.now) c.args.picks.now c.args.k c.requires.picks c.requires.pick).0

pub returns-clause-named : goal.returns-clause-named
returns-clause-named g c = (pick_in (length c.args.list.now) c.args.picks.now c.args.k c.requires.picks c.requires.pick).1
