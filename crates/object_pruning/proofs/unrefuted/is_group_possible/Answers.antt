use Rattle.std.proofs.Common.{map, refl}
use Rattle.object_pruning.proofs.LivePicks.{group_free}
use Rattle.object_pruning.proofs.RunPicks.{sole_free}
use Rattle.object_pruning.proofs.unrefuted.is_group_possible.Goals as goal

pub returns-then-not-can_be_in_the_way : goal.returns-then-not-can_be_in_the_way
returns-then-not-can_be_in_the_way g c = (
  λ e i b x p. group_free (map g.I.Indexical.cond c.args.list.now) c.args.s.now c.args.o.0 c.requires.fits c.requires.object c.args.group.now c.requires.group (sole_free c.args.s.now c.args.group.now.other c.args.group.now.other_place c.args.sole c.requires.sole (c.can_be_in_the_way.ensures c.if-not-can_be_in_the_way.true)) i x b p c.args.q.now.place c.args.q.now.point.coordinates,
  λ n. refl,
)
