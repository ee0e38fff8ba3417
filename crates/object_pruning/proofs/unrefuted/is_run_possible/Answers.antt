use Rattle.std.proofs.Common.{map, refl}
use Rattle.object_pruning.proofs.RunPicks.{run_free}
use Rattle.object_pruning.proofs.unrefuted.is_run_possible.Goals as goal

pub returns-then-is_passed_over : goal.returns-then-is_passed_over
returns-then-is_passed_over g c = (
  λ e. run_free (map g.I.Indexical.cond c.args.list.now) c.args.s.now c.args.o.0 c.requires.fits c.requires.object c.args.groups.now c.requires.groups c.args.run.now c.requires.run c.sole_place_of-sole.result c.sole_place_of-sole.ensures.asks (c.is_passed_over.ensures c.if-is_passed_over.true) c.sole_place_of-sole.ensures.sole c.args.q.now,
  λ n. refl,
)
