use Rattle.geo_conditions.proofs.Children.{fits_more}
use Rattle.geo_conditions.proofs.fitting.all_fit.Goals as goal

pub loop-c-preserved : goal.loop-c-preserved
loop-c-preserved g c = fits_more c.args.conds.now c.args.s.now c.loop-c.c-index c.c-item.result c.c-item.is c.loop-c-test.true (c.fits.ensures.0 c.if-not-fits.false) c.loop-c.invariant
