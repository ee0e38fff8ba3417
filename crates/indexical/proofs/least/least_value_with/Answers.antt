use Rattle.std.proofs.Common.{◌*◌, ◌<◌, ap, arith, length}
use Rattle.std.specs.Int.{w128}
use mir.Val.{to_z}
use Rattle.geo_base.specs.declared.TheConstants.{MAX_DIMS}
use Rattle.geo_conditions.specs.declared.object.TheConstants.{MAX_OBJECTS}
use Rattle.geo_conditions.specs.Reach.{just, with_at}
use Rattle.geo_conditions.proofs.Few.{few_terms}
use Rattle.geo_conditions.proofs.Products.{step_value, step_bound, step_fits}
use Rattle.indexical.proofs.least.least_value_with.Goals as goal

pub overflow_add-sum : goal.overflow_add-sum
overflow_add-sum g c =
    let most = few_terms g.row.K c.args.s.now c.args.f.now.terms c.args.f.now.constant c.requires.k c.objects-objects.ensures.shape c.terms-term-items.ensures.form c.requires.fits in
    let few : c.loop-term.term-index < MAX_OBJECTS * MAX_DIMS = omega (arith, most, c.loop-term-test.true, ap length c.terms-term-items.ensures.value) in
    step_fits c.loop-term.term-index (to_z w128 c.loop-term.sum-bits) c.least_term_with-sum.result few c.loop-term.invariant.bound c.least_term_with-sum.ensures.bound

pub loop-term-preserved : goal.loop-term-preserved
loop-term-preserved g c =
    let most = few_terms g.row.K c.args.s.now c.args.f.now.terms c.args.f.now.constant c.requires.k c.objects-objects.ensures.shape c.terms-term-items.ensures.form c.requires.fits in
    let few : c.loop-term.term-index < MAX_OBJECTS * MAX_DIMS = omega (arith, most, c.loop-term-test.true, ap length c.terms-term-items.ensures.value) in
    record {
      value = λ place. step_value (with_at c.args.s.now c.args.o.0 place (just c.args.c.now.coordinates)) c.terms-term-items.result.now c.loop-term.term-index _ (to_z w128 c.loop-term.sum-bits) c.least_term_with-sum.result _ c.loop-term-test.true few c.loop-term.invariant.bound c.least_term_with-sum.ensures.bound (c.least_term_with-sum.ensures.value place) (c.loop-term.invariant.value place);
      bound = step_bound c.loop-term.term-index (to_z w128 c.loop-term.sum-bits) c.least_term_with-sum.result few c.loop-term.invariant.bound c.least_term_with-sum.ensures.bound;
    }
