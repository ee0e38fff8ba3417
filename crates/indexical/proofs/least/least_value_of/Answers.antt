use Rattle.std.proofs.Common.{◌+◌, ◌*◌, ◌<◌, ◌≤◌, length, ap, arith}
use Rattle.std.specs.Int.{w128}
use mir.Val.{to_z}
use Rattle.std.proofs.lemmas.Int.{ints}
use Rattle.std.proofs.lemmas.List.{drop_all}
use Rattle.geo_base.specs.declared.TheConstants.{MAX_DIMS}
use Rattle.geo_conditions.specs.declared.object.TheConstants.{MAX_OBJECTS}
use Rattle.geo_conditions.specs.Conditions.{least_term, sum_of}
use Rattle.geo_conditions.proofs.Few.{few_terms}
use Rattle.indexical.proofs.SoleTerms.{sum_within}
use Rattle.geo_conditions.proofs.Products.{step_value, step_bound, step_fits}
use Rattle.indexical.proofs.least.least_value_of.Goals as goal

pub overflow_add-sum : goal.overflow_add-sum
overflow_add-sum g c =
    let most = few_terms g.row.K c.args.s.now c.args.f.now.terms c.args.f.now.constant c.requires.k c.objects-objects.ensures.shape c.terms-term-items.ensures.form c.requires.fits in
    let few : c.loop-term.term-index < MAX_OBJECTS * MAX_DIMS = omega (arith, most, c.loop-term-test.true, ap length c.terms-term-items.ensures.value) in
    step_fits c.loop-term.term-index (to_z w128 c.loop-term.sum-bits) c.least_term_of-sum.result few c.loop-term.invariant.bound c.least_term_of-sum.ensures.bound

pub loop-term-preserved : goal.loop-term-preserved
loop-term-preserved g c =
    let most = few_terms g.row.K c.args.s.now c.args.f.now.terms c.args.f.now.constant c.requires.k c.objects-objects.ensures.shape c.terms-term-items.ensures.form c.requires.fits in
    let few : c.loop-term.term-index < MAX_OBJECTS * MAX_DIMS = omega (arith, most, c.loop-term-test.true, ap length c.terms-term-items.ensures.value) in
    let xs = c.terms-term-items.result.now in
    record {
      value = step_value c.args.s.now c.terms-term-items.result.now c.loop-term.term-index _ (to_z w128 c.loop-term.sum-bits) c.least_term_of-sum.result _ c.loop-term-test.true few c.loop-term.invariant.bound c.least_term_of-sum.ensures.bound c.least_term_of-sum.ensures.value c.loop-term.invariant.value;
      bound = step_bound c.loop-term.term-index (to_z w128 c.loop-term.sum-bits) c.least_term_of-sum.result few c.loop-term.invariant.bound c.least_term_of-sum.ensures.bound;
    }

pub returns-clause-value : goal.returns-clause-value
returns-clause-value g c =
    let gone = drop_all c.loop-term.term-index c.terms-term-items.result.now c.loop-term-test.false in
    let z = ap (sum_of (least_term c.args.s.now)) gone in
    omega (arith, ints, z, c.loop-term.invariant.value)

pub returns-clause-bound : goal.returns-clause-bound
returns-clause-bound g c =
    let most = few_terms g.row.K c.args.s.now c.args.f.now.terms c.args.f.now.constant c.requires.k c.objects-objects.ensures.shape c.terms-term-items.ensures.form c.requires.fits in
    let few : c.loop-term.term-index + 1 ≤ MAX_OBJECTS * MAX_DIMS + 1 = omega (arith, most, c.loop-term.auto.term-index-end, ap length c.terms-term-items.ensures.value) in
    sum_within (c.loop-term.term-index + 1) (MAX_OBJECTS * MAX_DIMS + 1) (to_z w128 c.loop-term.sum-bits) few c.loop-term.invariant.bound
