use Rattle.std.proofs.Common.{◌<◌, pos, get_or, refl, subst, below_more, List, length, arith}
use Rattle.std.specs.List.{All}
use Rattle.geo_conditions.specs.declared.form.Term.{Term}
use Rattle.geo_conditions.specs.Reach.{Exists, dims}
use Rattle.geo_conditions.proofs.Defaults.{any_default}
use Rattle.geo_conditions.proofs.Few.{dims_are}
use Rattle.geo_conditions.proofs.fitting.form_fits.Goals as goal

pub loop-term-preserved : goal.loop-term-preserved
loop-term-preserved g c =
    let S = c.args.s.now in
    let terms = c.terms-term-items.result.now in
    let i = c.loop-term.term-index in
    let none : Term = record { object = record { 0 = 0 }; dimension = 0; factor = pos 0 } in
    let there : (get_or terms i none).object.0 < length S = omega (arith, c.if-term-objects.false, c.objects-objects.ensures.number) in
    let in_dims : (get_or terms i none).dimension < dims S (get_or terms i none).object.0 = omega (arith, c.if-term.false, dims_are g.row.K S (get_or terms i none).object.0 c.objects-objects.ensures.shape there) in
    below_more _ _ c.loop-term.invariant (λ d. subst (λ (a : Term). Exists S a.object.0 a.dimension) (any_default terms i none d c.loop-term-test.true) (there, in_dims))

pub returns : goal.returns
returns g c = (
  λ _. subst (λ (ts : List Term). All (λ a. Exists c.args.s.now a.object.0 a.dimension) ts) c.terms-term-items.ensures.value (λ i d b. c.loop-term.invariant i (omega (arith, b, c.loop-term-test.false)) d),
  λ _. refl,
)
