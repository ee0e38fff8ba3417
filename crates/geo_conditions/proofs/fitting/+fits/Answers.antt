use Rattle.std.specs.Bool.{IsTrue}
use Rattle.std.proofs.Common.{List, length, ltb, refl, sym, ◌∙◌, subst, arith}
use Rattle.std.specs.List.{All}
use Rattle.std.proofs.lemmas.Bool.{false≢true}
use Rattle.geo_conditions.specs.declared.cond.Cond.{Cond}
use Rattle.geo_conditions.specs.Conditions.{FitsIn}
use Rattle.geo_conditions.proofs.Children.{fit_in, fit_out, fits_more, is_there}
use Rattle.geo_conditions.proofs.fitting.+fits.Goals as goal

pub returns-then-not-fits : goal.returns-then-not-fits
returns-then-not-fits g t c = (
  λ no. absurd (false≢true no),
  λ fits.
      let S = c.args.s.now in
      let all = fit_out c.in-AtLeast.field-0 c.in-AtLeast.children S (subst (λ (e : Cond). FitsIn e S) c.in-AtLeast.is fits) in
      let items : All (λ e. FitsIn e S) c.as_slice-child-items.result.now = subst (λ (xs : List Cond). All (λ e. FitsIn e S) xs) (sym c.as_slice-child-items.ensures) all in
      let child = subst (λ (e : Cond). FitsIn e S) (sym c.child-item.is) (items c.loop-child.child-index c.child-item.result c.loop-child-test.true) in
      absurd (false≢true (sym c.if-not-fits.true ∙ c.fits.ensures.1 child)),
)

pub loop-child-preserved : goal.loop-child-preserved
loop-child-preserved g t c = fits_more c.as_slice-child-items.result.now c.args.s.now c.loop-child.child-index c.child-item.result c.child-item.is c.loop-child-test.true (c.fits.ensures.0 c.if-not-fits.false) c.loop-child.invariant

pub returns-after-loop-child : goal.returns-after-loop-child
returns-after-loop-child g t c = (
  λ _.
      let S = c.args.s.now in
      let items : All (λ e. FitsIn e S) c.as_slice-child-items.result.now = λ i d b. c.loop-child.invariant i (omega (arith, b, c.loop-child-test.false)) d in
      subst (λ (e : Cond). FitsIn e S) (sym c.in-AtLeast.is) (fit_in c.in-AtLeast.field-0 c.in-AtLeast.children S (subst (λ (xs : List Cond). All (λ e. FitsIn e S) xs) c.as_slice-child-items.ensures items)),
  λ _. refl,
)

pub returns-in-Lin : goal.returns-in-Lin
returns-in-Lin g t c = subst (λ (e : Cond). (IsTrue c.form_fits.result → FitsIn e c.args.s.now) × (FitsIn e c.args.s.now → IsTrue c.form_fits.result)) (sym c.in-Lin.is) c.form_fits.ensures

pub returns-in-Shape : goal.returns-in-Shape
returns-in-Shape g t c =
    subst (λ (e : Cond). (IsTrue (ltb c.in-Shape.o.0 c.objects.result) → FitsIn e c.args.s.now) × (FitsIn e c.args.s.now → IsTrue (ltb c.in-Shape.o.0 c.objects.result))) (sym c.in-Shape.is)
    (is_there c.in-Shape.o.0 c.objects.result (length c.args.s.now) c.objects.ensures.number)

pub returns-in-NotShape : goal.returns-in-NotShape
returns-in-NotShape g t c =
    subst (λ (e : Cond). (IsTrue (ltb c.in-NotShape.o.0 c.objects-in-NotShape.result) → FitsIn e c.args.s.now) × (FitsIn e c.args.s.now → IsTrue (ltb c.in-NotShape.o.0 c.objects-in-NotShape.result))) (sym c.in-NotShape.is)
    (is_there c.in-NotShape.o.0 c.objects-in-NotShape.result (length c.args.s.now) c.objects-in-NotShape.ensures.number)
