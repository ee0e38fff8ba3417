use Rattle.std.proofs.Common.{◌∙◌, ◌||◌, Bool, sym, ap, arith}
use Rattle.rule_expand.specs.PlainView.{plain_product_view, plain_products_view}
use Rattle.rule_expand.specs.Degree.{has_coordinate, expr_breaks, product_breaks, products_break}
use Rattle.rule_expand.proofs.Degrees.{num-stands, field-stands, shape-stands, negative-stands, sum-stands, product-stands, least-stands, greatest-stands, either-same, sums-left-step, sums-left-have, sums-left-break, products-left-init, products-left-step, products-left-have, products-left-break}
use Rattle.rule_expand.proofs.degree.+degree.Goals as goal

pub products_degree-loop-step-init : goal.products_degree-loop-step-init
products_degree-loop-step-init t c = products-left-init c.args.left c.args.steps.now

pub sums_degree-loop-step-preserved : goal.sums_degree-loop-step-preserved
sums_degree-loop-step-preserved t c =
    sums-left-step c.args.steps.now c.loop-step.step-index c.step-item.result c.loop-step.degree.coordinates c.loop-step.degree.broken c.joined-degree.result.coordinates c.joined-degree.result.broken c.loop-step.invariant c.loop-step-test.true c.step-item.is
    (c.joined-degree.ensures.coordinates ∙ ap (λ y. c.loop-step.degree.coordinates || y) c.sum_degree-one.ensures.coordinates)
    (c.joined-degree.ensures.broken ∙ ap (λ y. c.loop-step.degree.broken || y) c.sum_degree-one.ensures.broken)

pub sums_degree-returns : goal.sums_degree-returns
sums_degree-returns t c = record {
  coordinates = sums-left-have c.args.steps.now c.loop-step.step-index c.loop-step.degree.coordinates c.loop-step.degree.broken c.loop-step.invariant (omega arith);
  broken = sums-left-break c.args.steps.now c.loop-step.step-index c.loop-step.degree.coordinates c.loop-step.degree.broken c.loop-step.invariant (omega arith);
}

pub products_degree-loop-step-preserved : goal.products_degree-loop-step-preserved
products_degree-loop-step-preserved t c =
    products-left-step c.args.left c.args.steps.now c.loop-step.step-index c.step-item.result c.loop-step.degree.coordinates c.loop-step.degree.broken c.joined-degree.result.coordinates c.joined-degree.result.broken c.loop-step.invariant c.loop-step-test.true c.step-item.is
    (c.joined-degree.ensures.coordinates ∙ ap (λ y. c.loop-step.degree.coordinates || y) c.product_degree-one.ensures.coordinates)
    (c.joined-degree.ensures.broken ∙ ap (λ y. c.loop-step.degree.broken || y) (c.product_degree-one.ensures.broken ∙ ap (λ l. product_breaks l (plain_product_view c.step-item.result)) c.either-before.ensures))

pub products_degree-returns : goal.products_degree-returns
products_degree-returns t c = record {
  coordinates = products-left-have c.args.left c.args.steps.now c.loop-step.step-index c.loop-step.degree.coordinates c.loop-step.degree.broken c.loop-step.invariant (omega arith);
  broken = products-left-break c.args.left c.args.steps.now c.loop-step.step-index c.loop-step.degree.coordinates c.loop-step.degree.broken c.loop-step.invariant (omega arith);
}

pub expr_degree-returns-in-Num : goal.expr_degree-returns-in-Num
expr_degree-returns-in-Num t c = record {
  coordinates = sym (ap has_coordinate (num-stands c.in-Num.field-0 c.in-Num.is));
  broken = sym (ap expr_breaks (num-stands c.in-Num.field-0 c.in-Num.is));
}

pub expr_degree-returns-in-Field : goal.expr_degree-returns-in-Field
expr_degree-returns-in-Field t c = record {
  coordinates = c.is_coordinate.ensures ∙ sym (ap has_coordinate (field-stands c.in-Field.field-0 c.in-Field.name c.in-Field.is));
  broken = sym (ap expr_breaks (field-stands c.in-Field.field-0 c.in-Field.name c.in-Field.is));
}

pub expr_degree-returns-in-ShapeNum : goal.expr_degree-returns-in-ShapeNum
expr_degree-returns-in-ShapeNum t c = record {
  coordinates = sym (ap has_coordinate (shape-stands c.in-ShapeNum.field-0 c.in-ShapeNum.is));
  broken = sym (ap expr_breaks (shape-stands c.in-ShapeNum.field-0 c.in-ShapeNum.is));
}

pub expr_degree-returns-in-Neg : goal.expr_degree-returns-in-Neg
expr_degree-returns-in-Neg t c = record {
  coordinates = c.expr_degree.ensures.coordinates ∙ sym (ap has_coordinate (negative-stands c.in-Neg.e c.in-Neg.is c.deref.ensures));
  broken = c.expr_degree.ensures.broken ∙ sym (ap expr_breaks (negative-stands c.in-Neg.e c.in-Neg.is c.deref.ensures));
}

pub expr_degree-returns-in-Sum : goal.expr_degree-returns-in-Sum
expr_degree-returns-in-Sum t c = record {
  coordinates = c.joined.ensures.coordinates ∙ either-same c.expr_degree-first.ensures.coordinates c.sums_degree.ensures.coordinates ∙ sym (ap has_coordinate (sum-stands c.in-Sum.e c.in-Sum.steps c.in-Sum.is c.deref-in-Sum.ensures c.deref-in-Sum-2.ensures.value));
  broken = c.joined.ensures.broken ∙ either-same c.expr_degree-first.ensures.broken c.sums_degree.ensures.broken ∙ sym (ap expr_breaks (sum-stands c.in-Sum.e c.in-Sum.steps c.in-Sum.is c.deref-in-Sum.ensures c.deref-in-Sum-2.ensures.value));
}

pub expr_degree-returns-in-Prod : goal.expr_degree-returns-in-Prod
expr_degree-returns-in-Prod t c = record {
  coordinates = c.joined-in-Prod.ensures.coordinates ∙ either-same c.expr_degree-first-in-Prod.ensures.coordinates c.products_degree.ensures.coordinates ∙ sym (ap has_coordinate (product-stands c.in-Prod.e c.in-Prod.steps c.in-Prod.is c.deref-in-Prod.ensures c.deref-in-Prod-2.ensures.value));
  broken = c.joined-in-Prod.ensures.broken ∙ either-same c.expr_degree-first-in-Prod.ensures.broken (c.products_degree.ensures.broken ∙ ap (λ (l : Bool). products_break l (plain_products_view c.deref-in-Prod-2.result.now)) c.expr_degree-first-in-Prod.ensures.coordinates) ∙ sym (ap expr_breaks (product-stands c.in-Prod.e c.in-Prod.steps c.in-Prod.is c.deref-in-Prod.ensures c.deref-in-Prod-2.ensures.value));
}

pub expr_degree-returns-in-Min : goal.expr_degree-returns-in-Min
expr_degree-returns-in-Min t c = record {
  coordinates = c.bounded.ensures.coordinates ∙ either-same c.expr_degree-in-Min.ensures.coordinates c.expr_degree-in-Min-2.ensures.coordinates ∙ sym (ap has_coordinate (least-stands c.in-Min.a c.in-Min.b c.in-Min.is c.deref-in-Min.ensures c.deref-in-Min-2.ensures));
  broken = c.bounded.ensures.broken ∙ either-same c.expr_degree-in-Min.ensures.coordinates c.expr_degree-in-Min-2.ensures.coordinates ∙ sym (ap expr_breaks (least-stands c.in-Min.a c.in-Min.b c.in-Min.is c.deref-in-Min.ensures c.deref-in-Min-2.ensures));
}

pub expr_degree-returns-in-Max : goal.expr_degree-returns-in-Max
expr_degree-returns-in-Max t c = record {
  coordinates = c.bounded-in-Max.ensures.coordinates ∙ either-same c.expr_degree-in-Max.ensures.coordinates c.expr_degree-in-Max-2.ensures.coordinates ∙ sym (ap has_coordinate (greatest-stands c.in-Max.a c.in-Max.b c.in-Max.is c.deref-in-Max.ensures c.deref-in-Max-2.ensures));
  broken = c.bounded-in-Max.ensures.broken ∙ either-same c.expr_degree-in-Max.ensures.coordinates c.expr_degree-in-Max-2.ensures.coordinates ∙ sym (ap expr_breaks (greatest-stands c.in-Max.a c.in-Max.b c.in-Max.is c.deref-in-Max.ensures c.deref-in-Max-2.ensures));
}
