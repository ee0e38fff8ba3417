use Rattle.geo_conditions.specs.Reach.{high, just, low, with_at}
use Rattle.geo_conditions.proofs.Products.{product_cast, term_below, term_above}
use Rattle.indexical.proofs.least.least_term_with.Goals as goal

pub returns-then-term-lt0-clause-bound : goal.returns-then-term-lt0-clause-bound
returns-then-term-lt0-clause-bound g c = product_cast c.args.term.now.factor c.high_with.result c.product.result c.requires.bounded (record { sfits = c.high_with.type_inv }) (record { sfits = c.product.type_inv }) c.product.ensures

pub returns-else-term-lt0-clause-bound : goal.returns-else-term-lt0-clause-bound
returns-else-term-lt0-clause-bound g c = product_cast c.args.term.now.factor c.low_with.result c.product-else-term-lt0.result c.requires.bounded (record { sfits = c.low_with.type_inv }) (record { sfits = c.product-else-term-lt0.type_inv }) c.product-else-term-lt0.ensures

pub returns-then-term-lt0-clause-value : goal.returns-then-term-lt0-clause-value
returns-then-term-lt0-clause-value g c = λ place.
    let a = c.args.term.now in
    let S = with_at c.args.s.now c.args.o.0 place (just c.args.c.now.coordinates) in
    term_below a.factor (low S a.object.0 a.dimension) (high S a.object.0 a.dimension) c.high_with.result c.product.result
    c.requires.bounded (record { sfits = c.high_with.type_inv }) (record { sfits = c.product.type_inv }) c.if-term-lt0.true (c.high_with.ensures place) c.product.ensures

pub returns-else-term-lt0-clause-value : goal.returns-else-term-lt0-clause-value
returns-else-term-lt0-clause-value g c = λ place.
    let a = c.args.term.now in
    let S = with_at c.args.s.now c.args.o.0 place (just c.args.c.now.coordinates) in
    term_above a.factor (low S a.object.0 a.dimension) (high S a.object.0 a.dimension) c.low_with.result c.product-else-term-lt0.result
    c.requires.bounded (record { sfits = c.low_with.type_inv }) (record { sfits = c.product-else-term-lt0.type_inv }) c.if-term-lt0.false (c.low_with.ensures place) c.product-else-term-lt0.ensures
