use Rattle.geo_conditions.specs.Puts.{put_of}
use Rattle.geo_conditions.specs.Reach.{low, high, put_on}
use Rattle.geo_conditions.proofs.Products.{product_cast, term_below, term_above}
use Rattle.geo_conditions.proofs.refute.least_term.Goals as goal

pub returns-then-term-lt0-clause-bound : goal.returns-then-term-lt0-clause-bound
returns-then-term-lt0-clause-bound g c = product_cast c.args.term.now.factor c.high_in.result c.product.result c.requires.bounded (record { sfits = c.high_in.type_inv }) (record { sfits = c.product.type_inv }) c.product.ensures

pub returns-else-term-lt0-clause-bound : goal.returns-else-term-lt0-clause-bound
returns-else-term-lt0-clause-bound g c = product_cast c.args.term.now.factor c.low_in.result c.product-else-term-lt0.result c.requires.bounded (record { sfits = c.low_in.type_inv }) (record { sfits = c.product-else-term-lt0.type_inv }) c.product-else-term-lt0.ensures

pub returns-then-term-lt0-clause-value : goal.returns-then-term-lt0-clause-value
returns-then-term-lt0-clause-value g c = let a = c.args.term.now in
    term_below a.factor (low (put_on (put_of c.args.put.now) c.args.s.now) a.object.0 a.dimension) (high (put_on (put_of c.args.put.now) c.args.s.now) a.object.0 a.dimension) c.high_in.result c.product.result
    c.requires.bounded (record { sfits = c.high_in.type_inv }) (record { sfits = c.product.type_inv }) c.if-term-lt0.true c.high_in.ensures c.product.ensures

pub returns-else-term-lt0-clause-value : goal.returns-else-term-lt0-clause-value
returns-else-term-lt0-clause-value g c = let a = c.args.term.now in
    term_above a.factor (low (put_on (put_of c.args.put.now) c.args.s.now) a.object.0 a.dimension) (high (put_on (put_of c.args.put.now) c.args.s.now) a.object.0 a.dimension) c.low_in.result c.product-else-term-lt0.result
    c.requires.bounded (record { sfits = c.low_in.type_inv }) (record { sfits = c.product-else-term-lt0.type_inv }) c.if-term-lt0.false c.low_in.ensures c.product-else-term-lt0.ensures
