use Rattle.geo_conditions.proofs.Products.{product_cast}
use Rattle.indexical.proofs.least.least_term_of.Goals as goal

pub returns-then-term-lt0-clause-bound : goal.returns-then-term-lt0-clause-bound
returns-then-term-lt0-clause-bound g c = product_cast c.args.term.now.factor c.high_of.result c.product.result c.requires.bounded (record { sfits = c.high_of.type_inv }) (record { sfits = c.product.type_inv }) c.product.ensures

pub returns-else-term-lt0-clause-bound : goal.returns-else-term-lt0-clause-bound
returns-else-term-lt0-clause-bound g c = product_cast c.args.term.now.factor c.low_of.result c.product-else-term-lt0.result c.requires.bounded (record { sfits = c.low_of.type_inv }) (record { sfits = c.product-else-term-lt0.type_inv }) c.product-else-term-lt0.ensures
