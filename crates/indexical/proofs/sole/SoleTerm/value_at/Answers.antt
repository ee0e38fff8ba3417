use Rattle.indexical.proofs.SoleTerms.{value_fits, value_is}
use Rattle.indexical.proofs.sole.SoleTerm.value_at.Goals as goal

pub overflow_add-result : goal.overflow_add-result
overflow_add-result g c =
    let x = c.args.self.now in
    value_fits x.rest x.factor c.get.result c.product.result x.small x.bounded (record { sfits = c.get.type_inv }) (record { sfits = c.product.type_inv }) c.product.ensures

pub returns : goal.returns
returns g c =
    let x = c.args.self.now in
    value_is x.rest x.factor c.get.result c.product.result _ x.small x.bounded (record { sfits = c.get.type_inv }) (record { sfits = c.product.type_inv }) c.product.ensures c.get.ensures
