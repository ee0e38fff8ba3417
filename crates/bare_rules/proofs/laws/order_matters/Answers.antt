use Rattle.bare_rules.proofs.Order as order
use Rattle.bare_rules.proofs.laws.order_matters.Goals as goal

pub returns : goal.returns
returns c = order.order_matters
