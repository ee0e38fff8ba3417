use Rattle.geo_conditions.specs.Walk.{variables_in}
use Rattle.geo_conditions.proofs.Orders.{order_are_of}
use Rattle.geo_conditions.proofs.Prefixes.{member_take}
use Rattle.geo_conditions.proofs.laws.prefixes_are_members.Goals as goal

pub returns : goal.returns
returns c = λ k cs S order q m n member some few. member_take cs S (variables_in order) q m (order_are_of k S order n) member some few
