use Rattle.geo_conditions.proofs.Layouts.{member_is_layout, layout_is_member}
use Rattle.geo_conditions.proofs.laws.full_members_are_layouts.Goals as goal

pub returns : goal.returns
returns c = λ k cs S order q some s fit n. (λ m. member_is_layout k cs S order q some s fit n m.0 m.1, λ l. layout_is_member k cs S order q some s fit n l)
