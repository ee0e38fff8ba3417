use Rattle.std.proofs.Common.{inl, inr}
use Rattle.geo_conditions.proofs.Greatest.{greatest_or_none}
use Rattle.geo_conditions.proofs.Layouts.{even_state}
use Rattle.geo_conditions.proofs.laws.greatest_exists.Goals as goal

pub returns : goal.returns
returns c = λ k cs S T s t i. elim (greatest_or_none cs S (even_state k S s)) [ inl g ↦ g | inr none ↦ absurd (none T t i) ]
