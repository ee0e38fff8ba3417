use Rattle.fewer_rules.proofs.Layouts.{fewer_hold}
use Rattle.fewer_rules.proofs.laws.fewer_rules_hold.Goals as goal

pub returns : goal.returns
returns c = λ p keep fewer among t h. fewer_hold p keep fewer among t h
