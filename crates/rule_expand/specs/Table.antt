-- What rules are expanded with: the tables of a problem.
use Rattle.rule_names.specs.Table.{AreTables as AreNameTables}
use Rattle.rule_expand.specs.Handed.{AreHanded}
use Rattle.rule_expand.specs.declared.table.Source.{Source}

pub record IsSource (s : Source) : Type 0 where
  pub names : AreNameTables s.problem.now s.names
  pub handed : AreHanded s.problem.now s.handed.items
