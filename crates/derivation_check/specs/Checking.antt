-- What a check holds: the conditions, and how far it has come.
use Rattle.std.specs.Prelude.{List}
use Rattle.geo_conditions.specs.declared.cond.Cond.{Cond}
use Rattle.derivation_check.specs.Machine.{Machine}

pub record Checking : Type 0 where
  pub conds : List Cond
  pub machine : Machine
