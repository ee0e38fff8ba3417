use Rattle.std.proofs.Common.{drop}
use Rattle.std.specs.Prelude.{◌↔◌}
use Rattle.derivation_text.specs.Lines.{AreNamed}
use Rattle.derivation_text.proofs.naming.all_named.Given as goal

abbrev pub invariant-loop-e : goal.invariant-loop-e
invariant-loop-e l = AreNamed l.names 0 l.events ↔ AreNamed l.names l.o.0 (drop l.e-index l.events)
