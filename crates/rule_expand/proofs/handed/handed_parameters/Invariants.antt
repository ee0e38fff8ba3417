use Rattle.std.proofs.Common.{◌≡◌, length}
use Rattle.rule_expand.specs.Handed.{AreHanded}
use Rattle.rule_expand.proofs.handed.handed_parameters.Given as goal

-- the macros so far
abbrev pub invariant-loop-it : goal.invariant-loop-it
invariant-loop-it l = record {
  counted : length l.handed.items ≡ l.it-index;
  handed : AreHanded l.problem l.handed.items;
}
