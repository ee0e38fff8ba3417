use Rattle.std.proofs.Common.{◌≡◌, ◌≤◌, length, take}
use Rattle.derivation_check.specs.Machine.{HasTaken}
use Rattle.derivation_check.proofs.checker.check.Given as goal

abbrev pub invariant-loop-e : goal.invariant-loop-e
invariant-loop-e g l = record {
  conds : l.checker.conds ≡ l.conds;
  taken : HasTaken l.conds l.first (take l.e-index l.log.events) l.checker.machine;
  objects : length l.checker.machine.state ≡ length l.first;
  nodes : l.checker.machine.nodes ≤ l.e-index;
}
