use Rattle.std.proofs.Common.{◌≡◌, ◌≤◌, ◌+◌, ◌++◌, List, length, take}
use Rattle.geo_conditions.specs.Reach.{Reach}
use Rattle.derivation.specs.declared.event.Event.{Event}
use Rattle.derivation_check.specs.Machine.{HasTaken}
use Rattle.stream_check.proofs.stream.give_all.Given as goal

abbrev pub invariant-loop-e : goal.invariant-loop-e
invariant-loop-e g l = record {
  conds : l.checker.conds ≡ l.fn.checker.conds;
  objects : length l.checker.machine.state ≡ length l.fn.checker.machine.state;
  nodes : l.checker.machine.nodes ≤ l.fn.checker.machine.nodes + l.e-index;
  taken : (first : List Reach) (es : List Event) → HasTaken l.fn.checker.conds first es l.fn.checker.machine → HasTaken l.fn.checker.conds first (es ++ take l.e-index l.events) l.checker.machine;
}
