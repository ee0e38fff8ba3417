use Rattle.std.proofs.Common.{◌≡◌, take}
use Rattle.derivation_trim.proofs.needed.copied.Given as goal

abbrev pub invariant-loop-e : goal.invariant-loop-e
invariant-loop-e l = l.copy.events ≡ take l.e-index l.events
