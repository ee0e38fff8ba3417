use Rattle.std.proofs.Common.{◌-◌, ◌≤◌, length, take}
use Rattle.derivation_reading.specs.Feeding.{Comes, StaysClosed}
use Rattle.derivation_reading.proofs.feeder.Feeder.feed.Given as goal

abbrev pub invariant-loop-at : goal.invariant-loop-at
invariant-loop-at l = record {
  come : Comes l.fn.self l.self (take l.at l.piece) l.fn.out.events l.out.events;
  stays : StaysClosed l.fn.self.progress l.self.progress l.fn.out.events l.out.events;
  inside : l.at ≤ length l.piece;
}

abbrev pub decreases-loop-at : goal.decreases-loop-at
decreases-loop-at l = length l.initial.piece - l.at
