use Rattle.std.proofs.Common.{take}
use Rattle.std.specs.List.{All}
use Rattle.derivation_round_trip.specs.Limits.{IsLimited}
use Rattle.printed_derivation.proofs.printable.all_limited.Given as goal

abbrev pub invariant-loop-e : goal.invariant-loop-e
invariant-loop-e l = All IsLimited (take l.e-index l.events)
