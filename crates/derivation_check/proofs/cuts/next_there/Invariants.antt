use Rattle.std.proofs.Common.{◌≡◌}
use Rattle.derivation.specs.PlaceCovers.{next_place}
use Rattle.derivation_check.proofs.cuts.next_there.Given as goal

abbrev pub invariant-loop-place : goal.invariant-loop-place
invariant-loop-place l = next_place l.from l.places ≡ next_place l.place l.places
