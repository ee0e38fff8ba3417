use Rattle.std.proofs.Common.{◌≡◌, ◌≤◌, ℕ, true}
use Rattle.geo_conditions.specs.Reach.{place_in}
use Rattle.object_pruning.proofs.places.last_place.Given as goal

abbrev pub invariant-loop-before : goal.invariant-loop-before
invariant-loop-before g l = record {
  few : l.last ≤ l.before;
  last : (place : ℕ) → place ≤ l.before → place_in l.places place ≡ true → place ≤ l.last;
}
