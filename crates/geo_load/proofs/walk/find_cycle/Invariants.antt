use Rattle.std.proofs.Common.{◌+◌, ◌-◌, ℕ, [], ◌∷◌, ◌++◌, length}
use Rattle.geo_load.specs.Order.{Has, HasNot, IsOnce, IsWalk, BeginsLeast}
use Rattle.geo_load.specs.Pairs.{Says}
use Rattle.geo_load.proofs.walk.find_cycle.Given as goal

-- the path from the least object to the last one that was met
abbrev pub invariant-walking : goal.invariant-walking
invariant-walking l = record {
  begins : BeginsLeast l.left (l.path.items ++ l.last ∷ []);
  walk : IsWalk (Says l.answers) l.left l.path.items l.last;
  once : IsOnce l.path.items;
  fresh : HasNot l.path.items l.last;
  there : (o : ℕ) → Has l.path.items o → Has l.left o;
  last : Has l.left l.last;
}

abbrev pub decreases-walking : goal.decreases-walking
decreases-walking l = (length l.left + 1) - length l.path.items
