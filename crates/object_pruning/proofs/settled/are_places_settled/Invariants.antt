use Rattle.std.proofs.Common.{◌≡◌, ◌<◌, ◌+◌, ℕ, List, ℤ, true}
use Rattle.geo_conditions.specs.declared.cond.Cond.{Cond}
use Rattle.geo_conditions.specs.Reach.{has}
use Rattle.object_pruning.specs.Kept.{AllSupport}
use Rattle.object_pruning.specs.Pruning.{CanBe}
use Rattle.object_pruning.proofs.settled.are_places_settled.Given as goal

-- so far each place has a point that is kept
abbrev pub invariant-loop-before : goal.invariant-loop-before
invariant-loop-before g l = (s : ℕ) → s < l.before + 1 → has l.s l.o.0 s ≡ true → (cs : List Cond) → AllSupport cs l.s l.o.0 l.kept → (p : List ℤ) × CanBe cs l.s l.o.0 s p
