use Rattle.std.proofs.Common.{◌≡◌, ◌≤◌, List, ℤ}
use Rattle.geo_conditions.specs.declared.cond.Cond.{Cond}
use Rattle.derivation.specs.declared.event.Event.{Event}
use Rattle.trail_search.specs.Record.{IsClosedRecord}
use Rattle.trail_search.specs.Walker.{IsWell, SameWalk, IsStuck, depth}
use Rattle.trail_search.proofs.walker.Walker.retreat.Given as goal

abbrev pub invariant-loop-self : goal.invariant-loop-self
invariant-loop-self g l =
    IsWell g.row.K l.self × SameWalk l.fn.self l.self × (l.self.walked ≡ l.fn.self.walked) × (depth l.self ≤ depth l.fn.self) × ((cs : List Cond) (w : List (List ℤ)) → IsStuck cs l.fn.self w → IsStuck cs l.self w) × ((cs : List Cond) (es : List Event) → IsClosedRecord cs l.fn.self es → IsClosedRecord cs l.self es)

abbrev pub decreases-loop-self : goal.decreases-loop-self
decreases-loop-self g l = depth l.self
