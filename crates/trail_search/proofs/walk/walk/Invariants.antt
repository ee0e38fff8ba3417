use Rattle.std.proofs.Common.{◌≡◌, ◌+◌, ◌*◌, ◌-◌, true, length, None}
use Rattle.derivation.specs.Events.{HasGrown}
use Rattle.trail_search.specs.Record.{IsRecord}
use Rattle.trail_search.specs.Walker.{Walking, depth}
use Rattle.trail_search.proofs.walk.walk.Given as goal

abbrev pub invariant-loop-walker : goal.invariant-loop-walker
invariant-loop-walker g l =
    Walking g.row.K (g.P.Propagate.conditions l.fn.prop) l.budget l.fn.walker l.walker
    × (g.P.Propagate.conditions l.prop ≡ g.P.Propagate.conditions l.fn.prop)
    × (g.P.Propagate.objects l.prop ≡ g.P.Propagate.objects l.fn.prop)
    × HasGrown g.R.Recorder.keeps g.R.Recorder.list g.R.Recorder.refusals l.fn.rec l.rec
    × (g.R.Recorder.keeps ≡ true → l.fn.walker.token ≡ None → IsRecord (g.P.Propagate.conditions l.fn.prop) l.fn.walker (g.R.Recorder.list l.fn.rec) → IsRecord (g.P.Propagate.conditions l.fn.prop) l.walker (g.R.Recorder.list l.rec))

abbrev pub decreases-loop-walker : goal.decreases-loop-walker
decreases-loop-walker g l = (l.budget - l.walker.walked) * (length l.walker.variables + 2) + depth l.walker
