use Rattle.std.proofs.Common.{◌≡◌, set}
use Rattle.geo_conditions.specs.Reach.{reach}
use Rattle.geo_state.proofs.Regions.{half}
use Rattle.geo_state.proofs.entries.Saved.put_back.Given as goal

abbrev pub invariant-loop-d : goal.invariant-loop-d
invariant-loop-d g l = l.state ≡ set l.fn.state l.fn.self.object (half l.d l.fn.self.reach (reach l.fn.state l.fn.self.object))
