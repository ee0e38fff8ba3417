use Rattle.std.proofs.Common.{◌<◌, ℕ, map}
use Rattle.geo_base.specs.Tuple.{spot}
use Rattle.problem_data.specs.Cells.{IsSpotOf}
use Rattle.problem_data.specs.Tuple.{object_of}
use Rattle.layout_text.specs.Token.{tuple_in}
use Rattle.layout_text.specs.View.{group_view}
use Rattle.layout_text.proofs.spots.give_tuple.Given as goal

-- the groups so far give spots of their objects
abbrev pub invariant-loop-i : goal.invariant-loop-i
invariant-loop-i l = (o : ℕ) → o < l.i → IsSpotOf l.problem (object_of l.problem o) (spot (tuple_in (map group_view l.groups)) o)
