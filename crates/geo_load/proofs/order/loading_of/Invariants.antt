use Rattle.std.proofs.Common.{length}
use Rattle.geo_load.specs.Order.{IsAscending, Loads}
use Rattle.geo_load.specs.Pairs.{Says}
use Rattle.geo_load.proofs.order.loading_of.Given as goal

-- those of the order came in, and the others are left
abbrev pub invariant-loading : goal.invariant-loading
invariant-loading l = record {
  loads : Loads (Says l.answers) l.fn.objects.items l.order.items l.left.items;
  ascending : IsAscending l.left.items;
}

abbrev pub decreases-loading : goal.decreases-loading
decreases-loading l = length l.left.items
