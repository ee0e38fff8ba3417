use Rattle.std.proofs.Common.{◌≡◌, map, take}
use Rattle.geo_conditions.specs.Order.{numbers_of}
use Rattle.problem_data.specs.Problem.{runs_down}
use Rattle.rule_ground.proofs.beginning.order.search_order.Given as goal

abbrev pub invariant-loop-o : goal.invariant-loop-o
invariant-loop-o l = numbers_of l.objects.items ≡ take l.o-index l.o-items

abbrev pub invariant-loop-side : goal.invariant-loop-side
invariant-loop-side l = l.down.items ≡ map runs_down (take l.side-index l.side-items)
