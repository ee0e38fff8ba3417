use Rattle.indexical.proofs.Bounds.{found_placed, found_two}
use Rattle.indexical.proofs.single_bound.bound_of_two.Goals as goal

pub returns-in-NotShape : goal.returns-in-NotShape
returns-in-NotShape g c = found_placed c.args.first.now c.args.second.now c.bound_at_place.result c.bound_at_place.ensures.form c.bound_at_place.ensures.asked c.bound_at_place.ensures.until

pub returns-in-Lin : goal.returns-in-Lin
returns-in-Lin g c = found_two c.args.first.now c.args.second.now c.hole_between.result c.hole_between.ensures
