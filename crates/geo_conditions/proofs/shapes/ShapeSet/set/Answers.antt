use Rattle.std.proofs.Common.{◌-◌, ◌<◌, length, arith, ◌∙◌}
use Rattle.std.proofs.Math.ListN.{length-set}
use Rattle.geo_conditions.proofs.Sets.{few_counted, count_small, counted_at, counted_set}
use Rattle.geo_conditions.proofs.shapes.ShapeSet.set.Goals as goal

pub overflow_add-self : goal.overflow_add-self
overflow_add-self c =
    omega (arith, c.self.invariant.0, c.self.invariant.1, few_counted c.self.inside.there, count_small c.args.there, c.counted.ensures)

pub overflow_sub-self : goal.overflow_sub-self
overflow_sub-self c =
    omega (arith, c.self.invariant.1, counted_at c.self.inside.there (c.args.place - 1), c.counted-2.ensures)

pub invariant_of-self : goal.invariant_of-self
invariant_of-self c =
    let bs = c.self.inside.there in
    let i = c.args.place - 1 in
    let l : i < length bs = omega (arith, c.self.invariant.0, c.requires.0, c.requires.1) in (
      length-set bs i c.args.there ∙ c.self.invariant.0,
      omega (arith, c.self.invariant.1, counted_at bs i, counted_set bs i c.args.there l, c.counted.ensures, c.counted-2.ensures),
      c.sole_of-self-inside.ensures,
    )

pub sole_of-self-inside-requires : goal.sole_of-self-inside-requires
sole_of-self-inside-requires c =
    let bs = c.self.inside.there in
    let i = c.args.place - 1 in
    let l : i < length bs = omega (arith, c.self.invariant.0, c.requires.0, c.requires.1) in
    omega (arith, c.self.invariant.1, counted_at bs i, counted_set bs i c.args.there l, c.counted.ensures, c.counted-2.ensures)
