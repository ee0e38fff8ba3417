use Rattle.std.proofs.Common.{◌≡◌, ◌-◌, arith, ap, sym, ◌∙◌, length}
use Rattle.geo_conditions.specs.declared.object.TheConstants.{MAX_SHAPES}
use Rattle.geo_conditions.specs.Reach.{how_many}
use Rattle.geo_conditions.proofs.Flags.{flags_more, flags_length}
use Rattle.geo_conditions.proofs.Sets.{counted_first}
use Rattle.geo_conditions.proofs.shapes.ShapeSet.up_to.Goals as goal

pub loop-i-preserved : goal.loop-i-preserved
loop-i-preserved c = flags_more 16 c.loop-i.i c.loop-i.there (omega arith) c.loop-i.invariant

pub invariant_of-result : goal.invariant_of-result
invariant_of-result c =
    let i = c.loop-i.i in
    let end : c.args.n ≡ i = omega (arith, c.loop-i-test.false, c.loop-i.auto.i-end) in (
      ap length c.loop-i.invariant ∙ flags_length 16 i (omega (arith, c.requires)),
      end ∙ sym (ap how_many c.loop-i.invariant ∙ counted_first i (MAX_SHAPES - i)),
      c.sole_of-sole.ensures,
    )

pub sole_of-sole-requires : goal.sole_of-sole-requires
sole_of-sole-requires c =
    let i = c.loop-i.i in
    let end : c.args.n ≡ i = omega (arith, c.loop-i-test.false, c.loop-i.auto.i-end) in
    end ∙ sym (ap how_many c.loop-i.invariant ∙ counted_first i (MAX_SHAPES - i))
