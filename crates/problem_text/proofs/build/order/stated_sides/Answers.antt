use Rattle.std.proofs.Common.{refl}
use Rattle.problem_data.specs.Meaning.{side_of}
use Rattle.problem_data.specs.declared.tree.Side.TheVariants.{Low}
use Rattle.problem_text.proofs.MadeOfItems.{one_more}
use Rattle.problem_text.proofs.build.order.stated_sides.Goals as goal

pub loop-one-preserved : goal.loop-one-preserved
loop-one-preserved c =
    one_more side_of c.args.sides.now c.loop-one.one-index (record { place = 0; side = Low }) c.loop-one.made.items c.push.new.self.items _ c.loop-one-test.true c.in_ok-push.ensures.items refl c.loop-one.invariant
