use Rattle.std.proofs.Common.{pos}
use Rattle.problem_data.specs.ProblemView.{range_data}
use Rattle.problem_data.specs.Meaning.{range_of}
use Rattle.problem_text.proofs.MadeOfItems.{one_more_seen}
use Rattle.problem_text.proofs.build.objects.build_ranges.Goals as goal

pub loop-range-preserved : goal.loop-range-preserved
loop-range-preserved c =
    one_more_seen range_data range_of c.args.ranges.now c.loop-range.range-index (record { low = record { place = 0; value = pos 0 }; high = record { place = 0; value = pos 0 } }) c.loop-range.made.items c.push.new.self.items c.build_range-one.result
    c.loop-range-test.true c.in_ok-push.ensures.items c.build_range-one.ensures c.loop-range.invariant
