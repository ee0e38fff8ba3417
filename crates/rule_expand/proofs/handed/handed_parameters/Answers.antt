use Rattle.rule_expand.proofs.HandedOn.{one-more-as, one-counted}
use Rattle.rule_expand.proofs.handed.handed_parameters.Goals as goal

pub loop-it-preserved : goal.loop-it-preserved
loop-it-preserved c = record {
  counted = one-counted c.loop-it.handed.items c.push.new.self.items c.handed_by-one.result c.loop-it.it-index c.loop-it.invariant.counted (c.in_ok-push.ensures {u = tt}).items;
  handed = one-more-as c.args.problem.now c.loop-it.handed.items c.as_slice.result.now c.push.new.self.items c.handed_by-one.result c.as_slice.ensures.value (c.in_ok-push.ensures {u = tt}).items c.loop-it.invariant.handed c.handed_by-one.ensures;
}
