use Rattle.derivation_check.proofs.Trees.{refused, all_taken}
use Rattle.derivation_check.proofs.tree.is_one_tree.Goals as goal

pub returns-then-not-branch : goal.returns-then-not-branch
returns-then-not-branch c =
    refused c.args.events.now c.loop-e.e-index _ c.in_ok-takes.field-0 _ _ c.loop-e-test.true c.loop-e.invariant c.in_ok-takes.ensures c.if-not-branch.true

pub returns : goal.returns
returns c = all_taken c.args.events.now c.loop-e.e-index _ c.loop-e.stack.items _ c.loop-e-test.false c.loop-e.invariant c.loop-e.stack.ok.0 c.is_empty.ensures
