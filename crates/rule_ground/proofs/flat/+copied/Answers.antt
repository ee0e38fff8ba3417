use Rattle.rule_ground.proofs.Nodes.{copied-node}
use Rattle.rule_ground.proofs.flat.+copied.Goals as goal

pub copied-returns-in_ok-copied_children-in-AtLeast : goal.copied-returns-in_ok-copied_children-in-AtLeast
copied-returns-in_ok-copied_children-in-AtLeast t c =
    copied-node c.args.c.now c.in-AtLeast.n c.in-AtLeast.children c.in_ok-copied_children-in-AtLeast.field-0 c.node.result c.in-AtLeast.is c.in_ok-copied_children-in-AtLeast.ensures c.node.ensures
