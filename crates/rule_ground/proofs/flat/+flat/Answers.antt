use Rattle.std.proofs.Common.{◌≡◌, ◌++◌, map, sym, subst}
use Rattle.std.specs.Prelude.{OnOk}
use Rattle.linear_conditions.specs.CondTree.{cond_view}
use Rattle.rule_ground.proofs.Nodes.{flat-each, flat-whole}
use Rattle.rule_ground.proofs.flat.+flat.Goals as goal

pub push_conditions-returns-then-is_count : goal.push_conditions-returns-then-is_count
push_conditions-returns-then-is_count t c =
    subst (λ xs. OnOk c.push_each.result (map cond_view c.push_each.new.out.items ≡ map cond_view c.args.out.now.items ++ xs))
    (sym (flat-each c.args.c.now c.in-AtLeast.n c.in-AtLeast.children c.len.result c.is_count.result c.in-AtLeast.is c.len.ensures c.is_count.ensures c.if-is_count.true)) c.push_each.ensures

pub push_conditions-returns-else-is_count : goal.push_conditions-returns-else-is_count
push_conditions-returns-else-is_count t c =
    subst (λ xs. OnOk c.push_copy-in-AtLeast.result (map cond_view c.push_copy-in-AtLeast.new.out.items ≡ map cond_view c.args.out.now.items ++ xs))
    (sym (flat-whole c.args.c.now c.in-AtLeast.n c.in-AtLeast.children c.len.result c.is_count.result c.in-AtLeast.is c.len.ensures c.is_count.ensures c.if-is_count.false)) c.push_copy-in-AtLeast.ensures
