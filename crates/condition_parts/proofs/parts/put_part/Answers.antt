use Rattle.std.proofs.Common.{List, subst}
use Rattle.geo_conditions.specs.declared.cond.Cond.{Cond}
use Rattle.condition_parts.specs.Literals.{AddsAll}
use Rattle.condition_parts.proofs.Under.{one_part}
use Rattle.condition_parts.proofs.parts.put_part.Goals as goal

pub returns : goal.returns
returns c = λ e.
    one_part c.args.before.now c.put_literals.new.literals.items c.put_all.new.literals.items c.args.c.now c.in_ok-one_of.field-0 c.args.parts.now.items c.push.new.self.items
    (subst (λ (xs : List Cond). AddsAll c.args.before.now xs c.put_all.new.literals.items) c.new-literals.ensures.items (c.in_ok-put_all.ensures c.if-not-branch.false)) (c.in_ok-put_literals.ensures c.if-not-branch-2.false) c.in_ok-one_of.ensures c.in_ok-push.ensures.items
