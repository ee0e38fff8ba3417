use Rattle.std.proofs.Common.{[], ◌∷◌, ◌++◌, Some, ap, ◌∙◌}
use Rattle.geo_conditions.specs.declared.cond.Cond.{Cond}
use Rattle.condition_parts.proofs.Making.{parts_made, longer_by}
use Rattle.condition_parts.proofs.taken.put_apart.Goals as goal

pub returns-clause-made : goal.returns-clause-made
returns-clause-made g c = λ cs h.
    let old = c.args.made.now in
    parts_made cs old.fronts.items old.rest.items c.push.new.self.items old.wholes.items c.push-2.new.self.items old.numbers.items c.args.x
    c.args.others.items c.args.first c.put_others.new.rest.items c.put_others.new.numbers.items c.args.number
    c.in_ok-push.ensures.items (c.in_ok-push-2.ensures.items ∙ ap (λ (w : Cond). old.wholes.items ++ Some w ∷ []) c.into_cond.ensures) c.in_ok-put_others.ensures.parts c.in_ok-put_others.ensures.numbers c.requires.number c.requires.parts c.requires.named h

pub returns-clause-rest : goal.returns-clause-rest
returns-clause-rest g c = longer_by c.args.made.now.rest.items c.put_others.new.rest.items c.args.others.items c.in_ok-put_others.ensures.parts
