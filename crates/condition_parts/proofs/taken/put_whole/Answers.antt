use Rattle.condition_parts.proofs.Making.{whole_made}
use Rattle.condition_parts.proofs.taken.put_whole.Goals as goal

pub returns-clause-made : goal.returns-clause-made
returns-clause-made g c = λ cs h.
    let old = c.args.made.now in
    whole_made cs old.fronts.items old.rest.items c.push.new.self.items old.wholes.items c.push-2.new.self.items old.numbers.items c.args.x c.in_ok-push.ensures.items c.in_ok-push-2.ensures.items h
