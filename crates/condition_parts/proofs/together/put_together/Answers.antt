use Rattle.std.proofs.Common.{◌∷◌, [], ◌++◌, map, sym, ap, ◌∙◌, rules}
use Rattle.std.proofs.lemmas.List.{map-append, map-id}
use Rattle.std.proofs.lemmas.Iterator.{YieldsList-from_zip}
use Rattle.std.proofs.lemmas.Iterator.Consumers.{YieldsList-end}
use Rattle.std.proofs.lemmas.Iterator.Adapters.{YieldsList-from_vec}
use Rattle.condition_parts.proofs.Wholes.{whole_at, whole_zipped}
use Rattle.condition_parts.proofs.together.put_together.Goals as goal

pub loop-whole-init : goal.loop-whole-init
loop-whole-init g c = c.in_ok-conditions.ensures.items

pub loop-whole-preserved : goal.loop-whole-preserved
loop-whole-preserved g c =
    c.in_ok-push.ensures.items ∙ (λ i. c.loop-whole.invariant i ++ c.whole_at.ensures i ∷ [])
    ∙ sym (map-append whole_at c.loop-whole.yielded ((c.in-Some.whole, c.in-Some.x) ∷ []))

pub returns : goal.returns
returns g c =
    let road = YieldsList-from_zip (YieldsList-from_vec c.args.wholes.items (search rules) (search rules)) (YieldsList-from_vec c.args.list.items (search rules) (search rules)) in
    let end = YieldsList-end road c.loop-whole.yielded c.loop-whole.whole-iterator c.loop-whole.yielded_by c.next.result c.next.new.self c.in-None.is c.next.ensures.steps in
    c.loop-whole.invariant ∙ ap (map whole_at) (sym (map-id c.loop-whole.yielded) ∙ end.0) ∙ whole_zipped c.args.wholes.items c.args.list.items
