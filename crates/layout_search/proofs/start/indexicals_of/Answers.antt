use Rattle.std.proofs.Common.{◌≡◌, ◌++◌, ◌∷◌, [], map, ap, sym, ◌∙◌, rules}
use Rattle.std.proofs.lemmas.List.{map-append, map-id}
use Rattle.std.proofs.lemmas.Iterator.Consumers.{YieldsList-end}
use Rattle.std.proofs.lemmas.Iterator.Adapters.{YieldsList-from_vec}
use Rattle.indexical.specs.declared.any.AnyIndexical.{AnyIndexical}
use Rattle.layout_search.proofs.start.indexicals_of.Goals as goal

pub returns : goal.returns
returns g c =
    let end = YieldsList-end (YieldsList-from_vec c.args.conditions.items (search rules) (search rules)) c.loop-c.yielded c.loop-c.c-iterator c.loop-c.yielded_by c.next.result c.next.new.self c.in-None.is c.next.ensures.steps in
    let all : c.loop-c.yielded ≡ c.args.conditions.items = sym (map-id c.loop-c.yielded) ∙ end.0 in
    c.loop-c.invariant ∙ all

pub loop-c-preserved : goal.loop-c-preserved
loop-c-preserved g c =
    ap (map (λ (x : AnyIndexical g.row.K). x.cond)) c.in_ok-push.ensures.items ∙ map-append (λ (x : AnyIndexical g.row.K). x.cond) c.loop-c.list.items (c.from_cond.result ∷ [])
    ∙ (λ i. c.loop-c.invariant i ++ c.from_cond.ensures i ∷ [])
