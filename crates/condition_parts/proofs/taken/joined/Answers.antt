use Rattle.std.proofs.Common.{◌≡◌, List, ◌++◌, map, sym, ap, ◌∙◌, rules}
use Rattle.std.proofs.lemmas.List.{map-id}
use Rattle.std.proofs.lemmas.Iterator.Consumers.{YieldsList-end}
use Rattle.std.proofs.lemmas.Iterator.Adapters.{YieldsList-from_vec}
use Rattle.indexical.specs.declared.any.AnyIndexical.{AnyIndexical}
use Rattle.condition_parts.proofs.Mapped.{mapped_first, mapped_more}
use Rattle.condition_parts.proofs.taken.joined.Goals as goal

pub loop-x-init : goal.loop-x-init
loop-x-init g c = mapped_first (λ (x : AnyIndexical g.row.K). x.cond) c.args.fronts.items

pub loop-x-preserved : goal.loop-x-preserved
loop-x-preserved g c = mapped_more (λ (x : AnyIndexical g.row.K). x.cond) c.args.fronts.items c.loop-x.yielded c.loop-x.list.items c.push.new.self.items c.in-Some.x c.loop-x.invariant c.in_ok-push.ensures.items

pub returns : goal.returns
returns g c =
    let f = λ (x : AnyIndexical g.row.K). x.cond in
    let end = YieldsList-end (YieldsList-from_vec c.args.rest.items (search rules) (search rules)) c.loop-x.yielded c.loop-x.x-iterator c.loop-x.yielded_by c.next.result c.next.new.self c.in-None.is c.next.ensures.steps in
    let all : c.loop-x.yielded ≡ c.args.rest.items = sym (map-id c.loop-x.yielded) ∙ end.0 in
    c.loop-x.invariant ∙ ap (λ (xs : List (AnyIndexical g.row.K)). map f c.args.fronts.items ++ map f xs) all
