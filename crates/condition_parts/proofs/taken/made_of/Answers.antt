use Rattle.std.proofs.Common.{◌≡◌, List, [], ◌∷◌, length, map, sym, ap, ◌∙◌, subst, rules, arith}
use Rattle.std.proofs.lemmas.List.{map-append, map-id}
use Rattle.std.proofs.lemmas.Iterator.Consumers.{YieldsList-end}
use Rattle.std.proofs.lemmas.Iterator.Adapters.{YieldsList-from_vec}
use Rattle.indexical.specs.declared.any.AnyIndexical.{AnyIndexical}
use Rattle.geo_conditions.specs.declared.cond.Cond.{Cond}
use Rattle.condition_parts.specs.Made.{HasMade}
use Rattle.condition_parts.proofs.Making.{nothing_made}
use Rattle.condition_parts.proofs.taken.made_of.Goals as goal

pub loop-x-init : goal.loop-x-init
loop-x-init g c =
    let fronts = c.in_ok-with_capacity.field-0.items in
    let rest = c.new.result.items in
    let wholes = c.in_ok-with_capacity-2.field-0.items in
    record {
      made = nothing_made fronts rest wholes c.new-2.result.items c.in_ok-with_capacity.ensures.items c.new.ensures.items c.in_ok-with_capacity-2.ensures.items c.new-2.ensures.items;
      room = omega (arith, ap length c.new.ensures.items);
    }

pub loop-x-preserved : goal.loop-x-preserved
loop-x-preserved g c =
    let f = λ (x : AnyIndexical g.row.K). x.cond in
    let x = c.in-Some.x in
    let before = c.loop-x.yielded in
    record {
      made = subst (λ (cs : List Cond). HasMade cs c.put_one.new.made) (sym (map-append f before (x ∷ []))) (c.in_ok-put_one.ensures.made (map f before) c.loop-x.invariant.made);
      room = c.in_ok-put_one.ensures.rest;
    }

pub returns-clause-made : goal.returns-clause-made
returns-clause-made g c =
    let end = YieldsList-end (YieldsList-from_vec c.args.list.items (search rules) (search rules)) c.loop-x.yielded c.loop-x.x-iterator c.loop-x.yielded_by c.next.result c.next.new.self c.in-None.is c.next.ensures.steps in
    let all : c.loop-x.yielded ≡ c.args.list.items = sym (map-id c.loop-x.yielded) ∙ end.0 in
    subst (λ (xs : List (AnyIndexical g.row.K)). HasMade (map (λ x. x.cond) xs) c.loop-x.made) all c.loop-x.invariant.made
