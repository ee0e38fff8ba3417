use Rattle.std.proofs.Common.{◌≡◌, ◌<◌, ◌+◌, ◌++◌, ◌∷◌, [], ℕ, List, length, set, sym, ap, subst, ◌∙◌, refl, arith}
use Rattle.geo_conditions.specs.declared.object.ObjId.{ObjId}
use Rattle.fixpoint.specs.Links.{row}
use Rattle.fixpoint.proofs.Linking.{LinkedBelow, linked_start, linked_upto, linked_more, row_get}
use Rattle.fixpoint.proofs.links.link_each.Goals as goal

pub loop-o-init : goal.loop-o-init
loop-o-init g c =
    (subst (λ (l : List ObjId). LinkedBelow c.args.x.now.cond c.args.number 0 l c.args.picks.now c.args.picks.now) (sym c.new-named.ensures.items) (linked_start c.args.x.now.cond c.args.number c.args.picks.now), omega arith)

pub loop-o-smaller : goal.loop-o-smaller
loop-o-smaller g c = let k = c.in-Some.ensures in omega (arith, k.0, k.1, c.loop-o.invariant.1)

pub loop-o-preserved : goal.loop-o-preserved
loop-o-preserved g c =
    let x = c.args.x.now.cond in
    let number = c.args.number in
    let old = c.args.picks.now in
    let picks = c.loop-o.picks in
    let named = c.loop-o.named.items in
    let o = c.in-Some.o in
    let k = c.in-Some.ensures in
    let v = c.push-in-Some.new.self in
    let h : o.0 < length picks = omega (arith, k.0, c.loop-o.auto.picks) in
    let items : v.items ≡ row picks o.0 ++ number ∷ [] = c.in_ok-push-2.ensures.items ∙ ap (λ (l : List ℕ). l ++ number ∷ []) (sym (row_get picks o.0 c.index-picks-o.result h)) in
    let upto = linked_upto x number c.loop-o.next o.0 named old picks c.loop-o.invariant.0 k.1 k.3 in
    let more : LinkedBelow x number (o.0 + 1) (named ++ o ∷ []) old (set picks o.0 v) = linked_more x number o.0 named old picks o v upto k.2 refl h items in
    (subst (λ (l : List ObjId). LinkedBelow x number (o.0 + 1) l old (set picks o.0 v)) (sym c.in_ok-push.ensures.ok) more, omega (arith, k.0))

pub returns-clause-named : goal.returns-clause-named
returns-clause-named g c =
    (linked_upto c.args.x.now.cond c.args.number c.loop-o.next (length c.args.picks.now) c.loop-o.named.items c.args.picks.now c.loop-o.picks c.loop-o.invariant.0 c.loop-o.invariant.1 c.in_default.ensures).named

pub returns-clause-numbers : goal.returns-clause-numbers
returns-clause-numbers g c = λ o h.
    (linked_upto c.args.x.now.cond c.args.number c.loop-o.next (length c.args.picks.now) c.loop-o.named.items c.args.picks.now c.loop-o.picks c.loop-o.invariant.0 c.loop-o.invariant.1 c.in_default.ensures).done o h
