use Rattle.std.proofs.Common.{◌≡◌, FitsSigned, List, [], map, rules, ap, subst, sym, ◌∙◌, of_z, to_z, to_z-of_z, refl}
use Rattle.std.specs.Prelude.{IfOk}
use Rattle.std.proofs.lemmas.List.{map-id}
use Rattle.std.proofs.lemmas.Iterator.Consumers.{YieldsList-end}
use Rattle.std.proofs.lemmas.Iterator.Adapters.{YieldsList-from_vec}
use Rattle.geo_conditions.specs.declared.cond.Cond.{Cond}
use Rattle.linear_conditions.specs.CondTree.{CondTree, cond_view}
use Rattle.linear_conditions.specs.Folding.{fold_count}
use Rattle.std.specs.Int.{w64}
use Rattle.linear_conditions.proofs.FoldSteps.{Kept, lowers, kept-none, kept-holds, kept-fails, kept-open, kept-at, kept-folded}
use Rattle.linear_conditions.proofs.fold.fold_mixed.Goals as goal

pub loop-c-preserved-in-Holds-1 : goal.loop-c-preserved-in-Holds-1
loop-c-preserved-in-Holds-1 c =
    let fits : FitsSigned w64 c.lowered-left.result = record { sfits = c.lowered-left.type_inv } in
    kept-at c.lowered-left.result _ _ _ c.loop-c.kept.items _ (sym (to_z-of_z fits)) refl
    (kept-holds _ c.lowered-left.result _ c.loop-c.kept.items c.loop-c.yielded c.in-Some.c c.loop-c.invariant (sym c.verdict.ensures ∙ c.in-Holds.is) c.lowered-left.ensures.some (lowers _ c.lowered-left.result c.lowered-left.ensures.none))

pub loop-c-preserved-in-Fails-1 : goal.loop-c-preserved-in-Fails-1
loop-c-preserved-in-Fails-1 c = kept-fails _ _ c.loop-c.kept.items c.loop-c.yielded c.in-Some.c c.loop-c.invariant (sym c.verdict.ensures ∙ c.in-Fails.is)

pub loop-c-preserved : goal.loop-c-preserved
loop-c-preserved c = kept-open _ _ c.loop-c.kept.items c.push.new.self.items c.loop-c.yielded c.in-Some.c c.loop-c.invariant (sym c.verdict.ensures ∙ c.in-Open.is) c.in_ok-push-in-Open.ensures.items

pub loop-c-init : goal.loop-c-init
loop-c-init c = subst (λ (ks : List Cond). Kept (to_z w64 (of_z w64 c.args.n)) (to_z w64 (of_z w64 c.args.n)) ks []) (sym c.new-kept.ensures.items) (kept-none _)

pub returns : goal.returns
returns c =
    let end = YieldsList-end (YieldsList-from_vec c.args.cs.items (search rules) (search rules)) c.loop-c.yielded c.loop-c.c-iterator c.loop-c.yielded_by c.next.result c.next.new.self c.in-None.is c.next.ensures.steps in
    let kept = kept-at _ _ _ c.args.n c.loop-c.kept.items c.loop-c.yielded refl (to_z-of_z c.ranges.n) c.loop-c.invariant in
    subst (λ (k : CondTree). IfOk c.fold_open.result (λ x. cond_view x ≡ k)) (kept-folded _ c.args.n c.loop-c.kept.items c.loop-c.yielded kept ∙ ap (λ (ys : List Cond). fold_count c.args.n (map cond_view ys)) (sym (map-id c.loop-c.yielded) ∙ end.0)) c.fold_open.ensures
