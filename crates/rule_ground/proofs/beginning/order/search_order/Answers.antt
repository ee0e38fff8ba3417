use Rattle.std.proofs.Common.{◌≡◌, ℕ, Bool, List, [], ◌∷◌, ◌++◌, map, take, get_or, sym, ap, subst, ◌∙◌}
use Rattle.std.specs.Prelude.{IfOk}
use Rattle.std.proofs.lemmas.List.{map-append, take_more}
use Rattle.std.proofs.lemmas.Result.{IfOk-weaker}
use Rattle.geo_conditions.specs.declared.object.ObjId.{ObjId}
use Rattle.geo_conditions.specs.Order.{numbers_of}
use Rattle.problem_data.specs.Problem.{runs_down}
use Rattle.geo_conditions.specs.Walk.{Order, NamesEach}
use Rattle.rule_ground.specs.Start.{first_state}
use Rattle.rule_ground.proofs.Starts.{names-each, order-is}
use Rattle.rule_ground.proofs.beginning.order.search_order.Goals as goal

pub returns-clause-names : goal.returns-clause-names
returns-clause-names c =
    IfOk-weaker _ _ _ (λ (order : Order) e. subst (NamesEach c.args.problem.now.dims (first_state c.args.problem.now)) (sym (e ∙ order-is c.args.problem.now _ _ _ _ _ _ c.as_slice.ensures.value c.as_slice-2.ensures.value c.loop-o.invariant c.loop-side.invariant c.search_order-o-items.ensures c.sides-side-items.ensures c.loop-o-test.false c.loop-side-test.false)) (names-each c.args.problem.now c.is_said.ensures.formed)) c.new.ensures

pub loop-o-preserved : goal.loop-o-preserved
loop-o-preserved c =
    let i = c.loop-o.o-index in
    let all = c.search_order-o-items.result.now in
    ap numbers_of c.in_ok-push.ensures.items ∙ map-append (λ (o : ObjId). o.0) c.loop-o.objects.items (record { 0 = get_or all i 0 } ∷ [])
    ∙ ap (λ (ns : List ℕ). ns ++ get_or all i 0 ∷ []) c.loop-o.invariant ∙ sym (take_more all i 0 c.loop-o-test.true)

pub loop-side-preserved : goal.loop-side-preserved
loop-side-preserved c =
    let i = c.loop-side.side-index in
    let all = c.sides-side-items.result.now in
    c.in_ok-push-2.ensures.items ∙ ap (λ (bs : List Bool). bs ++ c.runs_down.result ∷ []) c.loop-side.invariant
    ∙ ap (λ (b : Bool). map runs_down (take i all) ++ b ∷ []) c.runs_down.ensures ∙ sym (map-append runs_down (take i all) (_ ∷ [])) ∙ ap (map runs_down) (sym (take_more all i _ c.loop-side-test.true))

pub returns-clause-value : goal.returns-clause-value
returns-clause-value c =
    subst (λ (o : Order). IfOk c.new.result (λ order. order ≡ o)) (order-is c.args.problem.now _ _ _ _ _ _ c.as_slice.ensures.value c.as_slice-2.ensures.value c.loop-o.invariant c.loop-side.invariant c.search_order-o-items.ensures c.sides-side-items.ensures c.loop-o-test.false c.loop-side-test.false) c.new.ensures
