use Rattle.std.proofs.Common.{◌↔◌, ℕ, [], ◌∷◌, ◌++◌, subst, sym, ap, ◌∙◌}
use Rattle.geo_base.specs.Tuple.{Tuple}
use Rattle.geo_conditions.specs.Reach.{State, Region, TupleIn, first_places}
use Rattle.geo_conditions.specs.Regions.{region_of}
use Rattle.problem_data.specs.Cells.{IsWideTuple}
use Rattle.rule_ground.specs.Start.{HasSmallEnds}
use Rattle.rule_ground.proofs.Starts.{tuples-are, ends-small, state-end, state-more}
use Rattle.rule_ground.proofs.beginning.start.start_state.Goals as goal

pub returns-clause-tuples : goal.returns-clause-tuples
returns-clause-tuples g c =
    let P : State → Type 0 = λ s. (t : Tuple) → TupleIn t s ↔ IsWideTuple c.args.problem.now t in
    subst P (sym (state-end c.args.problem.now _ _ c.loop-object.state (c.objects-object-items.ensures) c.loop-object.invariant (c.loop-object-test.false))) (λ t. tuples-are c.args.problem.now t c.is_said.ensures.formed)

pub returns-clause-ends : goal.returns-clause-ends
returns-clause-ends g c =
    subst HasSmallEnds (sym (state-end c.args.problem.now _ _ c.loop-object.state (c.objects-object-items.ensures) c.loop-object.invariant (c.loop-object-test.false))) (ends-small c.args.problem.now c.is_said.ensures.formed)

pub loop-object-preserved : goal.loop-object-preserved
loop-object-preserved g c =
    let r : Region = region_of c.region.result in
    state-more c.objects-object-items.result.now c.loop-object.object-index c.object-item.result c.loop-object.state c.add_object.new.self r c.loop-object-test.true c.object-item.is c.loop-object.invariant c.region.ensures
    (c.in_ok-add_object.ensures.ok ∙ ap (λ (n : ℕ). c.loop-object.state ++ record { places = first_places n; region = r } ∷ []) c.places-places.ensures)

pub returns-clause-value : goal.returns-clause-value
returns-clause-value g c = state-end c.args.problem.now _ _ c.loop-object.state c.objects-object-items.ensures c.loop-object.invariant c.loop-object-test.false
