use Rattle.std.proofs.Common.{ℕ, List, take, map, sym, ap, ◌∙◌}
use Rattle.problem_data.specs.Seen.{met, meet}
use Rattle.problem_data.proofs.InLists.{push_view, take_view}
use Rattle.problem_data.proofs.MetNames.{met_push}
use Rattle.rule_names.proofs.table.names_of.Goals as goal

pub loop-item-init : goal.loop-item-init
loop-item-init g c = c.in_ok-names.ensures.ok ∙ c.new.ensures

pub loop-item-preserved : goal.loop-item-preserved
loop-item-preserved g c =
    let names : List (List ℕ) = map g.T.HasName.own_name c.args.items.now in
    let before : List (List ℕ) = take c.loop-item.item-index names in
    let name : List ℕ = g.T.HasName.own_name c.item-item.result in
    c.in_ok-_is_new.ensures.met ∙ ap (λ (ns : List (List ℕ)). meet ns c.own_name.result.now) (c.deref_mut.ensures.value ∙ c.loop-item.invariant) ∙ ap (meet (met before)) c.own_name.ensures
    ∙ sym (met_push before name) ∙ ap met (sym (push_view g.T.HasName.own_name c.args.items.now c.loop-item.item-index c.item-item.result c.loop-item-test.true c.item-item.is))

pub returns : goal.returns
returns g c = c.loop-item.invariant ∙ ap met (take_view g.T.HasName.own_name c.args.items.now c.loop-item.item-index c.loop-item-test.false)
