use Rattle.std.proofs.Common.{◌≡◌, ◌∷◌, [], ap, subst, ◌∙◌}
use Rattle.std.specs.Prelude.{MatchResult}
use Rattle.linear_conditions.specs.Counts.{Counts, Done, count_sums, one_visit, within_limits}
use Rattle.linear_conditions.specs.Faults.{IsPast}
use Rattle.linear_conditions.specs.Views.{wide_view}
use Rattle.linear_conditions.proofs.CounterSteps.{two-counted}
use Rattle.linear_conditions.proofs.counter.Counter.visit_two.Goals as goal

pub returns : goal.returns
returns c =
    let f = wide_view c.args.f.now in
    let g = wide_view c.args.g.now in
    let k : Counts = record { visits = c.take.inside.visits; leaves = c.take.inside.leaves; terms = c.take.inside.terms } in
    subst (λ (k : Counts). MatchResult c.take-2.result (λ _. within_limits k ≡ Done c.take-2.new.self c.take-2.new.self) (λ e. IsPast (within_limits k) e))
    (two-counted f g (one_visit k) _ _ _ _ _ c.leaf_count.ensures c.leaf_count-2.ensures c.from.ensures c.len.ensures c.len-2.ensures ∙ ap (λ k. count_sums (f ∷ g ∷ []) (one_visit k)) c.take.view_is) c.take-2.ensures
