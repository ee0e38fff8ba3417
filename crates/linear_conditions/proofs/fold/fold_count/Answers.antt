use Rattle.std.proofs.Common.{◌≡◌, true, List, map, ℤ, to_z-of_z, sym, ◌∙◌, ap, subst}
use Rattle.std.specs.List.{list_all}
use Rattle.std.specs.Prelude.{IfOk}
use Rattle.geo_conditions.specs.declared.cond.Cond.{Cond}
use Rattle.linear_conditions.specs.CondTree.{CondTree, cond_view}
use Rattle.linear_conditions.specs.Folding.{fold_open}
use Rattle.linear_conditions.specs.Open.{is_open}
use Rattle.linear_conditions.proofs.JoinSteps.{all-open}
use Rattle.linear_conditions.proofs.fold.fold_count.Goals as goal

pub returns-then-are_open : goal.returns-then-are_open
returns-then-are_open c =
    let cs = map cond_view c.args.cs.items in
    let said : list_all is_open cs ≡ true =
    sym (ap (λ (xs : List Cond). list_all is_open (map cond_view xs)) c.as_slice.ensures.value) ∙ sym c.are_open.ensures ∙ c.if-are_open.true in
    subst (λ (k : CondTree). IfOk c.fold_open.result (λ x. cond_view x ≡ k)) (ap (λ (m : ℤ). fold_open m cs) (to_z-of_z c.ranges.n) ∙ all-open c.args.n cs said) c.fold_open.ensures
