use Rattle.std.proofs.Common.{◌≤◌, ◌⊎◌, ℕ, List, map, length, refl, subst, sym, ◌∙◌, ap}
use Rattle.std.specs.List.{Contains}
use Rattle.std.proofs.lemmas.List.{map-id}
use Rattle.rule_syntax.specs.declared.tree.PlacedName.{PlacedName}
use Rattle.problem_data.specs.View.{order_view}
use Rattle.problem_data.specs.Least.{IsLeast}
use Rattle.problem_data.specs.Seen.{met}
use Rattle.problem_data.specs.Faults.{text_of, Repeated, NotMade, SecondOrder, Incomplete, IsComplete}
use Rattle.problem_data.proofs.Firsts.{joined, tested, at_least, at_least_back, unless, unless_back}
use Rattle.problem_data.proofs.MetNames.{met_has, has_met}
use Rattle.statement_faults.proofs.order.order_fault.Goals as goal

pub returns : goal.returns
returns c = λ before e.
    let names : List PlacedName = c.args.order.now.names.items in
    let same = map-id c.as_slice-names.result.now ∙ c.as_slice-names.ensures.value in
    let listed = c.deref.ensures ∙ c.in_ok-listed.ensures.names ∙ ap (λ (ns : List PlacedName). met (map text_of ns)) same in
    let made : List (List ℕ) = c.args.made.now in
    joined (SecondOrder before (order_view c.args.order.now)) (λ f. Repeated names f ⊎ NotMade made names f ⊎ Incomplete made (order_view c.args.order.now) f) _ _ _ c.earlier.ensures
    (tested (1 ≤ length before) _ _ _ _ _ c.fault_if-second.ensures refl (at_least 1 c.args.index _ e) (at_least_back 1 c.args.index _ e))
    (joined (Repeated names) (λ f. NotMade made names f ⊎ Incomplete made (order_view c.args.order.now) f) _ _ _ c.earlier-others.ensures
    (subst (λ (ns : List PlacedName). IsLeast (Repeated ns) c.in_ok-listed.repeated) same c.in_ok-listed.ensures.fault)
    (joined (NotMade made names) (Incomplete made (order_view c.args.order.now)) _ _ _ c.earlier-last.ensures
    (subst (λ (ns : List PlacedName). IsLeast (NotMade made ns) c.not_made-unknown.result) c.as_slice-names.ensures.value c.not_made-unknown.ensures)
    (tested (IsComplete made (order_view c.args.order.now) → ⊥) _ _ _ _ _ c.fault_if-incomplete.ensures refl
    (unless (IsComplete made (order_view c.args.order.now)) c.is_inside-complete.result (λ h. c.is_inside-complete.ensures.1 (λ n there. subst (λ (ns : List (List ℕ)). Contains ns n) (sym listed) (has_met (map text_of names) n (h n there)))))
    (unless_back (IsComplete made (order_view c.args.order.now)) c.is_inside-complete.result (λ t n there. met_has (map text_of names) n (subst (λ (ns : List (List ℕ)). Contains ns n) listed (c.is_inside-complete.ensures.0 t n there)))))))
