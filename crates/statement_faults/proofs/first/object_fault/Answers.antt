use Rattle.std.proofs.Common.{◌≡◌, ℕ, List, map, subst, refl, ◌∙◌}
use Rattle.problem_data.specs.declared.tree.ObjectText.{ObjectText}
use Rattle.problem_data.specs.declared.tree.OrderText.{OrderText}
use Rattle.problem_data.specs.View.{object_view, order_view}
use Rattle.problem_data.specs.Parts.{Parts, parts_view}
use Rattle.problem_data.specs.Least.{IsLeast}
use Rattle.problem_data.specs.Seen.{met}
use Rattle.problem_data.specs.Faults.{Among, ObjectsFault, OrderFault, object_names}
use Rattle.problem_data.proofs.Firsts.{joined}
use Rattle.statement_faults.proofs.AllFaults.{objects_met, orders_of_met}
use Rattle.statement_faults.proofs.first.object_fault.Goals as goal

pub objects_fault-requires : goal.objects_fault-requires
objects_fault-requires c = c.in_ok-names.ensures.fault

pub returns : goal.returns
returns c =
    let p : Parts = parts_view c.args.said.now in
    let names : c.deref.result.now ≡ met (object_names p.objects) =
    c.deref.ensures ∙ subst (λ (os : List ObjectText). c.in_ok-names.names.value ≡ met (object_names (map object_view os))) c.as_slice-list.ensures.value
    (objects_met c.as_slice-list.result.now _ _ c.in_ok-names.ensures.names refl) in
    joined (ObjectsFault c.args.k c.args.made.now p.objects) (Among (OrderFault (object_names p.objects)) p.orders) _ _ _ c.earlier.ensures
    (subst (λ (os : List ObjectText). IsLeast (ObjectsFault c.args.k c.args.made.now (map object_view os)) c.in_ok-objects.objects) c.as_slice-list.ensures.value c.in_ok-objects.ensures)
    (orders_of_met (object_names p.objects) p.orders _
    (subst (λ (ns : List (List ℕ)). IsLeast (Among (OrderFault ns) p.orders) c.in_ok-orders.orders) names
    (subst (λ (os : List OrderText). IsLeast (Among (OrderFault c.deref.result.now) (map order_view os)) c.in_ok-orders.orders) c.as_slice.ensures.value c.in_ok-orders.ensures)))
