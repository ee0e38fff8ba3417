use Rattle.std.proofs.Common.{◌≡◌, ℕ, List, map, sym, ap, ◌∙◌, subst}
use Rattle.std.specs.Prelude.{IfOk}
use Rattle.rule_syntax.specs.declared.tree.PlacedName.{PlacedName}
use Rattle.problem_data.specs.View.{object_view, order_view}
use Rattle.problem_data.specs.Seen.{met}
use Rattle.problem_data.specs.Faults.{text_of, object_name, object_names}
use Rattle.problem_data.specs.Meaning.{order_of}
use Rattle.problem_data.proofs.InLists.{map_twice}
use Rattle.problem_text.proofs.build.order_among.Goals as goal

pub returns : goal.returns
returns c =
    let e : c.deref.result.now ≡ object_names (map object_view c.args.objects.now) =
    c.deref.ensures ∙ c.in_ok-names.ensures.names ∙ ap (λ (ns : List PlacedName). met (map text_of ns)) (sym (map_twice object_name object_view c.args.objects.now)) ∙ c.requires.differ in
    subst (λ (ns : List (List ℕ)). IfOk c.build_order.result (λ v. v.items ≡ order_of ns (map order_view c.args.orders.now))) e c.build_order.ensures
