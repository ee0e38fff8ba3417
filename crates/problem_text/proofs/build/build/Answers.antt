use Rattle.std.proofs.Common.{◌≡◌, ◌≤◌, ℕ, List, Vec, Global, map, length, inl, inr, sym, ap, ◌∙◌, subst, arith}
use Rattle.std.proofs.lemmas.List.{length-map}
use Rattle.rule_syntax.specs.declared.tree.PlacedName.{PlacedName}
use Rattle.problem_data.specs.declared.tree.ShapeText.{ShapeText}
use Rattle.problem_data.specs.declared.tree.ObjectText.{ObjectText}
use Rattle.problem_data.specs.declared.tree.OrderText.{OrderText}
use Rattle.problem_data.specs.declared.tree.SidesText.{SidesText}
use Rattle.problem_data.specs.declared.tree.Side.{Side}
use Rattle.problem_data.specs.declared.parts.Parts.{Parts as PartsText}
use Rattle.problem_data.specs.Problem.{ShapeData, ObjectData, MacroData, RuleData}
use Rattle.problem_data.specs.Parts.{parts_view}
use Rattle.problem_data.specs.View.{shape_view, object_view, order_view, sides_view, macro_view, rule_view}
use Rattle.problem_data.specs.Seen.{met}
use Rattle.problem_data.specs.Limits.{most_shapes, most_objects}
use Rattle.problem_data.specs.Faults.{version, shapes, objects, shape_name, object_name, shape_names, object_names, count_of}
use Rattle.problem_data.specs.Meaning.{shape_of, object_of, macro_of, rule_of, order_of, sides_of, problem_of}
use Rattle.problem_data.proofs.Distinct.{few, differ}
use Rattle.problem_data.proofs.Sound.{version_fits}
use Rattle.problem_text.proofs.Said.{said_right}
use Rattle.problem_text.proofs.build.build.Goals as goal

pub order_among-requires : goal.order_among-requires
order_among-requires c =
    let names : List PlacedName = map object_name (map object_view c.args.said.objects.items) in
    let short : length names ≤ most_objects = few most_objects names (λ f past. c.requires.right f (objects (inl (inl past)))) in
    let same : length names ≡ length c.args.said.objects.items = length-map (map object_view c.args.said.objects.items) object_name ∙ length-map c.args.said.objects.items object_view in
    record {
      few = subst (λ (os : List ObjectText). length os ≤ 256) (sym c.as_slice.ensures.value) (omega arith);
      differ = subst (λ (os : List ObjectText). met (object_names (map object_view os)) ≡ object_names (map object_view os)) (sym c.as_slice.ensures.value) (differ names (λ f again. c.requires.right f (objects (inl (inr again)))));
    }

pub objects_among-requires : goal.objects_among-requires
objects_among-requires c =
    let names : List PlacedName = map shape_name (map shape_view c.args.said.shapes.items) in
    let short : length names ≤ most_shapes = few most_shapes names (λ f past. c.requires.right f (shapes (inl (inl past)))) in
    let same : length names ≡ length c.args.said.shapes.items = length-map (map shape_view c.args.said.shapes.items) shape_name ∙ length-map c.args.said.shapes.items shape_view in
    record {
      few = subst (λ (ss : List ShapeText). length ss ≤ 256) (sym c.as_slice-3.ensures.value) (omega arith);
      differ = subst (λ (ss : List ShapeText). met (shape_names (map shape_view ss)) ≡ shape_names (map shape_view ss)) (sym c.as_slice-3.ensures.value) (differ names (λ f again. c.requires.right f (shapes (inl (inr again)))));
    }

pub version_of-version-requires : goal.version_of-version-requires
version_of-version-requires c = elim (version_fits (parts_view c.args.said).version (λ f w. c.requires.right f (version w))) [ inl e ↦ omega (arith, e) | inr e ↦ omega (arith, e) ]

-- the built parts are those of the problem that the statements spell
module _ (said : PartsText) (v k : ℕ) (objects_in : List ObjectText) (shapes_in : List ShapeText) (orders_in : List OrderText) (sides_in : List SidesText) (shapes : List ShapeData) (objects : List ObjectData) (macros : List MacroData) (rules : List RuleData) (order : List ℕ) (sides : List Side)
    (is_version : v ≡ count_of said.version.value) (is_k : k ≡ count_of said.dims.value) (is_objects : objects_in ≡ said.objects.items) (is_shapes : shapes_in ≡ said.shapes.items) (is_orders : orders_in ≡ said.orders.items) (is_sides : sides_in ≡ said.sides.items)
    (built_order : order ≡ order_of (object_names (map object_view objects_in)) (map order_view orders_in))
    (built_objects : objects ≡ map (object_of (shape_names (map shape_view shapes_in))) (map object_view said.objects.items))
    (built_sides : sides ≡ sides_of k (map sides_view sides_in)) where
  in_order : order ≡ order_of (object_names (map object_view said.objects.items)) (map order_view said.orders.items)
  in_order = built_order ∙ (λ i. order_of (object_names (map object_view (is_objects i))) (map order_view (is_orders i)))

  in_objects : objects ≡ map (object_of (shape_names (map shape_view said.shapes.items))) (map object_view said.objects.items)
  in_objects = built_objects ∙ (λ i. map (object_of (shape_names (map shape_view (is_shapes i)))) (map object_view said.objects.items))

  in_sides : sides ≡ sides_of (count_of said.dims.value) (map sides_view said.sides.items)
  in_sides = built_sides ∙ (λ i. sides_of (is_k i) (map sides_view (is_sides i)))

  built : shapes ≡ map shape_of (map shape_view said.shapes.items) → macros ≡ map macro_of (map macro_view said.macros.items) → rules ≡ map rule_of (map rule_view said.rules.items)
      → record { version = v; dims = k; shapes = shapes; objects = objects; macros = macros; rules = rules; order = order; sides = sides } ≡ problem_of (parts_view said)
  built in_shapes in_macros in_rules = λ i. record { version = is_version i; dims = is_k i; shapes = in_shapes i; objects = in_objects i; macros = in_macros i; rules = in_rules i; order = in_order i; sides = in_sides i }

-- what is shared is what was built
of_shared : {X : Type 0} (v : Vec X Global) (w : Vec X Global) (xs : List X) → v ≡ w → w.items ≡ xs → v.items ≡ xs
of_shared v w xs e h = ap (λ u. u.items) e ∙ h

pub new-requires : goal.new-requires
new-requires c = said_right (parts_view c.args.said) c.requires.said c.requires.right _
    (built c.args.said c.version_of-version.result c.count_of-k.result c.as_slice.result.now c.as_slice-3.result.now c.as_slice-2.result.now c.as_slice-4.result.now c.in_ok-shapes.shapes.value.items c.in_ok-objects.objects.value.items c.in_ok-macros.macros.value.items c.in_ok-rules.rules.items c.in_ok-order.order.items c.in_ok-sides.sides.items
    c.version_of-version.ensures c.count_of-k.ensures c.as_slice.ensures.value c.as_slice-3.ensures.value c.as_slice-2.ensures.value c.as_slice-4.ensures.value c.in_ok-order.ensures
    (of_shared _ _ _ c.in_ok-objects.ensures c.in_ok-objects_among.ensures) c.in_ok-sides.ensures (of_shared _ _ _ c.in_ok-shapes.ensures c.in_ok-build_shapes.ensures) (of_shared _ _ _ c.in_ok-macros.ensures c.in_ok-build_macros.ensures) c.in_ok-rules.ensures)

pub returns : goal.returns
returns c = c.new.ensures ∙ built c.args.said c.version_of-version.result c.count_of-k.result c.as_slice.result.now c.as_slice-3.result.now c.as_slice-2.result.now c.as_slice-4.result.now c.in_ok-shapes.shapes.value.items c.in_ok-objects.objects.value.items c.in_ok-macros.macros.value.items c.in_ok-rules.rules.items c.in_ok-order.order.items c.in_ok-sides.sides.items
    c.version_of-version.ensures c.count_of-k.ensures c.as_slice.ensures.value c.as_slice-3.ensures.value c.as_slice-2.ensures.value c.as_slice-4.ensures.value c.in_ok-order.ensures
    (of_shared _ _ _ c.in_ok-objects.ensures c.in_ok-objects_among.ensures) c.in_ok-sides.ensures (of_shared _ _ _ c.in_ok-shapes.ensures c.in_ok-build_shapes.ensures) (of_shared _ _ _ c.in_ok-macros.ensures c.in_ok-build_macros.ensures) c.in_ok-rules.ensures
