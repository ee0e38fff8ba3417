-- The statements of the made problem's canonical text have no fault.
use Rattle.std.proofs.Common.{◌≡◌, ℕ, ◌≤◌, List, [], ◌∷◌, map, length, inl, inr, refl, sym, ap, ◌∙◌, subst, arith, lit≤, lit<}
use Rattle.std.specs.Prelude.{codes}
use Rattle.std.proofs.lemmas.Int.{ints}
use Rattle.std.proofs.lemmas.List.{length-map}
use Rattle.geo_tokens.specs.Names.{AllDifferent}
use Rattle.rule_syntax.specs.declared.tree.PlacedName.{PlacedName}
use Rattle.problem_data.specs.Tree.{ShapeTree, ObjectTree}
use Rattle.problem_data.specs.Problem.{ShapeData, ObjectData}
use Rattle.problem_data.specs.Faults.{text_of, NamesFault, ShapeFault, ObjectFault, ObjectsFault, IsFault, version, dims, shapes, objects, orders, sides, macros, rules, shape_name, object_name, shape_names}
use Rattle.problem_data.proofs.NoFault.{NoFault}
use Rattle.rule_print.proofs.Respelled.{AllOf}
use Rattle.problem_text.proofs.ReadStatements.{mapped}
use Rattle.problem_text.proofs.CanonicalParts.{shape_tree_of, object_tree_of, canonical_parts}
use Rattle.generated_problems.specs.Problem.{made_problem}
use Rattle.generated_problems.proofs.Names.{shape_list, object_list, length-shape_list, length-object_list, shape_names_differ, object_names_differ}
use Rattle.generated_problems.proofs.Parts.{each_shape, each_object, shape_names_are, object_names_are}
use Rattle.generated_problems.proofs.NoFaults.{nothing_among, each_right, names_right, shape_right, object_right, no_names_right, rules_right}

-- ---- the names of the statements

shape_texts : (ss : List ShapeData) → map text_of (map shape_name (map shape_tree_of ss)) ≡ map (λ (s : ShapeData). s.name) ss
shape_texts [] = refl
shape_texts (s ∷ ss) = ap (λ us. s.name ∷ us) (shape_texts ss)

object_texts : (names : List (List ℕ)) (os : List ObjectData) → map text_of (map object_name (map (object_tree_of names) os)) ≡ map (λ (o : ObjectData). o.name) os
object_texts names [] = refl
object_texts names (o ∷ os) = ap (λ us. o.name ∷ us) (object_texts names os)

-- names with these texts
listed_right : (most n : ℕ) (ns : List PlacedName) (texts : List (List ℕ)) → map text_of ns ≡ texts → length texts ≡ n → n ≤ most → AllDifferent texts → NoFault (NamesFault most ns)
listed_right most n ns texts e size few differ =
    let count : length ns ≡ n = sym (length-map ns text_of) ∙ ap length e ∙ size in
    let short : length ns ≤ most = omega arith in
    names_right most ns short (subst (λ (us : List (List ℕ)). AllDifferent us) (sym e) differ)

module _ (seed : ℕ) where
  abbrev shape_trees : List ShapeTree
  shape_trees = map shape_tree_of (made_problem seed).shapes

  abbrev object_trees : List (List ℕ) → List ObjectTree
  object_trees names = map (object_tree_of names) (made_problem seed).objects

  each_shape_right : AllOf (λ t. NoFault (ShapeFault 3 t)) shape_trees
  each_shape_right = mapped (λ t. NoFault (ShapeFault 3 t)) shape_tree_of (made_problem seed).shapes
      (each_shape (λ s. NoFault (ShapeFault 3 (shape_tree_of s))) seed (λ i low high w d h a b c. (shape_right i (codes "a") w d h a b c, shape_right i (codes "b") d w h b a c)))

  each_object_right : AllOf (λ t. NoFault (ObjectFault 3 (shape_list 80) t)) (object_trees (shape_list 80))
  each_object_right = mapped (λ t. NoFault (ObjectFault 3 (shape_list 80) t)) (object_tree_of (shape_list 80)) (made_problem seed).objects
      (each_object (λ o. NoFault (ObjectFault 3 (shape_list 80) (object_tree_of (shape_list 80) o))) seed (λ i low high. object_right 80 (lit< tt) i low (omega arith)))

  objects_right : NoFault (ObjectsFault 3 (shape_list 80) (object_trees (shape_list 80)))
  objects_right f (inl w) = listed_right 200 40 (map object_name (object_trees (shape_list 80))) (object_list 40) (object_texts (shape_list 80) (made_problem seed).objects ∙ object_names_are seed) (length-object_list 40) (lit≤ tt) (object_names_differ 40 (lit< tt)) f w
  objects_right f (inr w) = each_right (ObjectFault 3 (shape_list 80)) (object_trees (shape_list 80)) each_object_right f w

  -- the canonical statements
  pub made_right : NoFault (IsFault (canonical_parts (made_problem seed)))
  made_right f (version w) = w.0 (inl refl)
  made_right f (dims w) = w.0 (omega (arith, ints), omega (arith, ints))
  made_right f (shapes (inl w)) = listed_right 256 80 (map shape_name shape_trees) (shape_list 80) (shape_texts (made_problem seed).shapes ∙ shape_names_are seed) (length-shape_list 80) (lit≤ tt) (shape_names_differ 80 (lit< tt)) f w
  made_right f (shapes (inr w)) = each_right (ShapeFault 3) shape_trees each_shape_right f w
  made_right f (objects w) =
      objects_right f (subst (λ (made : List (List ℕ)). ObjectsFault 3 made (object_trees (shape_list 80)) f) (shape_texts (made_problem seed).shapes ∙ shape_names_are seed)
      (subst (λ (names : List (List ℕ)). ObjectsFault 3 (shape_names shape_trees) (object_trees names) f) (shape_names_are seed) w))
  made_right f (orders w) = nothing_among _ f w
  made_right f (sides w) = nothing_among _ f w
  made_right f (macros (inl w)) = no_names_right 100 f w
  made_right f (macros (inr w)) = nothing_among _ f w
  made_right f (rules w) = rules_right f w
