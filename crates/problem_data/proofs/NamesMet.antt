-- The names of the shapes, objects and macros of a problem that some text says: no two are the same, so they are met as they are.
use Rattle.std.proofs.Common.{◌≡◌, ℕ, List, [], ◌∷◌, map, inl, inr, refl, sym, ap, ◌∙◌, subst}
use Rattle.rule_syntax.specs.declared.tree.PlacedName.{PlacedName}
use Rattle.problem_data.specs.declared.fault.Fault.{Fault}
use Rattle.problem_data.specs.Parts.{Parts, parts_of}
use Rattle.problem_data.specs.Problem.{ShapeData, ObjectData, MacroData, ProblemData}
use Rattle.problem_data.specs.Meaning.{shape_of, object_of, macro_of, problem_of}
use Rattle.problem_data.specs.Faults.{Repeated, shapes, objects, macros, text_of, shape_name, object_name, macro_name, shape_names}
use Rattle.problem_data.specs.Seen.{met}
use Rattle.problem_data.specs.SomeRules.{with_rules}
use Rattle.problem_data.specs.Accepted.{IsSaid}
use Rattle.problem_data.proofs.Distinct.{differ}

-- data that were made of statements have the names of these
module _ {X Y : Type 0} (name : X → List ℕ) (placed : Y → PlacedName) (made : Y → X) (same : (y : Y) → name (made y) ≡ text_of (placed y)) where
  names_made : (ys : List Y) → map name (map made ys) ≡ map text_of (map placed ys)
  names_made [] = refl
  names_made (y ∷ ys) = ap (λ n. n ∷ map name (map made ys)) (same y) ∙ ap (λ ns. text_of (placed y) ∷ ns) (names_made ys)

  met_made : (ys : List Y) → ((f : Fault) → Repeated (map placed ys) f → ⊥) → met (map name (map made ys)) ≡ map name (map made ys)
  met_made ys right = subst (λ (ns : List (List ℕ)). met ns ≡ ns) (sym (names_made ys)) (differ (map placed ys) right)

module _ (p : ProblemData) (s : IsSaid p) where
  abbrev q : Parts
  q = parts_of s.said.accepts.tree

  -- it has the names of the problem that the statements spell
  of_whole : (P : ProblemData → Type 0) → P (with_rules (problem_of q) s.keep) → P p
  of_whole P h = subst P (sym (s.is ∙ ap (λ (u : ProblemData). with_rules u s.keep) s.said.accepts.means)) h

  pub shapes_met : met (map (λ (x : ShapeData). x.name) p.shapes) ≡ map (λ (x : ShapeData). x.name) p.shapes
  shapes_met =
      of_whole (λ u. met (map (λ (x : ShapeData). x.name) u.shapes) ≡ map (λ (x : ShapeData). x.name) u.shapes)
      (met_made (λ (x : ShapeData). x.name) shape_name shape_of (λ y. refl) q.shapes (λ f w. s.said.accepts.right f (shapes (inl (inr w)))))

  pub objects_met : met (map (λ (x : ObjectData). x.name) p.objects) ≡ map (λ (x : ObjectData). x.name) p.objects
  objects_met =
      of_whole (λ u. met (map (λ (x : ObjectData). x.name) u.objects) ≡ map (λ (x : ObjectData). x.name) u.objects)
      (met_made (λ (x : ObjectData). x.name) object_name (object_of (shape_names q.shapes)) (λ y. refl) q.objects (λ f w. s.said.accepts.right f (objects (inl (inr w)))))

  pub macros_met : met (map (λ (x : MacroData). x.name) p.macros) ≡ map (λ (x : MacroData). x.name) p.macros
  macros_met =
      of_whole (λ u. met (map (λ (x : MacroData). x.name) u.macros) ≡ map (λ (x : MacroData). x.name) u.macros)
      (met_made (λ (x : MacroData). x.name) macro_name macro_of (λ y. refl) q.macros (λ f w. s.said.accepts.right f (macros (inl (inr w)))))
