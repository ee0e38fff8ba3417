-- Faults that look names up find them in the list and among the names that were met alike; and the faults of all statements.
use Rattle.std.proofs.Common.{◌≡◌, ◌⊎◌, ℕ, List, take, map, Option, inl, inr, sym, ap, ◌∙◌, subst}
use Rattle.std.specs.List.{Contains}
use Rattle.rule_syntax.specs.declared.tree.PlacedName.{PlacedName}
use Rattle.problem_data.specs.declared.fault.Fault.{Fault}
use Rattle.problem_data.specs.declared.tree.ShapeText.{ShapeText}
use Rattle.problem_data.specs.declared.tree.ObjectText.{ObjectText}
use Rattle.problem_data.specs.Tree.{ObjectTree, OrderTree}
use Rattle.problem_data.specs.View.{shape_view, object_view}
use Rattle.problem_data.specs.Parts.{Parts}
use Rattle.problem_data.specs.Least.{IsLeast, earlier}
use Rattle.problem_data.specs.Seen.{met}
use Rattle.problem_data.specs.Faults.{Among, NotMade, ObjectFault, ObjectsFault, OrderFault, Incomplete, IsFault, version, dims, shapes, objects, orders, sides, macros, rules, text_of, shape_name, object_name, shape_names, object_names, count_of}
use Rattle.statement_faults.specs.Groups.{HeadFault, ObjectOrOrderFault, NamingFault, TailFault}
use Rattle.problem_data.proofs.Firsts.{least_same, joined}
use Rattle.problem_data.proofs.InLists.{map_twice}
use Rattle.problem_data.proofs.MetNames.{met_has, has_met}

-- the same faults among the items of a list
among_as : {A : Type 0} (R S : List A → A → Fault → Type 0) → ((before : List A) (x : A) (f : Fault) → R before x f → S before x f) → (xs : List A) (f : Fault) → Among R xs f → Among S xs f
among_as R S h xs f a = record { index = a.index; item = a.item; there = a.there; wrong = h (take a.index xs) a.item f a.wrong }

-- names that two lists have alike
module _ (k : ℕ) (ms ns : List (List ℕ)) (to : (n : List ℕ) → Contains ms n → Contains ns n) (back : (n : List ℕ) → Contains ns n → Contains ms n) where
  not_made_as : (names : List PlacedName) (f : Fault) → NotMade ms names f → NotMade ns names f
  not_made_as names f a = record { index = a.index; item = a.item; there = a.there; wrong = (λ has. a.wrong.0 (back a.item.name has), a.wrong.1) }

  object_as : (o : ObjectTree) (f : Fault) → ObjectFault k ms o f → ObjectFault k ns o f
  object_as o f (inl a) = inl a
  object_as o f (inr (inl a)) = inr (inl (not_made_as o.shapes f a))
  object_as o f (inr (inr a)) = inr (inr a)

  pub objects_as : (os : List ObjectTree) (f : Fault) → ObjectsFault k ms os f → ObjectsFault k ns os f
  objects_as os f (inl a) = inl a
  objects_as os f (inr a) = inr (among_as (λ before. ObjectFault k ms) (λ before. ObjectFault k ns) (λ before. object_as) os f a)

  incomplete_as : (o : OrderTree) (f : Fault) → Incomplete ms o f → Incomplete ns o f
  incomplete_as o f a = (λ complete. a.0 (λ n there. complete n (to n there)), a.1)

  order_as : (before : List OrderTree) (o : OrderTree) (f : Fault) → OrderFault ms before o f → OrderFault ns before o f
  order_as before o f (inl a) = inl a
  order_as before o f (inr (inl a)) = inr (inl a)
  order_as before o f (inr (inr (inl a))) = inr (inr (inl (not_made_as o.names f a)))
  order_as before o f (inr (inr (inr a))) = inr (inr (inr (incomplete_as o f a)))

  pub orders_as : (os : List OrderTree) (f : Fault) → Among (OrderFault ms) os f → Among (OrderFault ns) os f
  orders_as os f a = among_as (OrderFault ms) (OrderFault ns) order_as os f a

pub orders_of_met : (names : List (List ℕ)) (os : List OrderTree) (o : Option Fault) → IsLeast (Among (OrderFault (met names)) os) o → IsLeast (Among (OrderFault names) os) o
orders_of_met names os o h =
    least_same (Among (OrderFault (met names)) os) (Among (OrderFault names) os) o (orders_as 0 (met names) names (met_has names) (has_met names) os) (orders_as 0 names (met names) (has_met names) (met_has names) os) h

-- the names that the objects of some statements have, as they were met
pub objects_met : (os : List ObjectText) (ns : List PlacedName) (made : List (List ℕ)) → made ≡ met (map text_of ns) → ns ≡ map (λ o. o.name) os → made ≡ met (object_names (map object_view os))
objects_met os ns made e same = e ∙ ap (λ (xs : List PlacedName). met (map text_of xs)) (same ∙ sym (map_twice object_name object_view os))

pub shapes_met : (ss : List ShapeText) (ns : List PlacedName) (made : List (List ℕ)) → made ≡ met (map text_of ns) → ns ≡ map (λ s. s.name) ss → made ≡ met (shape_names (map shape_view ss))
shapes_met ss ns made e same = e ∙ ap (λ (xs : List PlacedName). met (map text_of xs)) (same ∙ sym (map_twice shape_name shape_view ss))

-- ---- all statements

-- the faults of objects and orders, by the names of the shapes as they were met
pub group_of_met : (k : ℕ) (p : Parts) (o : Option Fault) → IsLeast (ObjectOrOrderFault k (met (shape_names p.shapes)) p) o → IsLeast (ObjectOrOrderFault k (shape_names p.shapes) p) o
group_of_met k p o h = least_same (ObjectOrOrderFault k (met (shape_names p.shapes)) p) (ObjectOrOrderFault k (shape_names p.shapes) p) o to back h
  where
    names : List (List ℕ)
    names = shape_names p.shapes

    to : (f : Fault) → ObjectOrOrderFault k (met (shape_names p.shapes)) p f → ObjectOrOrderFault k (shape_names p.shapes) p f
    to f (inl a) = inl (objects_as k (met (shape_names p.shapes)) (shape_names p.shapes) (met_has (shape_names p.shapes)) (has_met (shape_names p.shapes)) p.objects f a)
    to f (inr a) = inr a

    back : (f : Fault) → ObjectOrOrderFault k (shape_names p.shapes) p f → ObjectOrOrderFault k (met (shape_names p.shapes)) p f
    back f (inl a) = inl (objects_as k (shape_names p.shapes) (met (shape_names p.shapes)) (has_met (shape_names p.shapes)) (met_has (shape_names p.shapes)) p.objects f a)
    back f (inr a) = inr a

module _ (p : Parts) where
  -- the faults of all statements by their groups
  pub AnyFault : Fault → Type 0
  AnyFault f = HeadFault p f ⊎ NamingFault (count_of p.dims.value) p f ⊎ TailFault (count_of p.dims.value) p f

  to_fault : (f : Fault) → AnyFault f → IsFault p f
  unfolding AnyFault
  to_fault f (inl (inl a)) = version a
  to_fault f (inl (inr a)) = dims a
  to_fault f (inr (inl (inl a))) = shapes a
  to_fault f (inr (inl (inr (inl a)))) = objects a
  to_fault f (inr (inl (inr (inr a)))) = orders a
  to_fault f (inr (inr (inl a))) = sides a
  to_fault f (inr (inr (inr (inl a)))) = macros a
  to_fault f (inr (inr (inr (inr a)))) = rules a

  from_fault : (f : Fault) → IsFault p f → AnyFault f
  unfolding AnyFault
  from_fault f (version a) = inl (inl a)
  from_fault f (dims a) = inl (inr a)
  from_fault f (shapes a) = inr (inl (inl a))
  from_fault f (objects a) = inr (inl (inr (inl a)))
  from_fault f (orders a) = inr (inl (inr (inr a)))
  from_fault f (sides a) = inr (inr (inl a))
  from_fault f (macros a) = inr (inr (inr (inl a)))
  from_fault f (rules a) = inr (inr (inr (inr a)))

  -- the first faults of the groups, as `earlier` joined them
  pub all_groups : (k : ℕ) (a b c d o : Option Fault) → k ≡ count_of p.dims.value → d ≡ earlier b c → o ≡ earlier a d
      → IsLeast (HeadFault p) a → IsLeast (NamingFault k p) b → IsLeast (TailFault k p) c → IsLeast (IsFault p) o
  unfolding AnyFault
  all_groups k a b c d o same s t in_head in_naming in_tail =
      let n : ℕ = count_of p.dims.value in
      least_same AnyFault (IsFault p) o to_fault from_fault
      (joined (HeadFault p) (λ f. NamingFault n p f ⊎ TailFault n p f) a d o t in_head
      (joined (NamingFault n p) (TailFault n p) b c d s (subst (λ (m : ℕ). IsLeast (NamingFault m p) b) same in_naming) (subst (λ (m : ℕ). IsLeast (TailFault m p) c) same in_tail)))
