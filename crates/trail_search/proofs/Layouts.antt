-- The values of the layout that was found.
use Rattle.std.proofs.Common.{◌≡◌, ℕ, ◌<◌, Bool, true, false, List, length, get_or, sym, ap, ◌∙◌, subst, arith, ℤ, pos, Some, None}
use Rattle.std.proofs.Math.ListN.{get_or-map}
use Rattle.std.proofs.lemmas.List.{length-map}
use Rattle.geo_base.specs.Boxes.{coordinate}
use Rattle.geo_conditions.specs.Reach.{IsState, Tuple, spot}
use Rattle.geo_conditions.specs.Walk.{Variable, PlaceOf, CoordinateOf, Order, NamesEach, value_in, values, variables_in}
use Rattle.geo_conditions.proofs.Defaults.{any_default}
use Rattle.geo_conditions.proofs.Few.{dims_are}
use Rattle.geo_conditions.proofs.Orders.{order_are_all}
use Rattle.trail_search.specs.Next.{layout_when}
use Rattle.trail_search.specs.Variables.{IsAt, HasOne}
use Rattle.trail_search.specs.Walker.{Position}
use Rattle.trail_search.proofs.Finding.{place_number, coordinate_number}

-- the variables of the walker are those of an order
abbrev pub IsNamed : ℕ → Position → Type 0
IsNamed k p = (order : Order) × NamesEach k p.first order × (p.variables ≡ variables_in order)

-- each object has a place among the variables, and each of its coordinates is among them
pub has_place : (k : ℕ) (p : Position) (o : ℕ) → IsState k p.first → IsNamed k p → o < length p.first → HasOne (IsAt o None) p.variables
has_place k p o s n h = subst (HasOne (IsAt o None)) (sym n.2) (place_number (variables_in n.0) o ((order_are_all k p.first n.0 s n.1).places o h))

-- each coordinate is among the variables
pub has_coordinate : (k : ℕ) (p : Position) (o d : ℕ) → IsState k p.first → IsNamed k p → o < length p.first → d < k → HasOne (IsAt o (Some d)) p.variables
has_coordinate k p o d s n h b =
    let r = (order_are_all k p.first n.0 s n.1).coordinates o d h (omega (arith, b, dims_are k p.first o s h)) in
    subst (HasOne (IsAt o (Some d))) (sym n.2) (coordinate_number (variables_in n.0) o d r.0 r.1)

-- the values of the search are those of the layout
pub found_values : (f : Bool) (l v : List ℤ) → layout_when f l ≡ Some v → l ≡ v
found_values true l v h = cc
found_values false l v h = absurd (cc)

-- the value of a variable on a tuple
values_at : (xs : List Variable) (t : Tuple) (i : ℕ) → i < length xs → get_or (values xs t) i (pos 0) ≡ value_in t (get_or xs i (PlaceOf 0))
values_at xs t i h =
    let n : i < length (values xs t) = omega (arith, h, length-map xs (value_in t)) in
    any_default (values xs t) i (pos 0) (value_in t (PlaceOf 0)) n ∙ get_or-map (value_in t) xs i (PlaceOf 0)

-- the value of the variable that is the place of an object
is_place : (t : Tuple) (o : ℕ) (x : Variable) → IsAt o None x → value_in t x ≡ pos (spot t o).place
is_place t o (PlaceOf u) h = ap (λ (n : ℕ). pos (spot t n).place) h
is_place t o (CoordinateOf u d down) h = absurd h

-- the value of the variable that is its coordinate
is_coordinate : (t : Tuple) (o d : ℕ) (x : Variable) → IsAt o (Some d) x → value_in t x ≡ coordinate (spot t o).origin d
is_coordinate t o d (PlaceOf u) h = absurd h
is_coordinate t o d (CoordinateOf u e down) h = ap (λ (n : ℕ). coordinate (spot t n).origin e) h.0 ∙ ap (λ (n : ℕ). coordinate (spot t o).origin n) h.1

-- the place of an object in the layout that was found
pub place_found : (xs : List Variable) (vs : List ℤ) (t : Tuple) (o i : ℕ) → vs ≡ values xs t → i < length xs → ((x : Variable) → IsAt o None (get_or xs i x)) → get_or vs i (pos 0) ≡ pos (spot t o).place
place_found xs vs t o i e h a = ap (λ (l : List ℤ). get_or l i (pos 0)) e ∙ values_at xs t i h ∙ is_place t o (get_or xs i (PlaceOf 0)) (a (PlaceOf 0))

-- its coordinate there
pub coordinate_found : (xs : List Variable) (vs : List ℤ) (t : Tuple) (o d i : ℕ) → vs ≡ values xs t → i < length xs → ((x : Variable) → IsAt o (Some d) (get_or xs i x)) → get_or vs i (pos 0) ≡ coordinate (spot t o).origin d
coordinate_found xs vs t o d i e h a = ap (λ (l : List ℤ). get_or l i (pos 0)) e ∙ values_at xs t i h ∙ is_coordinate t o d (get_or xs i (PlaceOf 0)) (a (PlaceOf 0))
