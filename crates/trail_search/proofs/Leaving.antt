-- The level that is closed.
use Rattle.std.proofs.Common.{◌≡◌, ℕ, ◌<◌, List, [], ◌∷◌, ◌++◌, length, map, get_or, sym, ap, subst, arith, ℤ, pos}
use Rattle.std.specs.List.{All}
use Rattle.std.proofs.lemmas.Int.{ints}
use Rattle.geo_conditions.specs.Reach.{Inside}
use Rattle.geo_conditions.specs.Walk.{Variable as Seen, PlaceOf, CoordinateOf, object_of}
use Rattle.geo_state.specs.Trail.{Trail, IsSmallEnd}
use Rattle.trail_search.specs.declared.variable.Variable.{Variable}
use Rattle.trail_search.specs.Variables.{variable_of}
use Rattle.trail_search.specs.Cursor.{HasDimension, IsValueOf}
use Rattle.trail_search.specs.Walker.{Position, IsWell}
use Rattle.trail_search.proofs.Walking.{item_in, object_at, fact_at, number_is, one_less, last_of}

-- a value of a variable is a small number
pub value_small : (x : Seen) (v : ℤ) → IsValueOf x v → IsSmallEnd v
value_small (PlaceOf o) v h = (omega (arith, ints, h.0), omega (arith, ints, h.1))
value_small (CoordinateOf o d down) v h = h

-- the variable and the value of the level that was closed
pub record LeftAt (k : ℕ) (p : Position) (t : Trail) (x : Seen) (u : ℤ) : Type 0 where
  pub within : length t.restores < length p.variables
  pub variable : get_or p.variables (length t.restores) x ≡ x
  pub value : u ≡ get_or p.values (length t.restores) (pos 0)
  pub object : object_of x < length t.state
  pub dimension : HasDimension k x
  pub small : IsSmallEnd u

-- what a closed level knows of its variable and its value
pub left_at : (k : ℕ) (p : Position) (t : Trail) (items : List Variable) (vals : List ℤ) (n : ℕ) (x : Variable) (u : ℤ) → IsWell k p → p.trail.restores ≡ t.restores ++ t.state ∷ [] → map variable_of items ≡ p.variables → vals ≡ p.values → n ≡ length t.restores → x ≡ get_or items n x → u ≡ get_or vals n u → LeftAt k p t (variable_of x) u
left_at k p t items vals n x u w r e f h i j =
    let one = one_less p.trail.restores t.restores t.state r in
    let m : length t.restores < length p.variables = omega (arith, one, w.depth) in
    let y : get_or p.variables (length t.restores) (variable_of x) ≡ variable_of x = item_in p.variables items n (length t.restores) x e i (sym h) in
    let inside : Inside t.state p.first = last_of (λ S. Inside S p.first) t.restores t.state (subst (All (λ S. Inside S p.first)) r w.saved) in
    let b : n < length vals = omega (arith, h, m, w.values, ap length f) in
    let z : u ≡ get_or p.values (length t.restores) (pos 0) = number_is vals p.values n (length t.restores) u f j (sym h) b in
    record {
      within = m;
      variable = y;
      value = z;
      object = omega (arith, object_at p.first p.variables (length t.restores) (variable_of x) w.objects m y, inside.objects);
      dimension = fact_at (HasDimension k) p.variables (length t.restores) (variable_of x) w.dimensions m y;
      small = subst IsSmallEnd (sym z) (value_small (variable_of x) (get_or p.values (length t.restores) (pos 0)) (subst (λ (v : Seen). IsValueOf v (get_or p.values (length t.restores) (pos 0))) y (w.numbers (length t.restores) (variable_of x) m)));
    }
