-- Tuples: one choice of a shape and an origin for each object.
use Rattle.std.specs.Prelude.{ℕ, ℤ, List, [], slice_index_or}

-- where one object is put: the place of its shape in its own list, from 1, and its origin
pub record Spot : Type 0 where
  pub place : ℕ
  pub origin : List ℤ

-- a tuple: a spot for each object
abbrev pub Tuple : Type 0
Tuple = List Spot

abbrev pub nothing_put : Spot
nothing_put = record { place = 0; origin = [] }

-- the spot of the object o
abbrev pub spot : Tuple → ℕ → Spot
spot t o = slice_index_or t o nothing_put
