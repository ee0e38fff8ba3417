-- Objects whose shapes are fixed.
use Rattle.std.specs.Prelude.{ℕ, ◌==◌, if◌then◌else◌, List, [], ◌∷◌}

-- an object, by its position from 0, and the place of its shape in its own list, from 1
pub record Fixing : Type 0 where
  pub object : ℕ
  pub place : ℕ

-- an object's fixed place, the innermost one; 0 where none is fixed
abbrev pub fixed_place : List Fixing → ℕ → ℕ
fixed_place [] o = 0
fixed_place (f ∷ outer) o = if o == f.object then f.place else fixed_place outer o

-- the place that is taken for an object: the fixed one, else the first
abbrev pub place_of : List Fixing → ℕ → ℕ
place_of fix o = if fixed_place fix o == 0 then 1 else fixed_place fix o
