-- Tables of names for states: each object, dimension and place of a state has a name.
use Rattle.std.specs.Prelude.{◌≡◌, ◌<◌, ◌≤◌, true, ℕ, length}
use Rattle.geo_tokens.specs.Names.{NameTable}
use Rattle.geo_conditions.specs.Reach.{State, has, dims}
use Rattle.derivation_text.specs.Lines.{shapes_of}

-- as many objects, each in the table's dimensions, and at each place of an object one of its shapes
pub record IsTableOf (n : NameTable) (S : State) : Type 0 where
  pub objects : length n.objects ≡ length S
  pub dims : (o : ℕ) → o < length S → dims S o ≡ n.dims
  pub shapes : (o s : ℕ) → has S o s ≡ true → (1 ≤ s) × (s ≤ length (shapes_of n o))
