-- Places that are taken away from an object.
use Rattle.std.specs.Prelude.{◌≡◌, ◌⊎◌, ℕ, ◌+◌, ◌<◌, ◌≤◌, Bool, false, List, length, slice_index_or, slice_set}
use Rattle.geo_conditions.specs.Reach.{State, reach, has, with_places, Inside}

-- N is G without the object's places from a up to before b
pub record Sheds (G N : State) (o a b : ℕ) : Type 0 where
  pub inside : Inside N G
  pub gone : (s : ℕ) → a ≤ s → s < b → has N o s ≡ false
  pub all : (T : State) → Inside T G → ((s : ℕ) → a ≤ s → s < b → has T o s ≡ false) → Inside T N

-- the same of the list of places, in which the place s stands at the index s - 1: those from a up to before b are not there, and the
-- others, and all else of the state, are as in G
pub record Clears (G N : State) (o a b : ℕ) : Type 0 where
  pub places : List Bool
  pub state : N ≡ slice_set G o (with_places (reach G o) places)
  pub size : length places ≡ length (reach G o).places
  pub gone : (i : ℕ) → a ≤ i + 1 → i + 1 < b → slice_index_or places i false ≡ false
  pub kept : (i : ℕ) → (i + 1 < a) ⊎ (b ≤ i + 1) → slice_index_or places i false ≡ slice_index_or (reach G o).places i false
