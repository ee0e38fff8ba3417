-- A path of objects.
use Rattle.std.specs.Prelude.{◌≡◌, ◌<◌, ℕ, List, length, slice_index_or}

-- o stands at that position of the path
abbrev pub IsAt : List ℕ → ℕ → ℕ → Type 0
IsAt path k o = (k < length path) × ((d : ℕ) → slice_index_or path k d ≡ o)
