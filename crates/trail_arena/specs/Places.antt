-- How the items of a block lie in its places.
use Rattle.std.specs.Prelude.{◌≡◌, ℕ, ◌-◌, ◌≤◌, get_or, List, [], ◌∷◌, ◌++◌, length, map, replicate, Option, Some, None}

module _ {X : Type 0} where
  -- the values that are there
  abbrev pub somes : List (Option X) → List X
  somes [] = []
  somes (None ∷ cs) = somes cs
  somes (Some x ∷ cs) = x ∷ somes cs

  -- the place at the index holds a value
  abbrev pub IsFilled : List (Option X) → ℕ → Type 0
  IsFilled cs i = (x : X) × (get_or cs i None ≡ Some x)

  -- the items, and then so many empty places
  abbrev pub filled : List X → ℕ → List (Option X)
  filled xs n = map Some xs ++ replicate n None

  -- the first len of the places hold the items, and the others are empty
  pub record IsRow (places : List (Option X)) (len capacity : ℕ) : Type 0 where
    pub within : len ≤ capacity
    pub count : length (somes places) ≡ len
    pub row : places ≡ filled (somes places) (capacity - len)
