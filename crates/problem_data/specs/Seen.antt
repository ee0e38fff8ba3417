-- Names that were met, each once, in the order in which they were met first.
use Rattle.std.specs.Prelude.{ℕ, List, [], ◌∷◌, ◌++◌, if◌then◌else◌, fold}
use Rattle.std.specs.List.{list_any}
use Rattle.std.specs.Str.{bytes_eq}
use Rattle.std.specs.Borrow.{Bor}

-- the names after one more was met
abbrev pub meet : List (List ℕ) → List ℕ → List (List ℕ)
meet names name = if list_any (bytes_eq name) names then names else names ++ name ∷ []

-- the names of a list
abbrev pub met : List (List ℕ) → List (List ℕ)
met names = fold meet [] names

abbrev pub bytes_at : Bor (List ℕ) → List ℕ
bytes_at k = k.now
