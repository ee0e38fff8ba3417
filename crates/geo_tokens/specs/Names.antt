-- The names of a problem: its shapes, and its objects with their lists of shapes. Where an object may be absent the word
-- `absent` stands among the shapes, for the place at which it is.
use Rattle.std.specs.Prelude.{◌≡◌, ℕ, ◌<◌, ◌≤◌, List, length, map, slice_index_or, ◌⊎◌}
use Rattle.std.specs.List.{All}
use Rattle.geo_tokens.specs.declared.token.Keyword.TheVariants as keywords
use Rattle.geo_tokens.specs.Class.{word_bytes}
use Rattle.geo_tokens.specs.Cut.{IsName}

-- What stands in a table of names: the number of dimensions, the names of the shapes, and of each object its name and
-- its shapes, by their positions in the list of shapes.
pub record NameTable : Type 0 where
  pub dims : ℕ
  pub shapes : List (List ℕ)
  pub objects : List (List ℕ × List ℕ)

-- all of these bytes are the text of one name
abbrev pub IsNameText : List ℕ → Type 0
IsNameText bytes = IsName (length bytes) bytes

-- all of these bytes are the text of one name, or the word `absent`
abbrev pub IsPlaceText : List ℕ → Type 0
IsPlaceText bytes = IsNameText bytes ⊎ (bytes ≡ word_bytes keywords.Absent)

-- no two of them are the same
abbrev pub AllDifferent : {X : Type 0} → List X → Type 0
AllDifferent {X} xs = (j k : ℕ) (d : X) → j < k → k < length xs → slice_index_or xs j d ≡ slice_index_or xs k d → ⊥

-- the names of the objects
abbrev pub object_names : NameTable → List (List ℕ)
object_names t = map (λ o. o.0) t.objects

-- 1 to 16 different positions below m
pub record IsShapeList (m : ℕ) (xs : List ℕ) : Type 0 where
  pub some : 1 ≤ length xs
  pub few : length xs ≤ 16
  pub inside : All (λ x. x < m) xs
  pub different : AllDifferent xs

-- what is true of each table of names
pub record IsNameTable (t : NameTable) : Type 0 where
  pub dims : t.dims ≤ 1000000000
  pub few : length t.objects ≤ 200
  pub shape_texts : All IsPlaceText t.shapes
  pub shapes_differ : AllDifferent t.shapes
  pub object_texts : All IsNameText (object_names t)
  pub objects_differ : AllDifferent (object_names t)
  pub lists : All (λ o. IsShapeList (length t.shapes) o.1) t.objects
