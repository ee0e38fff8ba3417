-- Limits of numbers and names in a problem's text.
use Rattle.std.specs.Prelude.{◌≡◌, ℕ, ℤ, pos, negsuc, ◌≤◌, ◌≤ℤ◌, List, [], ◌∷◌, codes, ◌⊎◌, ◌==◌, if◌then◌else◌}

-- of an end of a range or an offset: -1,000,000 to 1,000,000
abbrev pub IsSmall : ℤ → Type 0
IsSmall v = (negsuc 999999 ≤ℤ v) × (v ≤ℤ pos 1000000)

-- of a size: 1 to 1,000,000
abbrev pub IsSize : ℤ → Type 0
IsSize v = (pos 1 ≤ℤ v) × (v ≤ℤ pos 1000000)

-- id, sid, or x1 to x9
abbrev pub IsFieldName : List ℕ → Type 0
IsFieldName name = (name ≡ codes "id") ⊎ (name ≡ codes "sid") ⊎ ((d : ℕ) × (49 ≤ d) × (d ≤ 57) × (name ≡ 120 ∷ d ∷ []))

-- of the dimensions
abbrev pub most_dims : ℕ
most_dims = 6

-- of the dimensions in version 1
abbrev pub most_first_dims : ℕ
most_first_dims = 4

abbrev pub most_dims_in : ℕ → ℕ
most_dims_in version = if version == 2 then most_dims else most_first_dims

-- 1 or 2
abbrev pub IsVersion : ℤ → Type 0
IsVersion v = (v ≡ pos 1) ⊎ (v ≡ pos 2)

abbrev pub most_shapes : ℕ
most_shapes = 256

abbrev pub most_boxes : ℕ
most_boxes = 16

abbrev pub most_objects : ℕ
most_objects = 200

abbrev pub most_object_shapes : ℕ
most_object_shapes = 16

-- of a range
abbrev pub most_pieces : ℕ
most_pieces = 8

abbrev pub most_attributes : ℕ
most_attributes = 32

abbrev pub most_macros : ℕ
most_macros = 100

abbrev pub most_params : ℕ
most_params = 8

abbrev pub most_rules : ℕ
most_rules = 100
