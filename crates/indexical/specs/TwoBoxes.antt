-- The parts of a condition that may be that of two boxes.
use Rattle.std.specs.Prelude.{ℕ, Option, None, Some, List, [], ◌∷◌, ℤ, pos, negsuc}
use Rattle.std.specs.List.{flat_map, range_with_len}
use Rattle.geo_base.specs.Boxes.{coordinate}
use Rattle.geo_conditions.specs.declared.cond.Cond.{Cond, Lin, NotShape}
use Rattle.geo_conditions.specs.declared.object.ObjId.{ObjId}
use Rattle.geo_conditions.specs.Terms.{term_of}

-- a and b do not overlap in the dimension d, where a's box has the length p there and b's has the length q
abbrev pub lengths : ObjId → ObjId → List ℤ → List ℤ → ℕ → List Cond
lengths a b p q d =
    Lin (record { terms = term_of (a, d, pos 1) ∷ term_of (b, d, negsuc 0) ∷ []; constant = coordinate p d })
    ∷ Lin (record { terms = term_of (a, d, negsuc 0) ∷ term_of (b, d, pos 1) ∷ []; constant = coordinate q d }) ∷ []

-- so in the n dimensions from d on
abbrev pub lengths_from : ObjId → ObjId → List ℤ → List ℤ → ℕ → ℕ → List Cond
lengths_from a b p q d n = flat_map (lengths a b p q) (range_with_len d n)

-- the object has another shape than that at the place, where there is one
abbrev pub spared : ObjId → Option ℕ → List Cond
spared o None = []
spared o (Some p) = NotShape o p ∷ []
