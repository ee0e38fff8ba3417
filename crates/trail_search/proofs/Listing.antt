-- The list of the variables, as it is made.
use Rattle.std.proofs.Common.{◌≡◌, ℕ, zero, suc, ◌+◌, ◌<◌, Bool, false, List, [], ◌∷◌, ◌++◌, map, length, take, get_or, sym, ap, ◌∙◌, arith}
use Rattle.std.proofs.lemmas.List.{append-nil, append_assoc, map-append}
use Rattle.geo_conditions.specs.Walk.{Variable as Seen, PlaceOf, CoordinateOf, coordinates_from, variables_of, variables}
use Rattle.std.proofs.lemmas.List.{length-map}
use Rattle.std.proofs.Math.ListN.{get_or-map}
use Rattle.geo_conditions.specs.declared.object.ObjId.{ObjId}
use Rattle.geo_conditions.specs.Order.{numbers_of}
use Rattle.geo_conditions.proofs.Defaults.{any_default}
use Rattle.trail_search.specs.declared.variable.Variable.{Variable}
use Rattle.trail_search.specs.Variables.{variable_of}

-- one coordinate more of an object
pub coordinates_more : (o n k : ℕ) (down : List Bool) → k < length down → coordinates_from o n (take (suc k) down) ≡ coordinates_from o n (take k down) ++ CoordinateOf o (n + k) (get_or down k false) ∷ []
coordinates_more o n k [] h = absurd (omega arith)
coordinates_more o n zero (b ∷ down) h = ap (λ (m : ℕ). CoordinateOf o m b ∷ []) (omega arith)
coordinates_more o n (suc k) (b ∷ down) h = ap (λ (l : List Seen). CoordinateOf o n b ∷ l) (coordinates_more o (suc n) k down (omega arith) ∙ ap (λ (m : ℕ). coordinates_from o (suc n) (take k down) ++ CoordinateOf o m (get_or down k false) ∷ []) (omega arith))

-- the variables of one object more
pub variables_more : (order : List ℕ) (down : List Bool) (k : ℕ) → k < length order → variables (take (suc k) order) down ≡ variables (take k order) down ++ variables_of down (get_or order k 0)
variables_more [] down k h = absurd (omega arith)
variables_more (o ∷ order) down zero h = append-nil (variables_of down o)
variables_more (o ∷ order) down (suc k) h = ap (λ (l : List Seen). variables_of down o ++ l) (variables_more order down k (omega arith)) ∙ sym (append_assoc (variables_of down o) (variables (take k order) down) (variables_of down (get_or order k 0)))

-- one coordinate is appended
pub pushed : (all more start : List Variable) (o d e : ℕ) (b : Bool) (x : Variable) (down : List Bool) → more ≡ all ++ x ∷ [] → variable_of x ≡ CoordinateOf o d b → b ≡ get_or down d false → e ≡ suc d → d < length down → map variable_of all ≡ map variable_of start ++ PlaceOf o ∷ coordinates_from o 0 (take d down) → map variable_of more ≡ map variable_of start ++ PlaceOf o ∷ coordinates_from o 0 (take e down)
pushed all more start o d e b x down m v w s h i =
    let z : d ≡ 0 + d = omega arith in
    ap (map variable_of) m ∙ map-append variable_of all (x ∷ []) ∙ ap (λ (l : List Seen). l ++ variable_of x ∷ []) i
    ∙ append_assoc (map variable_of start) (PlaceOf o ∷ coordinates_from o 0 (take d down)) (variable_of x ∷ [])
    ∙ ap (λ (l : List Seen). map variable_of start ++ PlaceOf o ∷ l)
    (ap (λ (y : Seen). coordinates_from o 0 (take d down) ++ y ∷ []) (v ∙ ap (CoordinateOf o d) w) ∙ ap (λ (n : ℕ). coordinates_from o 0 (take d down) ++ CoordinateOf o n (get_or down d false) ∷ []) z ∙ sym (coordinates_more o 0 d down h) ∙ ap (λ (n : ℕ). coordinates_from o 0 (take n down)) (sym s))

-- the variables of one object more
pub listed : (items : List ObjId) (down down' : List Bool) (i j : ℕ) (D : ObjId) (old new : List Seen) → new ≡ old ++ variables_of down' (get_or items i D).0 → down' ≡ down → old ≡ variables (take i (numbers_of items)) down → i < length items → j ≡ suc i → new ≡ variables (take j (numbers_of items)) down
listed items down down' i j D old new e f h l k =
    let n : i < length (numbers_of items) = omega (arith, l, length-map items (λ (o : ObjId). o.0)) in
    let a : (get_or items i D).0 ≡ get_or (numbers_of items) i 0 = sym (get_or-map (λ (o : ObjId). o.0) items i D) ∙ any_default (numbers_of items) i D.0 0 n in
    e ∙ ap (λ (b : List Bool). old ++ variables_of b (get_or items i D).0) f ∙ ap (λ (l : List Seen). l ++ variables_of down (get_or items i D).0) h
    ∙ ap (λ (o : ℕ). variables (take i (numbers_of items)) down ++ variables_of down o) a
    ∙ sym (variables_more (numbers_of items) down i n) ∙ ap (λ (m : ℕ). variables (take m (numbers_of items)) down) (sym k)
