-- The number of a variable.
use Rattle.std.proofs.Common.{◌≡◌, ℕ, suc, ◌+◌, ◌<◌, ◌≤◌, List, [], ◌∷◌, length, map, get_or, refl, sym, ap, ◌∙◌, subst, inl, inr, arith, Option, Some, None, ℤ, pos, ◌≤ℤ◌, Bool, to_z, of_z, w64}
use Rattle.std.proofs.lemmas.Int.{ints}
use Rattle.std.proofs.lemmas.Bool.{cases_eq}
use Rattle.std.proofs.lemmas.List.{length-map}
use Rattle.std.proofs.Math.ListN.{get_or-map}
use Rattle.geo_conditions.specs.Walk.{Variable as Seen, PlaceOf, CoordinateOf}
use Rattle.geo_conditions.proofs.Defaults.{any_default}
use Rattle.geo_conditions.proofs.Full.{IsAmong}
use Rattle.trail_search.specs.declared.variable.Variable.{Variable}
use Rattle.geo_state.proofs.Numbers.{small_kept}
use Rattle.trail_search.specs.Cursor.{IsValueOf, AreValues}
use Rattle.trail_search.specs.Variables.{variable_of, IsAt, HasOne}

-- none of the first n variables is such a one
abbrev pub NoneAt : ℕ → Option ℕ → List Variable → ℕ → Type 0
NoneAt o d items n = (j : ℕ) → j < n → (x : Variable) → IsAt o d (variable_of (get_or items j x)) → ⊥

-- one variable more that is not such a one
pub none_at_more : (o : ℕ) (d : Option ℕ) (items : List Variable) (n : ℕ) (D : Variable) → NoneAt o d items n → n < length items → (IsAt o d (variable_of (get_or items n D)) → ⊥) → NoneAt o d items (n + 1)
none_at_more o d items n D h b f j l x y = elim (cases_eq j n) [
  | inl e ↦ f (subst (λ (z : Variable). IsAt o d (variable_of z)) (ap (λ (i : ℕ). get_or items i x) e ∙ any_default items n x D b) y)
  | inr ne ↦ h j (omega arith) x y
]

-- the variable of that number, as definitions see it
pub at_seen : (P : Seen → Type 0) (items : List Variable) (vs : List Seen) (i : ℕ) (D : Variable) → map variable_of items ≡ vs → i < length items → P (variable_of (get_or items i D)) → (x : Seen) → P (get_or vs i x)
at_seen P items vs i D e h p x =
    let n : i < length (map variable_of items) = omega (arith, h, length-map items variable_of) in
    subst (λ (l : List Seen). P (get_or l i x)) e (subst P (sym (any_default (map variable_of items) i x (variable_of D) n ∙ get_or-map variable_of items i D)) p)

-- there is one, so not none
pub not_none_at : (o : ℕ) (d : Option ℕ) (items : List Variable) (vs : List Seen) (n : ℕ) (D : Variable) → map variable_of items ≡ vs → HasOne (IsAt o d) vs → length items ≤ n → NoneAt o d items n → ⊥
not_none_at o d items vs n D e h b none =
    let l : h.0 < length items = omega (arith, h.1, ap length e, length-map items variable_of) in
    none h.0 (omega (arith, l, b)) D (subst (IsAt o d) (ap (λ (v : List Seen). get_or v h.0 (variable_of D)) (sym e) ∙ get_or-map variable_of items h.0 D) (h.2 (variable_of D)))

-- a variable among them has a number
pub place_number : (xs : List Seen) (o : ℕ) → IsAmong (PlaceOf o) xs → HasOne (IsAt o None) xs
place_number [] o h = absurd h
place_number (x ∷ xs) o (inl e) = (0, omega arith, λ y. subst (IsAt o None) (sym e) refl)
place_number (x ∷ xs) o (inr h) = let r = place_number xs o h in (suc r.0, omega (arith, r.1), λ y. r.2 y)

-- the same of a coordinate
pub coordinate_number : (xs : List Seen) (o d : ℕ) (b : Bool) → IsAmong (CoordinateOf o d b) xs → HasOne (IsAt o (Some d)) xs
coordinate_number [] o d b h = absurd h
coordinate_number (x ∷ xs) o d b (inl e) = (0, omega arith, λ y. subst (IsAt o (Some d)) (sym e) (refl, refl))
coordinate_number (x ∷ xs) o d b (inr h) = let r = coordinate_number xs o d b h in (suc r.0, omega (arith, r.1), λ y. r.2 y)

-- the value of a place
place_value : (o : ℕ) (y : Seen) (v : ℤ) → IsAt o None y → IsValueOf y v → (pos 0 ≤ℤ v) × (v ≤ℤ pos 16)
place_value o (PlaceOf u) v a h = h
place_value o (CoordinateOf u d down) v a h = absurd a

-- the value of a variable that is a place lies from 0 to 16
pub place_values : (xs : List Seen) (vs : List ℤ) (o i : ℕ) (v : ℤ) → AreValues xs vs → i < length xs → ((x : Seen) → IsAt o None (get_or xs i x)) → v ≡ get_or vs i (pos 0) → (pos 0 ≤ℤ v) × (v ≤ℤ pos 16)
place_values xs vs o i v h b a e = place_value o (get_or xs i (PlaceOf 0)) v (a (PlaceOf 0)) (subst (IsValueOf (get_or xs i (PlaceOf 0))) (sym e) (h i (PlaceOf 0) b))

-- a place stays the same as a number of 64 bits
pub place_kept : (v : ℤ) → (pos 0 ≤ℤ v) × (v ≤ℤ pos 16) → to_z w64 (of_z w64 v) ≡ v
place_kept v h = small_kept v (omega (arith, ints, h.0, h.1), omega (arith, ints, h.0, h.1))
