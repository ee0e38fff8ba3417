-- What a text names by the words of a table is found again there.
use Rattle.std.proofs.Common.{◌≡◌, ◌≢◌, ℕ, suc, ◌+◌, ◌-◌, ◌<◌, ◌≤◌, List, [], length, get_or, Option, Some, None, Bool, true, false, ◌&&◌, if◌then◌else◌, inl, inr, ⊎_elim, refl, sym, ap, ◌∙◌, subst, arith}
use Rattle.std.specs.Prelude.{cond, nat_le, nat_lt, option_map}
use Rattle.std.specs.List.{position, position_or_len}
use Rattle.std.specs.Str.{bytes_eq}
use Rattle.std.proofs.lemmas.Bool.{cases_lt, cases_Bool, le-leb, lt-ltb}
use Rattle.std.proofs.lemmas.List.{length-map, get_or-map}
use Rattle.std.proofs.lemmas.List.Sums.{position_or_len_is}
use Rattle.std.proofs.lemmas.Slice.Eq.{bytes_eq-Decides}
use Rattle.geo_tokens.specs.Names.{NameTable, IsNameText, IsPlaceText, IsShapeList, IsNameTable, AllDifferent, object_names}
use Rattle.derivation_text.specs.Lines.{object_name, shapes_of, shape_name, HasShape}
use Rattle.derivation_reading.specs.Grammar.{has_name, lookup}

-- ---- lists

found_at : {X : Type 0} (p : X → Bool) (xs : List X) (i : ℕ) (d : X) → i < length xs → ((k : ℕ) → k < i → p (get_or xs k d) ≡ false) → p (get_or xs i d) ≡ true → position p xs ≡ Some i
found_at p xs i d lt before here =
    let at : position_or_len p xs ≡ i = position_or_len_is p xs i d (omega arith) before (λ _. here) in
    ap (λ (k : ℕ). cond (nat_lt k (length xs)) (Some k) None) at ∙ ap (λ (b : Bool). cond b (Some i) None) (lt-ltb i (length xs) lt)

not_same : (x y : List ℕ) → (x ≡ y → ⊥) → bytes_eq x y ≡ false
not_same x y h = elim (cases_Bool (bytes_eq x y)) [ inl e ↦ absurd (h ((bytes_eq-Decides x y).0 e)) | inr e ↦ e ]

same : (x : List ℕ) → bytes_eq x x ≡ true
same x = (bytes_eq-Decides x x).1 refl

-- different positions have different items
unequal : {X : Type 0} (xs : List X) (d : X) (j k : ℕ) → AllDifferent xs → j < length xs → k < length xs → j ≢ k → get_or xs j d ≡ get_or xs k d → ⊥
unequal xs d j k differ lj lk ne e =
    ⊎_elim (λ lt. differ j k d lt lk e) (λ le. ⊎_elim (λ lt. differ k j d lt lj (sym e)) (λ ge. ne (omega arith)) (cases_lt k j)) (cases_lt j k)

-- ---- a table of names

module _ (n : NameTable) (table : IsNameTable n) where
  named : (o : ℕ) → o < length n.objects → get_or (object_names n) o [] ≡ object_name n o
  named o lt = get_or-map (λ (x : List ℕ × List ℕ). x.0) n.objects o ([], []) [] lt

  objects : length (object_names n) ≡ length n.objects
  objects = length-map n.objects (λ (x : List ℕ × List ℕ). x.0)

  pub object_text : (o : ℕ) → o < length n.objects → IsNameText (object_name n o)
  object_text o lt = subst IsNameText (named o lt) (table.object_texts o [] (omega (arith, objects)))

  pub object_found : (o : ℕ) → o < length n.objects → (lookup n).object (object_name n o) ≡ Some o
  object_found o lt =
      found_at (λ (x : List ℕ × List ℕ). bytes_eq (object_name n o) x.0) n.objects o ([], []) lt
      (λ k less. (let few : k < length n.objects = omega arith in
      not_same (object_name n o) (object_name n k) (λ e. table.objects_differ k o [] less (omega (arith, objects)) (named k few ∙ sym e ∙ sym (named o lt)))))
      (same (object_name n o))

  module _ (o s : ℕ) (has : HasShape n o s) where
    list : IsShapeList (length n.shapes) (shapes_of n o)
    list = table.lists o ([], []) has.0

    here : s - 1 < length (shapes_of n o)
    here = let low : 1 ≤ s = has.1 in let high : s ≤ length (shapes_of n o) = has.2 in omega arith

    number : ℕ → ℕ
    number k = get_or (shapes_of n o) k 0

    inside : (k : ℕ) → k < length (shapes_of n o) → number k < length n.shapes
    unfolding number
    inside k lt = list.inside k 0 lt

    pub shape_text : IsPlaceText (shape_name n o s)
    unfolding number
    shape_text = table.shape_texts (number (s - 1)) [] (inside (s - 1) here)

    found : position (has_name n (shape_name n o s)) (shapes_of n o) ≡ Some (s - 1)
    unfolding number
    found =
        found_at (has_name n (shape_name n o s)) (shapes_of n o) (s - 1) 0 here
        (λ k less. (let few : k < length (shapes_of n o) = (let l : s - 1 < length (shapes_of n o) = here in omega arith) in
        not_same (shape_name n o s) (get_or n.shapes (number k) [])
        (λ e. unequal n.shapes [] (number k) (number (s - 1)) table.shapes_differ (inside k few) (inside (s - 1) here) (list.different k (s - 1) 0 less here) (sym e))))
        (same (shape_name n o s))

    pub shape_found : (lookup n).place o (shape_name n o s) ≡ Some s
    shape_found =
        let low : 1 ≤ s = has.1 in
        let back : suc (s - 1) ≡ s = omega arith in
        ap (λ (p : Option ℕ). option_map suc p) found ∙ ap (λ (k : ℕ). Some k) back

-- dimensions are counted from 1
pub dimension_found : (n : NameTable) (d : ℕ) → d < n.dims → (lookup n).dimension (d + 1) ≡ Some d
dimension_found n d lt =
    let low : nat_le 1 (d + 1) ≡ true = le-leb 1 (d + 1) (omega arith) in
    let high : nat_le (d + 1) n.dims ≡ true = le-leb (d + 1) n.dims (omega arith) in
    let back : (d + 1) - 1 ≡ d = omega arith in
    ap (λ (b : Bool). let o : Option ℕ = if b && nat_le (d + 1) n.dims then Some ((d + 1) - 1) else None in o) low
    ∙ ap (λ (b : Bool). let o : Option ℕ = if b then Some ((d + 1) - 1) else None in o) high ∙ ap (λ (k : ℕ). Some k) back
