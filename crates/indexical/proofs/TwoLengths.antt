-- The literals of two boxes, dimension by dimension.
use Rattle.std.proofs.Common.{◌≡◌, ◌≢◌, ℕ, zero, suc, ◌+◌, ◌-◌, ◌*◌, ◌<◌, ◌≤◌, ◌^◌, inl, inr, List, [], ◌∷◌, ◌++◌, length, drop, get_or, refl, sym, ap, ◌∙◌, subst, arith, ℤ, pos, negsuc, ◌≤ℤ◌}
use Rattle.std.specs.Prelude.{Option, None, Some, IfSome, take}
use Rattle.std.specs.List.{flat_map, range_with_len}
use Rattle.std.proofs.lemmas.List.{take-append-drop, append_assoc}
use Rattle.std.proofs.lemmas.Int.{ints}
use Rattle.std.proofs.lemmas.Bool.{cases_eq}
use Rattle.std.proofs.Math.Seq.{drop-cons}
use Rattle.geo_base.specs.Boxes.{coordinate}
use Rattle.geo_conditions.specs.declared.cond.Cond.{Cond, Lin, AtLeast}
use Rattle.geo_conditions.specs.declared.cond.Conds.{Conds}
use Rattle.geo_conditions.specs.declared.object.ObjId.{ObjId}
use Rattle.geo_conditions.specs.Terms.{term_of}
use Rattle.indexical.specs.Limits.{IsWithinLimit}
use Rattle.indexical.specs.TwoBoxes.{lengths, lengths_from, spared}
use Rattle.indexical.specs.Apart.{gap, literals, other_shape, apart_parts, SaysApart}
use Rattle.indexical.specs.declared.placed.PlacedBox.{PlacedBox}
use Rattle.indexical.specs.declared.apart.ApartIndexical.{ApartIndexical}
use Rattle.indexical.proofs.ApartForm.{says_apart}

abbrev pub Pair : ObjId → ObjId → ℕ → ℤ → ℤ → List Cond
Pair a b d m n =
    Lin (record { terms = term_of (a, d, pos 1) ∷ term_of (b, d, negsuc 0) ∷ []; constant = m })
    ∷ Lin (record { terms = term_of (a, d, negsuc 0) ∷ term_of (b, d, pos 1) ∷ []; constant = n }) ∷ []

module _ (a b : ObjId) where
  -- only the lengths in those dimensions count
  pub same_lengths : (p q p' q' : List ℤ) (d n : ℕ) → ((e : ℕ) → d ≤ e → e < d + n → coordinate p' e ≡ coordinate p e) → ((e : ℕ) → d ≤ e → e < d + n → coordinate q' e ≡ coordinate q e)
      → lengths_from a b p' q' d n ≡ lengths_from a b p q d n
  same_lengths p q p' q' d zero f g = refl
  same_lengths p q p' q' d (suc n) f g =
      let x = f d (omega arith) (omega arith) in
      let y = g d (omega arith) (omega arith) in
      ap (λ (v : ℤ). Pair a b d v (coordinate q' d) ++ lengths_from a b p' q' (d + 1) n) x
      ∙ ap (λ (v : ℤ). Pair a b d (coordinate p d) v ++ lengths_from a b p' q' (d + 1) n) y
      ∙ ap (λ (cs : List Cond). lengths a b p q d ++ cs) (same_lengths p q p' q' (d + 1) n (λ e l h. f e (omega arith) (omega arith)) (λ e l h. g e (omega arith) (omega arith)))

  -- one dimension before those that are known
  pub lengths_before : (parts : List Cond) (p q p' q' : List ℤ) (d n : ℕ) (m k : ℤ) (x y : Cond) → 2 * d + 1 < length parts
      → (get_or parts (2 * d) x ∷ get_or parts (2 * d + 1) y ∷ []) ≡ Pair a b d m k
      → ((e : ℕ) → e ≢ d → coordinate p' e ≡ coordinate p e) → ((e : ℕ) → e ≢ d → coordinate q' e ≡ coordinate q e) → coordinate p' d ≡ m → coordinate q' d ≡ k
      → drop (2 * (d + 1)) parts ≡ lengths_from a b p q (d + 1) n → drop (2 * d) parts ≡ lengths_from a b p' q' d (suc n)
  lengths_before parts p q p' q' d n m k x y inside pair f g fm gk rest =
      let e : suc (suc (2 * d)) ≡ 2 * (d + 1) = omega arith in
      let next : suc (2 * d) ≡ 2 * d + 1 = omega arith in
      drop-cons parts (2 * d) x (omega arith)
      ∙ ap (λ (cs : List Cond). get_or parts (2 * d) x ∷ cs) (drop-cons parts (suc (2 * d)) y (omega arith))
      ∙ ap (λ (cs : List Cond). (get_or parts (2 * d) x ∷ get_or parts (suc (2 * d)) y ∷ []) ++ cs) (ap (λ (i : ℕ). drop i parts) e ∙ rest)
      ∙ ap (λ (i : ℕ). (get_or parts (2 * d) x ∷ get_or parts i y ∷ []) ++ lengths_from a b p q (d + 1) n) next
      ∙ ap (λ (cs : List Cond). cs ++ lengths_from a b p q (d + 1) n) pair
      ∙ ap (λ (v : ℤ). Pair a b d v k ++ lengths_from a b p q (d + 1) n) (sym fm)
      ∙ ap (λ (v : ℤ). Pair a b d (coordinate p' d) v ++ lengths_from a b p q (d + 1) n) (sym gk)
      ∙ ap (λ (cs : List Cond). lengths a b p' q' d ++ cs) (sym (same_lengths p q p' q' (d + 1) n
      (λ i l h. let ne : i ≢ d = omega arith in f i ne) (λ i l h. let ne : i ≢ d = omega arith in g i ne)))

-- a point with one more coordinate within the limit
pub limit_with : (K : ℕ) (p p' : List ℤ) (d : ℕ) (m : ℤ) → IsWithinLimit K p → ((e : ℕ) → e ≢ d → coordinate p' e ≡ coordinate p e) → coordinate p' d ≡ m
    → negsuc (10 ^ 14 - 1) ≤ℤ m → m ≤ℤ pos (10 ^ 14) → IsWithinLimit K p'
limit_with K p p' d m was others here low high e h = elim (cases_eq e d) [
  | inl q ↦ subst (λ (i : ℕ). (negsuc (10 ^ 14 - 1) ≤ℤ coordinate p' i) × (coordinate p' i ≤ℤ pos (10 ^ 14))) (sym q) (omega (arith, ints, here, low), omega (arith, ints, here, high))
  | inr ne ↦ (let o = others e ne in let w = was e h in (omega (arith, ints, o, w.0), omega (arith, ints, o, w.1)))
]

-- ---- boxes of those lengths at their objects' origins

module _ {K : ℕ} (a b : PlacedBox K) where
  same_literals : (p q : List ℤ) (d n : ℕ) → ((e : ℕ) → d ≤ e → e < d + n → gap a b e ≡ coordinate p e) → ((e : ℕ) → d ≤ e → e < d + n → gap b a e ≡ coordinate q e)
      → lengths_from a.object b.object p q d n ≡ flat_map (literals a b) (range_with_len d n)
  same_literals p q d zero f g = refl
  same_literals p q d (suc n) f g =
      let x = f d (omega arith) (omega arith) in
      let y = g d (omega arith) (omega arith) in
      ap (λ (v : ℤ). Pair a.object b.object d v (coordinate q d) ++ lengths_from a.object b.object p q (d + 1) n) (sym x)
      ∙ ap (λ (v : ℤ). Pair a.object b.object d (gap a b d) v ++ lengths_from a.object b.object p q (d + 1) n) (sym y)
      ∙ ap (λ (cs : List Cond). literals a b d ++ cs) (same_literals p q (d + 1) n (λ e l h. f e (omega arith) (omega arith)) (λ e l h. g e (omega arith) (omega arith)))

  pub boxes_parts : (parts front back : List Cond) (mid : ℕ) (o u : ObjId) (s t : Option ℕ) (p q : List ℤ) → front ≡ take mid parts → back ≡ drop mid parts
      → front ≡ spared o s ++ spared u t → back ≡ lengths_from o u p q 0 K → a.object ≡ o → b.object ≡ u → other_shape a ≡ spared o s → other_shape b ≡ spared u t
      → ((d : ℕ) → d < K → coordinate a.offset.coordinates d ≡ pos 0) → ((d : ℕ) → d < K → coordinate b.offset.coordinates d ≡ pos 0) → a.size.coordinates ≡ p → b.size.coordinates ≡ q
      → parts ≡ apart_parts a b
  boxes_parts parts front back mid o u s t p q fr ba shapes lits ao bo ash bsh az bz al bl =
      let gap_a : (e : ℕ) → 0 ≤ e → e < 0 + K → gap a b e ≡ coordinate p e = λ e l h. (let x = az e (omega arith) in let y = bz e (omega arith) in let z = ap (λ (xs : List ℤ). coordinate xs e) al in omega (arith, ints, x, y, z)) in
      let gap_b : (e : ℕ) → 0 ≤ e → e < 0 + K → gap b a e ≡ coordinate q e = λ e l h. (let x = az e (omega arith) in let y = bz e (omega arith) in let z = ap (λ (xs : List ℤ). coordinate xs e) bl in omega (arith, ints, x, y, z)) in
      let all : lengths_from o u p q 0 K ≡ flat_map (literals a b) (range_with_len 0 K) =
      ap (λ (v : ObjId). lengths_from v u p q 0 K) (sym ao) ∙ ap (λ (v : ObjId). lengths_from a.object v p q 0 K) (sym bo) ∙ same_literals p q 0 K gap_a gap_b in
      sym (take-append-drop mid parts)
      ∙ ap (λ (xs : List Cond). xs ++ drop mid parts) (sym fr ∙ shapes)
      ∙ ap (λ (xs : List Cond). (spared o s ++ spared u t) ++ xs) (sym ba ∙ lits ∙ all)
      ∙ append_assoc (spared o s) (spared u t) (flat_map (literals a b) (range_with_len 0 K))
      ∙ ap (λ (xs : List Cond). xs ++ (spared u t ++ flat_map (literals a b) (range_with_len 0 K))) (sym ash)
      ∙ ap (λ (xs : List Cond). other_shape a ++ (xs ++ flat_map (literals a b) (range_with_len 0 K))) (sym bsh)

-- two boxes found give what they say
pub found_says : {K : ℕ} (some : 0 < K) (cond : Cond) (n : ℤ) (children : Conds) (xs : List Cond) (r : Option (ApartIndexical K)) → cond ≡ AtLeast n children → n ≡ pos 1 → xs ≡ children.items.items
    → IfSome r (λ x. xs ≡ apart_parts x.first x.second) → IfSome r (λ x. SaysApart x.first x.second x.short cond)
found_says some cond n children xs None is one same h = tt
found_says some cond n children xs (Some x) is one same h =
    subst (λ (c : Cond). SaysApart x.first x.second x.short c) (sym is) (says_apart x.first x.second x.short some n children one (sym same ∙ h))
