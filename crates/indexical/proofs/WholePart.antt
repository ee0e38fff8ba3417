-- A box that was widened as far as it goes has all points at which the form stays above 0, where the form has one coordinate of the object
-- at most.
use Rattle.std.proofs.Common.{◌≡◌, ℕ, suc, ◌<◌, ◌⊎◌, inl, inr, Bool, true, false, ◌&&◌, List, [], ◌∷◌, length, get_or, refl, sym, ap, ◌∙◌, subst, arith, ℤ, pos, negsuc, ◌+ℤ◌, ◌-ℤ◌, ◌≤ℤ◌, ◌<ℤ◌, if◌then◌else◌}
use Rattle.std.specs.Prelude.{◌==◌, AllPairs}
use Rattle.std.specs.List.{All}
use Rattle.std.proofs.lemmas.Int.{ints, by_lt_z}
use Rattle.std.proofs.lemmas.Bool.{cases_Bool, cases_eq, cases_lt, and_parts, eqb-true, true≢false}
use Rattle.geo_base.specs.Boxes.{coordinate, Has}
use Rattle.geo_conditions.specs.declared.form.Term.{Term}
use Rattle.geo_conditions.specs.Form.{Sum, StandsBefore}
use Rattle.geo_conditions.specs.Reach.{State, Region, high, just, with_at}
use Rattle.geo_conditions.specs.Conditions.{least_product, least_term, least_value}
use Rattle.geo_conditions.proofs.Monotone.{least_product_le}
use Rattle.indexical.specs.Widening.{factor_at, cost, outer}
use Rattle.indexical.proofs.Values.{IsOf, sums_differ, product_moved, low_at, high_at, other_object}

-- in a form each coordinate stands once
pub once_of : (ts : List Term) (o d : ℕ) → AllPairs StandsBefore ts → AllPairs (λ a b. IsOf o d a → IsOf o d b → ⊥) ts
once_of ts o d a i j x h l p q =
    let r = a i j x h l in
    let lt = r.dimension (p.0 ∙ sym q.0) in
    omega (arith, lt, p.1, q.1)

-- a factor that is not 0 stands in some term
factor_found : (ts : List Term) (o d : ℕ) (x : Term) → (factor_at ts o d ≡ pos 0 → ⊥) → (j : ℕ) × (j < length ts) × IsOf o d (get_or ts j x)
factor_found [] o d x ne = absurd (ne refl)
factor_found (t ∷ ts) o d x ne = elim (cases_Bool ((t.object.0 == o) && (t.dimension == d))) [
  | inl e ↦ let both = and_parts (t.object.0 == o) (t.dimension == d) e in (0, omega arith, (eqb-true t.object.0 o both.0, eqb-true t.dimension d both.1))
  | inr e ↦
      let factor : factor_at (t ∷ ts) o d ≡ factor_at ts o d = ap (λ (b : Bool). if b then t.factor else factor_at ts o d) e in
      let w = factor_found ts o d x (λ z. ne (factor ∙ z)) in
      (suc w.0, omega (arith, w.1), w.2)
]

-- one step past an end costs at least the price
beyond : (up : Bool) (a lo hi x : ℤ) → 0 < cost up a → (up ≡ true → hi <ℤ x) → (up ≡ false → x <ℤ lo) → (least_product a x x +ℤ pos (cost up a)) ≤ℤ least_product a lo hi
beyond true (pos n) lo hi x some f g = absurd (omega arith)
beyond true (negsuc n) lo hi x some f g =
    let le = least_product_le (negsuc n) x (hi +ℤ pos 1) x x (omega (arith, ints)) (let h = f refl in omega (arith, ints)) in
    let m = product_moved true (negsuc n) lo hi lo (hi +ℤ pos 1) 1 (λ u. (refl, refl)) (λ u. absurd (true≢false u)) in
    omega (arith, ints, le, m)
beyond false (pos n) lo hi x some f g =
    let le = least_product_le (pos n) (lo -ℤ pos 1) x x x (let h = g refl in omega (arith, ints)) (omega (arith, ints)) in
    let m = product_moved false (pos n) lo hi (lo -ℤ pos 1) hi 1 (λ u. absurd (true≢false (sym u))) (λ u. (omega (arith, ints), refl)) in
    omega (arith, ints, le, m)
beyond false (negsuc n) lo hi x some f g = absurd (omega arith)

module _ (S : State) (o s k : ℕ) (there : o < length S) (f : Sum) (b region : Region) (slack : ℕ)
    (value : least_value f (with_at S o s b) ≡ pos (suc slack))
    (one : AllPairs (λ t u. t.object.0 ≡ o → u.object.0 ≡ o → ⊥) f.terms)
    (far : (up : Bool) (d : ℕ) → d < k → (outer up b d ≡ outer up region d) ⊎ (slack < cost up (factor_at f.terms o d)))
    (q : List ℤ) (above : pos 0 <ℤ least_value f (with_at S o s (just q))) where
  -- past an end that was not moved on for want of means, the form is at most 0
  not_past : (up : Bool) (d : ℕ) → slack < cost up (factor_at f.terms o d) → (up ≡ true → coordinate b.hi d <ℤ coordinate q d) → (up ≡ false → coordinate q d <ℤ coordinate b.lo d) → ⊥
  not_past up d dear past_hi past_lo =
      let T = with_at S o s b in
      let T' = with_at S o s (just q) in
      let a = factor_at f.terms o d in
      let some : (a ≡ pos 0 → ⊥) = λ z. nothing up a slack z dear in
      let same : All (λ t. (IsOf o d t → ⊥) → least_term T' t ≡ least_term T t) f.terms = λ i x h not_of. (
      let t = get_or f.terms i x in
      let w = factor_found f.terms o d x some in
      elim (cases_eq t.object.0 o) [
        | inl e ↦ absurd (elim (cases_lt i w.0) [
          | inl l ↦ one i w.0 x l w.1 e w.2.0
          | inr m ↦ elim (cases_lt w.0 i) [
            | inl l ↦ one w.0 i x l h w.2.0 e
            | inr n ↦ (let same_place : w.0 ≡ i = omega arith in not_of (subst (λ (j : ℕ). IsOf o d (get_or f.terms j x)) same_place w.2))
          ]
        ])
        | inr ne ↦ other_object S o s there b (just q) t ne
      ]) in
      let once : AllPairs (λ t u. IsOf o d t → IsOf o d u → ⊥) f.terms = λ i j x h l u v. one i j x h l u.0 v.0 in
      let sums = sums_differ T T' o d f.terms same once in
      let fall = beyond up a (coordinate b.lo d) (coordinate b.hi d) (coordinate q d) (omega arith) past_hi past_lo in
      let l = ap (λ (x : ℤ). least_product a x (high T o d)) (low_at S o s there b d) ∙ ap (λ (x : ℤ). least_product a (coordinate b.lo d) x) (high_at S o s there b d) in
      let l' = ap (λ (x : ℤ). least_product a x (high T' o d)) (low_at S o s there (just q) d) ∙ ap (λ (x : ℤ). least_product a (coordinate q d) x) (high_at S o s there (just q) d) in
      omega (arith, ints, sums, fall, l, l', value, above, dear)
    where
      nothing : (up : Bool) (a : ℤ) (p : ℕ) → a ≡ pos 0 → p < cost up a → ⊥
      nothing true a p z h = let e = ap (cost true) z in omega arith
      nothing false a p z h = let e = ap (cost false) z in omega arith

  pub has_whole : Has k region.lo region.hi q → Has k b.lo b.hi q
  has_whole has d h = (
    by_lt_z (coordinate q d) (coordinate b.lo d)
        (λ l. absurd (elim (far false d h) [
          | inl e ↦ omega (arith, ints, e, (has d h).0, l)
          | inr dear ↦ not_past false d dear (λ u. absurd (true≢false (sym u))) (λ u. l)
        ]))
        (λ l. l),
    by_lt_z (coordinate b.hi d) (coordinate q d)
        (λ l. absurd (elim (far true d h) [
          | inl e ↦ omega (arith, ints, e, (has d h).1, l)
          | inr dear ↦ not_past true d dear (λ u. l) (λ u. absurd (true≢false u))
        ]))
        (λ l. l),
  )
