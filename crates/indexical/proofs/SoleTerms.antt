-- What a form with one coordinate of an object comes to with the object at a point.
use Rattle.std.proofs.Common.{◌≡◌, ◌≢◌, ℕ, zero, suc, ◌^◌, ◌+◌, ◌*◌, ◌<◌, ◌≤◌, inl, inr, Bool, true, false, ◌&&◌, List, [], ◌∷◌, length, get_or, refl, sym, ap, ◌∙◌, subst, arith, ℤ, pos, negsuc, ◌+ℤ◌, ◌-ℤ◌, ◌*ℤ◌, ◌≤ℤ◌, ◌<ℤ◌, if◌then◌else◌, FitsSigned}
use Rattle.std.specs.Prelude.{◌==◌, AllPairs}
use Rattle.std.specs.Int.{w64, w128}
use mir.Val.{to_z, of_z}
use Rattle.std.proofs.Common.{to_z-of_z}
use Rattle.geo_base.specs.declared.TheConstants.{MAX_DIMS}
use Rattle.geo_conditions.specs.declared.object.TheConstants.{MAX_OBJECTS}
use Rattle.geo_conditions.proofs.Products.{kept, product_cast, sum_in}
use Rattle.std.specs.List.{All}
use Rattle.std.proofs.lemmas.Int.{ints}
use Rattle.std.proofs.lemmas.Bool.{cases_Bool}
use Rattle.std.proofs.lemmas.List.Elements.{All-head, All-tail}
use lib.Signed.{le_z, mag}
use lib.IntN.{nat_abs}
use Rattle.indexical.proofs.Numbers.{kept128}
use Rattle.indexical.proofs.Widened.{above_0}
use Rattle.geo_base.specs.Boxes.{coordinate, Has, IsUncrossed}
use Rattle.geo_conditions.specs.declared.cond.Cond.{Lin}
use Rattle.geo_conditions.specs.declared.form.Term.{Term}
use Rattle.geo_conditions.specs.Form.{Sum, StandsBefore, IsBounded}
use Rattle.geo_conditions.specs.Reach.{State, Reach, Region, low, high, just, with_at}
use Rattle.geo_conditions.specs.Conditions.{least_product, least_term, least_value, sum_of}
use Rattle.geo_conditions.specs.Sums.{InSum}
use Rattle.geo_conditions.proofs.Monotone.{least_product_le, test_le}
use lib.Signed.{le_z}
use Rattle.geo_conditions.proofs.Points.{reach_other}
use Rattle.indexical.specs.Disjunctions.{IsDisjunction}
use Rattle.indexical.specs.Widening.{factor_at}
use Rattle.indexical.proofs.Values.{IsOf, sums_differ, low_at, high_at}
use Rattle.indexical.proofs.WholePart.{once_of}

-- sums of more products
pub sum_within : (n m : ℕ) (a : ℤ) → n ≤ m → InSum n a → InSum m a
sum_within n m a l h = (omega (arith, ints), omega (arith, ints))

-- where both ends are one number, it is the product
same_ends : (a x : ℤ) → least_product a x x ≡ a *ℤ x
same_ends (pos n) x = refl
same_ends (negsuc n) x = refl

-- sums of a few products more than a form has fit
pub some_fit : (n : ℕ) (a : ℤ) → n ≤ 2000 → InSum n a → FitsSigned w128 a
some_fit n a h k = omega (arith, ints)

-- one product less, or more
pub sum_less : (n : ℕ) (a b : ℤ) → InSum n a → InSum 1 b → InSum (n + 1) (a -ℤ b)
sum_less n a b h k = (omega (arith, ints), omega (arith, ints))

-- what a number and a product come to
pub value_fits : (rest f e p : ℤ) → InSum (MAX_OBJECTS * MAX_DIMS + 2) rest → IsBounded f → FitsSigned w64 e → FitsSigned w128 p → p ≡ to_z w64 (of_z w64 f) *ℤ to_z w64 (of_z w64 e) → FitsSigned w128 (to_z w128 (of_z w128 rest) +ℤ to_z w128 (of_z w128 p))
value_fits rest f e p small b h k q =
    let m : ℕ = MAX_OBJECTS * MAX_DIMS + 2 in
    rw (kept rest (some_fit m rest (omega arith) small)) (some_fit (m + 1) (rest +ℤ to_z w128 (of_z w128 p)) (omega arith) (sum_in m rest (to_z w128 (of_z w128 p)) small (product_cast f e p b h k q)))

pub value_is : (rest f e p x : ℤ) → InSum (MAX_OBJECTS * MAX_DIMS + 2) rest → IsBounded f → FitsSigned w64 e → FitsSigned w128 p → p ≡ to_z w64 (of_z w64 f) *ℤ to_z w64 (of_z w64 e) → e ≡ x
    → to_z w128 (of_z w128 (to_z w128 (of_z w128 rest) +ℤ to_z w128 (of_z w128 p))) ≡ rest +ℤ f *ℤ x
value_is rest f e p x small b h k q same =
    let bf : FitsSigned w64 f = omega (arith, ints) in
    let made : p ≡ f *ℤ x = q ∙ ap (λ (y : ℤ). y *ℤ to_z w64 (of_z w64 e)) (to_z-of_z bf) ∙ ap (λ (y : ℤ). f *ℤ y) (to_z-of_z h ∙ same) in
    kept (to_z w128 (of_z w128 rest) +ℤ to_z w128 (of_z w128 p)) (value_fits rest f e p small b h k q)
    ∙ ap (λ (y : ℤ). y +ℤ to_z w128 (of_z w128 p)) (kept rest (some_fit (MAX_OBJECTS * MAX_DIMS + 2) rest (omega arith) small))
    ∙ ap (λ (y : ℤ). rest +ℤ y) (kept p k ∙ made)

-- a number above 0 is one more than what is left of it without 1
pub purse_is : (z : ℤ) → mag z < 2 ^ 127 → le_z (to_z w128 (of_z w128 z)) (pos 0) ≡ false → z ≡ pos (suc (nat_abs (to_z w128 (of_z w128 (to_z w128 (of_z w128 z) -ℤ pos 1)))))
purse_is z h e = above z h (above_0 z (ap (λ (y : ℤ). le_z y (pos 0)) (sym (kept128 z h)) ∙ e))
  where
    above : (y : ℤ) → mag y < 2 ^ 127 → pos 0 <ℤ y → y ≡ pos (suc (nat_abs (to_z w128 (of_z w128 (to_z w128 (of_z w128 y) -ℤ pos 1)))))
    above (pos zero) k l = absurd (omega (arith, ints, l))
    above (pos (suc n)) k l = let less : FitsSigned w128 (pos n) = omega (arith, ints, k) in let e : pos (suc n) -ℤ pos 1 ≡ pos n = omega (arith, ints) in
        sym (rw (kept128 (pos (suc n)) k, e, kept (pos n) less) refl)
    above (negsuc n) k l = absurd (omega (arith, ints, l))

-- what is left of a sum without a product
pub rest_is : (total least : ℤ) → InSum (MAX_OBJECTS * MAX_DIMS + 1) total → InSum 1 least → to_z w128 (of_z w128 (to_z w128 (of_z w128 total) -ℤ to_z w128 (of_z w128 least))) ≡ total -ℤ least
rest_is total least h k =
    rw (kept total (some_fit (MAX_OBJECTS * MAX_DIMS + 1) total (omega arith) h), kept least (some_fit 1 least (omega arith) k))
    (kept (total -ℤ least) (some_fit (MAX_OBJECTS * MAX_DIMS + 2) (total -ℤ least) (omega arith) (sum_less (MAX_OBJECTS * MAX_DIMS + 1) total least h k)))

-- each factor of a form is bounded
pub factor_bounded : (ts : List Term) (o d : ℕ) → All (λ a. IsBounded a.factor × (a.factor ≢ pos 0)) ts → IsBounded (factor_at ts o d)
factor_bounded [] o d h = (omega (arith, ints), omega (arith, ints))
factor_bounded (t ∷ ts) o d h = elim (cases_Bool ((t.object.0 == o) && (t.dimension == d))) [
  | inl e ↦
      let factor : factor_at (t ∷ ts) o d ≡ t.factor = ap (λ (b : Bool). if b then t.factor else factor_at ts o d) e in
      subst IsBounded (sym factor) (All-head (λ a. IsBounded a.factor × (a.factor ≢ pos 0)) t ts h).0
  | inr e ↦
      let factor : factor_at (t ∷ ts) o d ≡ factor_at ts o d = ap (λ (b : Bool). if b then t.factor else factor_at ts o d) e in
      subst IsBounded (sym factor) (factor_bounded ts o d (All-tail (λ a. IsBounded a.factor × (a.factor ≢ pos 0)) t ts h))
]

module _ (S : State) (o : ℕ) (there : o < length S) (f : Sum) (d : ℕ) (own : All (λ a. a.object.0 ≡ o → a.dimension ≡ d) f.terms) (order : AllPairs StandsBefore f.terms) where
  -- a term of another object
  elsewhere : (place : ℕ) (q : List ℤ) (t : Term) → t.object.0 ≢ o → least_term (with_at S o place (just q)) t ≡ least_term S t
  elsewhere place q t ne = ap (λ (r : Reach). least_product t.factor (coordinate r.region.lo t.dimension) (coordinate r.region.hi t.dimension)) (reach_other S o place t.object.0 (just q) ne)

  -- the product of the coordinate comes in place of its least product
  pub value_put : (place : ℕ) (q : List ℤ) (total least rest a : ℤ) → total ≡ least_value f S → a ≡ factor_at f.terms o d → least ≡ least_product a (low S o d) (high S o d) → rest ≡ total -ℤ least
      → least_value f (with_at S o place (just q)) ≡ rest +ℤ a *ℤ coordinate q d
  value_put place q total least rest a t is l r =
      let T = with_at S o place (just q) in
      let same : All (λ u. (IsOf o d u → ⊥) → least_term T u ≡ least_term S u) f.terms = λ k x h not_of. elsewhere place q (get_or f.terms k x) (λ e. not_of (e, own k x h e)) in
      let sums = subst (λ (z : ℤ). sum_of (least_term T) f.terms +ℤ least_product z (low S o d) (high S o d) ≡ sum_of (least_term S) f.terms +ℤ least_product z (low T o d) (high T o d)) (sym is) (sums_differ S T o d f.terms same (once_of f.terms o d order)) in
      let here : least_product a (low T o d) (high T o d) ≡ a *ℤ coordinate q d =
      ap (λ (x : ℤ). least_product a x (high T o d)) (low_at S o place there (just q) d) ∙ ap (λ (x : ℤ). least_product a (coordinate q d) x) (high_at S o place there (just q) d) ∙ same_ends a (coordinate q d) in
      omega (arith, ints, sums, here, t, l, r)

  -- such a form is a disjunction
  pub sole_disjunction : IsDisjunction o (Lin f)
  sole_disjunction i j x h l p q =
      let r = order i j x h l in
      let lt = r.dimension (p ∙ sym q) in
      let di = own i x (omega (arith, h, l)) p in
      let dj = own j x l q in
      omega (arith, lt, di, dj)

-- the product is greatest at one end: at the low one, where the factor is below 0
pub rises_to : (a x y : ℤ) → pos 0 ≤ℤ a → x ≤ℤ y → (a *ℤ x) ≤ℤ (a *ℤ y)
rises_to (pos n) x y h l = least_product_le (pos n) y x x x l (omega (arith, ints))
rises_to (negsuc n) x y h l = absurd (omega (arith, ints))

pub falls_to : (a x y : ℤ) → a <ℤ pos 0 → x ≤ℤ y → (a *ℤ y) ≤ℤ (a *ℤ x)
falls_to (pos n) x y h l = absurd (omega (arith, ints))
falls_to (negsuc n) x y h l = least_product_le (negsuc n) y x y y (omega (arith, ints)) l

-- the corner of a region at which a product with the coordinate is greatest
abbrev pub IsTop : ℤ → ℕ → Region → List ℤ → Type 0
IsTop a d b c = (a <ℤ pos 0 → coordinate c d ≡ coordinate b.lo d) × (pos 0 ≤ℤ a → coordinate c d ≡ coordinate b.hi d)

-- elsewhere in the region it is not greater
pub top_greatest : (K : ℕ) (rest a : ℤ) (d : ℕ) (b : Region) (c q : List ℤ) → d < K → IsTop a d b c → Has K b.lo b.hi q → (rest +ℤ a *ℤ coordinate q d) ≤ℤ (rest +ℤ a *ℤ coordinate c d)
top_greatest K rest (pos n) d b c q h top has =
    let x = has d h in
    let m = rises_to (pos n) (coordinate q d) (coordinate c d) (omega (arith, ints)) (let e = top.1 (omega (arith, ints)) in omega (arith, ints, e, x.1)) in
    omega (arith, ints, m)
top_greatest K rest (negsuc n) d b c q h top has =
    let x = has d h in
    let m = falls_to (negsuc n) (coordinate c d) (coordinate q d) (omega (arith, ints)) (let e = top.0 (omega (arith, ints)) in omega (arith, ints, e, x.0)) in
    omega (arith, ints, m)

-- so where the sum is at most 0 there, it is elsewhere
pub top_possible : (K : ℕ) (rest a : ℤ) (d : ℕ) (b : Region) (c q : List ℤ) → d < K → IsTop a d b c → Has K b.lo b.hi q → le_z (rest +ℤ a *ℤ coordinate c d) (pos 0) ≡ true → le_z (rest +ℤ a *ℤ coordinate q d) (pos 0) ≡ true
top_possible K rest a d b c q h top has e =
    test_le (rest +ℤ a *ℤ coordinate c d) (pos 0) (rest +ℤ a *ℤ coordinate q d) (pos 0) e (top_greatest K rest a d b c q h top has) (omega (arith, ints))

-- both corners are points of a region that has points
pub corners : (K : ℕ) (b : Region) → IsUncrossed K b.lo b.hi → Has K b.lo b.hi b.lo × Has K b.lo b.hi b.hi
corners K b u = (λ d h. (omega (arith, ints), let x = u d h in x), λ d h. ((let x = u d h in x), omega (arith, ints)))
