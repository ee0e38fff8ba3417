-- The least value of a form where a box is widened in one dimension.
use Rattle.std.proofs.Common.{◌≡◌, ◌≢◌, ℕ, zero, suc, ◌*◌, ◌<◌, inl, inr, Bool, true, false, ◌&&◌, List, [], ◌∷◌, length, get_or, refl, sym, ap, ◌∙◌, subst, arith, ℤ, pos, negsuc, ◌+ℤ◌, ◌*ℤ◌, if◌then◌else◌}
use Rattle.std.specs.Prelude.{◌==◌, AllPairs}
use Rattle.std.specs.List.{All}
use Rattle.std.proofs.Math.IntN.{suc_ℤ-*ℤ, *ℤ_comm, *ℤ-zero, zero-*ℤ, negsuc-*ℤ-pos, pos-*ℤ-pos}
use Rattle.std.proofs.lemmas.Int.{ints}
use Rattle.std.proofs.lemmas.Bool.{cases_Bool, cases_eq, and_parts, and_from, eq-eqb, eqb-true, true≢false}
use Rattle.std.proofs.lemmas.List.Elements.{All-head, All-tail}
use lib.IntN.{suc_ℤ}
use Rattle.geo_base.specs.Boxes.{coordinate}
use Rattle.geo_conditions.specs.declared.form.Term.{Term}
use Rattle.geo_conditions.specs.Reach.{State, Reach, Region, low, high, with_at}
use Rattle.geo_conditions.specs.Conditions.{least_product, sum_of, least_term, least_value}
use Rattle.geo_conditions.specs.Form.{Sum}
use Rattle.geo_conditions.proofs.Points.{reach_same, reach_other}
use Rattle.indexical.specs.Widening.{factor_at, cost, Widens}

-- ---- products

next_is : (y : ℤ) → y +ℤ pos 1 ≡ suc_ℤ y
next_is (pos n) = omega (arith, ints)
next_is (negsuc zero) = omega (arith, ints)
next_is (negsuc (suc n)) = omega (arith, ints)

mul_next : (m y : ℤ) → m *ℤ (y +ℤ pos 1) ≡ m *ℤ y +ℤ m
mul_next m y =
    ap (λ (z : ℤ). m *ℤ z) (next_is y) ∙ *ℤ_comm m (suc_ℤ y) ∙ suc_ℤ-*ℤ y m ∙ ap (λ (z : ℤ). z +ℤ m) (*ℤ_comm y m)

-- a product of a sum with a number that is not negative
pub mul_more : (m x : ℤ) (u : ℕ) → m *ℤ (x +ℤ pos u) ≡ m *ℤ x +ℤ m *ℤ pos u
mul_more m x zero =
    let e : x +ℤ pos 0 ≡ x = omega (arith, ints) in
    ap (λ (z : ℤ). m *ℤ z) e ∙ (let z = *ℤ-zero m in omega (arith, ints, z))
mul_more m x (suc u) =
    let before = mul_more m x u in
    let e : x +ℤ pos (suc u) ≡ (x +ℤ pos u) +ℤ pos 1 = omega (arith, ints) in
    let f : pos (suc u) ≡ pos u +ℤ pos 1 = omega (arith, ints) in
    ap (λ (z : ℤ). m *ℤ z) e ∙ mul_next m (x +ℤ pos u) ∙ (let g : m *ℤ pos (suc u) ≡ m *ℤ pos u +ℤ m = ap (λ (z : ℤ). m *ℤ z) f ∙ mul_next m (pos u) in omega (arith, ints, before, g))

-- what the least product loses where one end moves outwards
pub product_moved : (up : Bool) (a lo hi lo' hi' : ℤ) (u : ℕ) → (up ≡ true → (lo' ≡ lo) × (hi' ≡ hi +ℤ pos u)) → (up ≡ false → (lo' +ℤ pos u ≡ lo) × (hi' ≡ hi))
    → least_product a lo' hi' +ℤ pos (cost up a * u) ≡ least_product a lo hi
product_moved true (pos n) lo hi lo' hi' u f g = let e = ap (λ (z : ℤ). pos n *ℤ z) (f refl).0 in omega (arith, ints, e)
product_moved true (negsuc n) lo hi lo' hi' u f g =
    let e = ap (λ (z : ℤ). negsuc n *ℤ z) (f refl).1 ∙ mul_more (negsuc n) hi u in
    let h = negsuc-*ℤ-pos n u in
    omega (arith, ints, e, h)
product_moved false (pos n) lo hi lo' hi' u f g =
    let e = ap (λ (z : ℤ). pos n *ℤ z) (sym (g refl).0) ∙ mul_more (pos n) lo' u in
    let h = pos-*ℤ-pos n u in
    omega (arith, ints, e, h)
product_moved false (negsuc n) lo hi lo' hi' u f g = let e = ap (λ (z : ℤ). negsuc n *ℤ z) (g refl).1 in omega (arith, ints, e)

-- ---- sums that differ in one term

-- the term is of the coordinate d of o
abbrev pub IsOf : ℕ → ℕ → Term → Type 0
IsOf o d t = (t.object.0 ≡ o) × (t.dimension ≡ d)

pub same_sum : (f g : Term → ℤ) (ts : List Term) → All (λ t. f t ≡ g t) ts → sum_of f ts ≡ sum_of g ts
same_sum f g [] a = refl
same_sum f g (t ∷ ts) a =
    let h = All-head (λ u. f u ≡ g u) t ts a in
    let r = same_sum f g ts (All-tail (λ u. f u ≡ g u) t ts a) in
    omega (arith, ints, h, r)

pairs_head : {X : Type 0} (R : X → X → Type 0) (x : X) (xs : List X) → AllPairs R (x ∷ xs) → All (R x) xs
pairs_head R x xs a = λ k d h. a 0 (suc k) d (omega arith) (omega arith)

pairs_tail : {X : Type 0} (R : X → X → Type 0) (x : X) (xs : List X) → AllPairs R (x ∷ xs) → AllPairs R xs
pairs_tail R x xs a = λ i j d h l. a (suc i) (suc j) d (omega arith) (omega arith)

all_with : {X : Type 0} (P Q : X → Type 0) (xs : List X) → ((x : X) → P x → Q x) → All P xs → All Q xs
all_with P Q xs f a = λ k d h. f _ (a k d h)

-- Two states that differ for one coordinate at most: the sums differ as the products of that coordinate's factor do.
pub sums_differ : (S T : State) (o d : ℕ) (ts : List Term) → All (λ t. (IsOf o d t → ⊥) → least_term T t ≡ least_term S t) ts → AllPairs (λ a b. IsOf o d a → IsOf o d b → ⊥) ts
    → sum_of (least_term T) ts +ℤ least_product (factor_at ts o d) (low S o d) (high S o d) ≡ sum_of (least_term S) ts +ℤ least_product (factor_at ts o d) (low T o d) (high T o d)
sums_differ S T o d [] same once = let a = zero-*ℤ (low S o d) in let b = zero-*ℤ (low T o d) in omega (arith, ints, a, b)
sums_differ S T o d (t ∷ ts) same once = elim (cases_Bool ((t.object.0 == o) && (t.dimension == d))) [
  | inl e ↦
      let both = and_parts (t.object.0 == o) (t.dimension == d) e in
      let of : IsOf o d t = (eqb-true t.object.0 o both.0, eqb-true t.dimension d both.1) in
      let rest = same_sum (least_term T) (least_term S) ts (λ k x h. All-tail (λ u. (IsOf o d u → ⊥) → least_term T u ≡ least_term S u) t ts same k x h (λ is. pairs_head (λ a b. IsOf o d a → IsOf o d b → ⊥) t ts once k x h of is)) in
      let factor : factor_at (t ∷ ts) o d ≡ t.factor = ap (λ (b : Bool). if b then t.factor else factor_at ts o d) e in
      let s_is : least_term S t ≡ least_product t.factor (low S o d) (high S o d) =
      ap (λ (x : ℕ). least_product t.factor (low S x t.dimension) (high S x t.dimension)) of.0 ∙ ap (λ (x : ℕ). least_product t.factor (low S o x) (high S o x)) of.1 in
      let t_is : least_term T t ≡ least_product t.factor (low T o d) (high T o d) =
      ap (λ (x : ℕ). least_product t.factor (low T x t.dimension) (high T x t.dimension)) of.0 ∙ ap (λ (x : ℕ). least_product t.factor (low T o x) (high T o x)) of.1 in
      rw factor (omega (arith, ints, rest, s_is, t_is))
  | inr e ↦
      let not_of : IsOf o d t → ⊥ = λ is. true≢false (sym (and_from (t.object.0 == o) (t.dimension == d) (eq-eqb t.object.0 o is.0) (eq-eqb t.dimension d is.1)) ∙ e) in
      let here = All-head (λ u. (IsOf o d u → ⊥) → least_term T u ≡ least_term S u) t ts same not_of in
      let rest = sums_differ S T o d ts (All-tail (λ u. (IsOf o d u → ⊥) → least_term T u ≡ least_term S u) t ts same) (pairs_tail (λ a b. IsOf o d a → IsOf o d b → ⊥) t ts once) in
      let factor : factor_at (t ∷ ts) o d ≡ factor_at ts o d = ap (λ (b : Bool). if b then t.factor else factor_at ts o d) e in
      rw factor (omega (arith, ints, here, rest))
]

-- ---- a widened box

module _ (S : State) (o s : ℕ) (there : o < length S) where
  -- the ends of o's interval in a box
  pub low_at : (b : Region) (e : ℕ) → low (with_at S o s b) o e ≡ coordinate b.lo e
  low_at b e = ap (λ (r : Reach). coordinate r.region.lo e) (reach_same S o s b there)

  pub high_at : (b : Region) (e : ℕ) → high (with_at S o s b) o e ≡ coordinate b.hi e
  high_at b e = ap (λ (r : Reach). coordinate r.region.hi e) (reach_same S o s b there)

  -- a term of another object has the same least value in each box
  pub other_object : (b b' : Region) (t : Term) → t.object.0 ≢ o → least_term (with_at S o s b') t ≡ least_term (with_at S o s b) t
  other_object b b' t ne = ap (λ (r : Reach). least_product t.factor (coordinate r.region.lo t.dimension) (coordinate r.region.hi t.dimension)) (reach_other S o s t.object.0 b' ne ∙ sym (reach_other S o s t.object.0 b ne))

  -- and so has a term of a coordinate whose ends are the same
  pub same_ends : (b b' : Region) (t : Term) → t.object.0 ≡ o → coordinate b'.lo t.dimension ≡ coordinate b.lo t.dimension → coordinate b'.hi t.dimension ≡ coordinate b.hi t.dimension → least_term (with_at S o s b') t ≡ least_term (with_at S o s b) t
  same_ends b b' t of l h = subst (λ (u : ℕ). least_product t.factor (low (with_at S o s b') u t.dimension) (high (with_at S o s b') u t.dimension) ≡ least_product t.factor (low (with_at S o s b) u t.dimension) (high (with_at S o s b) u t.dimension)) (sym of)
      (ap (λ (x : ℤ). least_product t.factor x (high (with_at S o s b') o t.dimension)) (low_at b' t.dimension ∙ l ∙ sym (low_at b t.dimension))
      ∙ ap (λ (x : ℤ). least_product t.factor (low (with_at S o s b) o t.dimension) x) (high_at b' t.dimension ∙ h ∙ sym (high_at b t.dimension)))

  -- the ends of a widened box
  ends_else : (up : Bool) (d price p p' e : ℕ) (region b b' : Region) → Widens up d price region b b' p p' → e ≢ d → (coordinate b'.lo e ≡ coordinate b.lo e) × (coordinate b'.hi e ≡ coordinate b.hi e)
  ends_else true d price p p' e region b b' w ne = (omega (arith, ints, w.other_side e), w.others e ne)
  ends_else false d price p p' e region b b' w ne = (omega (arith, ints, w.others e ne), w.other_side e)

  ends_here : (up : Bool) (d price p p' : ℕ) (region b b' : Region) (w : Widens up d price region b b' p p')
      → (up ≡ true → (coordinate b'.lo d ≡ coordinate b.lo d) × (coordinate b'.hi d ≡ coordinate b.hi d +ℤ pos w.units)) × (up ≡ false → (coordinate b'.lo d +ℤ pos w.units ≡ coordinate b.lo d) × (coordinate b'.hi d ≡ coordinate b.hi d))
  ends_here true d price p p' region b b' w = (λ u. (omega (arith, ints, w.other_side d), w.moved), λ u. absurd (true≢false u))
  ends_here false d price p p' region b b' w = (λ u. absurd (true≢false (sym u)), λ u. (omega (arith, ints, w.moved), w.other_side d))

  -- each coordinate of o has one term at most
  pub value_widened : (f : Sum) (up : Bool) (d p p' : ℕ) (region b b' : Region) → AllPairs (λ a b. IsOf o d a → IsOf o d b → ⊥) f.terms → (w : Widens up d (cost up (factor_at f.terms o d)) region b b' p p')
      → least_value f (with_at S o s b') +ℤ pos (cost up (factor_at f.terms o d) * w.units) ≡ least_value f (with_at S o s b)
  value_widened f up d p p' region b b' once w =
      let T = with_at S o s b in
      let T' = with_at S o s b' in
      let a = factor_at f.terms o d in
      let same : All (λ t. (IsOf o d t → ⊥) → least_term T' t ≡ least_term T t) f.terms = λ k x h. term_else (get_or f.terms k x) in
      let sums = sums_differ T T' o d f.terms same once in
      let h = ends_here up d (cost up a) p p' region b b' w in
      let moved = product_moved up a (coordinate b.lo d) (coordinate b.hi d) (coordinate b'.lo d) (coordinate b'.hi d) w.units h.0 h.1 in
      let l = ap (λ (x : ℤ). least_product a x (high T o d)) (low_at b d) ∙ ap (λ (x : ℤ). least_product a (coordinate b.lo d) x) (high_at b d) in
      let l' = ap (λ (x : ℤ). least_product a x (high T' o d)) (low_at b' d) ∙ ap (λ (x : ℤ). least_product a (coordinate b'.lo d) x) (high_at b' d) in
      omega (arith, ints, sums, moved, l, l')
    where
      term_else : (t : Term) → (IsOf o d t → ⊥) → least_term (with_at S o s b') t ≡ least_term (with_at S o s b) t
      term_else t not_of = elim (cases_eq t.object.0 o) [
        | inl q ↦ elim (cases_eq t.dimension d) [
          | inl r ↦ absurd (not_of (q, r))
          | inr ne ↦ let e = ends_else up d (cost up (factor_at f.terms o d)) p p' t.dimension region b b' w ne in same_ends b b' t q e.0 e.1
        ]
        | inr ne ↦ other_object b b' t ne
      ]
