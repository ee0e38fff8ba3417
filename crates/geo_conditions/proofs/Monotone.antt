-- What is possible on a state without an empty set is possible on each state that it lies inside.
use Rattle.std.proofs.Common.{◌≡◌, ℕ, suc, ◌≤◌, Bool, true, false, not, List, [], ◌∷◌, length, refl, sym, ◌∙◌, subst, inl, inr, arith, ℤ, pos, negsuc, ◌+ℤ◌, ◌*ℤ◌, ◌≤ℤ◌}
use Rattle.std.proofs.Math.Nat.{mul-le-mul_left}
use Rattle.std.proofs.lemmas.Int.{ints}
use Rattle.std.proofs.lemmas.List.{get_or_past}
use Rattle.std.proofs.lemmas.Bool.{not-true, not_from_false, true≢false, false≢true, cases_lt, false_from_ne_true}
use borrow.Author.Differences.{le_out, at_most_in, product_is, true_is_le, le-true}
use lib.Signed.{le_z}
use Rattle.geo_conditions.specs.declared.form.Term.{Term}
use Rattle.geo_conditions.specs.Form.{Sum}
use Rattle.geo_conditions.specs.declared.cond.Cond.{Cond, Lin, Shape, NotShape, AtLeast', Row_of-Cond, end_of-Cond, more_of-Cond}
use Rattle.geo_conditions.specs.Reach.{State, Reach, reach, nowhere, place_in, low, high, is_only, count, Within, Inside, HasNoEmpty}
use Rattle.geo_conditions.specs.Conditions.{least_product, sum_of, least_value, possible, how_many_possible}
use Rattle.geo_conditions.proofs.Sets.{only_out, only_in, only_nowhere}

pub le_trans : (a b c : ℤ) → a ≤ℤ b → b ≤ℤ c → a ≤ℤ c
le_trans a b c h k = omega (arith, ints)

pub add_le : (a b c d : ℤ) → a ≤ℤ b → c ≤ℤ d → (a +ℤ c) ≤ℤ (b +ℤ d)
add_le a b c d h k = omega (arith, ints)

-- a product by a factor that is not negative keeps the order
times_pos : (n : ℕ) (x y : ℤ) → x ≤ℤ y → (pos n *ℤ x) ≤ℤ (pos n *ℤ y)
times_pos n x y h =
    at_most_in (pos n *ℤ x) (pos n *ℤ y) (omega (arith, mul-le-mul_left n (le_out x y h), (product_is (pos n) x).0, (product_is (pos n) x).1, (product_is (pos n) y).0, (product_is (pos n) y).1))

-- and by a negative one turns it round
times_neg : (n : ℕ) (x y : ℤ) → x ≤ℤ y → (negsuc n *ℤ y) ≤ℤ (negsuc n *ℤ x)
times_neg n x y h =
    at_most_in (negsuc n *ℤ y) (negsuc n *ℤ x) (omega (arith, mul-le-mul_left (suc n) (le_out x y h), (product_is (negsuc n) x).0, (product_is (negsuc n) x).1, (product_is (negsuc n) y).0, (product_is (negsuc n) y).1))

-- a wider interval has a smaller least product
pub least_product_le : (a lo hi lo' hi' : ℤ) → lo' ≤ℤ lo → hi ≤ℤ hi' → least_product a lo' hi' ≤ℤ least_product a lo hi
least_product_le (pos n) lo hi lo' hi' h k = times_pos n lo' lo h
least_product_le (negsuc n) lo hi lo' hi' h k = times_neg n hi hi' k

pub sum_le : (f g : Term → ℤ) (ts : List Term) → ((t : Term) → f t ≤ℤ g t) → sum_of f ts ≤ℤ sum_of g ts
sum_le f g [] h = omega (arith, ints)
sum_le f g (t ∷ ts) h = add_le (f t) (g t) (sum_of f ts) (sum_of g ts) (h t) (sum_le f g ts h)

pub least_value_le : (f : Sum) (S T : State) → Inside S T → least_value f T ≤ℤ least_value f S
least_value_le f S T i =
    add_le f.constant f.constant _ _ (omega (arith, ints)) (sum_le _ _ f.terms (λ a. least_product_le a.factor (low S a.object.0 a.dimension) (high S a.object.0 a.dimension) (low T a.object.0 a.dimension) (high T a.object.0 a.dimension) ((i.each a.object.0).lows a.dimension) ((i.each a.object.0).highs a.dimension)))

-- a test `a ≤ b` that stays true
pub test_le : (a b c d : ℤ) → le_z a b ≡ true → c ≤ℤ a → b ≤ℤ d → le_z c d ≡ true
test_le a b c d h k l = sym (true_is_le c d (omega (arith, ints, le-true a b h)))

-- where the second set of places is one place alone, so is the first
abbrev pub KeepsOnly : Reach → Reach → Type 0
KeepsOnly r q = (s : ℕ) → is_only q.places s ≡ true → is_only r.places s ≡ true

-- so it is where a place is left within a wider reach
pub keeps_within : (r q : Reach) → Within r q → (u : ℕ) × (place_in r.places u ≡ true) → KeepsOnly r q
keeps_within r q i there s h =
    let w = only_out q.places s h in
    let e : there.0 ≡ s = w.1 there.0 (i.places there.0 there.1) in
    only_in r.places s (subst (λ (v : ℕ). place_in r.places v ≡ true) e there.1) (λ v k. w.1 v (i.places v k))

-- and past the last object, where no place is there
pub keeps_nowhere : (r : Reach) → KeepsOnly r nowhere
keeps_nowhere r s h = absurd (false≢true (sym (only_nowhere s) ∙ h))

keeps_inside : (S T : State) → Inside S T → HasNoEmpty S → (o : ℕ) → KeepsOnly (reach S o) (reach T o)
keeps_inside S T i n o = elim (cases_lt o (length S)) [
  | inl b ↦ keeps_within (reach S o) (reach T o) (i.each o) (n o b).place
  | inr b ↦ subst (KeepsOnly (reach S o)) (sym (get_or_past T o nowhere (omega (arith, i.objects)))) (keeps_nowhere (reach S o))
]

not_only_kept : (r q : Reach) (s : ℕ) → KeepsOnly r q → not (is_only r.places s) ≡ true → not (is_only q.places s) ≡ true
not_only_kept r q s n h = not_from_false (is_only q.places s) (false_from_ne_true (is_only q.places s) (λ k. true≢false (sym (n s k) ∙ not-true (is_only r.places s) h)))

pub count_le : (a b : Bool) → (a ≡ true → b ≡ true) → count a ≤ count b
count_le true b h = subst (λ (v : Bool). 1 ≤ count v) (sym (h refl)) (omega arith)
count_le false b h = omega arith

mutual
  -- what is possible is so on each wider state each of whose sets that is one place alone is so here
  pub possible_kept : (c : Cond) (S T : State) → Inside S T → ((o : ℕ) → KeepsOnly (reach S o) (reach T o)) → possible c S ≡ true → possible c T ≡ true
  possible_kept (Lin f) S T i n h = test_le (least_value f S) (pos 0) (least_value f T) (pos 0) h (least_value_le f S T i) (omega (arith, ints))
  possible_kept (Shape o s) S T i n h = (i.each o.0).places s h
  possible_kept (NotShape o s) S T i n h = not_only_kept (reach S o.0) (reach T o.0) s (n o.0) h
  possible_kept (AtLeast' k shape cs) S T i n h =
      test_le k (pos (how_many_possible cs S)) k (pos (how_many_possible cs T)) h (omega (arith, ints)) (at_most_in (pos (how_many_possible cs S)) (pos (how_many_possible cs T)) (omega (arith, how_many_kept cs S T i n)))

  how_many_kept : {m : _} → (cs : Row_of-Cond m) (S T : State) → Inside S T → ((o : ℕ) → KeepsOnly (reach S o) (reach T o)) → how_many_possible cs S ≤ how_many_possible cs T
  how_many_kept end_of-Cond S T i n = omega arith
  how_many_kept (more_of-Cond c cs) S T i n =
      let h : count (possible c S) ≤ count (possible c T) = count_le (possible c S) (possible c T) (possible_kept c S T i n) in
      omega (arith, how_many_kept cs S T i n)

-- and on each wider state, where no set is empty here
pub possible_wider : (c : Cond) (S T : State) → Inside S T → HasNoEmpty S → possible c S ≡ true → possible c T ≡ true
possible_wider c S T i n h = possible_kept c S T i (keeps_inside S T i n) h
