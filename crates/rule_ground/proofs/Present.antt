-- The node over all things is true exactly as the quantifier over those that are there.
use Rattle.std.proofs.Common.{◌≡◌, ℕ, suc, ◌+◌, ◌&&◌, ◌||◌, Bool, true, false, cond, not, List, [], ◌∷◌, length, sym, ap, ◌∙◌, refl, arith}
use Rattle.std.specs.List.{filter, list_all, list_any, count_by}
use Rattle.std.proofs.lemmas.List.Sums.{sum_by-cons}
use Rattle.geo_conditions.specs.Reach.{count}
use Rattle.problem_data.specs.Value.{Thing}

pub count-more : (h : Thing → Bool) (x : Thing) (xs : List Thing) → count_by h (x ∷ xs) ≡ count (h x) + count_by h xs
count-more h x xs = sum_by-cons (λ y. cond (h y) 1 0) x xs ∙ ap (λ n. n + count_by h xs) (as-count (h x))
  where
    as-count : (b : Bool) → cond b 1 0 ≡ count b
    as-count true = refl
    as-count false = refl

-- the truths of things, where those that are not there have this one
abbrev pub due : (Thing → Bool) → Bool → (Thing → Bool) → Thing → Bool
due there none h x = cond (there x) (h x) none

module _ (there h : Thing → Bool) where
  all-by : (x : Thing) (xs : List Thing) (b : Bool) → list_all (due there true h) xs ≡ list_all h (filter there xs)
      → (cond b (h x) true && list_all (due there true h) xs) ≡ list_all h (cond b (x ∷ filter there xs) (filter there xs))
  all-by x xs true k = ap (λ c. h x && c) k
  all-by x xs false k = k

  pub all-present : (xs : List Thing) → list_all (due there true h) xs ≡ list_all h (filter there xs)
  all-present [] = refl
  all-present (x ∷ xs) = all-by x xs (there x) (all-present xs)

  some-by : (x : Thing) (xs : List Thing) (b : Bool) → list_any (due there false h) xs ≡ list_any h (filter there xs)
      → (cond b (h x) false || list_any (due there false h) xs) ≡ list_any h (cond b (x ∷ filter there xs) (filter there xs))
  some-by x xs true k = ap (λ c. h x || c) k
  some-by x xs false k = k

  pub some-present : (xs : List Thing) → list_any (due there false h) xs ≡ list_any h (filter there xs)
  some-present [] = refl
  some-present (x ∷ xs) = some-by x xs (there x) (some-present xs)

  holding-by : (x : Thing) (xs : List Thing) (b : Bool) → count_by (due there false h) xs ≡ count_by h (filter there xs)
      → count (cond b (h x) false) + count_by (due there false h) xs ≡ count_by h (cond b (x ∷ filter there xs) (filter there xs))
  holding-by x xs true k = ap (λ n. count (h x) + n) k ∙ sym (count-more h x (filter there xs))
  holding-by x xs false k = omega (arith, k)

  pub holding-present : (xs : List Thing) → count_by (due there false h) xs ≡ count_by h (filter there xs)
  holding-present [] = refl
  holding-present (x ∷ xs) = count-more (due there false h) x xs ∙ holding-by x xs (there x) (holding-present xs)

  one-more : (b : Bool) (n m l : ℕ) → n + m ≡ l → (count (not b) + n) + (count b + m) ≡ suc l
  one-more true n m l e = omega (arith, e)
  one-more false n m l e = omega (arith, e)

  failing-by : (x : Thing) (xs : List Thing) (b : Bool) → count_by (due there true (λ y. not (h y))) xs + count_by h (filter there xs) ≡ length xs
      → (count (cond b (not (h x)) true) + count_by (due there true (λ y. not (h y))) xs) + count_by h (cond b (x ∷ filter there xs) (filter there xs)) ≡ suc (length xs)
  failing-by x xs true k =
      ap (λ n. (count (not (h x)) + count_by (due there true (λ y. not (h y))) xs) + n) (count-more h x (filter there xs))
      ∙ one-more (h x) (count_by (due there true (λ y. not (h y))) xs) (count_by h (filter there xs)) (length xs) k
  failing-by x xs false k = omega (arith, k)

  pub failing-present : (xs : List Thing) → count_by (due there true (λ x. not (h x))) xs + count_by h (filter there xs) ≡ length xs
  failing-present [] = refl
  failing-present (x ∷ xs) =
      ap (λ n. n + count_by h (filter there (x ∷ xs))) (count-more (due there true (λ y. not (h y))) x xs)
      ∙ failing-by x xs (there x) (failing-present xs)
