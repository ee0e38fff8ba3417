-- The objects that are present, as a loop finds them, and that their numbers ascend.
use Rattle.std.proofs.Common.{◌≡◌, ◌<◌, ◌≤◌, ◌+◌, ℕ, zero, suc, Bool, true, false, cond, List, [], ◌∷◌, ◌++◌, length, append-nil, sym, ap, ◌∙◌, arith, inl, inr}
use Rattle.std.specs.List.{filter, range_with_len}
use Rattle.std.proofs.lemmas.List.Elements.{filter-append}
use Rattle.geo_base.specs.Tuple.{Tuple}
use Rattle.problem_data.specs.Problem.{ProblemData}
use Rattle.geo_load.specs.Blocks.{is_present, present}
use Rattle.geo_load.specs.Order.{Has, IsAscending}

range_more : (from n to : ℕ) → from + n ≡ to → range_with_len from (suc n) ≡ range_with_len from n ++ to ∷ []
range_more from zero to e = let same : from ≡ to = omega (arith, e) in ap (λ (k : ℕ). k ∷ []) same
range_more from (suc n) to e = ap (λ (xs : List ℕ). from ∷ xs) (range_more (from + 1) n to (omega (arith, e)))

module _ (f : ℕ → Bool) where
  filter_one_more : (n : ℕ) → filter f (range_with_len 0 (n + 1)) ≡ filter f (range_with_len 0 n) ++ filter f (n ∷ [])
  filter_one_more n = let on : n + 1 ≡ suc n = omega arith in ap (λ (k : ℕ). filter f (range_with_len 0 k)) on ∙ ap (filter f) (range_more 0 n n (omega arith)) ∙ filter-append f (range_with_len 0 n) (n ∷ [])

  -- with an object that passes
  pub kept : (n : ℕ) (xs ys : List ℕ) → f n ≡ true → xs ≡ filter f (range_with_len 0 n) → ys ≡ xs ++ n ∷ [] → ys ≡ filter f (range_with_len 0 (n + 1))
  kept n xs ys e before more =
      more ∙ ap (λ (zs : List ℕ). zs ++ n ∷ []) before
      ∙ sym (filter_one_more n ∙ ap (λ (b : Bool). filter f (range_with_len 0 n) ++ cond b (n ∷ []) []) e)

  -- with one that does not
  pub skipped : (n : ℕ) (xs : List ℕ) → f n ≡ false → xs ≡ filter f (range_with_len 0 n) → xs ≡ filter f (range_with_len 0 (n + 1))
  skipped n xs e before =
      before
      ∙ sym (filter_one_more n ∙ ap (λ (b : Bool). filter f (range_with_len 0 n) ++ cond b (n ∷ []) []) e ∙ append-nil (filter f (range_with_len 0 n)))

  has_filtered : (xs : List ℕ) (u : ℕ) → Has (filter f xs) u → Has xs u
  has_filtered [] u h = h
  has_filtered (x ∷ xs) u h = go (f x) h (has_filtered xs u)
    where
      go : (b : Bool) → Has (cond b (x ∷ filter f xs) (filter f xs)) u → (Has (filter f xs) u → Has xs u) → Has (x ∷ xs) u
      go true (inl e) more = inl e
      go true (inr m) more = inr (more m)
      go false m more = inr (more m)

  filtered_ascends : (xs : List ℕ) → IsAscending xs → IsAscending (filter f xs)
  filtered_ascends [] a = tt
  filtered_ascends (x ∷ xs) a = go (f x) (filtered_ascends xs a.1)
    where
      go : (b : Bool) → IsAscending (filter f xs) → IsAscending (cond b (x ∷ filter f xs) (filter f xs))
      go true more = ((λ u h. a.0 u (has_filtered xs u h)), more)
      go false more = more

has_range : (from count u : ℕ) → Has (range_with_len from count) u → (from ≤ u) × (u < from + count)
has_range from zero u h = absurd h
has_range from (suc count) u (inl e) = (omega (arith, e), omega (arith, e))
has_range from (suc count) u (inr h) = let r = has_range (from + 1) count u h in (let l : from + 1 ≤ u = r.0 in omega (arith, l), let l : u < from + 1 + count = r.1 in omega (arith, l))

range_ascends : (from count : ℕ) → IsAscending (range_with_len from count)
range_ascends from zero = tt
range_ascends from (suc count) = ((λ u h. let r = has_range (from + 1) count u h in let l : from + 1 ≤ u = r.0 in omega (arith, l)), range_ascends (from + 1) count)

pub present_ascends : (p : ProblemData) (t : Tuple) → IsAscending (present p t)
present_ascends p t = filtered_ascends (is_present p t) (range_with_len 0 (length p.objects)) (range_ascends 0 (length p.objects))

pub present_inside : (p : ProblemData) (t : Tuple) (o : ℕ) → Has (present p t) o → o < length p.objects
present_inside p t o h = let r = has_range 0 (length p.objects) o (has_filtered (is_present p t) (range_with_len 0 (length p.objects)) o h) in let l : o < 0 + length p.objects = r.1 in omega (arith, l)
