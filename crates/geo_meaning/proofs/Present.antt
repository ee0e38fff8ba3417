-- The elements that are there, as a loop over all candidates counts them.
use Rattle.std.proofs.Common.{◌≡◌, ◌<◌, ◌≤◌, ◌+◌, ℕ, Bool, true, cond, List, ◌∷◌, drop, length, get_or, ap, ◌∙◌, arith}
use Rattle.std.specs.List.{filter, count_by}
use Rattle.std.proofs.lemmas.List.{drop_more}
use Rattle.std.proofs.lemmas.List.Sums.{count_by-le-length, length-filter, sum_by-cons}

module _ {X : Type 0} (there test : X → Bool) (xs : List X) where
  few_there : count_by test (filter there xs) ≤ length xs
  few_there =
      let a = count_by-le-length test (filter there xs) in
      let b = length-filter there xs in
      let c = count_by-le-length there xs in
      omega (arith, a, b, c)

  module _ (i : ℕ) (d : X) (lt : i < length xs) where
    left : Bool → List X
    left b = cond b (get_or xs i d ∷ filter there (drop (i + 1) xs)) (filter there (drop (i + 1) xs))

    met : there (get_or xs i d) ≡ true → filter there (drop i xs) ≡ get_or xs i d ∷ filter there (drop (i + 1) xs)
    unfolding left
    met e = ap (filter there) (drop_more xs i d lt) ∙ ap left e

    -- with n before it, one more that is there and passes the test is no more than there are candidates
    pub one_more_fits : (n : ℕ) → n + count_by test (filter there (drop i xs)) ≡ count_by test (filter there xs)
        → there (get_or xs i d) ≡ true → test (get_or xs i d) ≡ true → n + 1 ≤ length xs
    one_more_fits n sum e t =
        let rest = count_by test (filter there (drop (i + 1) xs)) in
        let here : count_by test (filter there (drop i xs)) ≡ 1 + rest =
        ap (count_by test) (met e) ∙ sum_by-cons (λ y. cond (test y) 1 0) (get_or xs i d) (filter there (drop (i + 1) xs)) ∙ ap (λ b. cond b 1 0 + rest) t in
        let few = few_there in
        omega (arith, sum, here, few)
