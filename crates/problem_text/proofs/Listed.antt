-- An item of a list that is seen by a view, and what stands before it.
use Rattle.std.proofs.Common.{◌≡◌, ℕ, ◌<◌, ◌≤◌, List, length, take, map, get_or, sym, ap, ◌∙◌, subst, arith}
use Rattle.std.specs.List.{All, Contains}
use Rattle.std.proofs.lemmas.List.{length-map, get_or-map, length-take-le, get_or-take}
use Rattle.geo_tokens.specs.Names.{AllDifferent}

module _ {X Y : Type 0} (f : X → Y) (xs : List X) (i : ℕ) (x : X) (lt : i < length xs) (is : x ≡ get_or xs i x) where
  pub inside : i < length (map f xs)
  inside = subst (λ (n : ℕ). i < n) (sym (length-map xs f)) lt

  pub stands : f x ≡ get_or (map f xs) i (f x)
  stands = ap f is ∙ sym (get_or-map f xs i x (f x) lt)

  -- what holds of each holds of it
  pub holds : (P : Y → Type 0) → All P (map f xs) → P (f x)
  holds P h = subst P (sym stands) (h i (f x) inside)

  -- those before it are others
  pub is_new : AllDifferent (map f xs) → Contains (take i (map f xs)) (f x) → ⊥
  is_new h c =
      let le : i ≤ length (map f xs) = (let l : i < length (map f xs) = inside in omega arith) in
      let size : length (take i (map f xs)) ≡ i = length-take-le i (map f xs) le in
      let less : c.0 < i = (let l : c.0 < length (take i (map f xs)) = c.1 in omega arith) in
      h c.0 i (f x) less inside (sym (get_or-take i (map f xs) c.0 (f x) less) ∙ c.2 ∙ stands)
