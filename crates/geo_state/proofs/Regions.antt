-- A region that is put back interval by interval.
use Rattle.std.proofs.Common.{◌≡◌, ℕ, zero, suc, ◌+◌, ◌<◌, List, [], ◌∷◌, ◌++◌, length, take, drop, set, ap, ◌∙◌, arith, ℤ}
use Rattle.std.proofs.lemmas.List.{get_or-set_same, set-set}
use Rattle.geo_base.specs.Boxes.{coordinate}
use Rattle.geo_conditions.specs.Reach.{State, Reach, reach, nowhere, with_interval}

-- the first d coordinates are those of xs, and the others those of ys
abbrev pub mixed : ℕ → List ℤ → List ℤ → List ℤ
mixed d xs ys = take d xs ++ drop d ys

-- one coordinate more
pub mixed_more : (d : ℕ) (xs ys : List ℤ) (z : ℤ) → d < length xs → d < length ys → z ≡ coordinate xs d → set (mixed d xs ys) d z ≡ mixed (d + 1) xs ys
mixed_more d xs ys z a b e = more d xs ys z a b e ∙ ap (λ (n : ℕ). mixed n xs ys) (let one : suc d ≡ d + 1 = omega arith in one)
  where
    more : (d : ℕ) (xs ys : List ℤ) (z : ℤ) → d < length xs → d < length ys → z ≡ coordinate xs d → set (mixed d xs ys) d z ≡ mixed (suc d) xs ys
    more zero [] ys z a b e = absurd (omega arith)
    more zero (x ∷ xs) [] z a b e = absurd (omega arith)
    more zero (x ∷ xs) (y ∷ ys) z a b e = ap (λ (v : ℤ). v ∷ ys) e
    more (suc d) [] ys z a b e = absurd (omega arith)
    more (suc d) (x ∷ xs) [] z a b e = absurd (omega arith)
    more (suc d) (x ∷ xs) (y ∷ ys) z a b e = ap (λ (l : List ℤ). x ∷ l) (more d xs ys z (omega arith) (omega arith) e)

-- the reach q with the places of r, and its first d intervals
abbrev pub half : ℕ → Reach → Reach → Reach
half d r q = record {
  places = r.places;
  region = record { lo = mixed d r.region.lo q.region.lo; hi = mixed d r.region.hi q.region.hi };
}

-- one interval more
pub half_more : (S : State) (o d : ℕ) (r q : Reach) (lo hi : ℤ) → o < length S → d < length r.region.lo → d < length r.region.hi → length q.region.lo ≡ length r.region.lo → length q.region.hi ≡ length r.region.hi
    → lo ≡ coordinate r.region.lo d → hi ≡ coordinate r.region.hi d
    → set (set S o (half d r q)) o (with_interval (reach (set S o (half d r q)) o) d lo hi) ≡ set S o (half (d + 1) r q)
half_more S o d r q lo hi b kl kh sl sh el eh =
    set-set S o (half d r q) (with_interval (reach (set S o (half d r q)) o) d lo hi)
    ∙ ap (λ (p : Reach). set S o (with_interval p d lo hi)) (get_or-set_same S o (half d r q) nowhere b)
    ∙ ap (set S o) (λ i. record {
      places = r.places;
      region = record {
        lo = mixed_more d r.region.lo q.region.lo lo kl (omega (arith, kl, sl)) el i;
        hi = mixed_more d r.region.hi q.region.hi hi kh (omega (arith, kh, sh)) eh i;
      };
    })
