-- The next place that is there, one place after another; and a place alone.
use Rattle.std.proofs.Common.{◌≡◌, ℕ, zero, suc, ◌+◌, ◌-◌, ◌<◌, ◌≤◌, Bool, true, false, List, [], ◌∷◌, length, set, get_or, replicate, map, refl, ap, ◌∙◌, subst, arith, Some, None}
use Rattle.geo_conditions.specs.Reach.{place_in}
use Rattle.geo_conditions.specs.declared.object.TheConstants.{MAX_SHAPES}
use Rattle.derivation.specs.PlaceCovers.{next_place}
use Rattle.derivation.specs.Valid.{alone}
use Rattle.derivation.proofs.Listings.{skip_at, here_at, none_at}

pub next_here : (n : ℕ) (bs : List Bool) → 1 ≤ n → place_in bs n ≡ true → next_place n bs ≡ Some n
next_here zero bs l h = absurd (omega arith)
next_here (suc j) bs l h = let e : 1 + j ≡ suc j = omega arith in subst (λ (n : ℕ). next_place n bs ≡ Some n) e (here_at 1 j bs h)

pub next_behind : (n : ℕ) (bs : List Bool) → 1 ≤ n → place_in bs n ≡ false → next_place n bs ≡ next_place (n + 1) bs
next_behind zero bs l h = absurd (omega arith)
next_behind (suc j) bs l h = let e : 1 + j ≡ suc j = omega arith in subst (λ (n : ℕ). next_place n bs ≡ next_place (n + 1) bs) e (skip_at 1 j bs h)

pub next_none : (n : ℕ) (bs : List Bool) → length bs < n → next_place n bs ≡ None
next_none n bs h = none_at 1 n bs (omega arith)

-- as many, all false
none_same : (bs : List Bool) (n : ℕ) → length bs ≡ n → replicate n false ≡ map (λ _. false) bs
none_same [] zero h = refl
none_same [] (suc n) h = absurd (omega arith)
none_same (b ∷ bs) zero h = absurd (omega arith)
none_same (b ∷ bs) (suc n) h = ap (λ (xs : List Bool). false ∷ xs) (none_same bs n (omega arith))

pub alone_is : (place : ℕ) (bs : List Bool) → 1 ≤ place → length bs ≡ MAX_SHAPES → set (replicate MAX_SHAPES false) (place - 1) (place_in bs place) ≡ alone place bs
alone_is zero bs h e = absurd (omega arith)
alone_is (suc k) bs h e =
    ap (λ (n : ℕ). set (replicate MAX_SHAPES false) n (get_or bs k false)) (let q : suc k - 1 ≡ k = omega arith in q) ∙ ap (λ (xs : List Bool). set xs k (get_or bs k false)) (none_same bs MAX_SHAPES e)
