-- The points that two boxes have.
use Rattle.std.proofs.Common.{◌≡◌, ℕ, ◌<◌, ℤ, ◌≤ℤ◌, ◌↔◌, List, arith}
use Rattle.std.specs.Int.{int_min, int_max}
use Rattle.std.proofs.lemmas.Int.{ints, clamps}
use Rattle.geo_base.specs.Boxes.{coordinate, Has}

-- a number lies between the greater low end and the lesser high end exactly where it lies in both intervals
between_both : (l l' h h' v L H : ℤ) → L ≡ int_max l l' → H ≡ int_min h h' → (L ≤ℤ v) → (v ≤ℤ H) → ((l ≤ℤ v) × (v ≤ℤ h)) × ((l' ≤ℤ v) × (v ≤ℤ h'))
between_both l l' h h' v L H low high above below =
    ((omega (arith, ints, clamps), omega (arith, ints, clamps)), (omega (arith, ints, clamps), omega (arith, ints, clamps)))

both_between : (l l' h h' v L H : ℤ) → L ≡ int_max l l' → H ≡ int_min h h' → (l ≤ℤ v) → (v ≤ℤ h) → (l' ≤ℤ v) → (v ≤ℤ h') → (L ≤ℤ v) × (v ≤ℤ H)
both_between l l' h h' v L H low high a b a' b' = (omega (arith, ints, clamps), omega (arith, ints, clamps))

-- where the ends are those of the meet, its points are those that both boxes have
pub meet_points : (K : ℕ) (lo hi lo' hi' L H : List ℤ)
    → ((d : ℕ) → d < K → coordinate L d ≡ int_max (coordinate lo d) (coordinate lo' d)) → ((d : ℕ) → d < K → coordinate H d ≡ int_min (coordinate hi d) (coordinate hi' d))
    → (p : List ℤ) → Has K L H p ↔ (Has K lo hi p × Has K lo' hi' p)
meet_points K lo hi lo' hi' L H low high p =
    let split = λ (h : Has K L H p) (d : ℕ) (i : d < K). between_both _ _ _ _ _ _ _ (low d i) (high d i) (h d i).0 (h d i).1 in (
      λ h. (λ d i. (split h d i).0, λ d i. (split h d i).1),
      λ b. λ d i. both_between _ _ _ _ _ _ _ (low d i) (high d i) (b.0 d i).0 (b.0 d i).1 (b.1 d i).0 (b.1 d i).1,
    )
