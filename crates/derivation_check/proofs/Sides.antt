-- What a cut leaves, by the number that becomes the new end.
use Rattle.std.proofs.Common.{◌≡◌, ◌∙◌, ◌+ℤ◌, ℕ, ℤ, List, pos, negsuc, sym, ap, set, rules, to_z-of_z, w64}
use mir.Val.{to_z, of_z}
use Rattle.std.specs.Int.{int_min, int_max}
use Rattle.geo_base.specs.Boxes.{coordinate}
use Rattle.geo_conditions.specs.Reach.{State, Region, reach, low, high, with_low, with_high}
use Rattle.derivation.specs.declared.side.Side.{Side}
use Rattle.derivation.specs.declared.side.Side.TheVariants.{Upto, From}
use Rattle.derivation.specs.declared.half.Half.TheVariants.{OfSide}
use Rattle.derivation.specs.Covers.{IsCut}
use Rattle.derivation.specs.Cuts.{far}
use Rattle.derivation.specs.Valid.{first_part, second_part, change}

-- the rest behind a cut up to v: the low end is beyond it
pub beyond_upto : (S : State) (o d : ℕ) (v end : ℤ) (side : Side) → side ≡ Upto d v → end ≡ int_max (low S o d) (v +ℤ pos 1)
    → set S o (with_low (reach S o) d end) ≡ change (second_part (OfSide side)) S o
beyond_upto S o d v end side is ends =
    ap (λ (z : ℤ). set S o (with_low (reach S o) d z)) ends ∙ ap (λ (t : Side). change (second_part (OfSide t)) S o) (sym is)

-- the rest before a cut from v: the high end is below it
pub beyond_from : (S : State) (o d : ℕ) (v end : ℤ) (side : Side) → side ≡ From d v → end ≡ int_min (high S o d) (v +ℤ negsuc 0)
    → set S o (with_high (reach S o) d end) ≡ change (second_part (OfSide side)) S o
beyond_from S o d v end side is ends =
    ap (λ (z : ℤ). set S o (with_high (reach S o) d z)) ends ∙ ap (λ (t : Side). change (second_part (OfSide t)) S o) (sym is)

-- the part up to v: the high end is not beyond it
pub within_upto : (S : State) (o d : ℕ) (v end : ℤ) (side : Side) → side ≡ Upto d v → end ≡ int_min (high S o d) v
    → set S o (with_high (reach S o) d end) ≡ change (first_part (OfSide side)) S o
within_upto S o d v end side is ends =
    ap (λ (z : ℤ). set S o (with_high (reach S o) d z)) ends ∙ ap (λ (t : Side). change (first_part (OfSide t)) S o) (sym is)

-- the rest of a box
pub far_upto : (b : Region) (d : ℕ) (v end : ℤ) (lo hi : List ℤ) (side : Side) → side ≡ Upto d v → end ≡ int_max (coordinate b.lo d) (v +ℤ pos 1)
    → lo ≡ set b.lo d end → hi ≡ b.hi → record { lo = lo; hi = hi } ≡ far side b
far_upto b d v end lo hi side is ends lows highs =
    ap (λ (ls : List ℤ). record { lo = ls; hi = hi }) (lows ∙ ap (set b.lo d) ends) ∙ ap (λ (hs : List ℤ). record { lo = set b.lo d (int_max (coordinate b.lo d) (v +ℤ pos 1)); hi = hs }) highs
    ∙ ap (λ (t : Side). far t b) (sym is)

pub far_from : (b : Region) (d : ℕ) (v end : ℤ) (lo hi : List ℤ) (side : Side) → side ≡ From d v → end ≡ int_min (coordinate b.hi d) (v +ℤ negsuc 0)
    → lo ≡ b.lo → hi ≡ set b.hi d end → record { lo = lo; hi = hi } ≡ far side b
far_from b d v end lo hi side is ends lows highs =
    ap (λ (ls : List ℤ). record { lo = ls; hi = hi }) lows ∙ ap (λ (hs : List ℤ). record { lo = b.lo; hi = hs }) (highs ∙ ap (set b.hi d) ends)
    ∙ ap (λ (t : Side). far t b) (sym is)

-- a number within the limits, and the ones beside it, fit 64 bits
pub number_kept : (K d : ℕ) (v : ℤ) → IsCut K (Upto d v) → to_z w64 (of_z w64 v) ≡ v
number_kept K d v cut = to_z-of_z {w = w64} (search (rules, cut))

pub next_kept : (K d : ℕ) (v : ℤ) → IsCut K (Upto d v) → to_z w64 (of_z w64 (to_z w64 (of_z w64 v) +ℤ pos 1)) ≡ v +ℤ pos 1
next_kept K d v cut = ap (λ (z : ℤ). to_z w64 (of_z w64 (z +ℤ pos 1))) (number_kept K d v cut) ∙ to_z-of_z {w = w64} {z = v +ℤ pos 1} (search (rules, cut))

pub last_kept : (K d : ℕ) (v : ℤ) → IsCut K (From d v) → to_z w64 (of_z w64 (to_z w64 (of_z w64 v) +ℤ negsuc 0)) ≡ v +ℤ negsuc 0
last_kept K d v cut = ap (λ (z : ℤ). to_z w64 (of_z w64 (z +ℤ negsuc 0))) (number_kept K d v cut) ∙ to_z-of_z {w = w64} {z = v +ℤ negsuc 0} (search (rules, cut))
