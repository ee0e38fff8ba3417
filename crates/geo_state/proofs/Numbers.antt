-- Signed numbers of 64 bits.
use Rattle.std.proofs.Common.{◌≡◌, ◌<◌, ◌^◌, ℤ, pos, negsuc, ◌≤ℤ◌, arith, to_z-of_z}
use Rattle.std.proofs.lemmas.Int.{ints}
use Rattle.std.specs.Int.{w64}
use mir.Val.{to_z, of_z, SFits}
use lib.Signed.{mag}
use Rattle.geo_state.specs.Trail.{IsSmallEnd}

-- a number that fits stays the same
pub kept64 : (z : ℤ) → mag z < 2 ^ 63 → to_z w64 (of_z w64 z) ≡ z
kept64 z h = let f : SFits w64 z = record { sfits = h } in to_z-of_z f

-- a small number fits
pub small_fits : (z : ℤ) → IsSmallEnd z → mag z < 2 ^ 63
small_fits (pos n) h = let a : pos n ≤ℤ pos 2000000 = h.1 in omega (arith, ints, a)
small_fits (negsuc n) h = let a : negsuc 1999999 ≤ℤ negsuc n = h.0 in omega (arith, ints, a)

-- a small number stays the same as one of 64 bits
pub small_kept : (z : ℤ) → IsSmallEnd z → to_z w64 (of_z w64 z) ≡ z
small_kept z h = kept64 z (small_fits z h)
