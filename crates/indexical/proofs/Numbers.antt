-- Signed numbers that fit.
use Rattle.std.proofs.Common.{◌≡◌, ◌<◌, ◌^◌, ℤ, to_z-of_z}
use Rattle.std.specs.Int.{w64, w128}
use mir.Val.{to_z, of_z, SFits}
use lib.Signed.{mag}

-- a number that fits stays the same
pub kept64 : (z : ℤ) → mag z < 2 ^ 63 → to_z w64 (of_z w64 z) ≡ z
kept64 z h = let f : SFits w64 z = record { sfits = h } in to_z-of_z f

pub kept128 : (z : ℤ) → mag z < 2 ^ 127 → to_z w128 (of_z w128 z) ≡ z
kept128 z h = let f : SFits w128 z = record { sfits = h } in to_z-of_z f
