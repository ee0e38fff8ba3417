-- Ends of layouts, and the numbers one below them, are kept where they are put away.
use Rattle.std.proofs.Common.{◌≡◌, ◌^◌, ◌<◌, ◌≤ℤ◌, ◌-ℤ◌, ℤ, pos, negsuc, ap, ◌∙◌, to_z, of_z, to_z-of_z, arith}
use Rattle.std.specs.Int.{w64}
use Rattle.std.proofs.lemmas.Int.{ints}
use lib.Signed.{mag}
use mir.Val.{SFits}
use Rattle.extent_caps.specs.Capped.{IsReachable}

small-fits : (e : ℤ) → negsuc 1999999 ≤ℤ e → e ≤ℤ pos 3000000 → mag e < 2 ^ 63
small-fits (pos n) l h = omega (arith, ints, h)
small-fits (negsuc n) l h = omega (arith, ints, l)

kept : (e : ℤ) → negsuc 1999999 ≤ℤ e → e ≤ℤ pos 3000000 → to_z w64 (of_z w64 e) ≡ e
kept e l h = let fits : SFits w64 e = record { sfits = small-fits e l h } in to_z-of_z fits

pub kept-below : (e : ℤ) → IsReachable e → to_z w64 (of_z w64 (to_z w64 (of_z w64 e) -ℤ pos 1)) ≡ e -ℤ pos 1
kept-below e s =
    let low = s.0 in
    let high = s.1 in
    ap (λ (z : ℤ). to_z w64 (of_z w64 (z -ℤ pos 1))) (kept e (omega (arith, ints, low)) high) ∙ kept (e -ℤ pos 1) (omega (arith, ints, low)) (omega (arith, ints, high))

pub kept-end : (e : ℤ) → IsReachable e → to_z w64 (of_z w64 e) ≡ e
kept-end e s = let low = s.0 in kept e (omega (arith, ints, low)) s.1
