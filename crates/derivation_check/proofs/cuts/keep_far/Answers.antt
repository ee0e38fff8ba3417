use Rattle.std.proofs.Common.{◌≡◌, ◌∙◌, ◌+ℤ◌, ℤ, pos, negsuc, ap, rules, to_z-of_z, w64}
use Rattle.std.specs.Int.{int_min, int_max}
use mir.Val.{to_z, of_z}
use Rattle.geo_conditions.specs.Reach.{low, high}
use Rattle.derivation_check.proofs.Sides.{beyond_upto, beyond_from, next_kept, last_kept}
use Rattle.derivation_check.proofs.cuts.keep_far.Goals as goal

pub returns-in-Upto : goal.returns-in-Upto
returns-in-Upto g c =
    let S = c.args.s.now in
    let o = c.args.o.0 in
    let d = c.in-Upto.d in
    let v = c.in-Upto.v in
    let end : to_z w64 (of_z w64 c.max.result) ≡ int_max (low S o d) (v +ℤ pos 1) =
    to_z-of_z {w = w64} (record { sfits = c.max.type_inv }) ∙ c.max.ensures.value
    ∙ ap (λ (z : ℤ). int_max z (to_z w64 (of_z w64 (to_z w64 (of_z w64 v) +ℤ pos 1)))) (to_z-of_z {w = w64} {z = c.interval-now.result.lo} (search rules) ∙ c.interval-now.ensures.lo)
    ∙ ap (int_max (low S o d)) (next_kept g.row.K d v (rw c.in-Upto.is at c.requires.side)) in
    c.set_low.ensures ∙ beyond_upto S o d v _ c.args.side c.in-Upto.is end

pub returns-in-From : goal.returns-in-From
returns-in-From g c =
    let S = c.args.s.now in
    let o = c.args.o.0 in
    let d = c.in-From.d in
    let v = c.in-From.v in
    let end : to_z w64 (of_z w64 c.min.result) ≡ int_min (high S o d) (v +ℤ negsuc 0) =
    to_z-of_z {w = w64} (record { sfits = c.min.type_inv }) ∙ c.min.ensures.value
    ∙ ap (λ (z : ℤ). int_min z (to_z w64 (of_z w64 (to_z w64 (of_z w64 v) +ℤ negsuc 0)))) (to_z-of_z {w = w64} {z = c.interval-now-in-From.result.hi} (search rules) ∙ c.interval-now-in-From.ensures.hi)
    ∙ ap (int_min (high S o d)) (last_kept g.row.K d v (rw c.in-From.is at c.requires.side)) in
    c.set_high.ensures ∙ beyond_from S o d v _ c.args.side c.in-From.is end
