use Rattle.std.proofs.Common.{◌≡◌, ◌∙◌, ℤ, ap, rules, to_z-of_z, w64}
use Rattle.std.specs.Int.{int_min}
use mir.Val.{to_z, of_z}
use Rattle.geo_conditions.specs.Reach.{high}
use Rattle.derivation_check.proofs.Sides.{within_upto, number_kept}
use Rattle.derivation_check.proofs.cuts.keep_near.Goals as goal

pub returns-in-Upto : goal.returns-in-Upto
returns-in-Upto g c =
    let S = c.args.s.now in
    let o = c.args.o.0 in
    let d = c.in-Upto.d in
    let v = c.in-Upto.v in
    let end : to_z w64 (of_z w64 c.min.result) ≡ int_min (high S o d) v =
    to_z-of_z {w = w64} (record { sfits = c.min.type_inv }) ∙ c.min.ensures.value
    ∙ ap (λ (z : ℤ). int_min z (to_z w64 (of_z w64 v))) (to_z-of_z {w = w64} {z = c.interval-now.result.hi} (search rules) ∙ c.interval-now.ensures.hi)
    ∙ ap (int_min (high S o d)) (number_kept g.row.K d v (rw c.in-Upto.is at c.requires.side)) in
    c.set_high.ensures ∙ within_upto S o d v (to_z w64 (of_z w64 c.min.result)) c.args.side c.in-Upto.is end
