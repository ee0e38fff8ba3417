use Rattle.std.proofs.Common.{◌≡◌, ◌∙◌, ◌+ℤ◌, ℤ, pos, negsuc, ap, set, to_z-of_z, rules, w64}
use Rattle.std.specs.Int.{int_min, int_max}
use mir.Val.{to_z, of_z}
use Rattle.geo_base.specs.Boxes.{coordinate}
use Rattle.geo_conditions.specs.Reach.{Region}
use Rattle.derivation_check.proofs.Sides.{far_upto, far_from}
use Rattle.derivation_check.proofs.open_box.OpenBox.far.Goals as goal
use Rattle.derivation_check.proofs.open_box.OpenBox.far.Goals.{in-Upto, in-From}

pub returns : goal.returns
returns g c =
    let b = c.args.self.now in
    let lows : c.lo-lo.result.coordinates ≡ b.lo = ap (λ p. p.coordinates) c.lo-lo.ensures ∙ ap (λ (r : Region). r.lo) c.self.view_is in
    let highs : c.hi-hi.result.coordinates ≡ b.hi = ap (λ p. p.coordinates) c.hi-hi.ensures ∙ ap (λ (r : Region). r.hi) c.self.view_is in
    elim c.match-side.branch [
      | in-Upto w ↦ (
          let d = w.in-Upto.d in
          let end = to_z w64 (of_z w64 w.max.result) in
          far_upto b d w.in-Upto.v end c.match-side.ends.lo.coordinates c.match-side.ends.hi.coordinates c.args.side w.in-Upto.is
          (to_z-of_z {w = w64} (record { sfits = w.max.type_inv }) ∙ w.max.ensures.value
          ∙ ap (λ (z : ℤ). int_max z (to_z w64 (of_z w64 w.above.result))) (to_z-of_z {w = w64} (record { sfits = w.get.type_inv }) ∙ w.get.ensures ∙ ap (λ xs. coordinate xs d) lows)
          ∙ ap (int_max (coordinate b.lo d)) (to_z-of_z {w = w64} (record { sfits = w.above.type_inv }) ∙ w.above.ensures ∙ ap (λ (z : ℤ). z +ℤ pos 1) (to_z-of_z {w = w64} {z = w.in-Upto.v} (search rules))))
          (ap (λ e. e.lo.coordinates) w.ends-is ∙ ap (λ p. p.coordinates) w.new-ends.ensures.lo ∙ w.with.ensures.whole ∙ ap (λ xs. set xs d end) lows)
          (ap (λ e. e.hi.coordinates) w.ends-is ∙ ap (λ p. p.coordinates) w.new-ends.ensures.hi ∙ highs))
      | in-From w ↦ (
          let d = w.in-From.d in
          let end = to_z w64 (of_z w64 w.min.result) in
          far_from b d w.in-From.v end c.match-side.ends.lo.coordinates c.match-side.ends.hi.coordinates c.args.side w.in-From.is
          (to_z-of_z {w = w64} (record { sfits = w.min.type_inv }) ∙ w.min.ensures.value
          ∙ ap (λ (z : ℤ). int_min z (to_z w64 (of_z w64 w.below.result))) (to_z-of_z {w = w64} (record { sfits = w.get-in-From.type_inv }) ∙ w.get-in-From.ensures ∙ ap (λ xs. coordinate xs d) highs)
          ∙ ap (int_min (coordinate b.hi d)) (to_z-of_z {w = w64} (record { sfits = w.below.type_inv }) ∙ w.below.ensures ∙ ap (λ (z : ℤ). z +ℤ negsuc 0) (to_z-of_z {w = w64} {z = w.in-From.v} (search rules))))
          (ap (λ e. e.lo.coordinates) w.ends-is ∙ ap (λ p. p.coordinates) w.new-ends-in-From.ensures.lo ∙ lows)
          (ap (λ e. e.hi.coordinates) w.ends-is ∙ ap (λ p. p.coordinates) w.new-ends-in-From.ensures.hi ∙ w.with-in-From.ensures.whole ∙ ap (λ xs. set xs d end) highs))
    ]
