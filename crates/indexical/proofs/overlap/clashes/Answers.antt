use Rattle.std.proofs.Common.{◌∙◌, ap, sym, below_more, arith, ◌≤ℤ◌}
use Rattle.std.proofs.lemmas.Bool.{true≢false, false≢true}
use Rattle.std.proofs.lemmas.Int.{ints}
use Rattle.geo_base.specs.Boxes.{coordinate}
use Rattle.geo_conditions.specs.declared.object.ObjId.{ObjId}
use Rattle.geo_conditions.specs.Reach.{low, high, reach}
use Rattle.indexical.specs.Apart.{first, last}
use Rattle.indexical.proofs.overlap.clashes.Goals as goal

pub returns-then-not-is_before : goal.returns-then-not-is_before
returns-then-not-is_before g c =
    let d = c.loop-d.d in
    let hi = c.interval-held.ensures.hi ∙ ap (λ (o : ObjId). high c.args.s.now o.0 d) c.object-other.ensures in
    let gap = c.get-before.ensures ∙ c.requires.ahead d c.loop-d-test.true in (
      λ h. absurd (false≢true h),
      λ f. let k = (f d c.loop-d-test.true).0 in absurd (true≢false (sym (c.is_before.ensures.1 (omega (arith, ints, k, hi, gap, c.get-low.ensures))) ∙ c.if-not-is_before.true)),
    )

pub returns-then-not-is_before-2 : goal.returns-then-not-is_before-2
returns-then-not-is_before-2 g c =
    let d = c.loop-d.d in
    let lo = c.interval-held.ensures.lo ∙ ap (λ (o : ObjId). low c.args.s.now o.0 d) c.object-other.ensures in
    let gap = c.get-after.ensures ∙ c.requires.behind d c.loop-d-test.true in (
      λ h. absurd (false≢true h),
      λ f. let k = (f d c.loop-d-test.true).1 in absurd (true≢false (sym (c.is_before-in-loop-d.ensures.1 (omega (arith, ints, k, lo, gap, c.get-high.ensures))) ∙ c.if-not-is_before-2.true)),
    )

pub loop-d-preserved : goal.loop-d-preserved
loop-d-preserved g c =
    let d = c.loop-d.d in
    let held = reach c.args.s.now c.args.b.now.object.0 in
    let hi = c.interval-held.ensures.hi ∙ ap (λ (o : ObjId). high c.args.s.now o.0 d) c.object-other.ensures in
    let lo = c.interval-held.ensures.lo ∙ ap (λ (o : ObjId). low c.args.s.now o.0 d) c.object-other.ensures in
    let before = c.get-before.ensures ∙ c.requires.ahead d c.loop-d-test.true in
    let after = c.get-after.ensures ∙ c.requires.behind d c.loop-d-test.true in
    let one : first c.args.a.now c.args.b.now held.region d ≤ℤ coordinate c.args.lo.now.coordinates d = omega (arith, ints, c.is_before.ensures.0 c.if-not-is_before.false, hi, before, c.get-low.ensures) in
    let two : coordinate c.args.hi.now.coordinates d ≤ℤ last c.args.a.now c.args.b.now held.region d = omega (arith, ints, c.is_before-in-loop-d.ensures.0 c.if-not-is_before-2.false, lo, after, c.get-high.ensures) in
    below_more _ _ c.loop-d.invariant (one, two)
