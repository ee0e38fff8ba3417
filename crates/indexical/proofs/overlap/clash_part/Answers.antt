use Rattle.std.proofs.Common.{ℕ, ℤ, pos, ◌+ℤ◌, ◌-ℤ◌, ◌^◌, ◌<◌, ◌≤◌, ◌≡◌, ◌≢◌, ◌≤ℤ◌, ◌∙◌, ap, subst, sym, below_more, arith}
use mir.Val.{to_z, of_z}
use mir.Syntax.{w64, w128}
use lib.Signed.{mag}
use Rattle.std.specs.Int.{int_min, int_max}
use Rattle.std.proofs.lemmas.Int.{ints}
use Rattle.geo_base.specs.Boxes.{coordinate}
use Rattle.geo_base.proofs.Loops.{mapped_more, left_more}
use Rattle.geo_conditions.specs.declared.object.ObjId.{ObjId}
use Rattle.geo_conditions.specs.Reach.{low, high, reach}
use Rattle.indexical.specs.Apart.{first, last}
use Rattle.indexical.proofs.Numbers.{kept64, kept128}
use Rattle.indexical.proofs.overlap.clash_part.Goals as goal

max_same : (r a b x y : ℤ) → r ≡ int_max a b → a ≡ x → b ≡ y → r ≡ int_max x y
max_same r a b x y e p q = e ∙ ap (λ (z : ℤ). int_max z b) p ∙ ap (int_max x) q

min_same : (r a b x y : ℤ) → r ≡ int_min a b → a ≡ x → b ≡ y → r ≡ int_min x y
min_same r a b x y e p q = e ∙ ap (λ (z : ℤ). int_min z b) p ∙ ap (int_min x) q

-- the first coordinate past a gap, and the last one before it, as they are kept
first_kept : (r x y h n : ℤ) → mag r < 2 ^ 127 → mag x < 2 ^ 63 → mag y < 2 ^ 63 → r ≡ to_z w64 (of_z w64 x) -ℤ to_z w64 (of_z w64 y) +ℤ pos 1 → x ≡ h → y ≡ n → to_z w128 (of_z w128 r) ≡ h -ℤ n +ℤ pos 1
first_kept r x y h n f a b e p q = kept128 r f ∙ e ∙ ap (λ (z : ℤ). z -ℤ to_z w64 (of_z w64 y) +ℤ pos 1) (kept64 x a ∙ p) ∙ ap (λ (z : ℤ). h -ℤ z +ℤ pos 1) (kept64 y b ∙ q)

last_kept : (r x y h n : ℤ) → mag r < 2 ^ 127 → mag x < 2 ^ 63 → mag y < 2 ^ 63 → r ≡ to_z w64 (of_z w64 x) +ℤ to_z w64 (of_z w64 y) -ℤ pos 1 → x ≡ h → y ≡ n → to_z w128 (of_z w128 r) ≡ h +ℤ n -ℤ pos 1
last_kept r x y h n f a b e p q = kept128 r f ∙ e ∙ ap (λ (z : ℤ). z +ℤ to_z w64 (of_z w64 y) -ℤ pos 1) (kept64 x a ∙ p) ∙ ap (λ (z : ℤ). h +ℤ z -ℤ pos 1) (kept64 y b ∙ q)

at_most_self : (d : ℕ) → d ≤ d
at_most_self d = omega arith

not_same : (e d : ℕ) → e < d → e ≢ d
not_same e d h = omega arith

pub returns-in-None-clause-none : goal.returns-in-None-clause-none
returns-in-None-clause-none g c =
    let d = c.loop-d.d in
    let h = c.loop-d-test.true in
    let i = c.loop-d.invariant in
    let held = reach c.args.s.now c.args.b.now.object.0 in
    let is_first : to_z w128 (of_z w128 c.first_past-first.result) ≡ first c.args.a.now c.args.b.now held.region d =
    first_kept c.first_past-first.result c.interval-held.result.hi c.get-before.result _ _ c.first_past-first.type_inv c.interval-held.type_inv.1.1.1.0.1 c.get-before.type_inv c.first_past-first.ensures
    (c.interval-held.ensures.hi ∙ ap (λ (o : ObjId). high c.args.s.now o.0 d) c.object-other.ensures) (c.get-before.ensures ∙ c.requires.ahead d h) in
    let is_last : to_z w128 (of_z w128 c.last_before-last.result) ≡ last c.args.a.now c.args.b.now held.region d =
    last_kept c.last_before-last.result c.interval-held.result.lo c.get-after.result _ _ c.last_before-last.type_inv c.interval-held.type_inv.1.1.0.1 c.get-after.type_inv c.last_before-last.ensures
    (c.interval-held.ensures.lo ∙ ap (λ (o : ObjId). low c.args.s.now o.0 d) c.object-other.ensures) (c.get-after.ensures ∙ c.requires.behind d h) in
    let is_low : to_z w64 (of_z w64 c.get-low.result) ≡ coordinate c.args.region.now.lo.coordinates d = kept64 c.get-low.result c.get-low.type_inv ∙ c.get-low.ensures ∙ i.lo_left d (at_most_self d) in
    let is_high : to_z w64 (of_z w64 c.get-high.result) ≡ coordinate c.args.region.now.hi.coordinates d = kept64 c.get-high.result c.get-high.type_inv ∙ c.get-high.ensures ∙ i.hi_left d (at_most_self d) in
    λ q has k.
    let v = coordinate q d in
    let there = has d h in
    let clash = k d h in
    c.in-None.ensures.none v (subst (λ (z : ℤ). z ≤ℤ v) (sym is_low) there.0) (subst (λ (z : ℤ). v ≤ℤ z) (sym is_high) there.1)
    (subst (λ (z : ℤ). z ≤ℤ v) (sym is_first) clash.0) (subst (λ (z : ℤ). v ≤ℤ z) (sym is_last) clash.1)

pub loop-d-preserved : goal.loop-d-preserved
loop-d-preserved g c =
    let d = c.loop-d.d in
    let test = c.loop-d-test.true in
    let held = reach c.args.s.now c.args.b.now.object.0 in
    let lo0 = coordinate c.args.region.now.lo.coordinates in
    let hi0 = coordinate c.args.region.now.hi.coordinates in
    let i = c.loop-d.invariant in
    let f = λ (e : ℕ) (x : ℤ). int_max x (first c.args.a.now c.args.b.now held.region e) in
    let h = λ (e : ℕ) (x : ℤ). int_min x (last c.args.a.now c.args.b.now held.region e) in
    let is_first : to_z w128 (of_z w128 c.first_past-first.result) ≡ first c.args.a.now c.args.b.now held.region d =
    first_kept c.first_past-first.result c.interval-held.result.hi c.get-before.result _ _ c.first_past-first.type_inv c.interval-held.type_inv.1.1.1.0.1 c.get-before.type_inv c.first_past-first.ensures
    (c.interval-held.ensures.hi ∙ ap (λ (o : ObjId). high c.args.s.now o.0 d) c.object-other.ensures) (c.get-before.ensures ∙ c.requires.ahead d test) in
    let is_last : to_z w128 (of_z w128 c.last_before-last.result) ≡ last c.args.a.now c.args.b.now held.region d =
    last_kept c.last_before-last.result c.interval-held.result.lo c.get-after.result _ _ c.last_before-last.type_inv c.interval-held.type_inv.1.1.0.1 c.get-after.type_inv c.last_before-last.ensures
    (c.interval-held.ensures.lo ∙ ap (λ (o : ObjId). low c.args.s.now o.0 d) c.object-other.ensures) (c.get-after.ensures ∙ c.requires.behind d test) in
    let lo_put : coordinate c.set.new.self.coordinates d ≡ c.in-Some.from = omega (arith, ints, c.set.ensures.same) in
    let hi_put : coordinate c.set-in-Some.new.self.coordinates d ≡ c.in-Some.to = omega (arith, ints, c.set-in-Some.ensures.same) in
    let lo_at : c.in-Some.from ≡ f d (coordinate c.loop-d.lo.coordinates d) = max_same c.in-Some.from (to_z w64 (of_z w64 c.get-low.result)) (to_z w128 (of_z w128 c.first_past-first.result)) (coordinate c.loop-d.lo.coordinates d) (first c.args.a.now c.args.b.now held.region d) c.in-Some.ensures.lo (kept64 c.get-low.result c.get-low.type_inv ∙ c.get-low.ensures) is_first in
    let hi_at : c.in-Some.to ≡ h d (coordinate c.loop-d.hi.coordinates d) = min_same c.in-Some.to (to_z w64 (of_z w64 c.get-high.result)) (to_z w128 (of_z w128 c.last_before-last.result)) (coordinate c.loop-d.hi.coordinates d) (last c.args.a.now c.args.b.now held.region d) c.in-Some.ensures.hi (kept64 c.get-high.result c.get-high.type_inv ∙ c.get-high.ensures) is_last in
    record {
      lo_is = mapped_more f lo0 (coordinate c.loop-d.lo.coordinates) (coordinate c.set.new.self.coordinates) d i.lo_left c.set.ensures.others i.lo_is (lo_put ∙ lo_at);
      hi_is = mapped_more h hi0 (coordinate c.loop-d.hi.coordinates) (coordinate c.set-in-Some.new.self.coordinates) d i.hi_left c.set-in-Some.ensures.others i.hi_is (hi_put ∙ hi_at);
      lo_left = left_more f lo0 (coordinate c.loop-d.lo.coordinates) (coordinate c.set.new.self.coordinates) d i.lo_left c.set.ensures.others;
      hi_left = left_more h hi0 (coordinate c.loop-d.hi.coordinates) (coordinate c.set-in-Some.new.self.coordinates) d i.hi_left c.set-in-Some.ensures.others;
      some = below_more _ _ (λ e b. let ne = not_same e d b in subst (λ (x : ℤ). x ≤ℤ coordinate c.set-in-Some.new.self.coordinates e) (sym (c.set.ensures.others e ne)) (subst (λ (x : ℤ). coordinate c.loop-d.lo.coordinates e ≤ℤ x) (sym (c.set-in-Some.ensures.others e ne)) (i.some e b))) (subst (λ (x : ℤ). x ≤ℤ coordinate c.set-in-Some.new.self.coordinates d) (sym lo_put) (subst (λ (x : ℤ). c.in-Some.from ≤ℤ x) (sym hi_put) c.in-Some.ensures.some));
    }
