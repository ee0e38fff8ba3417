use Rattle.std.proofs.Common.{◌≡◌, ◌+◌, ℕ, ℤ, subst, arith, to_z, of_z, to_z-of_z, w64}
use Rattle.std.specs.List.{flat_map, range_with_len}
use Rattle.std.proofs.lemmas.Grind.{common_steps}
use Rattle.problem_data.specs.Places.{place_count}
use Rattle.problem_data.specs.Tuple.{object_of}
use Rattle.rule_ground.proofs.Lists.{number-more}
use Rattle.extent_caps.specs.Capped.{Adds}
use Rattle.extent_caps.specs.Extents.{caps_at}
use Rattle.extent_caps.proofs.Adding.{adds-none, adds-flat}
use Rattle.extent_caps.proofs.capping.push_object.Goals as goal

pub loop-before-init : goal.loop-before-init
loop-before-init c = adds-none _

pub loop-before-preserved : goal.loop-before-preserved
loop-before-preserved c =
    adds-flat (caps_at c.args.problem.now c.args.d (to_z w64 (of_z w64 c.args.e)) c.args.o.0) (range_with_len 1 c.loop-before.before) (range_with_len 1 (c.loop-before.before + 1)) (c.loop-before.before + 1) _ _ _
    (number-more 1 c.loop-before.before (c.loop-before.before + 1) (c.loop-before.before + 1) (omega arith) (omega arith)) c.loop-before.invariant c.in_ok-push_place.ensures

pub returns : goal.returns
returns c =
    let p = c.args.problem.now in
    let all : c.loop-before.before ≡ place_count (object_of p c.args.o.0) = grind (arith, common_steps) in
    let Added : ℤ → ℕ → Type 0 = λ z n. Adds (flat_map (caps_at p c.args.d z c.args.o.0) (range_with_len 1 n)) c.args.conditions.now.items c.loop-before.conditions.items in
    subst (λ (z : ℤ). Added z (place_count (object_of p c.args.o.0))) (to_z-of_z {w = w64} {z = c.args.e} c.ranges.e) (subst (Added (to_z w64 (of_z w64 c.args.e))) all c.loop-before.invariant)
