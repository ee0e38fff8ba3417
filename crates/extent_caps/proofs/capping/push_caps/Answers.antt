use Rattle.std.proofs.Common.{◌≡◌, ◌+◌, ℕ, ℤ, length, subst, arith, to_z, of_z, to_z-of_z, w64}
use Rattle.std.specs.List.{flat_map, range_with_len}
use Rattle.std.proofs.lemmas.Grind.{common_steps}
use Rattle.rule_ground.proofs.Lists.{number-more}
use Rattle.rule_ground.proofs.Said.{said-small}
use Rattle.extent_caps.specs.Capped.{Adds}
use Rattle.extent_caps.specs.Extents.{caps_of}
use Rattle.extent_caps.proofs.Adding.{adds-none, adds-flat}
use Rattle.extent_caps.proofs.Meant.{adds-caps}
use Rattle.extent_caps.proofs.capping.push_caps.Goals as goal

pub loop-o-init : goal.loop-o-init
loop-o-init c = adds-none _

pub loop-o-preserved : goal.loop-o-preserved
loop-o-preserved c =
    adds-flat (caps_of c.args.problem.now c.args.d (to_z w64 (of_z w64 c.args.e))) (range_with_len 0 c.loop-o.o) (range_with_len 0 (c.loop-o.o + 1)) c.loop-o.o _ _ _
    (number-more 0 c.loop-o.o (c.loop-o.o + 1) c.loop-o.o (omega arith) (omega arith)) c.loop-o.invariant c.in_ok-push_object.ensures

pub push_object-requires-clause-shapes : goal.push_object-requires-clause-shapes
push_object-requires-clause-shapes c = said-small c.args.problem.now c.is_said.ensures.said

pub returns : goal.returns
returns c =
    let p = c.args.problem.now in
    let all : c.loop-o.o ≡ length p.objects = grind (arith, common_steps) in
    let Added : ℤ → ℕ → Type 0 = λ z n. Adds (flat_map (caps_of p c.args.d z) (range_with_len 0 n)) c.args.conditions.now.items c.loop-o.conditions.items in
    adds-caps p c.args.d c.args.e c.args.conditions.now.items c.loop-o.conditions.items c.is_said.ensures.said c.is_said.ensures.formed c.requires.d
    (subst (λ (z : ℤ). Added z (length p.objects)) (to_z-of_z {w = w64} {z = c.args.e} c.ranges.e) (subst (Added (to_z w64 (of_z w64 c.args.e))) all c.loop-o.invariant))
