use Rattle.std.proofs.Common.{Bool, ◌+◌, ◌∙◌, sym, subst, arith, rules}
use Rattle.plain_propagate.specs.Points.{HasSupport}
use Rattle.plain_propagate.proofs.Finding.{PlacesUpTo, places_start, places_there, places_absent, places_end, places_gone}
use Rattle.plain_propagate.proofs.defects.place_defect.Goals as goal
use Rattle.plain_propagate.proofs.defects.place_defect.Goals.{then-has_shape+else-not-place_supported, else-has_shape}

pub returns-else-any : goal.returns-else-any
returns-else-any g c = places_gone c.args.cs.now c.args.s.now c.args.o.0 c.loop-place.place c.requires.object c.region-region.ensures.places (omega arith) (subst (λ (b : Bool). PlacesUpTo c.args.cs.now c.args.s.now c.args.o.0 b c.loop-place.place) c.if-any.false c.loop-place.invariant)

pub loop-place-init : goal.loop-place-init
loop-place-init g c = places_start c.args.cs.now c.args.s.now c.args.o.0

pub loop-place-preserved : goal.loop-place-preserved
loop-place-preserved g c =
    let cs = c.args.cs.now in
    let S = c.args.s.now in
    let o = c.args.o.0 in
    let n = c.loop-place.place in
    elim c.if-has_shape.branch [
      | then-has_shape+else-not-place_supported w ↦ (
          let there : HasSupport cs S o n = search rules in
          subst (λ (b : Bool). PlacesUpTo cs S o b (n + 1)) (sym w.any-is) (places_there cs S o n c.loop-place.any c.loop-place.invariant (sym c.has_shape.ensures ∙ w.if-has_shape.true) there))
      | else-has_shape w ↦ subst (λ (b : Bool). PlacesUpTo cs S o b (n + 1)) (sym w.any-is) (places_absent cs S o n c.loop-place.any c.loop-place.invariant (sym c.has_shape.ensures ∙ w.if-has_shape.false))
    ]

pub returns-then-any : goal.returns-then-any
returns-then-any g c = places_end c.args.cs.now c.args.s.now c.args.o.0 c.loop-place.place c.region-region.ensures.places c.loop-place-test.false (subst (λ (b : Bool). PlacesUpTo c.args.cs.now c.args.s.now c.args.o.0 b c.loop-place.place) c.if-any.true c.loop-place.invariant)
