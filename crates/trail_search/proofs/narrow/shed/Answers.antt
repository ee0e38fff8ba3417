use Rattle.std.proofs.Common.{◌≡◌, ℕ, ◌∙◌, refl, subst, arith}
use Rattle.trail_search.specs.Shed.{Clears}
use Rattle.trail_search.proofs.Moves.{sheds_start, sheds_more}
use Rattle.trail_search.proofs.Cases.{clears_start, clears_more}
use Rattle.trail_search.proofs.narrow.shed.Goals as goal

pub loop-place-init : goal.loop-place-init
loop-place-init g c =
    let S = c.args.t.now.state in
    (sheds_start S c.args.o.0 c.args.from, refl, refl, omega arith, c.requires.order, clears_start S c.args.o.0 c.args.from)

pub loop-place-preserved : goal.loop-place-preserved
loop-place-preserved g c =
    let i = c.loop-place.invariant in (
      sheds_more c.args.t.now.state c.loop-place.t.state c.drop_shape.new.self.state c.args.o.0 c.args.from c.loop-place.place c.requires.object (omega (arith, c.requires.from, i.3)) i.3 i.0 c.drop_shape.ensures.state,
      c.drop_shape.ensures.levels ∙ i.1,
      c.drop_shape.ensures.restores ∙ i.2,
      omega (arith, i.3),
      omega arith,
      clears_more c.args.t.now.state c.loop-place.t.state c.drop_shape.new.self.state c.args.o.0 c.args.from c.loop-place.place c.requires.object (omega (arith, c.requires.from, i.3)) i.3 i.5 c.drop_shape.ensures.state,
    )

pub returns-clause-clears : goal.returns-clause-clears
returns-clause-clears g c =
    let i = c.loop-place.invariant in
    let e : c.loop-place.place ≡ c.args.to = omega (arith, c.loop-place-test.false, i.4) in
    subst (λ (n : ℕ). Clears c.args.t.now.state c.loop-place.t.state c.args.o.0 c.args.from n) e i.5
