use Rattle.std.proofs.Common.{◌∙◌, sym, arith}
use Rattle.derivation_check.proofs.NextPlaces.{next_here, next_behind, next_none}
use Rattle.derivation_check.proofs.cuts.next_there.Goals as goal

pub loop-place-preserved : goal.loop-place-preserved
loop-place-preserved c = c.loop-place.invariant ∙ next_behind c.loop-place.place c.args.places.now (omega (arith, c.loop-place.auto.place, c.requires.from)) (sym c.has.ensures ∙ c.if-has.false)

pub returns-then-has : goal.returns-then-has
returns-then-has c = sym (c.loop-place.invariant ∙ next_here c.loop-place.place c.args.places.now (omega (arith, c.loop-place.auto.place, c.requires.from)) (sym c.has.ensures ∙ c.if-has.true))

pub returns : goal.returns
returns c = sym (c.loop-place.invariant ∙ next_none c.loop-place.place c.args.places.now (omega (arith, c.loop-place-test.false, c.requires.whole)))
