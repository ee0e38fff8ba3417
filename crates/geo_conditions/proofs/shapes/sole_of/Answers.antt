use Rattle.std.proofs.Common.{sym, ◌∙◌, arith}
use Rattle.geo_conditions.proofs.Sets.{first_is, none_at, sole_none, sole_one}
use Rattle.geo_conditions.proofs.shapes.sole_of.Goals as goal

pub returns-then-count-ne1 : goal.returns-then-count-ne1
returns-then-count-ne1 c = sole_none c.args.there.now (λ e. absurd (omega (arith, c.if-count-ne1.true, c.requires, e)))

pub returns-then-there-i : goal.returns-then-there-i
returns-then-there-i c =
    sym (sole_one c.args.there.now (omega (arith, c.if-count-ne1.false, c.requires)) ∙ first_is c.args.there.now c.loop-i.i c.loop-i.invariant c.if-there-i.true)

pub returns : goal.returns
returns c =
    absurd (omega (arith, c.if-count-ne1.false, c.requires, none_at c.args.there.now c.loop-i.i (omega (arith, c.loop-i-test.false, c.told-there)) c.loop-i.invariant))
