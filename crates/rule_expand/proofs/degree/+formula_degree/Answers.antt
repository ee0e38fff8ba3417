use Rattle.std.proofs.Common.{◌∙◌, sym, arith}
use Rattle.rule_expand.proofs.Degrees.{formulas-left-step, formulas-left-here, formulas-left-end}
use Rattle.rule_expand.proofs.degree.+formula_degree.Goals as goal

pub some_multiplies-loop-f-preserved : goal.some_multiplies-loop-f-preserved
some_multiplies-loop-f-preserved t c = formulas-left-step c.args.fs.now c.loop-f.f-index c.f-item.result c.loop-f-test.true c.f-item.is (sym c.multiplies.ensures ∙ c.if-multiplies.false) c.loop-f.invariant

pub some_multiplies-returns-then-multiplies : goal.some_multiplies-returns-then-multiplies
some_multiplies-returns-then-multiplies t c = formulas-left-here c.args.fs.now c.loop-f.f-index c.f-item.result c.loop-f-test.true c.f-item.is (sym c.multiplies.ensures ∙ c.if-multiplies.true) c.loop-f.invariant

pub some_multiplies-returns : goal.some_multiplies-returns
some_multiplies-returns t c = formulas-left-end c.args.fs.now c.loop-f.f-index (omega arith) c.loop-f.invariant
