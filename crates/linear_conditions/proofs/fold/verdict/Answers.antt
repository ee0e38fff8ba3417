use Rattle.std.proofs.Common.{sym, ◌∙◌}
use Rattle.linear_conditions.proofs.FoldSteps.{verdict-bare, verdict-open}
use Rattle.linear_conditions.proofs.fold.verdict.Goals as goal

pub returns-then-is_empty : goal.returns-then-is_empty
returns-then-is_empty c = c.bare_verdict.ensures ∙ sym (verdict-bare c.in-AtLeast.n c.in-AtLeast.children c.args.c.now c.in-AtLeast.is (sym c.is_empty.ensures ∙ c.if-is_empty.true))

pub returns-else-is_empty : goal.returns-else-is_empty
returns-else-is_empty c = sym (verdict-open c.in-AtLeast.n c.in-AtLeast.children c.args.c.now c.in-AtLeast.is (sym c.is_empty.ensures ∙ c.if-is_empty.false))
