use Rattle.std.proofs.Common.{arith}
use Rattle.indexical.proofs.ShapeLiterals.{only_own}
use Rattle.indexical.proofs.shape_literals.is_only_shape_at.Goals as goal

pub returns-then-place-ne0 : goal.returns-then-place-ne0
returns-then-place-ne0 g c = only_own c.args.s.now c.args.o.0 c.args.place c.args.u.0 c.args.shape c.requires.object c.if-u-o.true (omega arith)
