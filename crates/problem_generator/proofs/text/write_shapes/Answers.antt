use Rattle.std.proofs.Common.{append_assoc}
use Rattle.problem_generator.proofs.text.write_shapes.Goals as goal

pub returns : goal.returns
returns c = rw (c.in_ok-write_shape.ensures, append_assoc) at c.write_shape-2.ensures
