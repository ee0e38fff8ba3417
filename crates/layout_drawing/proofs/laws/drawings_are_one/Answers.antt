use Rattle.layout_drawing.proofs.OneDrawing.{one_drawing, not_large}
use Rattle.layout_drawing.proofs.laws.drawings_are_one.Goals as goal

pub returns-clause-one : goal.returns-clause-one
returns-clause-one c = λ t x y a b. one_drawing c.args.problem.now c.is_said.ensures.formed t x y a b

pub returns-clause-not_large : goal.returns-clause-not_large
returns-clause-not_large c = λ t x a b. not_large c.args.problem.now c.is_said.ensures.formed t x a b
