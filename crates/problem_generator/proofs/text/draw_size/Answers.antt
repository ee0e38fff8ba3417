use Rattle.std.proofs.Common.{refl}
use Rattle.problem_generator.proofs.text.draw_size.Goals as goal

pub returns-clause-height : goal.returns-clause-height
returns-clause-height c = rw (c.draw-height.ensures.number, c.draw-height.ensures.state, c.draw-depth.ensures.state, c.draw-width.ensures.state) refl

pub returns-clause-state : goal.returns-clause-state
returns-clause-state c = rw (c.draw-height.ensures.state, c.draw-depth.ensures.state, c.draw-width.ensures.state) refl
