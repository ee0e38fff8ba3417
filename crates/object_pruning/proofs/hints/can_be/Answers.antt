use Rattle.object_pruning.proofs.hints.can_be.Goals as goal

pub returns-then-is_there : goal.returns-then-is_there
returns-then-is_there g c = λ tried. record {
  place = c.is_there.ensures.place c.if-is_there.true;
  point = record { point = c.is_there.ensures.point c.if-is_there.true; unrefuted = c.is_unrefuted.ensures.0 tried };
}
