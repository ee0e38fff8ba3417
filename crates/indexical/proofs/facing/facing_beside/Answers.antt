use Rattle.indexical.proofs.facing.facing_beside.Goals as goal

pub returns-clause-place : goal.returns-clause-place
returns-clause-place g c = c.asked_place.ensures
