use Rattle.object_pruning.proofs.gathering.near_at.Goals as goal

pub returns-in-Some-clause-near : goal.returns-in-Some-clause-near
returns-in-Some-clause-near g c = c.requires.rows.near c.args.r c.in-Some.near.now c.in-Some.ensures
