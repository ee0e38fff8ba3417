use Rattle.object_pruning.proofs.region_sweep.without_parts.Goals as goal

pub returns : goal.returns
returns g c = λ j part e. absurd (c.no_parts.ensures j part e)
