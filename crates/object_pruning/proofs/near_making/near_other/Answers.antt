use Rattle.std.proofs.Common.{◌∙◌, sym}
use Rattle.std.proofs.lemmas.Option.{same_Some}
use Rattle.object_pruning.proofs.LivePicks.{some_with}
use Rattle.object_pruning.proofs.NearRows.{no_other, wider_same}
use Rattle.object_pruning.proofs.near_making.near_other.Goals as goal

pub returns-in-Some-clause-group : goal.returns-in-Some-clause-group
returns-in-Some-clause-group g c = some_with c.near_group.result _ _ (λ n f i v x p at. f i v x (p.1, same_Some _ _ (sym p.0 ∙ c.in-Some.is)) at) c.near_group.ensures.group

pub returns-in-None-clause-wider : goal.returns-in-None-clause-wider
returns-in-None-clause-wider g c = wider_same c.args.near.now

pub returns-in-None-clause-group : goal.returns-in-None-clause-group
returns-in-None-clause-group g c = λ i v x p at. absurd (no_other c.args.group.now.other v c.in-None.is p.0)
