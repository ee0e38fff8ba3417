use Rattle.geo_core.proofs.Ended.{ended}
use Rattle.geo_core.proofs.rounds.round_of.Goals as goal

pub returns : goal.returns
returns g c =
    let p = c.args.problem.now in
    let cs = c.in_ok-conditions.conditions.items in
    let are = c.in_ok-conditions.ensures in
    let mean = c.conditions_are_meant.ensures c.requires.grounds.expands c.requires.grounds.grounds cs are in
    ended p c.args.budget cs are mean c.is_said.ensures.formed c.in_ok-searched.searched.outcome c.in_ok-searched.ensures.walk c.in_ok-searched.ensures.solution c.in_ok-searched.ensures.derivation
