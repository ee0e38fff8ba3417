use Rattle.geo_best.specs.Turns.{IsRound, room}
use Rattle.geo_best.proofs.least.find_best.Given as goal

-- the rounds come to this one
abbrev pub invariant-rounds : goal.invariant-rounds
invariant-rounds g l = IsRound l.problem l.d l.budget l.own l.round

-- the layouts that were found end earlier and earlier
abbrev pub decreases-rounds : goal.decreases-rounds
decreases-rounds g l = room l.round.last
