use Rattle.std.proofs.Common.{◌≡◌, ◌<◌, ℕ, map, true}
use Rattle.geo_conditions.specs.declared.cond.Cond.{Cond}
use Rattle.geo_conditions.specs.Conditions.{possible}
use Rattle.sweep.specs.Picks.{PicksAt}
use Rattle.fixpoint.proofs.propagation.first_refuted.Given as goal

abbrev pub invariant-loop-pick : goal.invariant-loop-pick
invariant-loop-pick g l = (k : ℕ) (x : Cond) → k < l.pick-index → PicksAt (map (λ x. x.cond) l.list) l.picks k x → possible x l.s ≡ true
