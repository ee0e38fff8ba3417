use Rattle.std.proofs.Common.{◌≡◌, true, inl, inr, arith, map}
use Rattle.std.proofs.lemmas.Bool.{cases_lt}
use Rattle.geo_conditions.specs.Conditions.{possible}
use Rattle.geo_conditions.specs.Reach.{with_at, just}
use Rattle.sweep.proofs.PickedConditions.{picked_all}
use Rattle.sweep.proofs.ask.ask.Goals as goal

pub returns-clause-none : goal.returns-clause-none
returns-clause-none g c =
    picked_all (λ x. possible x (with_at c.args.s.now c.args.o.0 c.args.place (just c.args.c.now.coordinates)) ≡ true) (map g.I.Indexical.cond c.args.list.now) c.args.picks.now
    (λ k x p. elim (cases_lt k c.args.from) [
      | inl l ↦ c.around.invariant.passed_again k (omega arith) x p
      | inr m ↦ c.around.invariant.passed k m p.0 x p
    ])
