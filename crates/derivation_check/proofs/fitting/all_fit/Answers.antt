use Rattle.std.proofs.Common.{rules, ◌≡◌, take, subst, arith}
use Rattle.std.specs.List.{All}
use Rattle.std.proofs.lemmas.List.{take_all}
use Rattle.std.proofs.lemmas.List.Elements.{All-more}
use Rattle.derivation.specs.Fits.{EventFits}
use Rattle.derivation_check.proofs.fitting.all_fit.Goals as goal

pub loop-e-preserved : goal.loop-e-preserved
loop-e-preserved g c = All-more (EventFits c.args.objects g.row.K) c.args.events.now c.loop-e.e-index _ (omega arith) c.loop-e.invariant (c.fits.ensures.0 (search rules))

pub returns : goal.returns
returns g c =
    let whole : take c.loop-e.e-index c.args.events.now ≡ c.args.events.now = take_all c.loop-e.e-index c.args.events.now (omega arith) in
    (λ _. subst (All (EventFits c.args.objects g.row.K)) whole c.loop-e.invariant, λ _. search rules)
