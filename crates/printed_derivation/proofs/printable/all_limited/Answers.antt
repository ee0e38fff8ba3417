use Rattle.std.proofs.Common.{◌≡◌, take, refl, subst, arith}
use Rattle.std.specs.List.{All}
use Rattle.std.proofs.lemmas.List.{take_all}
use Rattle.std.proofs.lemmas.List.Elements.{All-more}
use Rattle.derivation_round_trip.specs.Limits.{IsLimited}
use Rattle.printed_derivation.proofs.printable.all_limited.Goals as goal

pub loop-e-preserved : goal.loop-e-preserved
loop-e-preserved c = All-more IsLimited c.args.events.now c.loop-e.e-index _ (omega arith) c.loop-e.invariant (c.is_limited.ensures.0 c.if-not-is_limited.false)

pub returns : goal.returns
returns c =
    let whole : take c.loop-e.e-index c.args.events.now ≡ c.args.events.now = take_all c.loop-e.e-index c.args.events.now (omega arith) in
    (λ _. subst (All IsLimited) whole c.loop-e.invariant, λ _. refl)
