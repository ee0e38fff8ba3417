use Rattle.std.proofs.Common.{◌≡◌, true, sym, ◌∙◌, subst}
use Rattle.std.specs.List.{All}
use Rattle.std.proofs.lemmas.List.{take_all}
use Rattle.std.proofs.lemmas.List.Elements.{All-more}
use Rattle.std.proofs.lemmas.Bool.{not-false}
use Rattle.geo_conditions.specs.declared.cond.Cond.{Cond}
use Rattle.geo_conditions.specs.Reach.{with_at}
use Rattle.geo_conditions.specs.Conditions.{possible}
use Rattle.geo_conditions.specs.Regions.{region_of}
use Rattle.plain_propagate.proofs.points.first_refuted_at.Goals as goal

pub loop-i-preserved : goal.loop-i-preserved
loop-i-preserved g c =
    let W = with_at c.args.s.now c.args.o.0 c.args.place (region_of c.args.b.now) in
    let P = λ (e : Cond). possible e W ≡ true in
    let h : possible c.index-cs-i.result W ≡ true = not-false (possible c.index-cs-i.result W) (sym c.refuted_at.ensures ∙ c.if-refuted_at.false) in
    All-more P c.args.cs.now c.loop-i.i c.index-cs-i.result c.loop-i-test.true c.loop-i.invariant (subst P c.index-cs-i.is h)

pub returns-clause-found : goal.returns-clause-found
returns-clause-found g c = subst (All (λ (e : Cond). possible e (with_at c.args.s.now c.args.o.0 c.args.place (region_of c.args.b.now)) ≡ true)) (take_all c.loop-i.i c.args.cs.now c.loop-i-test.false) c.loop-i.invariant
