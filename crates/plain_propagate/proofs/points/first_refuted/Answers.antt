use Rattle.std.proofs.Common.{◌≡◌, ◌+◌, ◌-◌, ℕ, true, take, sym, ◌∙◌, subst, arith}
use Rattle.std.specs.List.{All}
use Rattle.std.proofs.lemmas.List.{take_all}
use Rattle.std.proofs.lemmas.List.Elements.{All-more}
use Rattle.std.proofs.lemmas.Bool.{not-false}
use Rattle.geo_conditions.specs.declared.cond.Cond.{Cond}
use Rattle.geo_conditions.specs.Conditions.{possible}
use Rattle.geo_conditions.specs.Supported.{NoneRefuted}
use Rattle.plain_propagate.proofs.points.first_refuted.Goals as goal

pub loop-i-preserved : goal.loop-i-preserved
loop-i-preserved g c =
    let W = c.args.s.now in
    let P = λ (e : Cond). possible e W ≡ true in
    let h : possible c.index-cs-i.result W ≡ true = not-false (possible c.index-cs-i.result W) (sym c.refuted.ensures ∙ c.if-refuted.false) in
    All-more P c.args.cs.now c.loop-i.i c.index-cs-i.result c.loop-i-test.true c.loop-i.invariant (subst P c.index-cs-i.is h)

pub returns-clause-found : goal.returns-clause-found
returns-clause-found g c = subst (All (λ (e : Cond). possible e c.args.s.now ≡ true)) (take_all c.loop-i.i c.args.cs.now c.loop-i-test.false) c.loop-i.invariant

pub returns-then-refuted-clause-first : goal.returns-then-refuted-clause-first
returns-then-refuted-clause-first g c =
    let e : c.loop-i.i ≡ c.loop-i.i + 1 - 1 = omega arith in
    subst (λ (n : ℕ). NoneRefuted (take n c.args.cs.now) c.args.s.now) e c.loop-i.invariant
