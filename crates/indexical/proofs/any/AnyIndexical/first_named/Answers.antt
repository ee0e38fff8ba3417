use Rattle.std.proofs.Common.{sym, ◌∙◌, subst, arith}
use Rattle.indexical.specs.Apart.{SaysApart}
use Rattle.indexical.specs.Names.{IsFirstBefore, names}
use Rattle.indexical.proofs.any.AnyIndexical.first_named.Goals as goal

pub returns-in_err-o-in-Some : goal.returns-in_err-o-in-Some
returns-in_err-o-in-Some g c =
    let x = c.in-Some.boxes in
    let says : SaysApart x.first x.second x.short c.args.self.now.cond = c.args.self.now.says x c.in-Some.is in
    subst (IsFirstBefore (λ o. names o c.args.self.now.cond) c.args.from c.args.end) (sym c.from_residual.ensures) (λ o l h. says.named o ∙ c.in_err-o-in-Some.ensures o l)

pub returns-then-from-end : goal.returns-then-from-end
returns-then-from-end g c =
    let x = c.in-Some.boxes in
    let says : SaysApart x.first x.second x.short c.args.self.now.cond = c.args.self.now.says x c.in-Some.is in
    let u = c.in_ok-o-in-Some.o.0 in
    let k = c.in_ok-o-in-Some.ensures in
    (omega (arith, c.if-from-end.true, c.from.ensures), k.0, says.named u ∙ k.1, λ o l h. says.named o ∙ k.2 o l h)

pub returns-else-from-end : goal.returns-else-from-end
returns-else-from-end g c =
    let x = c.in-Some.boxes in
    let says : SaysApart x.first x.second x.short c.args.self.now.cond = c.args.self.now.says x c.in-Some.is in
    let k = c.in_ok-o-in-Some.ensures in
    λ o l h. says.named o ∙ k.2 o l (omega (arith, c.if-from-end.false, c.from.ensures, h))
