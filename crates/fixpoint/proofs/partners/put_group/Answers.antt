use Rattle.std.proofs.Common.{◌≡◌, ◌+◌, ◌<◌, inl, inr, arith}
use Rattle.std.proofs.lemmas.Bool.{cases_eq}
use Rattle.object_pruning.specs.InRows.{IsInGroup}
use Rattle.fixpoint.proofs.Partnering.{numbers_none, numbers_both, numbers_as}
use Rattle.fixpoint.proofs.partners.put_group.Goals as goal

pub loop-i-init : goal.loop-i-init
loop-i-init c =
    let group = c.args.group.now in
    numbers_none c.args.named.now c.args.o (λ j. IsInGroup group j × (j < group.first)) c.args.few.now c.args.many.now.items (λ j p. absurd (omega (arith, p.0.0, p.1)))

pub loop-i-preserved : goal.loop-i-preserved
loop-i-preserved c =
    let group = c.args.group.now in
    let k = c.loop-i.i in
    numbers_both c.args.named.now c.args.o (λ j. IsInGroup group j × (j < k)) (λ j. j ≡ k) (λ j. IsInGroup group j × (j < k + 1)) c.args.few.now c.loop-i.few c.put_number.new.few c.args.many.now.items c.loop-i.many.items c.put_number.new.many.items
    (λ j w. (w.0, omega (arith, w.1)))
    (λ j e. ((omega (arith, e, c.loop-i.auto.i), omega (arith, e, c.loop-i-test.true)), omega (arith, e)))
    (λ j w. elim (cases_eq j k) [ inl e ↦ inr e | inr ne ↦ inl (w.0, omega (arith, w.1, ne)) ])
    c.loop-i.invariant c.in_ok-put_number.ensures

pub returns : goal.returns
returns c =
    let group = c.args.group.now in
    let k = c.loop-i.i in
    numbers_as c.args.named.now c.args.o (λ j. IsInGroup group j × (j < k)) (IsInGroup group) c.args.few.now c.loop-i.few c.args.many.now.items c.loop-i.many.items (λ j w. w.0) (λ j b. (b, omega (arith, b.1, c.loop-i-test.false))) c.loop-i.invariant
