use Rattle.std.proofs.Common.{◌≡◌, ◌<◌, ◌+◌, ◌-◌, length, map, get_or, ap, sym, ◌∙◌, subst, inl, inr, arith}
use Rattle.std.proofs.lemmas.Bool.{cases_eq, false≢true}
use Rattle.std.proofs.lemmas.List.{length-map, get_or-map}
use Rattle.geo_conditions.specs.declared.cond.Cond.{Cond}
use Rattle.geo_conditions.specs.Conditions.{FitsIn}
use Rattle.indexical.specs.declared.any.AnyIndexical.{AnyIndexical}
use Rattle.object_pruning.proofs.LivePicks.{at_number}
use Rattle.object_pruning.specs.InRows.{IsInGroup}
use Rattle.fixpoint.proofs.Woken.{free_both, free_one}
use Rattle.fixpoint.proofs.waking.may_hinder.Goals as goal

pub loop-i-init : goal.loop-i-init
loop-i-init g c = λ o ne i x p e. absurd (omega (arith, p.0.0, p.1))

pub surely_leaves_free-requires : goal.surely_leaves_free-requires
surely_leaves_free-requires g c =
    let f = λ (x : AnyIndexical g.row.K). x.cond in
    let cs = map f c.args.list.now in
    let S = c.args.s.now in
    let number = c.loop-i.i in
    let i = number - 1 in
    let n : length cs ≡ length c.args.list.now = length-map c.args.list.now (λ x. x.cond) in
    let m : i < length c.args.list.now = (c.requires.numbers number (omega arith, omega arith)).1 in
    let x = c.index-list-i.result in
    let at : (d : Cond) → get_or cs i d ≡ x.cond = λ d. get_or-map f c.args.list.now i x d m ∙ ap f (sym c.index-list-i.is) in
    let fits : FitsIn x.cond S = subst (λ (y : Cond). FitsIn y S) (at x.cond) (c.requires.fits i x.cond (omega (arith, m, n))) in
    (omega arith, (omega arith, fits))

pub loop-i-preserved : goal.loop-i-preserved
loop-i-preserved g c = λ o ne.
    let f = λ (x : AnyIndexical g.row.K). x.cond in
    let cs = map f c.args.list.now in
    let group = c.args.group.now in
    let k = c.loop-i.i in
    let i = k - 1 in
    let m : i < length c.args.list.now = (c.requires.numbers k (omega arith, omega arith)).1 in
    let x = c.index-list-i.result in
    free_both cs c.args.s.now o (λ i. IsInGroup group i × (i < k)) (λ i. i ≡ k) (λ i. IsInGroup group i × (i < k + 1))
    (λ i r. elim (cases_eq i k) [ inl e ↦ inr e | inr other ↦ inl (r.0, omega (arith, r.1, other)) ])
    (c.loop-i.invariant o ne)
    (free_one cs c.args.s.now o k x.cond (at_number f c.args.list.now i x m c.index-list-i.is) (λ n s p. (c.surely_leaves_free.ensures c.if-not-surely_leaves_free.false) o s p ne n))

pub returns : goal.returns
returns g c = λ test o ne i x b e. c.loop-i.invariant o ne i x (b, omega (arith, b.1, c.loop-i-test.false)) e

pub overflow_sub-i : goal.overflow_sub-i
overflow_sub-i g c = let b = (c.requires.numbers c.loop-i.i (omega arith, omega arith)).0 in omega (arith, b)

pub bounds-list-i : goal.bounds-list-i
bounds-list-i g c = (c.requires.numbers c.loop-i.i (omega arith, omega arith)).1

pub returns-then-not-surely_leaves_free : goal.returns-then-not-surely_leaves_free
returns-then-not-surely_leaves_free g c = λ test. absurd (false≢true (sym test))
