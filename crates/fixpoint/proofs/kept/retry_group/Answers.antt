use Rattle.std.proofs.Common.{◌≡◌, ◌+◌, ◌<◌, map, inl, inr, arith}
use Rattle.std.proofs.lemmas.Bool.{cases_eq}
use Rattle.indexical.specs.declared.any.AnyIndexical.{AnyIndexical}
use Rattle.object_pruning.specs.InRows.{IsInGroup}
use Rattle.fixpoint.proofs.Asked.{those_none, those_both, those_as}
use Rattle.fixpoint.proofs.kept.retry_group.Goals as goal

pub loop-i-init : goal.loop-i-init
loop-i-init g c =
    let group = c.args.group.now in
    record {
      asked = those_none (map (λ (x : AnyIndexical g.row.K). x.cond) c.args.list.now) c.args.s.now c.args.o.0 c.args.marks.now (λ i. IsInGroup group i × (i < group.first)) c.args.kept.now (λ i p. absurd (omega (arith, p.0.0, p.1)));
      hold = c.requires.hold;
    }

pub retry_number-requires : goal.retry_number-requires
retry_number-requires g c =
    let number = c.requires.numbers c.loop-i.i (omega arith, omega arith) in
    (omega arith, (omega arith, (omega arith, (c.requires.k, (c.requires.fits, (c.requires.links, (c.requires.object, (number, c.loop-i.invariant.hold))))))))

pub loop-i-preserved : goal.loop-i-preserved
loop-i-preserved g c =
    let group = c.args.group.now in
    let k = c.loop-i.i in
    record {
      asked =
          those_both (map (λ (x : AnyIndexical g.row.K). x.cond) c.args.list.now) c.args.s.now c.args.o.0 c.args.marks.now (λ i. IsInGroup group i × (i < k)) (λ i. i ≡ k) (λ i. IsInGroup group i × (i < k + 1)) c.args.kept.now c.loop-i.kept c.retry_number.new.kept
          (λ i r. elim (cases_eq i k) [ inl e ↦ inr e | inr ne ↦ inl (r.0, omega (arith, r.1, ne)) ])
          c.loop-i.invariant.asked
          c.retry_number.ensures.kept;
      hold = c.retry_number.ensures.hold;
    }

pub returns-clause-kept : goal.returns-clause-kept
returns-clause-kept g c =
    let group = c.args.group.now in
    let k = c.loop-i.i in
    those_as (map (λ (x : AnyIndexical g.row.K). x.cond) c.args.list.now) c.args.s.now c.args.o.0 c.args.marks.now (λ i. IsInGroup group i × (i < k)) (IsInGroup group) c.args.kept.now c.loop-i.kept (λ i b. (b, omega (arith, b.1, c.loop-i-test.false))) c.loop-i.invariant.asked
