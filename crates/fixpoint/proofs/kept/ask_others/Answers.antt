use Rattle.std.proofs.Common.{ℕ, ◌-◌, ◌<◌, None, length, map, get_or, arith}
use Rattle.std.proofs.lemmas.Option.{slice_get-get_or}
use Rattle.indexical.specs.declared.any.AnyIndexical.{AnyIndexical}
use Rattle.fixpoint.specs.declared.pairs.RowGroup.{RowGroup}
use Rattle.object_pruning.specs.InRows.{IsInGroup}
use Rattle.fixpoint.proofs.Asked.{InBelow, those_none, those_group, those_groups}
use Rattle.fixpoint.proofs.kept.ask_others.Goals as goal

pub loop-k-init : goal.loop-k-init
loop-k-init g c = record {
  asked = those_none (map (λ (x : AnyIndexical g.row.K). x.cond) c.args.list.now) c.args.s.now c.args.o.0 c.args.marks.now (InBelow c.args.others.now 0) c.args.kept.now (λ i p. absurd (omega (arith, p.2)));
  hold = c.requires.hold;
}

pub retry_group-requires : goal.retry_group-requires
retry_group-requires g c =
    let gs = c.args.others.now in
    let k = c.loop-k.k in
    let none : RowGroup = record { row = 0; group = record { other = None; other_place = 0; first = 0; last = 0 } } in
    let numbers : (i : ℕ) → IsInGroup (get_or gs k none).group i → (0 < i) × (i - 1 < length c.args.list.now) = λ i b. c.requires.numbers i (k, get_or gs k none, slice_get-get_or gs k none c.loop-k-test.true, b) in
    (omega arith, (omega arith, (omega arith, (c.requires.k, (c.requires.fits, (c.requires.links, (c.requires.object, (numbers, c.loop-k.invariant.hold))))))))

pub loop-k-preserved : goal.loop-k-preserved
loop-k-preserved g c = record {
  asked = those_group (map (λ (x : AnyIndexical g.row.K). x.cond) c.args.list.now) c.args.s.now c.args.o.0 c.args.marks.now c.args.others.now c.loop-k.k _ c.args.kept.now c.loop-k.kept c.retry_group.new.kept c.loop-k-test.true c.loop-k.invariant.asked c.retry_group.ensures.kept;
  hold = c.retry_group.ensures.hold;
}

pub returns-clause-kept : goal.returns-clause-kept
returns-clause-kept g c = those_groups (map (λ (x : AnyIndexical g.row.K). x.cond) c.args.list.now) c.args.s.now c.args.o.0 c.args.marks.now c.args.others.now c.loop-k.k c.args.kept.now c.loop-k.kept c.loop-k-test.false c.loop-k.invariant.asked
