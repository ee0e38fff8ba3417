use Rattle.std.proofs.Common.{◌<◌, ◌-◌, length, map, get_or, arith}
use Rattle.std.proofs.lemmas.Option.{slice_get-get_or}
use Rattle.indexical.specs.declared.any.AnyIndexical.{AnyIndexical}
use Rattle.fixpoint.proofs.Asked.{those_none}
use Rattle.fixpoint.proofs.Finding.{FirstNumbers, numbers_more, numbers_asked}
use Rattle.fixpoint.proofs.kept.retry_numbers.Goals as goal

pub loop-k-init : goal.loop-k-init
loop-k-init g c = record {
  asked = those_none (map (λ (x : AnyIndexical g.row.K). x.cond) c.args.list.now) c.args.s.now c.args.o.0 c.args.marks.now (FirstNumbers c.args.numbers.now 0) c.args.kept.now (λ i p. absurd (omega (arith, p.1)));
  hold = c.requires.hold;
}

pub retry_number-requires : goal.retry_number-requires
retry_number-requires g c =
    let ns = c.args.numbers.now in
    let k = c.loop-k.k in
    let n = get_or ns k 0 in
    let number : (0 < n) × (n - 1 < length c.args.list.now) = c.requires.numbers n (k, slice_get-get_or ns k 0 c.loop-k-test.true) in
    (omega arith, (omega arith, (omega arith, (c.requires.k, (c.requires.fits, (c.requires.links, (c.requires.object, (number, c.loop-k.invariant.hold))))))))

pub loop-k-preserved : goal.loop-k-preserved
loop-k-preserved g c = record {
  asked = numbers_more (map (λ (x : AnyIndexical g.row.K). x.cond) c.args.list.now) c.args.s.now c.args.o.0 c.args.marks.now c.args.numbers.now c.loop-k.k _ c.args.kept.now c.loop-k.kept c.retry_number.new.kept c.loop-k-test.true c.loop-k.invariant.asked c.retry_number.ensures.kept;
  hold = c.retry_number.ensures.hold;
}

pub returns-clause-kept : goal.returns-clause-kept
returns-clause-kept g c = numbers_asked (map (λ (x : AnyIndexical g.row.K). x.cond) c.args.list.now) c.args.s.now c.args.o.0 c.args.marks.now c.args.numbers.now c.loop-k.k c.args.kept.now c.loop-k.kept c.loop-k-test.false c.loop-k.invariant.asked
