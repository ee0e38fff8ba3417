use Rattle.std.proofs.Common.{◌≡◌, ◌+◌, ◌<◌, ◌-◌, ℕ, Bool, List, length, map, ap, sym, ◌∙◌, subst, arith, Vec, Global}
use Rattle.indexical.specs.declared.any.AnyIndexical.{AnyIndexical}
use Rattle.fixpoint.specs.Kept.{RetriesThose}
use Rattle.fixpoint.specs.Links.{row}
use Rattle.fixpoint.specs.Partners.{HasNumber}
use Rattle.fixpoint.proofs.Linking.{row_get}
use Rattle.fixpoint.proofs.Asked.{those_none}
use Rattle.fixpoint.proofs.Finding.{MarkedBelow, few_skip, few_more, few_asked}
use Rattle.fixpoint.proofs.kept.ask_few.Goals as goal

pub loop-u-init : goal.loop-u-init
loop-u-init g c =
    let cs = map (λ (x : AnyIndexical g.row.K). x.cond) c.args.list.now in
    let S = c.args.s.now in
    let o = c.args.o.0 in
    let marks = c.args.marks.now in
    let few = c.args.few.now in
    let kept = c.args.kept.now in
    record {
      asked = few_skip cs S o marks few 0 c.next-u.result kept kept c.next-u.ensures.none (those_none cs S o marks (MarkedBelow marks few 0) kept (λ i p. absurd (omega (arith, p.1))));
      hold = c.requires.hold;
    }

pub retry_numbers-requires : goal.retry_numbers-requires
retry_numbers-requires g c =
    let few = c.args.few.now in
    let u = c.loop-u.u in
    let same : c.deref.result.now ≡ row few u = c.deref.ensures.value ∙ ap (λ (v : Vec ℕ Global). v.items) c.index-few-u.is ∙ sym (row_get few u c.index-few-u.result c.loop-u-test.true) in
    let numbers : (i : ℕ) → HasNumber c.deref.result.now i → (0 < i) × (i - 1 < length c.args.list.now) = λ i w. c.requires.numbers u i (subst (λ (ns : List ℕ). HasNumber ns i) same w) in
    let object : (c.args.o.0 < length c.args.s.now) × (length c.as_slice-marked.result.now ≡ length c.args.s.now) = (c.requires.object.0, ap length c.as_slice-marked.ensures ∙ c.requires.object.1) in
    (omega arith, (omega arith, (omega arith, (c.requires.k, (c.requires.fits, (c.requires.links, (object, (numbers, c.loop-u.invariant.hold))))))))

pub loop-u-preserved : goal.loop-u-preserved
loop-u-preserved g c =
    let cs = map (λ (x : AnyIndexical g.row.K). x.cond) c.args.list.now in
    let S = c.args.s.now in
    let o = c.args.o.0 in
    let marks = c.args.marks.now in
    let few = c.args.few.now in
    let u = c.loop-u.u in
    let old = c.args.kept.now in
    let mid = c.loop-u.kept in
    let new = c.retry_numbers.new.kept in
    let same : c.deref.result.now ≡ row few u = c.deref.ensures.value ∙ ap (λ (v : Vec ℕ Global). v.items) c.index-few-u.is ∙ sym (row_get few u c.index-few-u.result c.loop-u-test.true) in
    let asked = subst (λ (ms : List Bool). RetriesThose cs S o ms (HasNumber c.deref.result.now) mid new) c.as_slice-marked.ensures c.retry_numbers.ensures.kept in
    record {
      asked =
          few_skip cs S o marks few (u + 1) c.next-u-in-loop-u.result old new c.next-u-in-loop-u.ensures.none
          (few_more cs S o marks few u old mid new c.loop-u.invariant.asked (subst (λ (ns : List ℕ). RetriesThose cs S o marks (HasNumber ns) mid new) same asked));
      hold = c.retry_numbers.ensures.hold;
    }

pub returns-clause-kept : goal.returns-clause-kept
returns-clause-kept g c = few_asked (map (λ (x : AnyIndexical g.row.K). x.cond) c.args.list.now) c.args.s.now c.args.o.0 c.args.marks.now c.args.few.now c.loop-u.u c.args.kept.now c.loop-u.kept c.loop-u-test.false c.loop-u.invariant.asked
