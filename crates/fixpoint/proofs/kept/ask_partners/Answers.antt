use Rattle.std.proofs.Common.{◌≡◌, ◌<◌, ◌≤◌, ◌-◌, ℕ, Bool, false, List, length, map, get_or, ap, sym, ◌∙◌, subst, arith, rules, Vec, Global}
use Rattle.indexical.specs.declared.any.AnyIndexical.{AnyIndexical}
use Rattle.fixpoint.specs.Kept.{RetriesThose}
use Rattle.fixpoint.specs.Links.{row}
use Rattle.fixpoint.specs.Pairs.{HaveIn}
use Rattle.fixpoint.specs.Partners.{ArePartners, HasNumber, HaveMarked}
use Rattle.fixpoint.proofs.Finding.{partners_asked}
use Rattle.fixpoint.proofs.kept.ask_partners.Goals as goal

pub ask_few-requires : goal.ask_few-requires
ask_few-requires g c =
    let l = c.args.links.now in
    let n = length c.args.s.now in
    let o = c.args.o.0 in
    let p = c.index-partners.result.now in
    let are : ArePartners l.named.items o n (HaveIn c.args.others.now) p = subst (ArePartners l.named.items o n (HaveIn c.args.others.now)) (sym c.index-partners.ensures) (c.requires.partners p) in
    let same : c.deref.result.now ≡ p.few.items = c.deref.ensures.value in
    let few : length c.deref.result.now ≤ n = omega (arith, ap length same, are.objects) in
    let numbers : (u i : ℕ) → HasNumber (row c.deref.result.now u) i → (0 < i) × (i - 1 < length c.args.list.now) = λ u i w. c.requires.numbers i (are.few u i (subst (λ (lists : List (Vec ℕ Global)). HasNumber (row lists u) i) same w)) in
    search rules

pub retry_numbers-requires : goal.retry_numbers-requires
retry_numbers-requires g c =
    let l = c.args.links.now in
    let n = length c.args.s.now in
    let o = c.args.o.0 in
    let p = c.index-partners.result.now in
    let are : ArePartners l.named.items o n (HaveIn c.args.others.now) p = subst (ArePartners l.named.items o n (HaveIn c.args.others.now)) (sym c.index-partners.ensures) (c.requires.partners p) in
    let numbers : (i : ℕ) → HasNumber c.deref-2.result.now i → (0 < i) × (i - 1 < length c.args.list.now) = λ i w. c.requires.numbers i (are.many i (subst (λ (ns : List ℕ). HasNumber ns i) c.deref-2.ensures.value w)) in
    let object : (c.args.o.0 < length c.args.s.now) × (length c.as_slice-marked.result.now ≡ length c.args.s.now) = (c.requires.object.0, ap length c.as_slice-marked.ensures ∙ c.requires.object.1) in
    search rules

pub ask_others-requires : goal.ask_others-requires
ask_others-requires g c =
    let object : (c.args.o.0 < length c.args.s.now) × (length c.as_slice-marked.result.now ≡ length c.args.s.now) = (c.requires.object.0, ap length c.as_slice-marked.ensures ∙ c.requires.object.1) in
    search rules

pub returns-then-has-clause-kept : goal.returns-then-has-clause-kept
returns-then-has-clause-kept g c =
    let cs = map (λ (x : AnyIndexical g.row.K). x.cond) c.args.list.now in
    subst (λ (ms : List Bool). RetriesThose cs c.args.s.now c.args.o.0 ms (HaveIn c.args.others.now) c.args.kept.now c.ask_others.new.kept) c.as_slice-marked.ensures c.ask_others.ensures.kept

pub returns-clause-kept : goal.returns-clause-kept
returns-clause-kept g c =
    let cs = map (λ (x : AnyIndexical g.row.K). x.cond) c.args.list.now in
    let S = c.args.s.now in
    let l = c.args.links.now in
    let o = c.args.o.0 in
    let marks = c.args.marks.now in
    let p = c.index-partners.result.now in
    let old = c.args.kept.now in
    let mid = c.ask_few.new.kept in
    let new = c.retry_numbers.new.kept in
    let own : get_or marks o false ≡ false = sym c.has.ensures ∙ c.if-has.false in
    let are : ArePartners l.named.items o (length S) (HaveIn c.args.others.now) p = subst (ArePartners l.named.items o (length S) (HaveIn c.args.others.now)) (sym c.index-partners.ensures) (c.requires.partners p) in
    let first = subst (λ (lists : List (Vec ℕ Global)). RetriesThose cs S o marks (HaveMarked marks lists) old mid) c.deref.ensures.value c.ask_few.ensures.kept in
    let asked = subst (λ (ms : List Bool). RetriesThose cs S o ms (HasNumber c.deref-2.result.now) mid new) c.as_slice-marked.ensures c.retry_numbers.ensures.kept in
    let second = subst (λ (ns : List ℕ). RetriesThose cs S o marks (HasNumber ns) mid new) c.deref-2.ensures.value asked in
    partners_asked cs S o marks l p (HaveIn c.args.others.now) old mid new c.requires.links c.requires.object.1 own are first second
