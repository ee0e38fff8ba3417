use Rattle.std.proofs.Common.{◌≡◌, ◌+◌, ◌<◌, ℕ, List, length, map, ap, sym, ◌∙◌, subst, arith, rules, Some, Vec, Global}
use Rattle.std.specs.Prelude.{slice_get}
use Rattle.indexical.specs.declared.any.AnyIndexical.{AnyIndexical}
use Rattle.fixpoint.specs.declared.pairs.RowGroup.{RowGroup}
use Rattle.fixpoint.specs.Links.{row}
use Rattle.fixpoint.specs.Pairs.{HaveIn, IsGroupOf, NamesNoThird}
use Rattle.fixpoint.specs.Kept.{RetriesThose}
use Rattle.fixpoint.proofs.Linking.{row_get}
use Rattle.fixpoint.proofs.Asked.{BesideBelow, those_none, those_skip, those_beside, those_lists}
use Rattle.fixpoint.proofs.kept.ask_marked.Goals as goal

pub loop-u-init : goal.loop-u-init
loop-u-init g c =
    let cs = map (λ (x : AnyIndexical g.row.K). x.cond) c.args.list.now in
    let marks = c.args.marks.now in
    let a = c.requires.pairs in
    let lists = c.args.pairs.now.beside.items in
    let kept = c.args.kept.now in
    those_skip cs c.args.s.now c.args.o.0 marks lists 0 c.next-u.result kept kept (λ u k b e. subst (λ (n : ℕ). NamesNoThird cs n c.args.o.0 u b.group) (sym c.requires.object.1) (a.2.beside u b (k, e)).1) c.requires.own
    c.next-u.ensures.none
    (those_none cs c.args.s.now c.args.o.0 marks (BesideBelow lists 0) kept (λ i p. absurd (omega (arith, p.1))))

pub ask_groups-requires : goal.ask_groups-requires
ask_groups-requires g c =
    let cs = map (λ (x : AnyIndexical g.row.K). x.cond) c.args.list.now in
    let a = c.requires.pairs in
    let lists = c.args.pairs.now.beside.items in
    let u = c.loop-u.u in
    let h : u < length lists = omega (arith, c.loop-u-test.true, c.len.ensures) in
    let same : c.deref.result.now ≡ row lists u = c.deref.ensures.value ∙ ap (λ (v : Vec RowGroup Global). v.items) c.index.ensures ∙ sym (row_get lists u c.index.result.now h) in
    let groups : (k : ℕ) (b : RowGroup) → slice_get c.deref.result.now k ≡ Some b → IsGroupOf cs c.args.o.0 b.row b.group = λ k b e. (a.0, a.1, (a.2.beside u b (k, subst (λ (bs : List RowGroup). slice_get bs k ≡ Some b) same e)).0) in
    let there : u < length c.args.s.now = omega (arith, h, a.2.objects) in
    search rules

pub loop-u-preserved : goal.loop-u-preserved
loop-u-preserved g c =
    let cs = map (λ (x : AnyIndexical g.row.K). x.cond) c.args.list.now in
    let S = c.args.s.now in
    let o = c.args.o.0 in
    let marks = c.args.marks.now in
    let a = c.requires.pairs in
    let lists = c.args.pairs.now.beside.items in
    let u = c.loop-u.u in
    let old = c.args.kept.now in
    let mid = c.loop-u.kept in
    let new = c.ask_groups.new.kept in
    let h : u < length lists = omega (arith, c.loop-u-test.true, c.len.ensures) in
    let same : c.deref.result.now ≡ row lists u = c.deref.ensures.value ∙ ap (λ (v : Vec RowGroup Global). v.items) c.index.ensures ∙ sym (row_get lists u c.index.result.now h) in
    those_skip cs S o marks lists (u + 1) c.next-u-in-loop-u.result old new (λ v k b e. subst (λ (n : ℕ). NamesNoThird cs n o v b.group) (sym c.requires.object.1) (a.2.beside v b (k, e)).1) c.requires.own
    c.next-u-in-loop-u.ensures.none
    (those_beside cs S o marks lists u old mid new c.loop-u.invariant (subst (λ (bs : List RowGroup). RetriesThose cs S o marks (HaveIn bs) mid new) same (c.ask_groups.ensures marks)))

pub returns : goal.returns
returns g c = those_lists (map (λ (x : AnyIndexical g.row.K). x.cond) c.args.list.now) c.args.s.now c.args.o.0 c.args.marks.now c.args.pairs.now.beside.items c.loop-u.u c.args.kept.now c.loop-u.kept (omega (arith, c.loop-u-test.false, c.len.ensures)) c.loop-u.invariant
