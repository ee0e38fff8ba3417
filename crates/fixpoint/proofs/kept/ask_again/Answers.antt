use Rattle.std.proofs.Common.{◌<◌, ◌-◌, ℕ, List, length, map, get_or, sym, subst, rules}
use Rattle.std.proofs.lemmas.List.{length-map}
use Rattle.indexical.specs.declared.any.AnyIndexical.{AnyIndexical}
use Rattle.fixpoint.specs.declared.pairs.Pairs.{Pairs}
use Rattle.fixpoint.specs.declared.pairs.RowGroup.{RowGroup}
use Rattle.fixpoint.specs.Links.{row}
use Rattle.fixpoint.specs.Pairs.{ArePairs, AreSomePairs, HaveBeside, HaveIn}
use Rattle.fixpoint.specs.declared.partners.Partners.{Partners}
use Rattle.fixpoint.specs.Partners.{ArePartners}
use Rattle.fixpoint.specs.Kept.{RetriesThose}
use Rattle.fixpoint.proofs.Asked.{pairs_asked, group_within}
use Rattle.fixpoint.proofs.kept.ask_again.Goals as goal

pub ask_pairs-requires : goal.ask_pairs-requires
ask_pairs-requires g c =
    let cs = map (λ (x : AnyIndexical g.row.K). x.cond) c.args.list.now in
    let S = c.args.s.now in
    let o = c.args.o in
    let l = c.args.links.now in
    let own = c.index-pairs.result.now in
    let h : o < length S = c.requires.object.0 in
    let are : ArePairs cs o (row l.picks.items o) (length S) own = subst (ArePairs cs o (row l.picks.items o) (length S)) (sym c.index-pairs.ensures) (c.requires.links.pairs.each o own h) in
    let some : AreSomePairs cs o (length S) own = (row l.picks.items o, (c.requires.links.picks o h).within, are) in
    search rules

pub ask_partners-requires : goal.ask_partners-requires
ask_partners-requires g c =
    let f = λ (x : AnyIndexical g.row.K). x.cond in
    let cs = map f c.args.list.now in
    let S = c.args.s.now in
    let o = c.args.o in
    let l = c.args.links.now in
    let own = c.index-pairs.result.now in
    let h : o < length S = c.requires.object.0 in
    let are : ArePairs cs o (row l.picks.items o) (length S) own = subst (ArePairs cs o (row l.picks.items o) (length S)) (sym c.index-pairs.ensures) (c.requires.links.pairs.each o own h) in
    let numbers : (i : ℕ) → HaveIn c.deref.result.now i → (0 < i) × (i - 1 < length c.args.list.now) = λ i w.
    let v = subst (λ (bs : List RowGroup). HaveIn bs i) c.deref.ensures.value w in
    subst (λ (n : ℕ). (0 < i) × (i - 1 < n)) (length-map c.args.list.now f) (group_within cs S o v.1.row v.1.group c.requires.fits h (row l.picks.items o, (c.requires.links.picks o h).within, are.others v.1 (v.0, v.2)) i v.3) in
    let partners : (d : Partners) → ArePartners l.named.items o (length S) (HaveIn c.deref.result.now) (get_or l.partners.items o d) = λ d.
    subst (λ (bs : List RowGroup). ArePartners l.named.items o (length S) (HaveIn bs) (get_or l.partners.items o d)) (sym c.deref.ensures.value)
    (subst (λ (p : Pairs). ArePartners l.named.items o (length S) (HaveIn p.others.items) (get_or l.partners.items o d)) (sym c.index-pairs.ensures) (c.requires.links.partners.each o own d h)) in
    search rules

pub returns-clause-kept : goal.returns-clause-kept
returns-clause-kept g c =
    let cs = map (λ (x : AnyIndexical g.row.K). x.cond) c.args.list.now in
    let S = c.args.s.now in
    let o = c.args.o in
    let marks = c.args.marks.now in
    let own = c.index-pairs.result.now in
    let old = c.args.kept.now in
    let mid = c.ask_pairs.new.kept in
    let new = c.ask_partners.new.kept in
    let first = subst (λ (p : Pairs). RetriesThose cs S o marks (HaveBeside p.beside.items) old mid) c.index-pairs.ensures c.ask_pairs.ensures in
    let others = subst (λ (bs : List RowGroup). RetriesThose cs S o marks (HaveIn bs) mid new) c.deref.ensures.value c.ask_partners.ensures.kept in
    let second = subst (λ (p : Pairs). RetriesThose cs S o marks (HaveIn p.others.items) mid new) c.index-pairs.ensures others in
    pairs_asked cs S o marks c.args.links.now own old mid new c.requires.links c.requires.object.0 first second c.requires.stand
