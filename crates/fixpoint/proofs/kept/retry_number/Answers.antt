use Rattle.std.proofs.Common.{◌≡◌, ◌<◌, ◌-◌, List, length, map, get_or, ap, sym, ◌∙◌, subst, arith}
use Rattle.std.proofs.lemmas.List.{length-map}
use Rattle.smallvec.specs.SmallVec.{SmallVec}
use Rattle.geo_conditions.specs.declared.cond.Cond.{Cond}
use Rattle.geo_conditions.specs.declared.object.ObjId.{ObjId}
use Rattle.indexical.specs.declared.any.AnyIndexical.{AnyIndexical}
use Rattle.fixpoint.specs.Links.{NamedBy}
use Rattle.fixpoint.specs.Pairs.{names_at}
use Rattle.fixpoint.proofs.Linking.{names_get}
use Rattle.fixpoint.proofs.Watching.{those_numbered, those_spared}
use Rattle.fixpoint.proofs.kept.retry_number.Goals as goal

pub returns-then-is_known_to_spare-clause-kept : goal.returns-then-is_known_to_spare-clause-kept
returns-then-is_known_to_spare-clause-kept g c =
    let f = λ (x : AnyIndexical g.row.K). x.cond in
    let cs = map f c.args.list.now in
    let there : c.args.number - 1 < length cs = omega (arith, c.requires.number.1, length-map c.args.list.now f) in
    those_spared cs c.args.s.now c.args.o.0 c.args.marks.now c.args.number c.args.kept.now there (λ d. c.is_known_to_spare.ensures c.if-is_known_to_spare.true cs c.args.s.now d there c.requires.hold)

pub retry_marked-requires : goal.retry_marked-requires
retry_marked-requires g c =
    let f = λ (x : AnyIndexical g.row.K). x.cond in
    let cs = map f c.args.list.now in
    let S = c.args.s.now in
    let l = c.args.links.now in
    let a = c.requires.links in
    let i = c.args.number - 1 in
    let there : i < length cs = omega (arith, c.requires.number.1, length-map c.args.list.now f) in
    let b : i < length l.named.items = omega (arith, there, a.conditions) in
    let q : c.as_slice-named.result.now ≡ names_at l.named.items i = c.as_slice-named.ensures ∙ ap (λ (v : SmallVec ObjId). v.items) c.index.ensures ∙ sym (names_get l.named.items i c.index.result.now b) in
    let named : (d : Cond) → NamedBy (get_or cs i d) (length S) c.as_slice-named.result.now = λ d. subst (λ (v : List ObjId). NamedBy (get_or cs i d) (length S) v) (sym q) (a.named i d there) in
    (omega arith, (omega arith, (omega arith, (c.requires.k, (c.requires.fits, (c.requires.object.0, (c.requires.number.1, (c.requires.object.1, (named, c.requires.hold)))))))))

pub returns-clause-kept : goal.returns-clause-kept
returns-clause-kept g c =
    let f = λ (x : AnyIndexical g.row.K). x.cond in
    let cs = map f c.args.list.now in
    let there : c.args.number - 1 < length cs = omega (arith, c.requires.number.1, length-map c.args.list.now f) in
    those_numbered cs c.args.s.now c.args.o.0 c.args.marks.now c.args.number c.args.kept.now c.retry_marked.new.kept there c.retry_marked.ensures.kept
