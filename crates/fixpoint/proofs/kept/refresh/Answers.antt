use Rattle.std.proofs.Common.{◌≡◌, ◌<◌, Bool, List, Option, [], map, length, get_or, ap, sym, ◌∙◌, subst, arith, Vec, Global, false}
use Rattle.std.proofs.lemmas.List.{with_items_is, get_or_default, get_or-set_same, get_or-set_other}
use Rattle.std.specs.Vec.{with_items}
use Rattle.indexical.specs.declared.any.AnyIndexical.{AnyIndexical}
use Rattle.object_pruning.specs.declared.kept.Placed.{Placed}
use Rattle.fixpoint.specs.Links.{row}
use Rattle.fixpoint.specs.Kept.{Stand, StandBut}
use Rattle.fixpoint.specs.Marks.{marks_of}
use Rattle.fixpoint.proofs.Linking.{row_get}
use Rattle.fixpoint.proofs.Standing.{stands_alone}
use Rattle.fixpoint.proofs.Woken.{square_put}
use Rattle.fixpoint.proofs.kept.refresh.Goals as goal

pub ask_again-requires : goal.ask_again-requires
ask_again-requires g c =
    let cs = map (λ (x : AnyIndexical g.row.K). x.cond) c.args.list.now in
    let S = c.args.s.now in
    let o = c.args.o in
    let marks = c.args.dirty.now in
    let kept = c.args.kept.now in
    let object = c.requires.object in
    let h : o < length marks = omega (arith, object.0, c.requires.square.rows) in
    let k : o < length kept = omega (arith, object.0, object.1) in
    let own = get_or marks o c.index-dirty-o.result in
    let noted : own ≡ marks_of marks o = get_or_default marks o c.index-dirty-o.result [] h in
    let slots : c.deref_mut.result.now ≡ row kept o = c.deref_mut.ensures.value ∙ sym (row_get kept o c.index-kept-o.result k) in
    let stand : StandBut cs S o own c.deref_mut.result.now =
    subst (λ (ms : List Bool). StandBut cs S o ms c.deref_mut.result.now) (sym noted) (subst (λ (v : List (Option (Placed g.row.K))). StandBut cs S o (marks_of marks o) v) (sym slots) (c.requires.stand o object.0)) in
    let there : (o < length S) × (length own ≡ length S) = (object.0, ap length noted ∙ c.requires.square.each o object.0) in
    (omega arith, (omega arith, (omega arith, (c.requires.k, (c.requires.fits, (c.requires.links, (there, (c.requires.hold, stand))))))))

pub returns-clause-kept : goal.returns-clause-kept
returns-clause-kept g c =
    let cs = map (λ (x : AnyIndexical g.row.K). x.cond) c.args.list.now in
    let S = c.args.s.now in
    let o = c.args.o in
    let kept = c.args.kept.now in
    let k : o < length kept = omega (arith, c.requires.object.0, c.requires.object.1) in
    let was : Vec (Option (Placed g.row.K)) Global = get_or kept o c.index-kept-o.result in
    let now = c.ask_again.new.kept in
    let long : length now ≡ length was.items = c.ask_again.auto.kept ∙ ap length c.deref_mut.ensures.value in
    let back : (with_items was now).items ≡ now = with_items_is was now (omega (arith, long, was.ok)) in
    stands_alone cs S o kept (with_items was now) k (subst (λ (v : List (Option (Placed g.row.K))). Stand cs S o v) (sym back) c.ask_again.ensures.kept)

pub returns-clause-cleared : goal.returns-clause-cleared
returns-clause-cleared g c =
    let o = c.args.o in
    let marks = c.args.dirty.now in
    let now = c.clear.new.self in
    let h : o < length marks = omega (arith, c.requires.object.0, c.requires.square.rows) in
    record {
      itself = λ u. ap (λ (l : List Bool). get_or l u false) (get_or-set_same marks o now [] h) ∙ c.clear.ensures.none u;
      others = λ u ne. get_or-set_other marks o u now [] ne;
    }

pub returns-clause-square : goal.returns-clause-square
returns-clause-square g c =
    let o = c.args.o in
    let marks = c.args.dirty.now in
    let h : o < length marks = omega (arith, c.requires.object.0, c.requires.square.rows) in
    let own : get_or marks o c.index-dirty-o-2.result ≡ marks_of marks o = get_or_default marks o c.index-dirty-o-2.result [] h in
    square_put (length c.args.s.now) o marks c.clear.new.self h (c.clear.ensures.objects ∙ ap length own ∙ c.requires.square.each o c.requires.object.0) c.requires.square
