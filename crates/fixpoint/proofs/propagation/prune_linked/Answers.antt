use Rattle.std.proofs.Common.{◌≡◌, ◌<◌, ℕ, List, Option, map, length, get_or, ap, sym, ◌∙◌, subst, arith, rules, Vec, Global}
use Rattle.std.proofs.lemmas.List.{length-map, with_items_is}
use Rattle.std.proofs.lemmas.Result.{IfOk-weaker}
use Rattle.std.specs.Vec.{with_items}
use Rattle.geo_conditions.specs.Reach.{IsState, dims}
use Rattle.geo_state.proofs.Shapes.{lo_long}
use Rattle.indexical.specs.declared.any.AnyIndexical.{AnyIndexical}
use Rattle.sweep.specs.Picks.{ArePicks, picked}
use Rattle.object_pruning.specs.declared.kept.Placed.{Placed}
use Rattle.object_pruning.specs.Kept.{AllSupport}
use Rattle.object_pruning.specs.InRows.{AreRows}
use Rattle.object_pruning.specs.declared.prune.Pruned.{Pruned}
use Rattle.object_pruning.specs.Same.{SameBut}
use Rattle.object_pruning.specs.Pruning.{PrunesTo}
use Rattle.fixpoint.specs.Links.{row}
use Rattle.fixpoint.specs.Kept.{Stand}
use Rattle.fixpoint.specs.Queue.{Prunes}
use Rattle.fixpoint.proofs.Effect.{prunes_of}
use Rattle.fixpoint.proofs.Linking.{row_get}
use Rattle.fixpoint.proofs.Standing.{supports_of, stand_of, stands_alone}
use Rattle.fixpoint.proofs.propagation.prune_linked.Goals as goal

pub prune_kept-requires : goal.prune_kept-requires
prune_kept-requires g c =
    let cs = map (λ (x : AnyIndexical g.row.K). x.cond) c.args.list.now in
    let S = c.args.t.now.state in
    let o = c.args.o in
    let object : o < length S = c.requires.object.0 in
    let picks = c.args.links.now.picks.items in
    let h : o < length picks = omega (arith, object, c.requires.links.objects) in
    let e : c.deref.result.now ≡ row picks o = c.deref.ensures.value ∙ ap (λ (b : Vec ℕ Global). b.items) c.index-picks.ensures ∙ sym (row_get picks o c.index-picks.result.now h) in
    let within : ArePicks (length c.args.list.now) c.deref.result.now =
    subst (λ (n : ℕ). ArePicks n c.deref.result.now) (length-map c.args.list.now (λ x. x.cond)) (subst (ArePicks (length cs)) (sym e) (c.requires.links.picks o object).within) in
    let xs = c.args.kept.now in
    let k : o < length xs = omega (arith, object, c.requires.object.1) in
    let value : c.deref_mut.result.now ≡ row xs o = c.deref_mut.ensures.value ∙ sym (row_get xs o c.index-kept-o.result k) in
    let supports : AllSupport (picked cs (row picks o)) S o (row xs o) = supports_of cs S o (row picks o) (row xs o) (c.requires.links.picks o object) c.requires.stand in
    let kept : AllSupport (picked cs c.deref.result.now) S o c.deref_mut.result.now =
    subst (λ (p : List ℕ). AllSupport (picked cs p) S o c.deref_mut.result.now) (sym e) (subst (λ (v : List (Option (Placed g.row.K))). AllSupport (picked cs (row picks o)) S o v) (sym value) supports) in
    let own = c.index.result.now in
    let rows : AreRows cs o c.deref.result.now own = subst (λ (p : List ℕ). AreRows cs o p own) (sym e) (subst (AreRows cs o (row picks o)) (sym c.index.ensures) (c.requires.links.rows.each o own object)) in
    search rules

pub returns-clause-pruned : goal.returns-clause-pruned
returns-clause-pruned g c =
    let S = c.args.t.now.state in
    let T = c.prune_kept.new.t.state in
    let cs = map (λ (x : AnyIndexical g.row.K). x.cond) c.args.list.now in
    let o = c.args.o in
    let object : o < length S = c.requires.object.0 in
    let picks = c.args.links.now.picks.items in
    let h : o < length picks = omega (arith, object, c.requires.links.objects) in
    let e : c.deref.result.now ≡ row picks o = c.deref.ensures.value ∙ ap (λ (b : Vec ℕ Global). b.items) c.index-picks.ensures ∙ sym (row_get picks o c.index-picks.result.now h) in
    let shape : IsState g.row.K S = subst (IsState g.row.K) c.state.ensures.value c.objects-objects.ensures.shape in
    let some : 0 < dims S o = omega (arith, c.requires.k.0, lo_long g.row.K S o shape object) in
    let alone : SameBut o S T = c.prune_kept.ensures.alone.0 in
    IfOk-weaker c.prune_kept.result (λ (a : Pruned). PrunesTo (picked cs c.deref.result.now) o S a T) (λ (a : Pruned). Prunes cs S o a T) (λ a k.
    prunes_of cs o (row picks o) S T a (c.requires.links.picks o object) object some alone (subst (λ (p : List ℕ). PrunesTo (picked cs p) o S a T) e k)) c.prune_kept.ensures.pruned

pub returns-clause-stand : goal.returns-clause-stand
returns-clause-stand g c =
    let S = c.args.t.now.state in
    let T = c.prune_kept.new.t.state in
    let cs = map (λ (x : AnyIndexical g.row.K). x.cond) c.args.list.now in
    let o = c.args.o in
    let object : o < length S = c.requires.object.0 in
    let picks = c.args.links.now.picks.items in
    let h : o < length picks = omega (arith, object, c.requires.links.objects) in
    let e : c.deref.result.now ≡ row picks o = c.deref.ensures.value ∙ ap (λ (b : Vec ℕ Global). b.items) c.index-picks.ensures ∙ sym (row_get picks o c.index-picks.result.now h) in
    let xs = c.args.kept.now in
    let k : o < length xs = omega (arith, object, c.requires.object.1) in
    let was : Vec (Option (Placed g.row.K)) Global = get_or xs o c.index-kept-o.result in
    let now = c.prune_kept.new.kept in
    let long : length now ≡ length was.items = c.prune_kept.ensures.slots ∙ ap length c.deref_mut.ensures.value in
    let back : (with_items was now).items ≡ now = with_items_is was now (omega (arith, long, was.ok)) in
    let supports : AllSupport (picked cs (row picks o)) T o now = subst (λ (p : List ℕ). AllSupport (picked cs p) T o now) e c.prune_kept.ensures.kept in
    stands_alone cs T o xs (with_items was now) k (subst (λ (v : List (Option (Placed g.row.K))). Stand cs T o v) (sym back) (stand_of cs T o (row picks o) now (c.requires.links.picks o object) supports))

pub returns-clause-record : goal.returns-clause-record
returns-clause-record g c = c.prune_kept.ensures.record

pub returns-clause-grows : goal.returns-clause-grows
returns-clause-grows g c = c.prune_kept.ensures.grows
