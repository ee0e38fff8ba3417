use Rattle.std.proofs.Common.{◌≡◌, ◌<◌, ℕ, map, length, ap, sym, ◌∙◌, subst, arith, rules}
use Rattle.geo_conditions.specs.Conditions.{AllFit}
use Rattle.geo_conditions.specs.Reach.{State}
use Rattle.geo_state.proofs.Fits.{all_fit}
use Rattle.indexical.specs.declared.any.AnyIndexical.{AnyIndexical}
use Rattle.fixpoint.specs.Links.{AreLinks, row}
use Rattle.fixpoint.specs.Kept.{AllStand, Stand, StandsAlone}
use Rattle.fixpoint.specs.Marks.{IsSquare, MarksAt}
use Rattle.fixpoint.specs.Near.{Unhindered}
use Rattle.fixpoint.specs.Queue.{Prunes}
use Rattle.object_pruning.specs.declared.prune.Pruned.{Pruned}
use Rattle.object_pruning.specs.declared.prune.Pruned.TheVariants.{Same}
use Rattle.std.specs.Prelude.{IfOk, Result}
use Rattle.fixpoint.proofs.Standing.{stand_cleared, stand_changed, stand_same}
use Rattle.watches.specs.Watches.{Hold}
use Rattle.fixpoint.proofs.Watching.{hold_changed}
use Rattle.fixpoint.proofs.propagation.prune_and_wake.Goals as goal

pub refresh-requires : goal.refresh-requires
refresh-requires g c =
    let cs = map (λ (x : AnyIndexical g.row.K). x.cond) c.args.list.now in
    let S = c.args.t.now.state in
    let X = c.state.result.now in
    let value : S ≡ X = sym c.state.ensures.value in
    let same : length S ≡ length X = ap length value in
    let r = c.requires.object in
    let fits : AllFit cs X = subst (AllFit cs) value c.requires.fits in
    let links : AreLinks cs (length X) c.args.links.now = subst (λ (n : ℕ). AreLinks cs n c.args.links.now) same c.requires.links in
    let object : (c.args.o < length X) × (length c.args.kept.now ≡ length X) = (omega (arith, r.0, same), r.1 ∙ same) in
    let square : IsSquare (length X) c.args.dirty.now = subst (λ (n : ℕ). IsSquare n c.args.dirty.now) same c.requires.square in
    let stand : AllStand cs X c.args.dirty.now c.args.kept.now = subst (λ (Y : State). AllStand cs Y c.args.dirty.now c.args.kept.now) value c.requires.stand in
    let hold : Hold cs X c.args.watches.now = subst (λ (Y : State). Hold cs Y c.args.watches.now) value c.requires.hold in
    (omega arith, (omega arith, (omega arith, (c.requires.k.1, (fits, (links, (object, (square, (hold, stand)))))))))

pub prune_linked-pruned-requires : goal.prune_linked-pruned-requires
prune_linked-pruned-requires g c =
    let cs = map (λ (x : AnyIndexical g.row.K). x.cond) c.args.list.now in
    let S = c.args.t.now.state in
    let o = c.args.o in
    let kept = c.refresh.new.kept in
    let object : (o < length S) × (length kept ≡ length S) = (c.requires.object.0, c.refresh.auto.kept ∙ c.requires.object.1) in
    let stand : Stand cs S o (row kept o) = subst (λ (Y : State). Stand cs Y o (row kept o)) c.state.ensures.value c.refresh.ensures.kept.itself in
    search rules

pub wake-requires : goal.wake-requires
wake-requires g c =
    let cs = map (λ (x : AnyIndexical g.row.K). x.cond) c.args.list.now in
    let S = c.args.t.now.state in
    let T = c.prune_linked-pruned.new.t.state in
    let X = c.state-in_default.result.now in
    let q = c.args.queued.now in
    let marks = c.refresh.new.dirty in
    let value : X ≡ T = c.state-in_default.ensures.value in
    let alone = c.prune_linked-pruned.ensures.alone in
    let r = c.requires.object in
    let fits : AllFit cs X = subst (AllFit cs) (sym value) (all_fit cs S T alone.1 c.requires.fits) in
    let links : AreLinks cs (length q) c.args.links.now = subst (λ (n : ℕ). AreLinks cs n c.args.links.now) (sym r.2) c.requires.links in
    let object : (c.args.o < length q) × (length q ≡ length X) = (omega (arith, r.0, r.2), r.2 ∙ alone.0.objects ∙ ap length (sym value)) in
    let square : IsSquare (length q) marks = subst (λ (n : ℕ). IsSquare n marks) (ap length c.state.ensures.value ∙ sym r.2) c.refresh.ensures.square in
    (omega arith, (omega arith, (c.requires.k.1, (fits, (links, (object, square))))))

pub returns-in-Ok-Same-clause-stand : goal.returns-in-Ok-Same-clause-stand
returns-in-Ok-Same-clause-stand g c =
    let cs = map (λ (x : AnyIndexical g.row.K). x.cond) c.args.list.now in
    let S = c.args.t.now.state in
    let T = c.prune_linked-pruned.new.t.state in
    let o = c.args.o in
    let was = c.args.kept.now in
    let asked = c.refresh.new.kept in
    let marks = c.refresh.new.dirty in
    let alone : StandsAlone cs S o was asked = subst (λ (Y : State). StandsAlone cs Y o was asked) c.state.ensures.value c.refresh.ensures.kept in
    let before : AllStand cs S marks asked = stand_cleared cs S o c.args.dirty.now marks was asked c.requires.stand c.refresh.ensures.cleared alone in
    let pruned : Prunes cs S o c.in-Ok-Same.field-0 T = subst (λ (r : Result Pruned _). IfOk r (λ a. Prunes cs S o a T)) c.in-Ok-Same.is c.prune_linked-pruned.ensures.pruned in
    let here : c.in-Ok-Same.field-0 ≡ Same = rw c.in-Ok-Same.is at c.in-Ok-Same.field-0-is in
    let same : Prunes cs S o Same T = subst (λ (a : Pruned). Prunes cs S o a T) here pruned in
    stand_same cs S T o marks asked c.prune_linked-pruned.new.kept same.0 before c.prune_linked-pruned.ensures.stand

pub returns-in_default-clause-stand : goal.returns-in_default-clause-stand
returns-in_default-clause-stand g c =
    let cs = map (λ (x : AnyIndexical g.row.K). x.cond) c.args.list.now in
    let S = c.args.t.now.state in
    let T = c.prune_linked-pruned.new.t.state in
    let o = c.args.o in
    let was = c.args.kept.now in
    let asked = c.refresh.new.kept in
    let marks = c.refresh.new.dirty in
    let alone : StandsAlone cs S o was asked = subst (λ (Y : State). StandsAlone cs Y o was asked) c.state.ensures.value c.refresh.ensures.kept in
    let before : AllStand cs S marks asked = stand_cleared cs S o c.args.dirty.now marks was asked c.requires.stand c.refresh.ensures.cleared alone in
    let noted : MarksAt (Unhindered cs T o) o marks c.wake.new.dirty = subst (λ (Y : State). MarksAt (Unhindered cs Y o) o marks c.wake.new.dirty) c.state-in_default.ensures.value c.wake.ensures.marked in
    let rows : length marks ≡ length S = c.refresh.ensures.square.rows ∙ ap length c.state.ensures.value in
    stand_changed cs S T o marks c.wake.new.dirty asked c.prune_linked-pruned.new.kept c.prune_linked-pruned.ensures.alone.0 rows before c.prune_linked-pruned.ensures.stand noted

pub change-requires : goal.change-requires
change-requires g c = omega (arith, c.requires.object.0, c.refresh.ensures.hold.objects, ap length c.state.ensures.value)

pub returns-in-Ok-Same-clause-hold : goal.returns-in-Ok-Same-clause-hold
returns-in-Ok-Same-clause-hold g c =
    let cs = map (λ (x : AnyIndexical g.row.K). x.cond) c.args.list.now in
    let S = c.args.t.now.state in
    let T = c.prune_linked-pruned.new.t.state in
    let o = c.args.o in
    let w = c.refresh.new.watches in
    let pruned : Prunes cs S o c.in-Ok-Same.field-0 T = subst (λ (r : Result Pruned _). IfOk r (λ a. Prunes cs S o a T)) c.in-Ok-Same.is c.prune_linked-pruned.ensures.pruned in
    let here : c.in-Ok-Same.field-0 ≡ Same = rw c.in-Ok-Same.is at c.in-Ok-Same.field-0-is in
    let same : Prunes cs S o Same T = subst (λ (a : Pruned). Prunes cs S o a T) here pruned in
    subst (λ (X : State). Hold cs X w) (c.state.ensures.value ∙ sym same.0) c.refresh.ensures.hold

pub returns-in_default-clause-hold : goal.returns-in_default-clause-hold
returns-in_default-clause-hold g c =
    let cs = map (λ (x : AnyIndexical g.row.K). x.cond) c.args.list.now in
    let S = c.args.t.now.state in
    let T = c.prune_linked-pruned.new.t.state in
    let w = c.refresh.new.watches in
    let before : Hold cs S w = subst (λ (X : State). Hold cs X w) c.state.ensures.value c.refresh.ensures.hold in
    hold_changed cs S T c.args.o w c.change.new.self c.prune_linked-pruned.ensures.alone.0 before c.change.ensures
