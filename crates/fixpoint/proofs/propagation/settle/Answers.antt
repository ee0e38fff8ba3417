use Rattle.std.proofs.Common.{◌≡◌, ◌<◌, ℕ, true, List, [], ◌∷◌, map, length, ap, sym, ◌∙◌, subst, rules, arith}
use Rattle.std.specs.Prelude.{Result, Ok, Err, IfOk}
use Rattle.std.specs.List.{AllPairs}
use Rattle.std.proofs.lemmas.List.{length-map}
use Rattle.geo_conditions.specs.declared.cond.Cond.{Cond}
use Rattle.geo_state.specs.declared.propagate.Settled.{Settled}
use Rattle.geo_state.specs.declared.propagate.Settled.TheVariants.{Kept, Dead as NoneLeft}
use Rattle.geo_state.specs.Settle.{SettlesOr}
use Rattle.geo_conditions.specs.Conditions.{AllFit}
use Rattle.geo_conditions.specs.Reach.{State, reach}
use Rattle.geo_conditions.specs.Supported.{NoneRefuted, NoneInside}
use Rattle.geo_conditions.proofs.Points.{inside_self}
use Rattle.indexical.specs.declared.any.AnyIndexical.{AnyIndexical}
use Rattle.derivation.specs.declared.event.Event.TheVariants.{Dead}
use Rattle.derivation.specs.Chains.{IsDead}
use Rattle.derivation.specs.Covers.{refutes}
use Rattle.derivation.proofs.Chains.{closes_end}
use Rattle.sweep.specs.Picks.{ArePicks, picked}
use Rattle.object_pruning.proofs.Cases.{from_none}
use Rattle.fixpoint.specs.Links.{AreLinks, BareOf}
use Rattle.fixpoint.specs.Kept.{AllStand}
use Rattle.fixpoint.specs.Marks.{IsSquare, NotesChanges}
use Rattle.fixpoint.specs.Near.{BarePossible}
use Rattle.fixpoint.specs.Record.{NoneLower}
use Rattle.fixpoint.proofs.Blaming.{blames_listed, blames_none}
use Rattle.fixpoint.specs.Queue.{RestFine, CatchesUp}
use Rattle.fixpoint.proofs.Effect.{hopeless, bare_possible}
use Rattle.fixpoint.proofs.Turns.{caught_up}
use Rattle.fixpoint.proofs.Standing.{stand_noted}
use Rattle.derivation.proofs.Continuing.{growth_added, growth_refused}
use Rattle.watches.specs.Watches.{Hold, Later}
use Rattle.watches.proofs.Holding.{hold_later}
use Rattle.fixpoint.proofs.propagation.settle.Goals as goal

pub first_refuted-requires : goal.first_refuted-requires
first_refuted-requires g c =
    let f = λ (x : AnyIndexical g.row.K). x.cond in
    let cs = map f c.args.list.now in
    let X = c.state.result.now in
    let without = c.deref.result.now in
    let those : BareOf cs (length c.args.queued.now) without = subst (BareOf cs (length c.args.queued.now)) (sym c.deref.ensures.value) c.requires.links.bare in
    let fits : AllFit cs X = subst (AllFit cs) (sym c.state.ensures.value) c.requires.fits in
    let picks : ArePicks (length c.args.list.now) without = subst (λ (n : ℕ). ArePicks n without) (length-map c.args.list.now f) those.within in
    let rising : AllPairs (λ i j. i < j) without = those.rising in
    (omega arith, (omega arith, (c.requires.k.1, (fits, (picks, rising)))))

-- as many objects are left as there were
settled_objects : {E : Type 0} (cs : List Cond) (S T : State) (r : Result Settled E) → SettlesOr cs S r T → length T ≡ length S
settled_objects cs S T (Ok Kept) h = let i = h.inside.objects in omega (arith, i)
settled_objects cs S T (Ok NoneLeft) h = let i = h.1.objects in omega (arith, i)
settled_objects cs S T (Err e) h = let i = h.objects in omega (arith, i)

pub copy_from-requires : goal.copy_from-requires
copy_from-requires g c =
    let cs = map (λ (x : AnyIndexical g.row.K). x.cond) c.args.list.now in
    let S = c.args.t.now.state in
    let T = c.prune_queued-settled.new.t.state in
    let left : length T ≡ length S = settled_objects cs S T c.prune_queued-settled.result c.prune_queued-settled.ensures.settles in
    let same : length c.args.last.now ≡ length c.state-3.result.now = c.requires.objects.1 ∙ sym left ∙ sym (ap length c.state-3.ensures.value) in
    search rules

pub returns-clause-fine : goal.returns-clause-fine
returns-clause-fine g c =
    let cs = map (λ (x : AnyIndexical g.row.K). x.cond) c.args.list.now in
    subst (λ (X : State). RestFine cs X c.prune_queued-settled.new.queued) (sym (c.copy_from.ensures ∙ c.state-3.ensures.value)) c.prune_queued-settled.ensures.fine

pub returns-in-Ok-clause-settles : goal.returns-in-Ok-clause-settles
returns-in-Ok-clause-settles g c =
    let cs = map (λ (x : AnyIndexical g.row.K). x.cond) c.args.list.now in
    (subst (NoneInside cs) c.state.ensures.value (hopeless cs c.state.result.now c.in-Some.i c.in-Some.ensures.found), inside_self c.args.t.now.state)

pub returns-in-Ok-clause-record : goal.returns-in-Ok-clause-record
returns-in-Ok-clause-record g c = λ kept.
    let cs = map (λ (x : AnyIndexical g.row.K). x.cond) c.args.list.now in
    let i = c.in-Some.i in
    let refuted : refutes cs i c.args.t.now.state ≡ true = subst (λ (X : State). refutes cs i X ≡ true) c.state.ensures.value c.in-Some.ensures.found in
    (Dead i ∷ [], c.in-Ok.ensures.ok kept, closes_end cs c.args.t.now.state (IsDead i) refuted)

pub prune_queued-settled-requires : goal.prune_queued-settled-requires
prune_queued-settled-requires g c =
    let cs = map (λ (x : AnyIndexical g.row.K). x.cond) c.args.list.now in
    let S = c.args.t.now.state in
    let L = c.args.last.now in
    let old = c.args.queued.now in
    let new = c.queue_changed.new.queued in
    let o = c.requires.objects in
    let l = c.requires.links in
    let without = c.deref.result.now in
    let none : NoneRefuted (picked cs without) S = subst (NoneRefuted (picked cs without)) c.state.ensures.value (from_none _ _ c.first_refuted.result c.in_default.is c.first_refuted.ensures.found) in
    let those : BareOf cs (length S) without = subst (BareOf cs (length S)) (sym c.deref.ensures.value) (subst (λ (n : ℕ). BareOf cs n c.args.links.now.bare.items) o.0 l.bare) in
    let bare : BarePossible cs S = bare_possible cs S without those none in
    let caught : CatchesUp cs L S old new = subst (λ (X : State). CatchesUp cs L X old new) c.state-2.ensures.value c.queue_changed.ensures.queued in
    let fine : RestFine cs S new = caught_up cs L S old new o.1 o.0 c.requires.fine caught in
    let objects : length new ≡ length S = caught.objects ∙ o.0 in
    let links : AreLinks cs (length new) c.args.links.now = subst (λ (n : ℕ). AreLinks cs n c.args.links.now) (sym caught.objects) l in
    let noted : NotesChanges cs L S c.args.dirty.now c.queue_changed.new.dirty = subst (λ (X : State). NotesChanges cs L X c.args.dirty.now c.queue_changed.new.dirty) c.state-2.ensures.value c.queue_changed.ensures.noted in
    let stand : AllStand cs S c.queue_changed.new.dirty c.args.kept.now = stand_noted cs L S c.args.dirty.now c.queue_changed.new.dirty c.args.kept.now o.1 c.requires.stand noted in
    let square : IsSquare (length new) c.queue_changed.new.dirty = subst (λ (n : ℕ). IsSquare n c.queue_changed.new.dirty) (sym caught.objects) c.queue_changed.ensures.square in
    let slots : length c.args.kept.now ≡ length S = o.2 in
    let later : Later (λ u. reach L u ≡ reach S u) c.args.watches.now c.queue_changed.new.watches = subst (λ (X : State). Later (λ u. reach L u ≡ reach X u) c.args.watches.now c.queue_changed.new.watches) c.state-2.ensures.value c.queue_changed.ensures.later in
    let hold : Hold cs S c.queue_changed.new.watches = hold_later cs L S c.args.watches.now c.queue_changed.new.watches o.1 c.requires.hold later in
    search rules

pub queue_changed-requires : goal.queue_changed-requires
queue_changed-requires g c =
    let cs = map (λ (x : AnyIndexical g.row.K). x.cond) c.args.list.now in
    let S = c.args.t.now.state in
    let X = c.state-2.result.now in
    let o = c.requires.objects in
    let value : S ≡ X = sym c.state-2.ensures.value in
    let same : length S ≡ length X = ap length value in
    let fits : AllFit cs X = subst (AllFit cs) value c.requires.fits in
    let objects : (length c.args.last.now ≡ length X) × (length c.args.queued.now ≡ length X) = (o.1 ∙ same, o.0 ∙ same) in
    let times : length c.args.watches.now.changed.items ≡ length X = c.requires.hold.objects ∙ o.1 ∙ same in
    (omega arith, (omega arith, (c.requires.k.1, (fits, (objects, (c.requires.links, (c.requires.square, times)))))))

pub returns-in-Ok-clause-grows : goal.returns-in-Ok-clause-grows
returns-in-Ok-clause-grows g c = growth_added _ c.in-Ok.ensures.ok c.add.ensures.refusals

pub returns-in-Err-clause-grows : goal.returns-in-Err-clause-grows
returns-in-Err-clause-grows g c = growth_refused c.in-Err.ensures.err c.add.ensures.refusals c.in-Err.ensures.refused c.in-Err.ensures.no_record

pub returns-clause-grows : goal.returns-clause-grows
returns-clause-grows g c = c.prune_queued-settled.ensures.grows

pub returns-in-Ok-clause-blame : goal.returns-in-Ok-clause-blame
returns-in-Ok-clause-blame g c = λ kept.
    let cs = map (λ (x : AnyIndexical g.row.K). x.cond) c.args.list.now in
    let S = c.args.t.now.state in
    let without = c.deref.result.now in
    let those : BareOf cs (length c.args.queued.now) without = subst (BareOf cs (length c.args.queued.now)) (sym c.deref.ensures.value) c.requires.links.bare in
    blames_listed cs S (length c.args.queued.now) c.in-Some.i without (g.R.Recorder.list c.args.rec.now) (g.R.Recorder.list c.add.new.self) those (subst (λ (X : State). NoneLower cs without X c.in-Some.i) c.state.ensures.value c.in-Some.ensures.first)
    (c.in-Ok.ensures.ok kept)

-- what is so of each value is so of the one that is there
of_each : {T E : Type 0} (r : Result T E) (P : T → Type 0) → ((a : T) → P a) → IfOk r P
of_each (Ok a) P f = f a
of_each (Err e) P f = tt

pub returns-clause-blame : goal.returns-clause-blame
returns-clause-blame g c = of_each c.prune_queued-settled.result _ (λ a kept.
    let cs = map (λ (x : AnyIndexical g.row.K). x.cond) c.args.list.now in
    let S = c.args.t.now.state in
    let without = c.deref.result.now in
    let none : NoneRefuted (picked cs without) S = subst (NoneRefuted (picked cs without)) c.state.ensures.value (from_none _ _ c.first_refuted.result c.in_default.is c.first_refuted.ensures.found) in
    let those : BareOf cs (length S) without = subst (BareOf cs (length S)) (sym c.deref.ensures.value) (subst (λ (n : ℕ). BareOf cs n c.args.links.now.bare.items) c.requires.objects.0 c.requires.links.bare) in
    blames_none cs S (g.R.Recorder.list c.args.rec.now) _ (bare_possible cs S without those none))

pub returns-clause-square : goal.returns-clause-square
returns-clause-square g c = subst (λ (n : ℕ). IsSquare n c.prune_queued-settled.new.dirty) c.queue_changed.ensures.queued.objects c.prune_queued-settled.ensures.square
