use Rattle.std.proofs.Common.{◌≡◌, ◌<◌, ◌++◌, ◌||◌, Bool, false, List, map, length, refl, sym, ◌∙◌, subst, arith, rules}
use Rattle.std.proofs.lemmas.Bool.{not-true, not-false}
use Rattle.geo_conditions.specs.Conditions.{AllFit}
use Rattle.geo_state.proofs.Fits.{all_fit}
use Rattle.sweep.specs.Picks.{picked}
use Rattle.object_pruning.specs.Ends.{HasSome, DropsPlaces}
use Rattle.object_pruning.proofs.Ends.{prunes_empty, prunes_as, none_left}
use Rattle.geo_conditions.specs.Reach.{State}
use Rattle.geo_conditions.proofs.Points.{inside_self}
use Rattle.object_pruning.specs.Kept.{AllSupport}
use Rattle.object_pruning.specs.Pruning.{IsTight, PrunesTo}
use Rattle.object_pruning.specs.Record.{AreEventsOfPruning}
use Rattle.object_pruning.specs.declared.prune.Pruned.{Pruned}
use Rattle.derivation.specs.declared.event.Event.{Event}
use Rattle.object_pruning.proofs.Record.{recorded_as, gone_on, gone_closes, left_some}
use Rattle.object_pruning.proofs.Narrowing.{alone_on}
use Rattle.derivation.proofs.Chains.{led_on, led_same}
use Rattle.derivation.proofs.Continuing.{growth_none, growth_on, growth_failed}
use Rattle.object_pruning.proofs.prune.prune_kept.Goals as goal

pub returns-then-is_settled-clause-pruned : goal.returns-then-is_settled-clause-pruned
returns-then-is_settled-clause-pruned g c =
    let cs = picked (map g.I.Indexical.cond c.args.list.now) c.args.picks.now in
    let o = c.args.o.0 in
    let here : c.state.result.now ≡ c.args.t.now.state = c.state.ensures.value in
    let kept : AllSupport cs c.state.result.now o c.args.kept.now = subst (λ (X : State). AllSupport cs X o c.args.kept.now) (sym here) c.requires.kept in
    (refl, subst (λ (X : State). IsTight cs X o) here (c.is_settled.ensures c.if-is_settled.true cs kept))

pub returns-then-is_settled-clause-alone : goal.returns-then-is_settled-clause-alone
returns-then-is_settled-clause-alone g c = (record { objects = refl; each = λ u ne. refl }, inside_self c.args.t.now.state)

pub returns-then-is_settled-clause-record : goal.returns-then-is_settled-clause-record
returns-then-is_settled-clause-record g c = λ keeps.
    let S = c.args.t.now.state in
    let all = map g.I.Indexical.cond c.args.list.now in
    let old = g.R.Recorder.list c.args.rec.now in
    recorded_as all S S false old old (led_same all S S old old refl refl)

pub returns-then-is_settled-clause-gone : goal.returns-then-is_settled-clause-gone
returns-then-is_settled-clause-gone g c = λ empty keeps. absurd (left_some false empty)

pub returns-then-is_settled-clause-grows : goal.returns-then-is_settled-clause-grows
returns-then-is_settled-clause-grows g c = growth_none _ _ _

pub returns-then-not-places-clause-pruned : goal.returns-then-not-places-clause-pruned
returns-then-not-places-clause-pruned g c =
    let cs = picked (map g.I.Indexical.cond c.args.list.now) c.args.picks.now in
    let S = c.args.t.now.state in
    let T = c.drop_places.new.t.state in
    let a = c.in_ok-places.places in
    prunes_empty cs c.args.o.0 S T a.dropped (subst (λ (b : Bool). DropsPlaces cs c.args.o.0 S b a.dropped T) (not-true a.some c.if-not-places.true) c.in_ok-places.ensures.drops)

pub returns-then-not-places-clause-gone : goal.returns-then-not-places-clause-gone
returns-then-not-places-clause-gone g c = λ empty kept.
    let all = map g.I.Indexical.cond c.args.list.now in
    let cs = picked all c.args.picks.now in
    let list = g.R.Recorder.list in
    let S = c.args.t.now.state in
    let T = c.drop_places.new.t.state in
    let o = c.args.o.0 in
    let a = c.in_ok-places.places in
    let k = c.in_ok-places.ensures.drops in
    let object : o < length T = omega (arith, k.inside.objects, c.requires.object) in
    let none = none_left cs o S T a.some a.dropped k (not-true a.some c.if-not-places.true) in
    gone_on all S T o (list c.args.rec.now) (list c.drop_places.new.rec) (list c.record_gone.new.rec) (c.in_ok-places.ensures.led kept) (c.in_ok-record_gone.ensures.gone kept all T object none)

pub returns-then-not-places-clause-record : goal.returns-then-not-places-clause-record
returns-then-not-places-clause-record g c = λ kept.
    let list = g.R.Recorder.list in
    gone_closes (map g.I.Indexical.cond c.args.list.now) c.args.t.now.state c.args.o.0 (list c.args.rec.now) (list c.record_gone.new.rec) (returns-then-not-places-clause-gone g c refl kept)

pub returns-clause-gone : goal.returns-clause-gone
returns-clause-gone g c = λ empty. absurd (left_some (c.in_ok-places.places.dropped || c.in_ok-moved.moved) (sym c.changed_or_same.ensures ∙ empty))

pub move_ends-requires : goal.move_ends-requires
move_ends-requires g c =
    let cs = picked (map g.I.Indexical.cond c.args.list.now) c.args.picks.now in
    let S = c.args.t.now.state in
    let T = c.drop_places.new.t.state in
    let a = c.in_ok-places.places in
    let k : DropsPlaces cs c.args.o.0 S a.some a.dropped T = c.in_ok-places.ensures.drops in
    let fits : AllFit (map g.I.Indexical.cond c.args.list.now) T = all_fit _ S T k.inside c.requires.fits in
    let object : c.args.o.0 < length T = omega (arith, k.inside.objects, c.requires.object) in
    let some : HasSome cs T c.args.o.0 = k.found (not-false a.some c.if-not-places.false) in
    search rules

pub returns-in_err-moved-clause-alone : goal.returns-in_err-moved-clause-alone
returns-in_err-moved-clause-alone g c = alone_on c.args.o.0 c.args.t.now.state c.drop_places.new.t.state c.move_ends.new.t.state c.drop_places.ensures.alone c.move_ends.ensures.alone

pub returns-clause-pruned : goal.returns-clause-pruned
returns-clause-pruned g c =
    let cs = picked (map g.I.Indexical.cond c.args.list.now) c.args.picks.now in
    let a = c.in_ok-places.places in
    subst (λ (p : Pruned). PrunesTo cs c.args.o.0 c.args.t.now.state p c.move_ends.new.t.state) (sym c.changed_or_same.ensures)
    (prunes_as cs c.args.o.0 c.args.t.now.state c.drop_places.new.t.state c.move_ends.new.t.state a.some a.dropped c.in_ok-moved.moved c.in_ok-places.ensures.drops c.in_ok-moved.ensures.moves)

pub returns-clause-alone : goal.returns-clause-alone
returns-clause-alone g c = alone_on c.args.o.0 c.args.t.now.state c.drop_places.new.t.state c.move_ends.new.t.state c.drop_places.ensures.alone c.move_ends.ensures.alone

pub returns-clause-record : goal.returns-clause-record
returns-clause-record g c = λ kept.
    let list = g.R.Recorder.list in
    let all = map g.I.Indexical.cond c.args.list.now in
    let old = list c.args.rec.now in
    let new = list c.move_ends.new.rec in
    subst (λ (p : Pruned). (es : List Event) × (new ≡ old ++ es) × AreEventsOfPruning all c.args.t.now.state p c.move_ends.new.t.state es) (sym c.changed_or_same.ensures)
    (recorded_as all c.args.t.now.state c.move_ends.new.t.state (c.in_ok-places.places.dropped || c.in_ok-moved.moved) old new
    (led_on all c.args.t.now.state c.drop_places.new.t.state c.move_ends.new.t.state old (list c.drop_places.new.rec) new (c.in_ok-places.ensures.led kept) (c.in_ok-moved.ensures.led kept)))

pub returns-in_err-places-clause-grows : goal.returns-in_err-places-clause-grows
returns-in_err-places-clause-grows g c = growth_failed (c.in_err-places.ensures.grows) _ c.from_residual.ensures.0

pub returns-in_err-record_gone-clause-grows : goal.returns-in_err-record_gone-clause-grows
returns-in_err-record_gone-clause-grows g c = growth_failed (growth_on c.in_ok-places.ensures.grows c.in_err-record_gone.ensures.grows) _ c.from_residual-in_err-record_gone.ensures.0

pub returns-then-not-places-clause-grows : goal.returns-then-not-places-clause-grows
returns-then-not-places-clause-grows g c = growth_on c.in_ok-places.ensures.grows c.in_ok-record_gone.ensures.grows

pub returns-in_err-moved-clause-grows : goal.returns-in_err-moved-clause-grows
returns-in_err-moved-clause-grows g c = growth_failed (growth_on c.in_ok-places.ensures.grows c.in_err-moved.ensures.grows) _ c.from_residual-in_err-moved.ensures.0

pub returns-clause-grows : goal.returns-clause-grows
returns-clause-grows g c = growth_on c.in_ok-places.ensures.grows c.in_ok-moved.ensures.grows
