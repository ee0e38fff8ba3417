use Rattle.std.proofs.Common.{◌≡◌, ◌+◌, ◌<◌, ◌≤ℤ◌, Bool, true, ℕ, ℤ, length, map, sym, ap, ◌∙◌, subst, arith, Some, None}
use Rattle.std.proofs.lemmas.Int.{ints}
use Rattle.std.specs.Int.{w64}
use mir.Val.{to_z}
use Rattle.geo_base.specs.Boxes.{coordinate}
use Rattle.geo_base.specs.Ways.{toward}
use Rattle.geo_conditions.specs.Reach.{reach}
use Rattle.geo_state.proofs.Numbers.{kept64}
use Rattle.geo_state.proofs.Shapes.{places_long}
use Rattle.derivation.proofs.Continuing.{growth_on, growth_failed}
use Rattle.sweep.specs.Picks.{picked}
use Rattle.object_pruning.specs.Ends.{IsFirstAt, end}
use Rattle.object_pruning.specs.Record.{IsNotBeyond, ListsPlace}
use Rattle.object_pruning.proofs.Cases.{from_none, from_some}
use Rattle.object_pruning.proofs.Ends.{IsBest, at_end, best_skip, best_found, best_end, best_none}
use Rattle.object_pruning.proofs.Record.{not_beyond, listed_on}
use Rattle.object_pruning.proofs.outer_points.outermost.Goals as goal
use Rattle.object_pruning.proofs.outer_points.outermost.Goals.{Then-get-there, in-Some+else-get-there, in_default}

-- the point has the end as its coordinate
tight : (g : _) (c : Then-get-there g) → coordinate c.in-Some.q.point.coordinates c.args.d ≡ end c.args.up c.args.s.now c.args.o.0 c.args.d
tight g c =
    let same : c.get.result ≡ c.end_of-there.result = sym (kept64 c.get.result c.get.type_inv) ∙ ap (to_z w64) c.if-get-there.true ∙ kept64 c.end_of-there.result c.end_of-there.type_inv in
    sym c.get.ensures ∙ same ∙ c.end_of-there.ensures

pub returns-then-get-there-clause-point : goal.returns-then-get-there-clause-point
returns-then-get-there-clause-point g c =
    let cs = picked (map g.I.Indexical.cond c.args.list.now) c.args.picks.now in
    let f = from_some _ _ c.in_ok-q.field-0 c.in-Some.q c.in-Some.is c.in_ok-q.ensures.point in
    at_end cs c.args.s.now c.args.o.0 c.args.d c.args.up c.in-Some.q f.0 (tight g c)

pub returns-then-get-there-clause-listed : goal.returns-then-get-there-clause-listed
returns-then-get-there-clause-listed g c = λ kept ne. absurd (ne (tight g c))

pub loop-before-preserved : goal.loop-before-preserved
loop-before-preserved g c =
    let all = map g.I.Indexical.cond c.args.list.now in
    let cs = picked all c.args.picks.now in
    let S = c.args.s.now in
    let o = c.args.o.0 in
    let d = c.args.d in
    let up = c.args.up in
    let b = c.loop-before.best in
    let n = c.loop-before.before + 1 in
    let r = c.in_ok-q.field-0 in
    let list = g.R.Recorder.list in
    let way = c.new-way in
    let i = c.loop-before.invariant in
    let step = λ (kept : g.R.Recorder.keeps ≡ true).
    subst (λ (u : Bool). (v : ℤ) → IsNotBeyond d u v r → ListsPlace all S o d u v n (list c.loop-before.rec) (list c.point_at.new.rec)) way.ensures.up
    (subst (λ (e : ℕ). (v : ℤ) → IsNotBeyond e way.result.up v r → ListsPlace all S o e way.result.up v n (list c.loop-before.rec) (list c.point_at.new.rec)) way.ensures.lead (c.in_ok-q.ensures.listed kept)) in
    elim c.match-branch-2.branch [
      | in-Some+else-get-there w ↦
          let q = w.in-Some.q in
          let first : IsFirstAt cs S o n d up q =
          subst (λ (u : Bool). IsFirstAt cs S o n d u q) way.ensures.up (subst (λ (e : ℕ). IsFirstAt cs S o n e way.result.up q) way.ensures.lead (from_some _ _ r q w.in-Some.is c.in_ok-q.ensures.point)) in
          record {
            best = subst (IsBest cs S o d up (n + 1)) (sym w.best-is) (best_found cs S o d up n b q w.sooner_of.result i.best first w.sooner_of.ensures);
            listed = λ kept v h.
                let k = not_beyond d up v b q w.sooner_of.result w.sooner_of.ensures (subst (IsNotBeyond d up v) w.best-is h) in
                step kept v (subst (IsNotBeyond d up v) (sym w.in-Some.is) k.1) (list c.args.rec.now) (i.listed kept v k.0);
            grows = growth_on i.grows c.in_ok-q.ensures.grows;
          }
      | in_default w ↦ record {
        best = subst (IsBest cs S o d up (n + 1)) (sym w.best-is) (best_skip cs S o d up n b i.best (from_none _ _ r w.in_default.is c.in_ok-q.ensures.point));
        listed = λ kept v h. step kept v (subst (IsNotBeyond d up v) (sym w.in_default.is) tt) (list c.args.rec.now) (i.listed kept v (subst (IsNotBeyond d up v) w.best-is h));
        grows = growth_on i.grows c.in_ok-q.ensures.grows;
      }
    ]

pub unreachable-requires : goal.unreachable-requires
unreachable-requires g c =
    let cs = picked (map g.I.Indexical.cond c.args.list.now) c.args.picks.now in
    let n = c.loop-before.before + 1 in
    let b : IsBest {K = g.row.K} cs c.args.s.now c.args.o.0 c.args.d c.args.up n None = subst (IsBest cs c.args.s.now c.args.o.0 c.args.d c.args.up n) c.in-None.is c.loop-before.invariant.best in
    best_none g.row.K cs c.args.s.now c.args.o.0 c.args.d c.args.up n (λ s t. omega (arith, c.last_place-last.ensures.last s t, c.loop-before-test.false)) b c.requires.some

pub returns-clause-point : goal.returns-clause-point
returns-clause-point g c =
    let cs = picked (map g.I.Indexical.cond c.args.list.now) c.args.picks.now in
    let q = c.in-Some-best.q in
    let n = c.loop-before.before + 1 in
    let b : IsBest cs c.args.s.now c.args.o.0 c.args.d c.args.up n (Some q) = subst (IsBest cs c.args.s.now c.args.o.0 c.args.d c.args.up n) c.in-Some-best.is c.loop-before.invariant.best in
    best_end cs c.args.s.now c.args.o.0 c.args.d c.args.up n q (λ s t. omega (arith, c.last_place-last.ensures.last s t, c.loop-before-test.false)) b

pub returns-clause-listed : goal.returns-clause-listed
returns-clause-listed g c = λ kept ne.
    let S = c.args.s.now in
    let o = c.args.o.0 in
    let d = c.args.d in
    let up = c.args.up in
    let q = c.in-Some-best.q in
    let v = coordinate q.point.coordinates d in
    let here : toward up v ≤ℤ toward up v = omega (arith, ints) in
    let n = c.loop-before.before + 1 in
    let few : length (reach S o).places < n + 16 = omega (arith, places_long g.row.K S o c.objects-objects.ensures.shape c.requires.object) in
    let listed = c.loop-before.invariant.listed kept v (subst (IsNotBeyond d up v) (sym c.in-Some-best.is) here) in
    (n + 16, few, listed_on (map g.I.Indexical.cond c.args.list.now) S o d up v n 16 _ _ (omega arith) (λ s t. omega (arith, c.last_place-last.ensures.last s t, c.loop-before-test.false)) listed)

pub returns-in_err-q-clause-grows : goal.returns-in_err-q-clause-grows
returns-in_err-q-clause-grows g c = growth_failed (growth_on c.loop-before.invariant.grows c.in_err-q.ensures.grows) _ c.from_residual.ensures.0

pub returns-then-get-there-clause-grows : goal.returns-then-get-there-clause-grows
returns-then-get-there-clause-grows g c = growth_on c.loop-before.invariant.grows c.in_ok-q.ensures.grows

pub returns-clause-grows : goal.returns-clause-grows
returns-clause-grows g c = c.loop-before.invariant.grows
