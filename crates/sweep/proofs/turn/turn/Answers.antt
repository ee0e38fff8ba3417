use Rattle.std.proofs.Common.{◌≡◌, ℕ, ◌-◌, ◌<◌, pos, ◌+ℤ◌, ◌≤ℤ◌, ℤ, Bool, true, false, List, [], ◌∷◌, length, ap, inl, inr, arith, rules}
use Rattle.std.specs.Int.{int_min}
use Rattle.std.proofs.lemmas.Int.{ints, clamps}
use Rattle.std.proofs.lemmas.Bool.{cases_lt}
use Rattle.geo_base.specs.Ways.{dimension, key, start, end}
use Rattle.std.proofs.lemmas.List.{length-append}
use Rattle.derivation.specs.declared.event.Event.{Event}
use Rattle.derivation.specs.declared.event.Event.TheVariants.{By}
use Rattle.derivation.proofs.Continuing.{growth_added, growth_refused, growth_on}
use Rattle.sweep.specs.Jump.{IsPlaced, JumpsOn}
use Rattle.sweep.specs.Chains.{IsOpen, SomeOpenBy}
use Rattle.sweep.proofs.Kernel.{jump_over_lem}
use Rattle.geo_base.proofs.Mirror.{dimension_in}
use Rattle.sweep.proofs.Turns.{placed_bounded, IsPlaced-drawn, level_is}
use Rattle.sweep.proofs.RecordSteps.{IsOpen-drawn, IsOpen-advanced, finished_region}
use Rattle.sweep.proofs.turn.turn.Goals as goal
use Rattle.sweep.proofs.turn.turn.Goals.{After-draw_in, Then-advance_between}

-- the jump, drawn in, in keys
drawn_key : (g : _) (c : After-draw_in g) (i : ℕ) → i < g.row.K
    → key g.row.K c.args.way.now.lead c.args.way.now.up c.draw_in.new.n.coordinates i ≡ int_min (key g.row.K c.args.way.now.lead c.args.way.now.up c.args.n.now.coordinates i) (key g.row.K c.args.way.now.lead c.args.way.now.up (end c.args.way.now.up c.args.b.now.lo.coordinates c.args.b.now.hi.coordinates) i +ℤ pos 1)
drawn_key g c i b =
    let drawn = rw c.end.ensures at c.draw_in.ensures in
    drawn (dimension g.row.K c.args.way.now.lead i) (dimension_in g.row.K c.args.way.now.lead i c.args.way.now.lead_in b)

placed_drawn : (g : _) (c : After-draw_in g) → IsPlaced g.row.K (key g.row.K c.args.way.now.lead c.args.way.now.up (start c.args.way.now.up c.args.region.now.lo.coordinates c.args.region.now.hi.coordinates)) (key g.row.K c.args.way.now.lead c.args.way.now.up c.args.past.now.coordinates) (key g.row.K c.args.way.now.lead c.args.way.now.up c.args.c.now.coordinates) (key g.row.K c.args.way.now.lead c.args.way.now.up c.draw_in.new.n.coordinates)
placed_drawn g c =
    let way = c.args.way.now in
    let k = key g.row.K way.lead way.up in
    let drawn = rw c.end.ensures at c.draw_in.ensures in
    IsPlaced-drawn g.row.K way.lead way.up (k (start way.up c.args.region.now.lo.coordinates c.args.region.now.hi.coordinates)) (k c.args.past.now.coordinates) c.args.b.now.lo.coordinates c.args.b.now.hi.coordinates c.args.c.now.coordinates c.args.n.now.coordinates c.draw_in.new.n.coordinates
    way.lead_in c.requires.has drawn c.requires.placed

-- the record is open at the jump that was drawn in
open_drawn : (g : _) (c : After-draw_in g) (T : ℕ → List ℤ → List ℤ → Bool) (base : List Event)
    → IsOpen g.row.K c.args.way.now.lead c.args.way.now.up T (key g.row.K c.args.way.now.lead c.args.way.now.up (start c.args.way.now.up c.args.region.now.lo.coordinates c.args.region.now.hi.coordinates)) (key g.row.K c.args.way.now.lead c.args.way.now.up c.args.past.now.coordinates) (g.row.K - 1) (key g.row.K c.args.way.now.lead c.args.way.now.up c.args.c.now.coordinates) (key g.row.K c.args.way.now.lead c.args.way.now.up c.args.n.now.coordinates) c.args.marks.now.places base (g.R.Recorder.list c.args.rec.now)
    → IsOpen g.row.K c.args.way.now.lead c.args.way.now.up T (key g.row.K c.args.way.now.lead c.args.way.now.up c.start-first.result.now.coordinates) (key g.row.K c.args.way.now.lead c.args.way.now.up c.args.past.now.coordinates) (g.row.K - 1) (key g.row.K c.args.way.now.lead c.args.way.now.up c.args.c.now.coordinates) (key g.row.K c.args.way.now.lead c.args.way.now.up c.draw_in.new.n.coordinates) c.args.marks.now.places base (g.R.Recorder.list c.args.rec.now)
open_drawn g c T base o =
    let way = c.args.way.now in
    let k = key g.row.K way.lead way.up in
    rw c.start-first.ensures (IsOpen-drawn g.row.K way.lead way.up T (k (start way.up c.args.region.now.lo.coordinates c.args.region.now.hi.coordinates)) (k c.args.past.now.coordinates) base (g.row.K - 1) (k c.args.c.now.coordinates) (k c.args.n.now.coordinates) (k c.draw_in.new.n.coordinates) c.args.marks.now.places (g.R.Recorder.list c.args.rec.now)
    (omega arith) (λ i b. omega (arith, ints, clamps, drawn_key g c i b)) o)

-- the sweep jumps on
jumps : (g : _) (c : Then-advance_between g) → ((i : ℕ) → i < g.row.K → key g.row.K c.args.way.now.lead c.args.way.now.up c.draw_in.new.n.coordinates i ≡ int_min (key g.row.K c.args.way.now.lead c.args.way.now.up c.args.n.now.coordinates i) (key g.row.K c.args.way.now.lead c.args.way.now.up (end c.args.way.now.up c.args.b.now.lo.coordinates c.args.b.now.hi.coordinates) i +ℤ pos 1))
    → JumpsOn g.row.K c.args.way.now.lead c.args.way.now.up c.args.region.now.lo.coordinates c.args.region.now.hi.coordinates c.args.b.now.lo.coordinates c.args.b.now.hi.coordinates c.args.past.now.coordinates c.args.c.now.coordinates c.args.n.now.coordinates c.advance_between.new.c.coordinates c.advance_between.new.n.coordinates
jumps g c drawn =
    let step = rw c.start-first.ensures at c.if-advance_between.ensures in
    jump_over_lem g.row.K c.args.way.now.lead c.args.way.now.up c.args.region.now.lo.coordinates c.args.region.now.hi.coordinates c.args.b.now.lo.coordinates c.args.b.now.hi.coordinates c.args.past.now.coordinates c.args.c.now.coordinates c.args.n.now.coordinates c.draw_in.new.n.coordinates c.args.way.now.lead_in
    (λ i b. c.requires.past (dimension g.row.K c.args.way.now.lead i) (dimension_in g.row.K c.args.way.now.lead i c.args.way.now.lead_in b)) c.requires.placed c.requires.has drawn true c.advance_between.new.c.coordinates c.advance_between.new.n.coordinates step

stops_at : (g : _) (c : Then-advance_between g) → c.if-advance_between.ensures.level ≡ c.in-Ok.j
stops_at g c = level_is g.row.K c.in-Ok.j (key g.row.K c.args.way.now.lead c.args.way.now.up c.start-first.result.now.coordinates) (key g.row.K c.args.way.now.lead c.args.way.now.up c.args.past.now.coordinates) (key g.row.K c.args.way.now.lead c.args.way.now.up c.args.c.now.coordinates) (key g.row.K c.args.way.now.lead c.args.way.now.up c.draw_in.new.n.coordinates) (key g.row.K c.args.way.now.lead c.args.way.now.up c.advance_between.new.c.coordinates) (key g.row.K c.args.way.now.lead c.args.way.now.up c.advance_between.new.n.coordinates) c.if-advance_between.ensures c.in-Ok.ensures.level c.in-Ok.ensures.ran_out c.in-Ok.ensures.more

-- then the chains down to the one that did not run out are open
open_advanced : (g : _) (c : Then-advance_between g) → ((T : ℕ → List ℤ → List ℤ → Bool) (base : List Event) → IsOpen g.row.K c.args.way.now.lead c.args.way.now.up T (key g.row.K c.args.way.now.lead c.args.way.now.up (start c.args.way.now.up c.args.region.now.lo.coordinates c.args.region.now.hi.coordinates)) (key g.row.K c.args.way.now.lead c.args.way.now.up c.args.past.now.coordinates) (g.row.K - 1) (key g.row.K c.args.way.now.lead c.args.way.now.up c.args.c.now.coordinates) (key g.row.K c.args.way.now.lead c.args.way.now.up c.args.n.now.coordinates) c.args.marks.now.places base (g.R.Recorder.list c.args.rec.now) → IsOpen g.row.K c.args.way.now.lead c.args.way.now.up T (key g.row.K c.args.way.now.lead c.args.way.now.up c.start-first.result.now.coordinates) (key g.row.K c.args.way.now.lead c.args.way.now.up c.args.past.now.coordinates) (g.row.K - 1) (key g.row.K c.args.way.now.lead c.args.way.now.up c.args.c.now.coordinates) (key g.row.K c.args.way.now.lead c.args.way.now.up c.draw_in.new.n.coordinates) c.args.marks.now.places base (g.R.Recorder.list c.args.rec.now))
    → g.R.Recorder.keeps ≡ true → (T : ℕ → List ℤ → List ℤ → Bool) (base : List Event) → T c.args.number c.args.b.now.lo.coordinates c.args.b.now.hi.coordinates ≡ true → IsOpen g.row.K c.args.way.now.lead c.args.way.now.up T (key g.row.K c.args.way.now.lead c.args.way.now.up (start c.args.way.now.up c.args.region.now.lo.coordinates c.args.region.now.hi.coordinates)) (key g.row.K c.args.way.now.lead c.args.way.now.up c.args.past.now.coordinates) (g.row.K - 1) (key g.row.K c.args.way.now.lead c.args.way.now.up c.args.c.now.coordinates) (key g.row.K c.args.way.now.lead c.args.way.now.up c.args.n.now.coordinates) c.args.marks.now.places base (g.R.Recorder.list c.args.rec.now)
    → IsOpen g.row.K c.args.way.now.lead c.args.way.now.up T (key g.row.K c.args.way.now.lead c.args.way.now.up c.start-first.result.now.coordinates) (key g.row.K c.args.way.now.lead c.args.way.now.up c.args.past.now.coordinates) c.in-Ok.j (key g.row.K c.args.way.now.lead c.args.way.now.up c.advance_between.new.c.coordinates) (key g.row.K c.args.way.now.lead c.args.way.now.up c.advance_between.new.n.coordinates) c.args.marks.now.places base (g.R.Recorder.list c.record_turn.new.rec)
open_advanced g c drawn kept T base r o =
    IsOpen-advanced g.row.K c.args.way.now.lead c.args.way.now.up T (key g.row.K c.args.way.now.lead c.args.way.now.up c.start-first.result.now.coordinates) (key g.row.K c.args.way.now.lead c.args.way.now.up c.args.past.now.coordinates) base c.in-Ok.j (key g.row.K c.args.way.now.lead c.args.way.now.up c.args.c.now.coordinates) (key g.row.K c.args.way.now.lead c.args.way.now.up c.draw_in.new.n.coordinates) (key g.row.K c.args.way.now.lead c.args.way.now.up c.advance_between.new.c.coordinates) (key g.row.K c.args.way.now.lead c.args.way.now.up c.advance_between.new.n.coordinates) c.args.marks.now.places (g.R.Recorder.list c.record_turn.new.rec)
    c.if-advance_between.ensures (stops_at g c) (c.in-Ok.ensures.recorded kept T base r (drawn T base o))

pub record_turn-requires : goal.record_turn-requires
record_turn-requires g c =
    let a = (goal.at.record_turn-requires g c).After-draw_in in
    let way = c.args.way.now in
    let bounded = placed_bounded g.row.K c.args.way.now.lead c.args.way.now.up c.args.region.now.lo.coordinates c.args.region.now.hi.coordinates c.args.past.now.coordinates c.args.c.now.coordinates c.draw_in.new.n.coordinates way.lead_in c.requires.small.0 c.requires.small.1 c.requires.past (placed_drawn g a) in
    let drawn : (i : ℕ) → i < g.row.K → key g.row.K c.args.way.now.lead c.args.way.now.up c.draw_in.new.n.coordinates i ≤ℤ (key g.row.K c.args.way.now.lead c.args.way.now.up (end c.args.way.now.up c.args.b.now.lo.coordinates c.args.b.now.hi.coordinates) i +ℤ pos 1) = λ i b. omega (arith, ints, clamps, drawn_key g a i b) in
    let recorded : g.R.Recorder.keeps ≡ true → SomeOpenBy g.row.K c.args.way.now.lead c.args.way.now.up c.args.number c.args.b.now.lo.coordinates c.args.b.now.hi.coordinates (key g.row.K c.args.way.now.lead c.args.way.now.up c.start-first.result.now.coordinates) (key g.row.K c.args.way.now.lead c.args.way.now.up c.args.past.now.coordinates) (key g.row.K c.args.way.now.lead c.args.way.now.up c.args.c.now.coordinates) (key g.row.K c.args.way.now.lead c.args.way.now.up c.draw_in.new.n.coordinates) c.args.marks.now.places (g.R.Recorder.list c.args.rec.now) = λ kept. (let w = c.requires.recorded kept in record { test = w.test; base = w.base; known = w.known; is_open = open_drawn g a w.test w.base w.is_open }) in
    search rules

pub open_chains-requires : goal.open_chains-requires
open_chains-requires g c =
    let a = (goal.at.open_chains-requires g c).Then-advance_between in
    let way = c.args.way.now in
    let j = jumps g a (drawn_key g (goal.at.open_chains-requires g c).After-draw_in) in
    let bounded = placed_bounded g.row.K c.args.way.now.lead c.args.way.now.up c.args.region.now.lo.coordinates c.args.region.now.hi.coordinates c.args.past.now.coordinates c.advance_between.new.c.coordinates c.advance_between.new.n.coordinates way.lead_in c.requires.small.0 c.requires.small.1 c.requires.past j.placed in
    let at_j = stops_at g a in
    let fresh : (i : ℕ) → c.in-Ok.j < i → i < g.row.K → key g.row.K c.args.way.now.lead c.args.way.now.up c.advance_between.new.c.coordinates i ≡ key g.row.K c.args.way.now.lead c.args.way.now.up c.start-first.result.now.coordinates i = λ i above b. (let l : c.if-advance_between.ensures.level < i = omega (arith, at_j) in (c.if-advance_between.ensures.ran_out i l b).1) in
    search rules

pub returns-in-Err : goal.returns-in-Err
returns-in-Err g c = record {
  jump = tt;
  recorded = tt;
  size = tt;
  few = λ kept. inl (omega (arith, c.in-Err.ensures.few kept));
  grows = λ T base h. c.in-Err.ensures.grows T base (λ kept. ((h kept).0, open_drawn g (goal.at.returns-in-Err g c).After-draw_in T base (h kept).1));
}

pub returns-in-Err-open_chains : goal.returns-in-Err-open_chains
returns-in-Err-open_chains g c = record {
  jump = tt;
  recorded = tt;
  size = tt;
  few = λ kept. inr (
    jumps g (goal.at.returns-in-Err-open_chains g c).Then-advance_between (drawn_key g (goal.at.returns-in-Err-open_chains g c).After-draw_in),
    omega (arith, c.in-Ok.ensures.length kept, c.in-Err-open_chains.ensures.few kept),
  );
  grows = λ T base h.
      growth_on (c.in-Ok.ensures.grows T base (λ kept. ((h kept).0, open_drawn g (goal.at.returns-in-Err-open_chains g c).After-draw_in T base (h kept).1))) c.in-Err-open_chains.ensures.grows;
}

pub returns-in-Ok-open_chains : goal.returns-in-Ok-open_chains
returns-in-Ok-open_chains g c = record {
  jump = jumps g (goal.at.returns-in-Ok-open_chains g c).Then-advance_between (drawn_key g (goal.at.returns-in-Ok-open_chains g c).After-draw_in);
  recorded = λ kept T base r o.
      let w = c.in-Ok-open_chains.ensures.recorded kept T base (open_advanced g (goal.at.returns-in-Ok-open_chains g c).Then-advance_between (open_drawn g (goal.at.returns-in-Ok-open_chains g c).After-draw_in) kept T base r o) in
      rw c.start-first.ensures at w;
  size = λ kept. omega (arith, c.in-Ok.ensures.length kept, c.in-Ok-open_chains.ensures.length kept);
  few = tt;
  grows = λ T base h.
      growth_on (c.in-Ok.ensures.grows T base (λ kept. ((h kept).0, open_drawn g (goal.at.returns-in-Ok-open_chains g c).After-draw_in T base (h kept).1))) c.in-Ok-open_chains.ensures.grows;
}

pub returns-in-Err-add : goal.returns-in-Err-add
returns-in-Err-add g c = record {
  jump = tt;
  recorded = tt;
  size = tt;
  few = λ kept. inl (omega (arith, c.in-Ok.ensures.length kept, ap length (c.in-Err-add.ensures.err kept)));
  grows = λ T base h.
      growth_on (c.in-Ok.ensures.grows T base (λ kept. ((h kept).0, open_drawn g (goal.at.returns-in-Err-add g c).After-draw_in T base (h kept).1))) (growth_refused c.in-Err-add.ensures.err c.add.ensures.refusals c.in-Err-add.ensures.refused c.in-Err-add.ensures.no_record);
}

pub returns-in-Ok-add : goal.returns-in-Ok-add
returns-in-Ok-add g c =
    let out = c.if-advance_between.ensures in
    record {
      jump = jump_over_lem g.row.K c.args.way.now.lead c.args.way.now.up c.args.region.now.lo.coordinates c.args.region.now.hi.coordinates c.args.b.now.lo.coordinates c.args.b.now.hi.coordinates c.args.past.now.coordinates c.args.c.now.coordinates c.args.n.now.coordinates c.draw_in.new.n.coordinates c.args.way.now.lead_in
          (λ i b. c.requires.past (dimension g.row.K c.args.way.now.lead i) (dimension_in g.row.K c.args.way.now.lead i c.args.way.now.lead_in b)) c.requires.placed c.requires.has (drawn_key g (goal.at.returns-in-Ok-add g c).After-draw_in) false c.advance_between.new.c.coordinates c.advance_between.new.n.coordinates c.if-advance_between.ensures;
      recorded = λ kept T base r o.
          let none : c.in-Ok.j ≡ 0 = elim (cases_lt 0 c.in-Ok.j) [ inl l ↦ absurd (c.in-Ok.ensures.more l (out c.in-Ok.j c.in-Ok.ensures.level)) | inr m ↦ omega arith ] in
          let was = c.in-Ok.ensures.recorded kept T base r (open_drawn g (goal.at.returns-in-Ok-add g c).After-draw_in T base o) in
          rw (c.in-Ok-add.ensures.ok kept) (finished_region g.row.K c.args.way.now.lead c.args.way.now.up T c.args.region.now.lo.coordinates c.args.region.now.hi.coordinates c.args.past.now.coordinates base (key g.row.K c.args.way.now.lead c.args.way.now.up c.args.c.now.coordinates) (key g.row.K c.args.way.now.lead c.args.way.now.up c.draw_in.new.n.coordinates) c.args.marks.now.places (g.R.Recorder.list c.record_turn.new.rec) c.in-Ok.j c.args.way.now.lead_in c.requires.past none (out 0 (omega arith)) (rw c.start-first.ensures at was));
      size = λ kept. omega (arith, c.in-Ok.ensures.length kept, ap length (c.in-Ok-add.ensures.ok kept), length-append (g.R.Recorder.list c.record_turn.new.rec) (By 1 ∷ []));
      few = tt;
      grows = λ T base h.
          growth_on (c.in-Ok.ensures.grows T base (λ kept. ((h kept).0, open_drawn g (goal.at.returns-in-Ok-add g c).After-draw_in T base (h kept).1))) (growth_added _ c.in-Ok-add.ensures.ok c.add.ensures.refusals);
    }
