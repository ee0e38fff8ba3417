use Rattle.std.proofs.Common.{map, arith}
use Rattle.geo_conditions.specs.Regions.{region_of}
use Rattle.sweep.proofs.Between.{swept_of, failed_first, IsBetween-first, HasSwept-at, HasFound-here, HasFound-none, HasSwept-failed, IsBetween-turn, few_after_stop}
use Rattle.sweep.specs.Sweep.{refutes_pick}
use Rattle.sweep.proofs.Turns.{remaining_turn}
use Rattle.sweep.proofs.first_point.sweep_turns.Goals as goal

pub returns-in-Err : goal.returns-in-Err
returns-in-Err g c =
    let way = c.args.way.now in
    let cs = map g.I.Indexical.cond c.args.list.now in
    let b = region_of c.args.region.now in
    let w = swept_of g.row.K way.lead way.up g.I.Indexical.cond c.args.list.now c.args.picks.now c.args.s.now c.args.o.0 c.args.place b c.args.past.now.coordinates c.args.c.now.coordinates c.args.n.now.coordinates way.lead_in c.requires.fits c.requires.object c.requires.picks c.requires.begun in
    failed_first g.row.K way.lead way.up g.R.Recorder.keeps cs c.args.picks.now c.args.s.now c.args.o.0 c.args.place b c.args.past.now.coordinates c.args.c.now.coordinates c.args.n.now.coordinates (g.R.Recorder.list c.args.rec.now) (g.R.Recorder.refusals c.args.rec.now) c.args.steps.now w (g.R.Recorder.list c.open_chains.new.rec) (g.R.Recorder.refusals c.open_chains.new.rec) _ _ c.in-Err.ensures.few tt c.in-Err.ensures.grows

pub turns-init : goal.turns-init
turns-init g c =
    let way = c.args.way.now in
    let cs = map g.I.Indexical.cond c.args.list.now in
    let b = region_of c.args.region.now in
    let w = swept_of g.row.K way.lead way.up g.I.Indexical.cond c.args.list.now c.args.picks.now c.args.s.now c.args.o.0 c.args.place b c.args.past.now.coordinates c.args.c.now.coordinates c.args.n.now.coordinates way.lead_in c.requires.fits c.requires.object c.requires.picks c.requires.begun in
    record {
      from_in = omega arith;
      between = IsBetween-first g.row.K way.lead way.up g.R.Recorder.keeps cs c.args.picks.now c.args.s.now c.args.o.0 c.args.place b c.args.past.now.coordinates c.args.c.now.coordinates c.args.n.now.coordinates (g.R.Recorder.list c.args.rec.now) (g.R.Recorder.refusals c.args.rec.now) c.args.steps.now w c.args.marks.now.places c.open_chains.new.marks.places (g.R.Recorder.list c.open_chains.new.rec) (g.R.Recorder.refusals c.open_chains.new.rec) c.in-Ok.ensures.recorded c.in-Ok.ensures.length c.in-Ok.ensures.grows.refusals;
    }

pub returns-in-Err-stop : goal.returns-in-Err-stop
returns-in-Err-stop g c =
    let way = c.args.way.now in
    let cs = map g.I.Indexical.cond c.args.list.now in
    let b = region_of c.args.region.now in
    let w = swept_of g.row.K way.lead way.up g.I.Indexical.cond c.args.list.now c.args.picks.now c.args.s.now c.args.o.0 c.args.place b c.args.past.now.coordinates c.args.c.now.coordinates c.args.n.now.coordinates way.lead_in c.requires.fits c.requires.object c.requires.picks c.requires.begun in
    HasSwept-at g.row.K way.lead way.up g.R.Recorder.keeps cs c.args.picks.now c.args.s.now c.args.o.0 c.args.place b c.args.past.now.coordinates c.args.c.now.coordinates c.args.n.now.coordinates (g.R.Recorder.list c.args.rec.now) (g.R.Recorder.refusals c.args.rec.now) c.args.steps.now w c.turns.c.coordinates c.turns.n.coordinates c.turns.marks.places (g.R.Recorder.list c.turns.rec) (g.R.Recorder.refusals c.turns.rec) c.turns.steps c.turns.invariant.between (g.R.Recorder.list c.stop.new.rec) (g.R.Recorder.refusals c.stop.new.rec) c.ask.new.steps _ _ c.in-None.ensures.asked
    (few_after_stop g.row.K _ _ c.in-Err-stop.ensures.few) tt (c.in-Err-stop.ensures.grows (refutes_pick cs c.args.picks.now c.args.s.now c.args.o.0 c.args.place) (g.R.Recorder.list c.args.rec.now) c.turns.invariant.between.recorded)

pub returns-in-Ok-stop : goal.returns-in-Ok-stop
returns-in-Ok-stop g c =
    let way = c.args.way.now in
    let cs = map g.I.Indexical.cond c.args.list.now in
    let b = region_of c.args.region.now in
    let w = swept_of g.row.K way.lead way.up g.I.Indexical.cond c.args.list.now c.args.picks.now c.args.s.now c.args.o.0 c.args.place b c.args.past.now.coordinates c.args.c.now.coordinates c.args.n.now.coordinates way.lead_in c.requires.fits c.requires.object c.requires.picks c.requires.begun in
    HasSwept-at g.row.K way.lead way.up g.R.Recorder.keeps cs c.args.picks.now c.args.s.now c.args.o.0 c.args.place b c.args.past.now.coordinates c.args.c.now.coordinates c.args.n.now.coordinates (g.R.Recorder.list c.args.rec.now) (g.R.Recorder.refusals c.args.rec.now) c.args.steps.now w c.turns.c.coordinates c.turns.n.coordinates c.turns.marks.places (g.R.Recorder.list c.turns.rec) (g.R.Recorder.refusals c.turns.rec) c.turns.steps c.turns.invariant.between (g.R.Recorder.list c.stop.new.rec) (g.R.Recorder.refusals c.stop.new.rec) c.ask.new.steps _ _ c.in-None.ensures.asked
    (few_after_stop g.row.K _ _ c.in-Ok-stop.ensures.few) (HasFound-here g.row.K way.lead way.up g.R.Recorder.keeps cs c.args.picks.now c.args.s.now c.args.o.0 c.args.place b c.args.past.now.coordinates c.args.c.now.coordinates c.args.n.now.coordinates (g.R.Recorder.list c.args.rec.now) (g.R.Recorder.refusals c.args.rec.now) c.args.steps.now w c.turns.c.coordinates c.turns.n.coordinates c.turns.marks.places (g.R.Recorder.list c.turns.rec) (g.R.Recorder.refusals c.turns.rec) c.turns.steps c.turns.invariant.between (g.R.Recorder.list c.stop.new.rec) c.dimensions-coordinates.ensures.list c.in-None.ensures.none c.in-Ok-stop.ensures.covered)
    (c.in-Ok-stop.ensures.grows (refutes_pick cs c.args.picks.now c.args.s.now c.args.o.0 c.args.place) (g.R.Recorder.list c.args.rec.now) c.turns.invariant.between.recorded)

pub returns-in-Err-turn : goal.returns-in-Err-turn
returns-in-Err-turn g c =
    let way = c.args.way.now in
    let cs = map g.I.Indexical.cond c.args.list.now in
    let b = region_of c.args.region.now in
    let w = swept_of g.row.K way.lead way.up g.I.Indexical.cond c.args.list.now c.args.picks.now c.args.s.now c.args.o.0 c.args.place b c.args.past.now.coordinates c.args.c.now.coordinates c.args.n.now.coordinates way.lead_in c.requires.fits c.requires.object c.requires.picks c.requires.begun in
    HasSwept-failed g.row.K way.lead way.up g.R.Recorder.keeps cs c.args.picks.now c.args.s.now c.args.o.0 c.args.place b c.args.past.now.coordinates c.args.c.now.coordinates c.args.n.now.coordinates (g.R.Recorder.list c.args.rec.now) (g.R.Recorder.refusals c.args.rec.now) c.args.steps.now w c.turns.c.coordinates c.turns.n.coordinates c.turns.marks.places (g.R.Recorder.list c.turns.rec) (g.R.Recorder.refusals c.turns.rec) c.turns.steps c.turns.invariant.between c.in-Some.k (region_of c.in-Some.b) c.in-Some.ensures.forbidden c.turn.new.c.coordinates c.turn.new.n.coordinates (g.R.Recorder.list c.turn.new.rec) (g.R.Recorder.refusals c.turn.new.rec) c.ask.new.steps _ _ c.in-Some.ensures.asked
    c.in-Err-turn.ensures.few tt (c.in-Err-turn.ensures.grows (refutes_pick cs c.args.picks.now c.args.s.now c.args.o.0 c.args.place) (g.R.Recorder.list c.args.rec.now) (λ kept. (c.in-Some.ensures.forbidden.known, c.turns.invariant.between.recorded kept)))

pub returns-then-not-more : goal.returns-then-not-more
returns-then-not-more g c =
    let way = c.args.way.now in
    let cs = map g.I.Indexical.cond c.args.list.now in
    let b = region_of c.args.region.now in
    let w = swept_of g.row.K way.lead way.up g.I.Indexical.cond c.args.list.now c.args.picks.now c.args.s.now c.args.o.0 c.args.place b c.args.past.now.coordinates c.args.c.now.coordinates c.args.n.now.coordinates way.lead_in c.requires.fits c.requires.object c.requires.picks c.requires.begun in
    HasSwept-at g.row.K way.lead way.up g.R.Recorder.keeps cs c.args.picks.now c.args.s.now c.args.o.0 c.args.place b c.args.past.now.coordinates c.args.c.now.coordinates c.args.n.now.coordinates (g.R.Recorder.list c.args.rec.now) (g.R.Recorder.refusals c.args.rec.now) c.args.steps.now w c.turns.c.coordinates c.turns.n.coordinates c.turns.marks.places (g.R.Recorder.list c.turns.rec) (g.R.Recorder.refusals c.turns.rec) c.turns.steps c.turns.invariant.between (g.R.Recorder.list c.turn.new.rec) (g.R.Recorder.refusals c.turn.new.rec) c.ask.new.steps _ _ c.in-Some.ensures.asked
    (rw c.if-not-more.true at c.in-Ok-turn.ensures.size)
    (HasFound-none g.row.K way.lead way.up g.R.Recorder.keeps cs c.args.picks.now c.args.s.now c.args.o.0 c.args.place b c.args.past.now.coordinates c.args.c.now.coordinates c.args.n.now.coordinates (g.R.Recorder.list c.args.rec.now) (g.R.Recorder.refusals c.args.rec.now) c.args.steps.now w c.turns.c.coordinates c.turns.n.coordinates c.turns.marks.places (g.R.Recorder.list c.turns.rec) (g.R.Recorder.refusals c.turns.rec) c.turns.steps c.turns.invariant.between c.in-Some.k (region_of c.in-Some.b) c.in-Some.ensures.forbidden (g.R.Recorder.list c.turn.new.rec) (rw c.if-not-more.true at c.in-Ok-turn.ensures.jump) (rw c.if-not-more.true at c.in-Ok-turn.ensures.recorded))
    (c.in-Ok-turn.ensures.grows (refutes_pick cs c.args.picks.now c.args.s.now c.args.o.0 c.args.place) (g.R.Recorder.list c.args.rec.now) (λ kept. (c.in-Some.ensures.forbidden.known, c.turns.invariant.between.recorded kept)))

pub turns-smaller : goal.turns-smaller
turns-smaller g c =
    let way = c.args.way.now in
    let jump = rw c.if-not-more.false at c.in-Ok-turn.ensures.jump in
    remaining_turn g.row.K way.lead way.up c.args.region.now.lo.coordinates c.args.region.now.hi.coordinates c.args.past.now.coordinates c.turns.c.coordinates c.turns.n.coordinates c.turn.new.c.coordinates c.turn.new.n.coordinates way.lead_in c.requires.small.0 c.requires.small.1 c.requires.begun.past_is c.turns.invariant.between.placed jump.placed jump.after

pub turns-preserved : goal.turns-preserved
turns-preserved g c =
    let way = c.args.way.now in
    let cs = map g.I.Indexical.cond c.args.list.now in
    let b = region_of c.args.region.now in
    let w = swept_of g.row.K way.lead way.up g.I.Indexical.cond c.args.list.now c.args.picks.now c.args.s.now c.args.o.0 c.args.place b c.args.past.now.coordinates c.args.c.now.coordinates c.args.n.now.coordinates way.lead_in c.requires.fits c.requires.object c.requires.picks c.requires.begun in
    record {
      from_in = omega (arith, c.in-Some.ensures.forbidden.pick.0);
      between = IsBetween-turn g.row.K way.lead way.up g.R.Recorder.keeps cs c.args.picks.now c.args.s.now c.args.o.0 c.args.place b c.args.past.now.coordinates c.args.c.now.coordinates c.args.n.now.coordinates (g.R.Recorder.list c.args.rec.now) (g.R.Recorder.refusals c.args.rec.now) c.args.steps.now w c.turns.c.coordinates c.turns.n.coordinates c.turns.marks.places (g.R.Recorder.list c.turns.rec) (g.R.Recorder.refusals c.turns.rec) c.turns.steps c.turns.invariant.between c.in-Some.k (region_of c.in-Some.b) c.in-Some.ensures.forbidden c.turn.new.c.coordinates c.turn.new.n.coordinates c.turn.new.marks.places (g.R.Recorder.list c.turn.new.rec) (g.R.Recorder.refusals c.turn.new.rec) c.ask.new.steps c.in-Some.ensures.asked
          (rw c.if-not-more.false at c.in-Ok-turn.ensures.jump) (rw c.if-not-more.false at c.in-Ok-turn.ensures.size) (rw c.if-not-more.false at c.in-Ok-turn.ensures.recorded)
          (c.in-Ok-turn.ensures.grows (refutes_pick cs c.args.picks.now c.args.s.now c.args.o.0 c.args.place) (g.R.Recorder.list c.args.rec.now) (λ kept. (c.in-Some.ensures.forbidden.known, c.turns.invariant.between.recorded kept))).refusals;
    }
