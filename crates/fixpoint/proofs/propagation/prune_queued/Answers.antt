use Rattle.std.proofs.Common.{◌≡◌, ◌<◌, ℕ, Bool, List, Ok, false, map, length, ap, sym, ◌∙◌, subst, refl, arith, rules}
use Rattle.std.proofs.Math.ListN.{length-set}
use Rattle.geo_conditions.proofs.Points.{inside_trans}
use Rattle.indexical.specs.declared.any.AnyIndexical.{AnyIndexical}
use Rattle.object_pruning.specs.declared.prune.Pruned.{Pruned}
use Rattle.object_pruning.specs.declared.prune.Pruned.TheVariants.{Empty, Changed, Same}
use Rattle.fixpoint.specs.Links.{AreLinks}
use Rattle.fixpoint.specs.Kept.{AllStand}
use Rattle.fixpoint.specs.Marks.{IsSquare}
use Rattle.fixpoint.specs.Near.{Unhindered}
use Rattle.fixpoint.specs.Queue.{Prunes, Queues, RestFine}
use Rattle.fixpoint.specs.Record.{RecordsPruning}
use Rattle.object_pruning.proofs.Cases.{from_none}
use Rattle.fixpoint.proofs.Turns.{Going, measure, going_start, going_same, going_changed, gone_kept, gone_dead, rest_dead, smaller_same, smaller_changed}
use Rattle.fixpoint.proofs.Record.{records_start, records_on, records_dead}
use Rattle.derivation.proofs.Continuing.{growth_none, growth_on}
use Rattle.watches.specs.Watches.{Hold}
use Rattle.fixpoint.proofs.propagation.prune_queued.Goals as goal

pub loop-o-init : goal.loop-o-init
loop-o-init g c =
    let cs = map (λ (x : AnyIndexical g.row.K). x.cond) c.args.list.now in
    let S = c.args.t.now.state in
    record {
      going = going_start cs S c.args.queued.now c.requires.fits c.requires.objects.0 c.requires.fine c.requires.bare;
      next = omega arith;
      levels = (refl, refl);
      square = c.requires.square;
      stand = c.requires.stand;
      hold = c.requires.hold;
      recorded = λ kept. records_start cs S (g.R.Recorder.list c.args.rec.now);
      grows = growth_none _ _ _;
    }

pub prune_and_wake-requires : goal.prune_and_wake-requires
prune_and_wake-requires g c =
    let cs = map (λ (x : AnyIndexical g.row.K). x.cond) c.args.list.now in
    let i = c.loop-o.invariant in
    let objects : length c.args.queued.now ≡ length c.loop-o.t.state = c.requires.objects.0 ∙ sym i.going.keeps.inside.objects in
    let slots : length c.loop-o.kept ≡ length c.loop-o.t.state = c.loop-o.auto.kept ∙ c.requires.objects.1 ∙ sym i.going.keeps.inside.objects in
    let stand : AllStand cs c.loop-o.t.state c.loop-o.dirty c.loop-o.kept = i.stand in
    let hold : Hold cs c.loop-o.t.state c.loop-o.watches = i.hold in
    let square : IsSquare (length c.loop-o.t.state) c.loop-o.dirty = subst (λ (n : ℕ). IsSquare n c.loop-o.dirty) objects i.square in
    let marks : length c.pop.new.queued ≡ length c.loop-o.t.state = ap length c.in-Some.ensures.2 ∙ length-set c.loop-o.queued c.in-Some.o false ∙ i.going.objects in
    let links : AreLinks cs (length c.loop-o.t.state) c.args.links.now = subst (λ (n : ℕ). AreLinks cs n c.args.links.now) objects c.requires.links in
    let fits = i.going.fits in
    let object : c.in-Some.o < length c.loop-o.t.state = omega (arith, c.in-Some.ensures.0, i.going.objects) in
    search rules

pub loop-o-smaller-in-Ok-Same : goal.loop-o-smaller-in-Ok-Same
loop-o-smaller-in-Ok-Same g c =
    let cs = map (λ (x : AnyIndexical g.row.K). x.cond) c.args.list.now in
    let R = c.loop-o.t.state in
    let T = c.prune_and_wake.new.t.state in
    let o = c.in-Some.o in
    let e = c.in-Ok-Same.field-0-is in
    let pruned : Prunes cs R o Same T = subst (λ (a : Pruned). Prunes cs R o a T) e c.in-Ok-Same.ensures.pruned in
    let left : c.prune_and_wake.new.queued ≡ c.pop.new.queued = c.in-Ok-Same.ensures.same (ap Ok e) in
    subst (λ (l : List Bool). measure T l < measure R c.loop-o.queued) (sym left) (smaller_same R T c.loop-o.queued c.pop.new.queued o c.in-Some.ensures pruned.0)

pub loop-o-preserved-in-Ok-Same : goal.loop-o-preserved-in-Ok-Same
loop-o-preserved-in-Ok-Same g c =
    let cs = map (λ (x : AnyIndexical g.row.K). x.cond) c.args.list.now in
    let S = c.args.t.now.state in
    let R = c.loop-o.t.state in
    let T = c.prune_and_wake.new.t.state in
    let o = c.in-Some.o in
    let i = c.loop-o.invariant in
    let e = c.in-Ok-Same.field-0-is in
    let mid = g.R.Recorder.list c.loop-o.rec in
    let new = g.R.Recorder.list c.prune_and_wake.new.rec in
    let pruned : Prunes cs R o Same T = subst (λ (a : Pruned). Prunes cs R o a T) e c.in-Ok-Same.ensures.pruned in
    let left : c.prune_and_wake.new.queued ≡ c.pop.new.queued = c.in-Ok-Same.ensures.same (ap Ok e) in
    let long : length c.pop.new.queued ≡ length c.loop-o.queued = ap length c.in-Some.ensures.2 ∙ length-set c.loop-o.queued o false in
    record {
      going = subst (λ (l : List Bool). Going cs S T l) (sym left) (going_same cs S R T c.loop-o.queued c.pop.new.queued o i.going c.in-Some.ensures pruned);
      next = omega (arith, c.prune_and_wake.auto.queued, long, c.in-Some.ensures.0);
      levels = (c.prune_and_wake.ensures.levels.0 ∙ i.levels.0, c.prune_and_wake.ensures.levels.1 ∙ i.levels.1);
      square = subst (λ (n : ℕ). IsSquare n c.prune_and_wake.new.dirty) (i.going.keeps.inside.objects ∙ sym c.requires.objects.0) c.prune_and_wake.ensures.square;
      stand = c.prune_and_wake.ensures.stand;
      hold = c.prune_and_wake.ensures.hold;
      recorded = λ kept. records_on cs S R T (g.R.Recorder.list c.args.rec.now) mid new (i.recorded kept) (subst (λ (a : Pruned). RecordsPruning cs R a T mid new) e (c.in-Ok-Same.ensures.record kept));
      grows = growth_on i.grows c.in-Ok-Same.ensures.grows;
    }

pub returns-clause-settles : goal.returns-clause-settles
returns-clause-settles g c = gone_kept _ c.args.t.now.state c.loop-o.t.state c.loop-o.queued c.loop-o.invariant.going (from_none _ _ c.pop.result c.in_default.is c.pop.ensures).0

pub returns-clause-fine : goal.returns-clause-fine
returns-clause-fine g c =
    let cs = map (λ (x : AnyIndexical g.row.K). x.cond) c.args.list.now in
    subst (RestFine cs c.loop-o.t.state) (sym (from_none _ _ c.pop.result c.in_default.is c.pop.ensures).1) c.loop-o.invariant.going.fine

pub returns-in-Ok-Empty-clause-settles : goal.returns-in-Ok-Empty-clause-settles
returns-in-Ok-Empty-clause-settles g c =
    let cs = map (λ (x : AnyIndexical g.row.K). x.cond) c.args.list.now in
    let R = c.loop-o.t.state in
    let T = c.prune_and_wake.new.t.state in
    let pruned : Prunes cs R c.in-Some.o Empty T = subst (λ (a : Pruned). Prunes cs R c.in-Some.o a T) c.in-Ok-Empty.field-0-is c.in-Ok-Empty.ensures.pruned in
    gone_dead cs c.args.t.now.state R T c.loop-o.queued c.loop-o.invariant.going pruned.0 pruned.1

pub returns-in-Ok-Empty-clause-record : goal.returns-in-Ok-Empty-clause-record
returns-in-Ok-Empty-clause-record g c = λ kept.
    let cs = map (λ (x : AnyIndexical g.row.K). x.cond) c.args.list.now in
    let R = c.loop-o.t.state in
    let T = c.prune_and_wake.new.t.state in
    let mid = g.R.Recorder.list c.loop-o.rec in
    let new = g.R.Recorder.list c.prune_and_wake.new.rec in
    records_dead cs c.args.t.now.state R T (g.R.Recorder.list c.args.rec.now) mid new (c.loop-o.invariant.recorded kept) (subst (λ (a : Pruned). RecordsPruning cs R a T mid new) c.in-Ok-Empty.field-0-is (c.in-Ok-Empty.ensures.record kept))

pub returns-in-Err-clause-settles : goal.returns-in-Err-clause-settles
returns-in-Err-clause-settles g c = inside_trans c.prune_and_wake.new.t.state c.loop-o.t.state c.args.t.now.state c.prune_and_wake.ensures.alone.1 c.loop-o.invariant.going.keeps.inside

pub returns-in-Ok-Empty-clause-fine : goal.returns-in-Ok-Empty-clause-fine
returns-in-Ok-Empty-clause-fine g c =
    let cs = map (λ (x : AnyIndexical g.row.K). x.cond) c.args.list.now in
    let T = c.prune_and_wake.new.t.state in
    let p = c.pop.new.queued in
    let o = c.in-Some.o in
    let e = c.in-Ok-Empty.field-0-is in
    let woken : Queues (Unhindered cs T o) o p c.prune_and_wake.new.queued = c.in-Ok-Empty.ensures.woken (λ s. absurd (cc)) in
    rest_dead cs c.args.t.now.state c.loop-o.t.state T c.loop-o.queued p c.prune_and_wake.new.queued o c.loop-o.invariant.going c.in-Some.ensures c.prune_and_wake.ensures.alone.0 woken

pub returns-in-Err-clause-fine : goal.returns-in-Err-clause-fine
returns-in-Err-clause-fine g c =
    let cs = map (λ (x : AnyIndexical g.row.K). x.cond) c.args.list.now in
    let T = c.prune_and_wake.new.t.state in
    let p = c.pop.new.queued in
    let o = c.in-Some.o in
    let woken : Queues (Unhindered cs T o) o p c.prune_and_wake.new.queued = c.in-Err.ensures.woken (λ s. absurd (cc)) in
    rest_dead cs c.args.t.now.state c.loop-o.t.state T c.loop-o.queued p c.prune_and_wake.new.queued o c.loop-o.invariant.going c.in-Some.ensures c.prune_and_wake.ensures.alone.0 woken

pub loop-o-smaller : goal.loop-o-smaller
loop-o-smaller g c =
    let cs = map (λ (x : AnyIndexical g.row.K). x.cond) c.args.list.now in
    let R = c.loop-o.t.state in
    let T = c.prune_and_wake.new.t.state in
    let o = c.in-Some.o in
    let pruned : Prunes cs R o Changed T = subst (λ (a : Pruned). Prunes cs R o a T) c.in-Ok-Changed.field-0-is c.in-Ok-Changed.ensures.pruned in
    smaller_changed cs c.args.t.now.state R T c.loop-o.queued c.pop.new.queued c.prune_and_wake.new.queued o c.loop-o.invariant.going c.in-Some.ensures pruned c.prune_and_wake.auto.queued

pub loop-o-preserved : goal.loop-o-preserved
loop-o-preserved g c =
    let cs = map (λ (x : AnyIndexical g.row.K). x.cond) c.args.list.now in
    let S = c.args.t.now.state in
    let R = c.loop-o.t.state in
    let T = c.prune_and_wake.new.t.state in
    let q = c.loop-o.queued in
    let p = c.pop.new.queued in
    let r = c.prune_and_wake.new.queued in
    let o = c.in-Some.o in
    let i = c.loop-o.invariant in
    let e = c.in-Ok-Changed.field-0-is in
    let mid = g.R.Recorder.list c.loop-o.rec in
    let new = g.R.Recorder.list c.prune_and_wake.new.rec in
    let popped : length p ≡ length q = ap length c.in-Some.ensures.2 ∙ length-set q o false in
    let woken : Queues (Unhindered cs T o) o p r = c.in-Ok-Changed.ensures.woken (λ s. absurd (cc)) in
    let pruned : Prunes cs R o Changed T = subst (λ (a : Pruned). Prunes cs R o a T) e c.in-Ok-Changed.ensures.pruned in
    record {
      going = going_changed cs S R T q p r o i.going c.in-Some.ensures pruned woken;
      next = omega (arith, woken.objects, popped, c.in-Some.ensures.0);
      levels = (c.prune_and_wake.ensures.levels.0 ∙ i.levels.0, c.prune_and_wake.ensures.levels.1 ∙ i.levels.1);
      square = subst (λ (n : ℕ). IsSquare n c.prune_and_wake.new.dirty) (i.going.keeps.inside.objects ∙ sym c.requires.objects.0) c.prune_and_wake.ensures.square;
      stand = c.prune_and_wake.ensures.stand;
      hold = c.prune_and_wake.ensures.hold;
      recorded = λ kept. records_on cs S R T (g.R.Recorder.list c.args.rec.now) mid new (i.recorded kept) (subst (λ (a : Pruned). RecordsPruning cs R a T mid new) e (c.in-Ok-Changed.ensures.record kept));
      grows = growth_on i.grows c.in-Ok-Changed.ensures.grows;
    }

pub returns-in-Ok-Empty-clause-grows : goal.returns-in-Ok-Empty-clause-grows
returns-in-Ok-Empty-clause-grows g c = growth_on c.loop-o.invariant.grows c.in-Ok-Empty.ensures.grows

pub returns-in-Err-clause-grows : goal.returns-in-Err-clause-grows
returns-in-Err-clause-grows g c = growth_on c.loop-o.invariant.grows c.in-Err.ensures.grows

pub returns-clause-grows : goal.returns-clause-grows
returns-clause-grows g c = c.loop-o.invariant.grows

pub returns-clause-square : goal.returns-clause-square
returns-clause-square g c = c.loop-o.invariant.square

pub returns-in-Ok-Empty-clause-square : goal.returns-in-Ok-Empty-clause-square
returns-in-Ok-Empty-clause-square g c = subst (λ (n : ℕ). IsSquare n c.prune_and_wake.new.dirty) (c.loop-o.invariant.going.keeps.inside.objects ∙ sym c.requires.objects.0) c.prune_and_wake.ensures.square

pub returns-in-Err-clause-square : goal.returns-in-Err-clause-square
returns-in-Err-clause-square g c = subst (λ (n : ℕ). IsSquare n c.prune_and_wake.new.dirty) (c.loop-o.invariant.going.keeps.inside.objects ∙ sym c.requires.objects.0) c.prune_and_wake.ensures.square
