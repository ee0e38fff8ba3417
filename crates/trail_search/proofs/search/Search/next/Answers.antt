use Rattle.std.proofs.Common.{◌≡◌, ◌||◌, Bool, true, false, ap, sym, ◌∙◌, subst, refl, arith, Option, Some, None, List, [], ◌+◌, ◌-◌, ◌^◌, ◌≤◌, min, ℕ}
use Rattle.geo_conditions.specs.declared.cond.Cond.{Cond}
use Rattle.trail_search.specs.declared.step.Step.{Step}
use Rattle.trail_search.specs.declared.step.Step.TheVariants.{Found, Ended, Budget, Memory}
use Rattle.trail_search.specs.Next.{SearchView, layout_when}
use Rattle.trail_search.specs.Record.{open_levels}
use Rattle.trail_search.specs.Walker.{GoesOnAs, tree_of, is_answer}
use Rattle.trail_search.proofs.Standing.{tree_same}
use Rattle.trail_search.proofs.Nexts.{found_answer, ended_answer, budget_answer, as_before, stands_at, no_objects, step_recorded, sound_found, sound_over}
use Rattle.std.proofs.lemmas.Bool.{false≢true}
use Rattle.std.proofs.lemmas.List.{append-nil}
use Rattle.trail_search.specs.Next.{AsBefore, HasRecorded, is_found}
use Rattle.trail_search.specs.Record.{Derives}
use Rattle.derivation.specs.declared.event.Event.{Event}
use Rattle.derivation.specs.Events.{Continues}
use Rattle.trail_search.proofs.search.Search.next.Goals as goal

or_false : (b : Bool) → b ≡ b || false
or_false true = refl
or_false false = refl

or_other : (s : Step) (b : Bool) → (s ≡ Found → ⊥) → b ≡ b || is_found s
or_other Found b other = absurd (other refl)
or_other Ended b other = or_false b
or_other Budget b other = or_false b
or_other Memory b other = or_false b

pub go_on-requires : goal.go_on-requires
go_on-requires g c =
    let i = c.self.invariant in
    let p = c.self.inside.walker in
    let cs = g.P.Propagate.conditions c.self.inside.prop in
    (omega arith, (c.requires.k, (i.well, (i.count c.in_default.is, (stands_at cs p c.self.inside.found (i.ready c.in_default.is), (no_objects g.row.K p i.named, (i.objects, i.fits)))))))

pub returns-in-Found-clause-steps : goal.returns-in-Found-clause-steps
returns-in-Found-clause-steps g c =
    let p = c.self.inside.walker in
    let q = c.go_on.new.walker in
    let cs = g.P.Propagate.conditions c.self.inside.prop in
    let a = c.args.self.now in
    let v = c.self.view_is in
    let h : GoesOnAs cs c.self.inside.budget p Found q = subst (λ (s : Step). GoesOnAs cs c.self.inside.budget p s q) c.in-Found.is (c.go_on.ensures.walks (c.self.invariant.ready c.in_default.is)) in
    let ea : a.walk ≡ tree_of cs p = sym (ap (λ (z : SearchView). z.walk) v) in
    let m : a.walked ≡ p.walked = sym (ap (λ (z : SearchView). z.walked) v) in
    let nb : a.budget ≡ c.self.inside.budget = sym (ap (λ (z : SearchView). z.budget) v) in
    let o : a.over ≡ None = sym (ap (λ (z : SearchView). z.over) v) ∙ c.in_default.is in
    let fq : tree_of (g.P.Propagate.conditions c.go_on.new.prop) q ≡ tree_of cs q = ap (λ (z : List Cond). tree_of z q) c.go_on.ensures.conditions in
    let fp : tree_of (g.P.Propagate.conditions c.go_on.new.prop) q ≡ tree_of cs p = fq ∙ sym (tree_same cs p q c.go_on.ensures.same) in
    let z : SearchView = record { walk = tree_of (g.P.Propagate.conditions c.go_on.new.prop) q; budget = c.self.inside.budget; walked = q.walked; layout = layout_when true q.values; some_found = true; over = c.self.inside.over; events = g.R.Recorder.list c.go_on.new.rec; refusals = g.R.Recorder.refusals c.go_on.new.rec; began_empty = c.self.inside.began_empty; state = q.trail.state; levels = open_levels q } in
    (fp ∙ sym ea, sym nb, as_before a z Found o (found_answer cs g.row.K c.self.inside.budget p q a z c.go_on.ensures.same c.go_on.ensures.well ea fq m nb refl refl c.in_default.is h))

pub returns-in-Ended-clause-steps : goal.returns-in-Ended-clause-steps
returns-in-Ended-clause-steps g c =
    let p = c.self.inside.walker in
    let q = c.go_on.new.walker in
    let cs = g.P.Propagate.conditions c.self.inside.prop in
    let a = c.args.self.now in
    let v = c.self.view_is in
    let h : GoesOnAs cs c.self.inside.budget p Ended q = subst (λ (s : Step). GoesOnAs cs c.self.inside.budget p s q) c.in-Ended.is (c.go_on.ensures.walks (c.self.invariant.ready c.in_default.is)) in
    let ea : a.walk ≡ tree_of cs p = sym (ap (λ (z : SearchView). z.walk) v) in
    let m : a.walked ≡ p.walked = sym (ap (λ (z : SearchView). z.walked) v) in
    let nb : a.budget ≡ c.self.inside.budget = sym (ap (λ (z : SearchView). z.budget) v) in
    let o : a.over ≡ None = sym (ap (λ (z : SearchView). z.over) v) ∙ c.in_default.is in
    let fq : tree_of (g.P.Propagate.conditions c.go_on.new.prop) q ≡ tree_of cs q = ap (λ (z : List Cond). tree_of z q) c.go_on.ensures.conditions in
    let fp : tree_of (g.P.Propagate.conditions c.go_on.new.prop) q ≡ tree_of cs p = fq ∙ sym (tree_same cs p q c.go_on.ensures.same) in
    let z : SearchView = record { walk = tree_of (g.P.Propagate.conditions c.go_on.new.prop) q; budget = c.self.inside.budget; walked = q.walked; layout = layout_when false q.values; some_found = c.self.inside.some_found; over = Some Ended; events = g.R.Recorder.list c.go_on.new.rec; refusals = g.R.Recorder.refusals c.go_on.new.rec; began_empty = c.self.inside.began_empty; state = q.trail.state; levels = open_levels q } in
    (fp ∙ sym ea, sym nb, as_before a z Ended o (ended_answer cs c.self.inside.budget p q a z ea fp m nb refl refl h))

pub returns-in-Budget-clause-steps : goal.returns-in-Budget-clause-steps
returns-in-Budget-clause-steps g c =
    let p = c.self.inside.walker in
    let q = c.go_on.new.walker in
    let cs = g.P.Propagate.conditions c.self.inside.prop in
    let a = c.args.self.now in
    let v = c.self.view_is in
    let h : GoesOnAs cs c.self.inside.budget p Budget q = subst (λ (s : Step). GoesOnAs cs c.self.inside.budget p s q) c.in-Budget.is (c.go_on.ensures.walks (c.self.invariant.ready c.in_default.is)) in
    let ea : a.walk ≡ tree_of cs p = sym (ap (λ (z : SearchView). z.walk) v) in
    let m : a.walked ≡ p.walked = sym (ap (λ (z : SearchView). z.walked) v) in
    let nb : a.budget ≡ c.self.inside.budget = sym (ap (λ (z : SearchView). z.budget) v) in
    let o : a.over ≡ None = sym (ap (λ (z : SearchView). z.over) v) ∙ c.in_default.is in
    let fq : tree_of (g.P.Propagate.conditions c.go_on.new.prop) q ≡ tree_of cs q = ap (λ (z : List Cond). tree_of z q) c.go_on.ensures.conditions in
    let fp : tree_of (g.P.Propagate.conditions c.go_on.new.prop) q ≡ tree_of cs p = fq ∙ sym (tree_same cs p q c.go_on.ensures.same) in
    let z : SearchView = record { walk = tree_of (g.P.Propagate.conditions c.go_on.new.prop) q; budget = c.self.inside.budget; walked = q.walked; layout = layout_when false q.values; some_found = c.self.inside.some_found; over = Some Budget; events = g.R.Recorder.list c.go_on.new.rec; refusals = g.R.Recorder.refusals c.go_on.new.rec; began_empty = c.self.inside.began_empty; state = q.trail.state; levels = open_levels q } in
    (fp ∙ sym ea, sym nb, as_before a z Budget o (budget_answer cs c.self.inside.budget p q a z ea fp m nb refl refl h))

pub returns-in-Memory-clause-steps : goal.returns-in-Memory-clause-steps
returns-in-Memory-clause-steps g c =
    let p = c.self.inside.walker in
    let q = c.go_on.new.walker in
    let cs = g.P.Propagate.conditions c.self.inside.prop in
    let a = c.args.self.now in
    let v = c.self.view_is in
    let r : min (g.R.Recorder.refusals c.self.inside.rec + 1) (2 ^ 64 - 1) ≤ g.R.Recorder.refusals c.go_on.new.rec = c.go_on.ensures.grows.refused (ap is_answer c.in-Memory.is) in
    let o : a.over ≡ None = sym (ap (λ (z : SearchView). z.over) v) ∙ c.in_default.is in
    let f : tree_of (g.P.Propagate.conditions c.go_on.new.prop) q ≡ a.walk =
    ap (λ (z : List Cond). tree_of z q) c.go_on.ensures.conditions ∙ sym (tree_same cs p q c.go_on.ensures.same) ∙ ap (λ (z : SearchView). z.walk) v in
    let z : SearchView = record { walk = tree_of (g.P.Propagate.conditions c.go_on.new.prop) q; budget = c.self.inside.budget; walked = q.walked; layout = layout_when false q.values; some_found = c.self.inside.some_found; over = Some Memory; events = g.R.Recorder.list c.go_on.new.rec; refusals = g.R.Recorder.refusals c.go_on.new.rec; began_empty = c.self.inside.began_empty; state = q.trail.state; levels = open_levels q } in
    (f, ap (λ (z : SearchView). z.budget) v, as_before a z Memory o (subst (λ (m : ℕ). min (m + 1) (2 ^ 64 - 1) ≤ z.refusals) (ap (λ (z : SearchView). z.refusals) v) r, refl))

pub returns-in-Memory-clause-no_record : goal.returns-in-Memory-clause-no_record
returns-in-Memory-clause-no_record g c = λ k e. false≢true (sym (ap is_answer c.in-Memory.is) ∙ c.go_on.ensures.grows.no_record k)

pub returns-in-Found-clause-recorded : goal.returns-in-Found-clause-recorded
returns-in-Found-clause-recorded g c = λ k f b t.
    let i = c.self.inside in
    let n = c.go_on.new in
    let v = c.self.view_is in
    step_recorded g.row.K g.R.Recorder.keeps (g.P.Propagate.conditions i.prop) (g.P.Propagate.conditions n.prop) (g.P.Propagate.objects i.prop) i.budget i.walker n.walker i.found i.over i.some_found i.began_empty
    (g.R.Recorder.list i.rec) (g.R.Recorder.list n.rec) c.go_on.result Found c.self.invariant c.in_default.is c.go_on.ensures.conditions c.in-Found.is c.go_on.ensures.recorded k (ap (λ (z : SearchView). z.began_empty) v ∙ b) (ap (λ (z : SearchView). z.some_found) v ∙ f) (ap (λ (z : SearchView). z.walk.after) v ∙ t)

pub returns-in-Ended-clause-recorded : goal.returns-in-Ended-clause-recorded
returns-in-Ended-clause-recorded g c = λ k f b t.
    let i = c.self.inside in
    let n = c.go_on.new in
    let v = c.self.view_is in
    step_recorded g.row.K g.R.Recorder.keeps (g.P.Propagate.conditions i.prop) (g.P.Propagate.conditions n.prop) (g.P.Propagate.objects i.prop) i.budget i.walker n.walker i.found i.over i.some_found i.began_empty
    (g.R.Recorder.list i.rec) (g.R.Recorder.list n.rec) c.go_on.result Ended c.self.invariant c.in_default.is c.go_on.ensures.conditions c.in-Ended.is c.go_on.ensures.recorded k (ap (λ (z : SearchView). z.began_empty) v ∙ b) (ap (λ (z : SearchView). z.some_found) v ∙ f) (ap (λ (z : SearchView). z.walk.after) v ∙ t)

pub returns-in-Budget-clause-recorded : goal.returns-in-Budget-clause-recorded
returns-in-Budget-clause-recorded g c = λ k f b t.
    let i = c.self.inside in
    let n = c.go_on.new in
    let v = c.self.view_is in
    step_recorded g.row.K g.R.Recorder.keeps (g.P.Propagate.conditions i.prop) (g.P.Propagate.conditions n.prop) (g.P.Propagate.objects i.prop) i.budget i.walker n.walker i.found i.over i.some_found i.began_empty
    (g.R.Recorder.list i.rec) (g.R.Recorder.list n.rec) c.go_on.result Budget c.self.invariant c.in_default.is c.go_on.ensures.conditions c.in-Budget.is c.go_on.ensures.recorded k (ap (λ (z : SearchView). z.began_empty) v ∙ b) (ap (λ (z : SearchView). z.some_found) v ∙ f) (ap (λ (z : SearchView). z.walk.after) v ∙ t)

pub returns-in-Memory-clause-recorded : goal.returns-in-Memory-clause-recorded
returns-in-Memory-clause-recorded g c = λ k f b t.
    let i = c.self.inside in
    let n = c.go_on.new in
    let v = c.self.view_is in
    step_recorded g.row.K g.R.Recorder.keeps (g.P.Propagate.conditions i.prop) (g.P.Propagate.conditions n.prop) (g.P.Propagate.objects i.prop) i.budget i.walker n.walker i.found i.over i.some_found i.began_empty
    (g.R.Recorder.list i.rec) (g.R.Recorder.list n.rec) c.go_on.result Memory c.self.invariant c.in_default.is c.go_on.ensures.conditions c.in-Memory.is c.go_on.ensures.recorded k (ap (λ (z : SearchView). z.began_empty) v ∙ b) (ap (λ (z : SearchView). z.some_found) v ∙ f) (ap (λ (z : SearchView). z.walk.after) v ∙ t)

pub invariant_of-self : goal.invariant_of-self
invariant_of-self g c =
    let i = c.self.inside in
    let n = c.go_on.new in
    sound_found g.row.K g.R.Recorder.keeps (g.P.Propagate.conditions i.prop) (g.P.Propagate.conditions n.prop) (g.P.Propagate.objects i.prop) (g.P.Propagate.objects n.prop) i.budget i.walker n.walker i.found i.over i.some_found i.began_empty
    (g.R.Recorder.list i.rec) (g.R.Recorder.list n.rec) c.go_on.result c.self.invariant c.in_default.is c.go_on.ensures.well c.go_on.ensures.same c.go_on.ensures.conditions c.go_on.ensures.number c.in-Found.is c.go_on.ensures.walks

pub invariant_of-self-in-Ended : goal.invariant_of-self-in-Ended
invariant_of-self-in-Ended g c =
    let i = c.self.inside in
    let n = c.go_on.new in
    sound_over g.row.K g.R.Recorder.keeps (g.P.Propagate.conditions i.prop) (g.P.Propagate.conditions n.prop) (g.P.Propagate.objects i.prop) (g.P.Propagate.objects n.prop) i.budget i.walker n.walker i.found i.over i.some_found i.began_empty
    (g.R.Recorder.list i.rec) (g.R.Recorder.list n.rec) c.go_on.result Ended c.self.invariant c.in_default.is c.go_on.ensures.well c.go_on.ensures.same c.go_on.ensures.conditions c.go_on.ensures.number c.in-Ended.is (λ e. cc) (λ e. absurd (cc)) c.go_on.ensures.recorded

pub invariant_of-self-in-Budget : goal.invariant_of-self-in-Budget
invariant_of-self-in-Budget g c =
    let i = c.self.inside in
    let n = c.go_on.new in
    sound_over g.row.K g.R.Recorder.keeps (g.P.Propagate.conditions i.prop) (g.P.Propagate.conditions n.prop) (g.P.Propagate.objects i.prop) (g.P.Propagate.objects n.prop) i.budget i.walker n.walker i.found i.over i.some_found i.began_empty
    (g.R.Recorder.list i.rec) (g.R.Recorder.list n.rec) c.go_on.result Budget c.self.invariant c.in_default.is c.go_on.ensures.well c.go_on.ensures.same c.go_on.ensures.conditions c.go_on.ensures.number c.in-Budget.is (λ e. cc) (λ e. absurd (cc)) c.go_on.ensures.recorded

pub invariant_of-self-in-Memory : goal.invariant_of-self-in-Memory
invariant_of-self-in-Memory g c =
    let i = c.self.inside in
    let n = c.go_on.new in
    sound_over g.row.K g.R.Recorder.keeps (g.P.Propagate.conditions i.prop) (g.P.Propagate.conditions n.prop) (g.P.Propagate.objects i.prop) (g.P.Propagate.objects n.prop) i.budget i.walker n.walker i.found i.over i.some_found i.began_empty
    (g.R.Recorder.list i.rec) (g.R.Recorder.list n.rec) c.go_on.result Memory c.self.invariant c.in_default.is c.go_on.ensures.well c.go_on.ensures.same c.go_on.ensures.conditions c.go_on.ensures.number c.in-Memory.is (λ e. cc) (λ e k. false≢true (sym (ap is_answer c.in-Memory.is) ∙ c.go_on.ensures.grows.no_record k)) c.go_on.ensures.recorded

pub returns-in-Found-clause-some_found : goal.returns-in-Found-clause-some_found
returns-in-Found-clause-some_found g c = or_true c.args.self.now.some_found
  where
    or_true : (b : Bool) → true ≡ b || true
    or_true true = refl
    or_true false = refl

pub returns-in-Found-clause-events : goal.returns-in-Found-clause-events
returns-in-Found-clause-events g c = λ k. subst (λ (es : List Event). Continues es (g.R.Recorder.list c.go_on.new.rec)) (ap (λ (z : SearchView). z.events) c.self.view_is) (c.go_on.ensures.grows.events k)

pub returns-in-Found-clause-refusals : goal.returns-in-Found-clause-refusals
returns-in-Found-clause-refusals g c = subst (λ (n : ℕ). n ≤ g.R.Recorder.refusals c.go_on.new.rec) (ap (λ (z : SearchView). z.refusals) c.self.view_is) c.go_on.ensures.grows.refusals

pub returns-in-Ended-clause-some_found : goal.returns-in-Ended-clause-some_found
returns-in-Ended-clause-some_found g c = ap (λ (z : SearchView). z.some_found) c.self.view_is ∙ or_false c.args.self.now.some_found

pub returns-in-Ended-clause-events : goal.returns-in-Ended-clause-events
returns-in-Ended-clause-events g c = λ k. subst (λ (es : List Event). Continues es (g.R.Recorder.list c.go_on.new.rec)) (ap (λ (z : SearchView). z.events) c.self.view_is) (c.go_on.ensures.grows.events k)

pub returns-in-Ended-clause-refusals : goal.returns-in-Ended-clause-refusals
returns-in-Ended-clause-refusals g c = subst (λ (n : ℕ). n ≤ g.R.Recorder.refusals c.go_on.new.rec) (ap (λ (z : SearchView). z.refusals) c.self.view_is) c.go_on.ensures.grows.refusals

pub returns-in-Budget-clause-some_found : goal.returns-in-Budget-clause-some_found
returns-in-Budget-clause-some_found g c = ap (λ (z : SearchView). z.some_found) c.self.view_is ∙ or_false c.args.self.now.some_found

pub returns-in-Budget-clause-events : goal.returns-in-Budget-clause-events
returns-in-Budget-clause-events g c = λ k. subst (λ (es : List Event). Continues es (g.R.Recorder.list c.go_on.new.rec)) (ap (λ (z : SearchView). z.events) c.self.view_is) (c.go_on.ensures.grows.events k)

pub returns-in-Budget-clause-refusals : goal.returns-in-Budget-clause-refusals
returns-in-Budget-clause-refusals g c = subst (λ (n : ℕ). n ≤ g.R.Recorder.refusals c.go_on.new.rec) (ap (λ (z : SearchView). z.refusals) c.self.view_is) c.go_on.ensures.grows.refusals

pub returns-in-Memory-clause-some_found : goal.returns-in-Memory-clause-some_found
returns-in-Memory-clause-some_found g c = ap (λ (z : SearchView). z.some_found) c.self.view_is ∙ or_false c.args.self.now.some_found

pub returns-in-Memory-clause-events : goal.returns-in-Memory-clause-events
returns-in-Memory-clause-events g c = λ k. subst (λ (es : List Event). Continues es (g.R.Recorder.list c.go_on.new.rec)) (ap (λ (z : SearchView). z.events) c.self.view_is) (c.go_on.ensures.grows.events k)

pub returns-in-Memory-clause-refusals : goal.returns-in-Memory-clause-refusals
returns-in-Memory-clause-refusals g c = subst (λ (n : ℕ). n ≤ g.R.Recorder.refusals c.go_on.new.rec) (ap (λ (z : SearchView). z.refusals) c.self.view_is) c.go_on.ensures.grows.refusals

pub returns-in-Some : goal.returns-in-Some
returns-in-Some g c =
    let i = c.self.inside in
    let a = c.args.self.now in
    let e = c.in-Some.step in
    let v = c.self.view_is in
    let cs = g.P.Propagate.conditions i.prop in
    let other : e ≡ Found → ⊥ = λ f. c.self.invariant.last (c.in-Some.is ∙ ap Some f) in
    record {
      steps = (refl, refl, subst (λ (o : Option Step). AsBefore o a e a) (sym (sym (ap (λ (z : SearchView). z.over) v) ∙ c.in-Some.is)) (refl, refl));
      found = λ f. absurd (other f);
      some_found = or_other e a.some_found other;
      began_empty = refl;
      events = λ k. ([], sym (append-nil a.events));
      refusals = omega arith;
      no_record = λ k m. false≢true (sym k ∙ c.self.invariant.memory (c.in-Some.is ∙ ap Some m));
      recorded = λ k f b t. subst (λ (z : SearchView). HasRecorded e z) v
          (subst (λ (o : Option Step). Derives cs i.walker o (g.R.Recorder.list i.rec)) c.in-Some.is
          (c.self.invariant.derives k (ap (λ (z : SearchView). z.began_empty) v ∙ b) (ap (λ (z : SearchView). z.some_found) v ∙ f) (ap (λ (z : SearchView). z.walk.after) v ∙ t)));
    }

pub returns-in-Found-clause-began_empty : goal.returns-in-Found-clause-began_empty
returns-in-Found-clause-began_empty g c = ap (λ (z : SearchView). z.began_empty) c.self.view_is

pub returns-in-Found-clause-no_record : goal.returns-in-Found-clause-no_record
returns-in-Found-clause-no_record g c = λ k m. absurd (cc)

pub returns-in-Ended-clause-began_empty : goal.returns-in-Ended-clause-began_empty
returns-in-Ended-clause-began_empty g c = ap (λ (z : SearchView). z.began_empty) c.self.view_is

pub returns-in-Ended-clause-found : goal.returns-in-Ended-clause-found
returns-in-Ended-clause-found g c = λ e. absurd (cc)

pub returns-in-Ended-clause-no_record : goal.returns-in-Ended-clause-no_record
returns-in-Ended-clause-no_record g c = λ k m. absurd (cc)

pub returns-in-Budget-clause-began_empty : goal.returns-in-Budget-clause-began_empty
returns-in-Budget-clause-began_empty g c = ap (λ (z : SearchView). z.began_empty) c.self.view_is

pub returns-in-Budget-clause-found : goal.returns-in-Budget-clause-found
returns-in-Budget-clause-found g c = λ e. absurd (cc)

pub returns-in-Budget-clause-no_record : goal.returns-in-Budget-clause-no_record
returns-in-Budget-clause-no_record g c = λ k m. absurd (cc)

pub returns-in-Memory-clause-began_empty : goal.returns-in-Memory-clause-began_empty
returns-in-Memory-clause-began_empty g c = ap (λ (z : SearchView). z.began_empty) c.self.view_is

pub returns-in-Memory-clause-found : goal.returns-in-Memory-clause-found
returns-in-Memory-clause-found g c = λ e. absurd (cc)
