use Rattle.std.proofs.Common.{◌≡◌, [], refl, ap, sym, ◌∙◌, subst, List, ℤ, length}
use Rattle.std.proofs.lemmas.Bool.{false≢true}
use Rattle.trail_search.specs.Walker.{Position, SameWalk, Searches, IsReady}
use Rattle.trail_search.proofs.Resuming.{walks_from, ready_before, ready_after, resumed_ended}
use Rattle.derivation.proofs.Continuing.{growth_none}
use Rattle.trail_search.specs.Record.{IsRecord}
use Rattle.trail_search.proofs.Recording.{record_start}
use Rattle.trail_search.proofs.walk.go_on.Goals as goal
use Rattle.trail_search.proofs.walk.go_on.Goals.{else-found-via-then-found+else-not-retreat, else-found-via-else-found}

pub returns-then-not-retreat-clause-walks : goal.returns-then-not-retreat-clause-walks
returns-then-not-retreat-clause-walks g c = λ r.
    let cs = g.P.Propagate.conditions c.args.prop.now in
    let p = c.args.walker.now in
    resumed_ended g.row.K cs c.args.budget p c.retreat.new.self c.requires.well (λ e. false≢true (sym c.if-is_bare.false ∙ c.is_bare.ensures.1 e)) c.requires.count c.retreat.ensures.well c.retreat.ensures.same c.retreat.ensures.walked
    (c.retreat.ensures.none c.if-not-retreat.true) (c.retreat.ensures.stuck c.if-not-retreat.true) (subst (IsReady cs p) c.if-found.true r)

pub returns-clause-walks : goal.returns-clause-walks
returns-clause-walks g c = λ r.
    let cs = g.P.Propagate.conditions c.args.prop.now in
    let p = c.args.walker.now in
    let some = λ (e : p.variables ≡ []). false≢true (sym c.if-is_bare.false ∙ c.is_bare.ensures.1 e) in
    let ready : SameWalk p c.else-found.walker × ((w : List (List ℤ)) × (length w ≡ p.walked) × Searches cs c.else-found.walker w) = elim c.else-found.branch [
      | else-found-via-then-found+else-not-retreat w ↦
          let t = ready_after g.row.K cs p c.requires.well some (subst (IsReady cs p) w.if-found.true r) in
          (subst (SameWalk p) (sym w.walker-is) w.retreat.ensures.same, (t.0, t.1, subst (λ (q : Position). Searches cs q t.0) (sym w.walker-is) (w.retreat.ensures.searches w.if-not-retreat.false cs t.0 t.2)))
      | else-found-via-else-found w ↦
          let t = ready_before cs p some (subst (IsReady cs p) w.if-found.false r) in
          (subst (SameWalk p) (sym w.walker-is) (record { first = refl; variables = refl; token = refl }), (t.0, t.1, subst (λ (q : Position). Searches cs q t.0) (sym w.walker-is) t.2))
    ] in
    (ready.1.0, ready.1.1, walks_from cs c.args.budget p c.else-found.walker ready.1.0 c.walk.result c.walk.new.walker ready.0 (c.walk.ensures.walks ready.1.0 ready.1.2))

pub returns-then-is_bare-clause-grows : goal.returns-then-is_bare-clause-grows
returns-then-is_bare-clause-grows g c = c.walk_empty.ensures.grows

pub returns-then-not-retreat-clause-grows : goal.returns-then-not-retreat-clause-grows
returns-then-not-retreat-clause-grows g c = growth_none _ _ _

pub returns-clause-grows : goal.returns-clause-grows
returns-clause-grows g c = c.walk.ensures.grows

pub returns-then-is_bare-clause-recorded : goal.returns-then-is_bare-clause-recorded
returns-then-is_bare-clause-recorded g c = c.walk_empty.ensures.recorded

pub returns-then-not-retreat-clause-recorded : goal.returns-then-not-retreat-clause-recorded
returns-then-not-retreat-clause-recorded g c = λ k f. absurd (false≢true (sym f ∙ c.if-found.true))

pub returns-clause-recorded : goal.returns-clause-recorded
returns-clause-recorded g c = λ k f t u n.
    let cs = g.P.Propagate.conditions c.args.prop.now in
    let p = c.args.walker.now in
    elim c.else-found.branch [
      | else-found-via-then-found+else-not-retreat w ↦ absurd (false≢true (sym f ∙ w.if-found.true))
      | else-found-via-else-found w ↦
          c.walk.ensures.recorded k (ap (λ (q : Position). q.token) w.walker-is ∙ t) (subst (λ (q : Position). IsRecord cs q (g.R.Recorder.list c.args.rec.now)) (sym w.walker-is) (record_start cs p (g.R.Recorder.list c.args.rec.now) u n))
    ]
