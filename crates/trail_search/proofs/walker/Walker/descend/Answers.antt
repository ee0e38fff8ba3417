use Rattle.std.proofs.Common.{◌≡◌, ◌<◌, Some, None, suc, length, set, ap, sym, ◌∙◌, subst, arith, ℤ, pos, negsuc, ◌≤ℤ◌}
use Rattle.geo_conditions.specs.Reach.{State, Inside}
use Rattle.geo_conditions.proofs.Points.{inside_trans}
use Rattle.geo_conditions.specs.Walk.{IsFixed, IsFirstValue, object_of}
use Rattle.trail_search.specs.Variables.{variable_of}
use Rattle.geo_state.specs.Trail.{Trail}
use Rattle.trail_search.specs.Walker.{Position, StaysOn, depth, IsToken}
use Rattle.trail_search.specs.Cursor.{HasDimension, Narrows, IsFrom}
use Rattle.trail_search.proofs.Walking.{object_at, fact_at, same_trans, depth_entered, next_entered, bound_small, bound_fits}
use Rattle.geo_state.proofs.Numbers.{kept64}
use Rattle.trail_search.proofs.Standing.{well_entered, path_entered, descend_on, descend_off}
use Rattle.geo_conditions.specs.Reach.{IsState}
use Rattle.trail_search.specs.Record.{IsFixedTo}
use Rattle.trail_search.proofs.Recording.{half_fits, opened_record}
use Rattle.trail_search.proofs.walker.Walker.descend.Goals as goal

pub enter-requires : goal.enter-requires
enter-requires g c =
    let p = c.args.self.now in
    let w = c.requires.well in
    let a = object_at p.first p.variables (depth p) (variable_of c.args.x) w.objects c.requires.number c.requires.variable in
    let o : object_of (variable_of c.args.x) < length p.trail.state = omega (arith, a, w.inside.objects) in
    (omega arith, (c.requires.k, (o, (fact_at (HasDimension g.row.K) p.variables (depth p) (variable_of c.args.x) w.dimensions c.requires.number c.requires.variable, (c.requires.full (object_of (variable_of c.args.x)) o, (omega (arith, w.room, c.requires.number), (omega (arith, w.values, c.requires.number), (subst (λ (z : ℤ). IsFirstValue p.trail.state (variable_of c.args.x) z) (sym (kept64 c.args.u c.ranges.u.sfits)) c.requires.first, c.requires.count))))))))

pub tighten-requires : goal.tighten-requires
tighten-requires g c =
    let p = c.args.self.now in
    let e = c.enter.new.self in
    let k = kept64 c.args.u c.ranges.u.sfits in
    let v = c.enter.ensures.values ∙ ap (set p.values (depth p)) k in
    let t : StaysOn p c.args.u (Some c.in-Some.v) = subst (λ (z : ℤ). StaysOn p z (Some c.in-Some.v)) k (subst (StaysOn p _) c.in-Some.is c.along_bound-stay.ensures) in (
      omega arith,
      (
        c.requires.k,
        (
          well_entered g.row.K p e (variable_of c.args.x) c.args.u c.requires.well c.requires.number c.requires.variable c.requires.fits c.enter.ensures.same c.enter.ensures.levels c.enter.ensures.restores v c.enter.ensures.narrows.inside,
          omega (arith, depth_entered p e c.enter.ensures.restores, t.4, ap length c.enter.ensures.same.variables),
        ),
      ),
    )

pub returns-in-Some-clause-well : goal.returns-in-Some-clause-well
returns-in-Some-clause-well g c =
    let p = c.args.self.now in
    let e = c.enter.new.self in
    let r = c.tighten.new.self in
    let k = kept64 c.args.u c.ranges.u.sfits in
    let v = c.enter.ensures.values ∙ ap (set p.values (depth p)) k in
    well_entered g.row.K p r (variable_of c.args.x) c.args.u c.requires.well c.requires.number c.requires.variable c.requires.fits (same_trans p e r c.enter.ensures.same c.tighten.ensures.same) (c.tighten.ensures.levels ∙ c.enter.ensures.levels) (c.tighten.ensures.restores ∙ c.enter.ensures.restores) (c.tighten.ensures.values ∙ v) (inside_trans r.trail.state e.trail.state p.trail.state c.tighten.ensures.tight.2.inside c.enter.ensures.narrows.inside)

pub returns-in-Some-clause-path : goal.returns-in-Some-clause-path
returns-in-Some-clause-path g c =
    let p = c.args.self.now in
    let r = c.tighten.new.self in
    let k = kept64 c.args.u c.ranges.u.sfits in
    let v = c.enter.ensures.values ∙ ap (set p.values (depth p)) k in
    path_entered p r c.args.u (omega (arith, c.requires.well.values, c.requires.number)) (c.tighten.ensures.restores ∙ c.enter.ensures.restores) (c.tighten.ensures.values ∙ v)

pub returns-in-Some-clause-searches : goal.returns-in-Some-clause-searches
returns-in-Some-clause-searches g c = λ cs w h.
    let p = c.args.self.now in
    let e = c.enter.new.self in
    let r = c.tighten.new.self in
    let o = c.requires.well in
    let k = kept64 c.args.u c.ranges.u.sfits in
    let v = c.enter.ensures.values ∙ ap (set p.values (depth p)) k in
    let x = variable_of c.args.x in
    let t : StaysOn p c.args.u (Some c.in-Some.v) = subst (λ (z : ℤ). StaysOn p z (Some c.in-Some.v)) k (subst (StaysOn p _) c.in-Some.is c.along_bound-stay.ensures) in
    let n : Narrows p.trail.state e.trail.state (λ T. IsFixed T x c.args.u) = subst (λ (z : ℤ). Narrows p.trail.state e.trail.state (λ T. IsFixed T x z)) k c.enter.ensures.narrows in
    let y = c.tighten.ensures.tight.0 in
    let small = (subst (IsToken p.variables) t.2 o.token).1 in
    let b = subst (λ (z : ℤ). (negsuc 2000000 ≤ℤ z) × (z ≤ℤ pos 2000001)) (sym t.5) (bound_small p.variables t.0 (suc (depth p)) small) in
    let j : Narrows e.trail.state r.trail.state (λ T. IsFrom T y c.in-Some.v) = subst (λ (z : ℤ). Narrows e.trail.state r.trail.state (λ T. IsFrom T y z)) (kept64 c.in-Some.v (bound_fits c.in-Some.v b)) c.tighten.ensures.tight.2 in
    descend_on cs p r w c.args.u c.in-Some.v x y e.trail.state o.objects c.requires.number o.values c.requires.variable c.requires.first (same_trans p e r c.enter.ensures.same c.tighten.ensures.same) (c.tighten.ensures.restores ∙ c.enter.ensures.restores) (c.tighten.ensures.values ∙ v) (c.tighten.ensures.walked ∙ c.enter.ensures.walked) (c.tighten.ensures.along ∙ c.enter.ensures.along) n t (next_entered p e y c.enter.ensures.same c.enter.ensures.restores c.tighten.ensures.tight.1) j h

pub returns-in-None-clause-well : goal.returns-in-None-clause-well
returns-in-None-clause-well g c =
    let p = c.args.self.now in
    let e = c.enter.new.self in
    let r = c.stray.new.self in
    let k = kept64 c.args.u c.ranges.u.sfits in
    let v = c.enter.ensures.values ∙ ap (set p.values (depth p)) k in
    let q = c.stray.ensures.trail in
    well_entered g.row.K p r (variable_of c.args.x) c.args.u c.requires.well c.requires.number c.requires.variable c.requires.fits (same_trans p e r c.enter.ensures.same c.stray.ensures.same) (ap (λ (t : Trail). t.levels) q ∙ c.enter.ensures.levels) (ap (λ (t : Trail). t.restores) q ∙ c.enter.ensures.restores) (c.stray.ensures.values ∙ v) (subst (λ (S : State). Inside S p.trail.state) (sym (ap (λ (t : Trail). t.state) q)) c.enter.ensures.narrows.inside)

pub returns-in-None-clause-path : goal.returns-in-None-clause-path
returns-in-None-clause-path g c =
    let p = c.args.self.now in
    let r = c.stray.new.self in
    let k = kept64 c.args.u c.ranges.u.sfits in
    let v = c.enter.ensures.values ∙ ap (set p.values (depth p)) k in
    path_entered p r c.args.u (omega (arith, c.requires.well.values, c.requires.number)) (ap (λ (t : Trail). t.restores) c.stray.ensures.trail ∙ c.enter.ensures.restores) (c.stray.ensures.values ∙ v)

pub returns-in-None-clause-searches : goal.returns-in-None-clause-searches
returns-in-None-clause-searches g c = λ cs w h.
    let p = c.args.self.now in
    let e = c.enter.new.self in
    let r = c.stray.new.self in
    let o = c.requires.well in
    let k = kept64 c.args.u c.ranges.u.sfits in
    let v = c.enter.ensures.values ∙ ap (set p.values (depth p)) k in
    let x = variable_of c.args.x in
    let q = c.stray.ensures.trail in
    let t : StaysOn p c.args.u None = subst (λ (z : ℤ). StaysOn p z None) k (subst (StaysOn p _) c.in-None.is c.along_bound-stay.ensures) in
    let n : Narrows p.trail.state r.trail.state (λ T. IsFixed T x c.args.u) = subst (λ (S : State). Narrows p.trail.state S (λ T. IsFixed T x c.args.u)) (sym (ap (λ (t : Trail). t.state) q)) (subst (λ (z : ℤ). Narrows p.trail.state e.trail.state (λ T. IsFixed T x z)) k c.enter.ensures.narrows) in
    descend_off cs p r w c.args.u x o.objects c.requires.number o.values c.requires.variable c.requires.first (same_trans p e r c.enter.ensures.same c.stray.ensures.same) (ap (λ (t : Trail). t.restores) q ∙ c.enter.ensures.restores) (c.stray.ensures.values ∙ v) (c.stray.ensures.walked ∙ c.enter.ensures.walked) c.stray.ensures.along n t h

pub returns-in-Some-clause-record : goal.returns-in-Some-clause-record
returns-in-Some-clause-record g c = λ none.
    let p = c.args.self.now in
    let k = kept64 c.args.u c.ranges.u.sfits in
    let t : StaysOn p c.args.u (Some c.in-Some.v) = subst (λ (z : ℤ). StaysOn p z (Some c.in-Some.v)) k (subst (StaysOn p _) c.in-Some.is c.along_bound-stay.ensures) in
    absurd (some_none t.0 (sym t.2 ∙ none))
  where
    some_none : {A : Type 0} (a : A) → Some a ≡ None → ⊥
    some_none a e = cc

pub returns-in-None-clause-record : goal.returns-in-None-clause-record
returns-in-None-clause-record g c = λ none cs old new cases h.
    let p = c.args.self.now in
    let e = c.enter.new.self in
    let r = c.stray.new.self in
    let o = c.requires.well in
    let k = kept64 c.args.u c.ranges.u.sfits in
    let x = variable_of c.args.x in
    let q = c.stray.ensures.trail in
    let same = same_trans p e r c.enter.ensures.same c.stray.ensures.same in
    let a = object_at p.first p.variables (depth p) x o.objects c.requires.number c.requires.variable in
    let there : object_of x < length p.trail.state = omega (arith, a, o.inside.objects) in
    let shape : IsState g.row.K p.trail.state = subst (IsState g.row.K) (c.state.ensures.value ∙ ap (λ (z : Position). z.trail.state) c.self.view_is) c.objects-objects.ensures.shape in
    let fixed : IsFixedTo p.trail.state x c.args.u r.trail.state = subst (λ (S : State). IsFixedTo p.trail.state x c.args.u S) (sym (ap (λ (t : Trail). t.state) q)) (subst (λ (z : ℤ). IsFixedTo p.trail.state x z e.trail.state) k c.enter.ensures.fixed) in
    opened_record p r x c.args.u
    (record {
      first = same.first;
      variables = same.variables;
      values = c.stray.ensures.values ∙ c.enter.ensures.values ∙ ap (set p.values (depth p)) k;
      restores = ap (λ (t : Trail). t.restores) q ∙ c.enter.ensures.restores;
      number = c.requires.number;
      room = omega (arith, o.values, c.requires.number);
      variable = c.requires.variable;
    })
    cs old new c.requires.first
    (half_fits g.row.K p.trail.state x c.args.u shape there (fact_at (HasDimension g.row.K) p.variables (depth p) x o.dimensions c.requires.number c.requires.variable) c.requires.fits c.requires.first)
    fixed cases h

pub returns-in-Some-clause-same : goal.returns-in-Some-clause-same
returns-in-Some-clause-same g c = same_trans c.args.self.now c.enter.new.self c.tighten.new.self c.enter.ensures.same c.tighten.ensures.same

pub returns-in-Some-clause-depth : goal.returns-in-Some-clause-depth
returns-in-Some-clause-depth g c = omega (arith, depth_entered c.args.self.now c.tighten.new.self (c.tighten.ensures.restores ∙ c.enter.ensures.restores))

pub returns-in-None-clause-same : goal.returns-in-None-clause-same
returns-in-None-clause-same g c = same_trans c.args.self.now c.enter.new.self c.stray.new.self c.enter.ensures.same c.stray.ensures.same

pub returns-in-None-clause-depth : goal.returns-in-None-clause-depth
returns-in-None-clause-depth g c = omega (arith, depth_entered c.args.self.now c.stray.new.self (ap (λ (t : Trail). t.restores) c.stray.ensures.trail ∙ c.enter.ensures.restores))
