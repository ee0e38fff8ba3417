use Rattle.std.proofs.Common.{false, ℕ, ◌≡◌, ◌<◌, ◌++◌, ◌∷◌, [], List, length, map, get_or, ap, sym, ◌∙◌, subst, refl, arith, ℤ, pos}
use Rattle.std.proofs.lemmas.Bool.{false≢true}
use Rattle.geo_conditions.specs.Reach.{State}
use Rattle.geo_conditions.specs.Walk.{object_of}
use Rattle.geo_state.specs.Trail.{IsSmallEnd}
use Rattle.geo_state.proofs.Numbers.{kept64, small_kept}
use Rattle.trail_search.specs.Cursor.{Narrows, IsFrom, HasAfter, after}
use Rattle.trail_search.specs.Walker.{Position, token_of}
use Rattle.trail_search.specs.Variables.{variable_of}
use Rattle.trail_search.proofs.Moves.{none_from}
use Rattle.geo_conditions.specs.Walk.{IsFirstValue}
use Rattle.trail_search.specs.Record.{with_later}
use Rattle.trail_search.proofs.Cases.{has_later, has_no_later}
use Rattle.trail_search.proofs.Recording.{shut_later, shut_none}
use Rattle.trail_search.proofs.Leaving.{LeftAt, left_at}
use Rattle.trail_search.proofs.walker.Walker.leave.Goals as goal

pub has_after-requires : goal.has_after-requires
has_after-requires g c =
    let p = c.args.self.now in
    let t = c.undo.new.self in
    let x = variable_of c.index-x.result.now in
    let u = c.index-u.result.now in
    let r : p.trail.restores ≡ t.restores ++ t.state ∷ [] = sym (ap (λ (q : Position). q.trail.restores) c.self.view_is) ∙ c.undo.ensures.restored in
    let l : LeftAt g.row.K p t x u = left_at g.row.K p t c.self.inside.variables.items c.self.inside.values.items c.depth-depth.result c.index-x.result.now u c.requires.well r
    (ap (λ (q : Position). q.variables) c.self.view_is) (ap (λ (q : Position). q.values) c.self.view_is) c.depth-depth.ensures.value c.index-x.ensures c.index-u.ensures in
    (omega arith, (c.requires.k, (subst (λ (S : State). object_of x < length S) (sym c.state.ensures.value) l.object, l.dimension)))

pub after-requires : goal.after-requires
after-requires g c =
    let p = c.args.self.now in
    let t = c.undo.new.self in
    let x = variable_of c.index-x.result.now in
    let u = c.index-u.result.now in
    let r : p.trail.restores ≡ t.restores ++ t.state ∷ [] = sym (ap (λ (q : Position). q.trail.restores) c.self.view_is) ∙ c.undo.ensures.restored in
    let l : LeftAt g.row.K p t x u = left_at g.row.K p t c.self.inside.variables.items c.self.inside.values.items c.depth-depth.result c.index-x.result.now u c.requires.well r
    (ap (λ (q : Position). q.variables) c.self.view_is) (ap (λ (q : Position). q.values) c.self.view_is) c.depth-depth.ensures.value c.index-x.ensures c.index-u.ensures in
    record { small = subst IsSmallEnd (sym (small_kept u l.small)) l.small }

pub bound-requires : goal.bound-requires
bound-requires g c =
    let p = c.args.self.now in
    let t = c.undo.new.self in
    let x = variable_of c.index-x.result.now in
    let u = c.index-u.result.now in
    let r : p.trail.restores ≡ t.restores ++ t.state ∷ [] = sym (ap (λ (q : Position). q.trail.restores) c.self.view_is) ∙ c.undo.ensures.restored in
    let l : LeftAt g.row.K p t x u = left_at g.row.K p t c.self.inside.variables.items c.self.inside.values.items c.depth-depth.result c.index-x.result.now u c.requires.well r
    (ap (λ (q : Position). q.variables) c.self.view_is) (ap (λ (q : Position). q.values) c.self.view_is) c.depth-depth.ensures.value c.index-x.ensures c.index-u.ensures in
    (omega arith, (c.requires.k, (l.object, l.dimension)))

pub returns-then-not-has_after-clause-left : goal.returns-then-not-has_after-clause-left
returns-then-not-has_after-clause-left g c =
    let p = c.args.self.now in
    let t = c.undo.new.self in
    let x = variable_of c.index-x.result.now in
    let u = c.index-u.result.now in
    let r : p.trail.restores ≡ t.restores ++ t.state ∷ [] = sym (ap (λ (q : Position). q.trail.restores) c.self.view_is) ∙ c.undo.ensures.restored in
    let l : LeftAt g.row.K p t x u = left_at g.row.K p t c.self.inside.variables.items c.self.inside.values.items c.depth-depth.result c.index-x.result.now u c.requires.well r
    (ap (λ (q : Position). q.variables) c.self.view_is) (ap (λ (q : Position). q.values) c.self.view_is) c.depth-depth.ensures.value c.index-x.ensures c.index-u.ensures in
    let levels : t.levels ≡ p.trail.levels = c.undo.ensures.levels ∙ ap (λ (q : Position). q.trail.levels) c.self.view_is in (
      x,
      after x u,
      record { restored = r; variable = l.variable; next = ap (after x) l.value; levels = levels },
      none_from t.state x u (after x u) l.object
          (λ y. false≢true (sym c.if-not-has_after.true ∙ c.has_after.ensures.1 (subst (λ (z : ℤ). HasAfter c.state.result.now x z) (sym (small_kept u l.small)) (subst (λ (S : State). HasAfter S x u) (sym c.state.ensures.value) y)))) refl,
    )

pub returns-clause-left : goal.returns-clause-left
returns-clause-left g c =
    let p = c.args.self.now in
    let t = c.undo.new.self in
    let x = variable_of c.index-x.result.now in
    let u = c.index-u.result.now in
    let r : p.trail.restores ≡ t.restores ++ t.state ∷ [] = sym (ap (λ (q : Position). q.trail.restores) c.self.view_is) ∙ c.undo.ensures.restored in
    let l : LeftAt g.row.K p t x u = left_at g.row.K p t c.self.inside.variables.items c.self.inside.values.items c.depth-depth.result c.index-x.result.now u c.requires.well r
    (ap (λ (q : Position). q.variables) c.self.view_is) (ap (λ (q : Position). q.values) c.self.view_is) c.depth-depth.ensures.value c.index-x.ensures c.index-u.ensures in
    let levels : t.levels ≡ p.trail.levels = c.undo.ensures.levels ∙ ap (λ (q : Position). q.trail.levels) c.self.view_is in
    let same : c.bound.new.t.restores ≡ t.restores = c.bound.ensures.restores in
    let n : length t.restores ≡ length c.bound.new.t.restores = ap length (sym same) in
    let v : c.after.result ≡ after x (get_or p.values (length c.bound.new.t.restores) (pos 0)) =
    c.after.ensures ∙ ap (after x) (small_kept u l.small ∙ l.value ∙ ap (λ (i : ℕ). get_or p.values i (pos 0)) n) in (
      t.state,
      x,
      c.after.result,
      record {
        restored = r ∙ ap (λ (a : List State). a ++ t.state ∷ []) (sym same);
        variable = ap (λ (i : ℕ). get_or p.variables i x) (sym n) ∙ l.variable;
        next = v;
        levels = c.bound.ensures.levels ∙ levels;
      },
      subst (λ (z : ℤ). Narrows t.state c.bound.new.t.state (λ T. IsFrom T x z)) (kept64 c.after.result c.after.type_inv) c.bound.ensures.narrows,
    )

pub returns-then-not-has_after-clause-record : goal.returns-then-not-has_after-clause-record
returns-then-not-has_after-clause-record g c = λ cs es h.
    let p = c.args.self.now in
    let t = c.undo.new.self in
    let x = variable_of c.index-x.result.now in
    let u = c.index-u.result.now in
    let r : p.trail.restores ≡ t.restores ++ t.state ∷ [] = sym (ap (λ (q : Position). q.trail.restores) c.self.view_is) ∙ c.undo.ensures.restored in
    let l : LeftAt g.row.K p t x u = left_at g.row.K p t c.self.inside.variables.items c.self.inside.values.items c.depth-depth.result c.index-x.result.now u c.requires.well r
    (ap (λ (q : Position). q.variables) c.self.view_is) (ap (λ (q : Position). q.values) c.self.view_is) c.depth-depth.ensures.value c.index-x.ensures c.index-u.ensures in
    let none = has_no_later c.state.result.now t.state x _ u c.has_after.result c.has_after.ensures c.state.ensures.value (small_kept u l.small) c.if-not-has_after.true in
    let q : Position = record { first = c.self.inside.first; variables = map variable_of c.self.inside.variables.items; token = token_of c.self.inside.token; trail = t; values = c.self.inside.values.items; along = false; walked = c.self.inside.walked } in
    shut_none p q t.state x u
    (record { first = ap (λ (q : Position). q.first) c.self.view_is; variables = ap (λ (q : Position). q.variables) c.self.view_is; values = ap (λ (q : Position). q.values) c.self.view_is; restores = r; number = l.within; variable = l.variable; value = l.value })
    cs es none h

pub returns-clause-record : goal.returns-clause-record
returns-clause-record g c = λ cs es h.
    let p = c.args.self.now in
    let t = c.undo.new.self in
    let x = variable_of c.index-x.result.now in
    let u = c.index-u.result.now in
    let r : p.trail.restores ≡ t.restores ++ t.state ∷ [] = sym (ap (λ (q : Position). q.trail.restores) c.self.view_is) ∙ c.undo.ensures.restored in
    let l : LeftAt g.row.K p t x u = left_at g.row.K p t c.self.inside.variables.items c.self.inside.values.items c.depth-depth.result c.index-x.result.now u c.requires.well r
    (ap (λ (q : Position). q.variables) c.self.view_is) (ap (λ (q : Position). q.values) c.self.view_is) c.depth-depth.ensures.value c.index-x.ensures c.index-u.ensures in
    let later = has_later c.state.result.now t.state x _ u c.has_after.result c.has_after.ensures c.state.ensures.value (small_kept u l.small) c.if-not-has_after.false in
    let same : c.bound.new.t.restores ≡ t.restores = c.bound.ensures.restores in
    let n : length t.restores ≡ length c.bound.new.t.restores = ap length (sym same) in
    let v : c.after.result ≡ after x u = c.after.ensures ∙ ap (after x) (small_kept u l.small) in
    let b : IsFirstValue t.state x u → c.bound.new.t.state ≡ with_later x u t.state = λ f. c.bound.ensures.later u (kept64 c.after.result c.after.type_inv ∙ v) f later in
    let q : Position = record { first = c.self.inside.first; variables = map variable_of c.self.inside.variables.items; token = token_of c.self.inside.token; trail = c.bound.new.t; values = c.self.inside.values.items; along = false; walked = c.self.inside.walked } in
    shut_later p q t.state x u
    (record {
      first = ap (λ (q : Position). q.first) c.self.view_is;
      variables = ap (λ (q : Position). q.variables) c.self.view_is;
      values = ap (λ (q : Position). q.values) c.self.view_is;
      restores = r ∙ ap (λ (a : List State). a ++ t.state ∷ []) (sym same);
      number = subst (λ (i : ℕ). i < length p.variables) n l.within;
      variable = subst (λ (i : ℕ). get_or p.variables i x ≡ x) n l.variable;
      value = l.value ∙ ap (λ (i : ℕ). get_or p.values i (pos 0)) n;
    })
    cs es later b h
