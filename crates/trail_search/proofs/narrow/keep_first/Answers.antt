use Rattle.std.proofs.Common.{◌≡◌, ◌<◌, ◌≤◌, ◌+◌, ℕ, pos, length, set, arith, ap, sym, ◌∙◌, subst, refl, ℤ, Bool, true, false}
use Rattle.std.proofs.lemmas.Int.{ints}
use Rattle.geo_conditions.specs.Reach.{State, IsState, reach, has, NotEmpty, with_low, with_high}
use Rattle.geo_state.proofs.Numbers.{kept64}
use Rattle.geo_state.proofs.Shapes.{lo_long, hi_long}
use Rattle.geo_conditions.specs.Walk.{object_of, IsFixed, IsFirstValue}
use Rattle.trail_search.specs.declared.variable.Variable.{Variable}
use Rattle.trail_search.specs.declared.variable.Variable.TheVariants.{Coordinate}
use Rattle.trail_search.specs.Variables.{variable_of}
use Rattle.trail_search.specs.Cursor.{HasDimension, Narrows}
use Rattle.trail_search.specs.Record.{with_first}
use Rattle.trail_search.proofs.Moves.{fix_least, fix_up, fix_down}
use Rattle.trail_search.proofs.Cases.{first_place, first_up, first_down}
use Rattle.trail_search.proofs.narrow.keep_first.Goals as goal

pub returns-in-Place-clause-narrows : goal.returns-in-Place-clause-narrows
returns-in-Place-clause-narrows g c =
    let S = c.args.t.now.state in
    let is = c.in-Place.is in
    let o = c.in-Place.o.0 in
    subst (λ (y : Variable). Narrows S c.shed.new.t.state (λ T. IsFixed T (variable_of y) c.args.u)) (sym is)
    (fix_least S c.shed.new.t.state o c.least_place-place.result (c.least_place-place.result + 1) c.args.u (subst (λ (T : State). length (reach T o).places ≡ 16) c.state.ensures.value c.region-region.ensures.places) (subst (λ (y : Variable). IsFirstValue S (variable_of y) c.args.u) is c.requires.first) (ap (λ (T : State). has T o c.least_place-place.result) (sym c.state-in-Place.ensures.value) ∙ c.least_place-place.ensures.there) (λ z t. c.least_place-place.ensures.least z (ap (λ (T : State). has T o z) c.state-in-Place.ensures.value ∙ t)) refl c.shed.ensures.sheds)

pub returns-then-down-clause-narrows : goal.returns-then-down-clause-narrows
returns-then-down-clause-narrows g c =
    let S = c.args.t.now.state in
    let o = c.in-Coordinate.o.0 in
    let d = c.in-Coordinate.d in
    let is : c.args.x ≡ Coordinate c.in-Coordinate.o d true = c.in-Coordinate.is ∙ ap (λ (b : Bool). Coordinate c.in-Coordinate.o d b) c.if-down.true in
    let k : d < g.row.K = subst (λ (y : Variable). HasDimension g.row.K (variable_of y)) is c.requires.dimension in
    let shape : IsState g.row.K S = subst (IsState g.row.K) c.state-in-Coordinate.ensures.value c.objects-objects.ensures.shape in
    let h : o < length S = subst (λ (y : Variable). object_of (variable_of y) < length S) is c.requires.object in
    subst (λ (y : Variable). Narrows S c.set_low.new.self.state (λ T. IsFixed T (variable_of y) c.args.u)) (sym is)
    (fix_down S c.set_low.new.self.state o d c.args.u h (omega (arith, lo_long g.row.K S o shape h, k)) (subst (λ (y : Variable). NotEmpty (reach S (object_of (variable_of y)))) is c.requires.full) (subst (λ (y : Variable). IsFirstValue S (variable_of y) c.args.u) is c.requires.first) (c.set_low.ensures.state ∙ ap (λ (z : ℤ). set S o (with_low (reach S o) d z)) (kept64 c.args.u c.ranges.u.sfits)))

pub returns-else-down-clause-narrows : goal.returns-else-down-clause-narrows
returns-else-down-clause-narrows g c =
    let S = c.args.t.now.state in
    let o = c.in-Coordinate.o.0 in
    let d = c.in-Coordinate.d in
    let is : c.args.x ≡ Coordinate c.in-Coordinate.o d false = c.in-Coordinate.is ∙ ap (λ (b : Bool). Coordinate c.in-Coordinate.o d b) c.if-down.false in
    let k : d < g.row.K = subst (λ (y : Variable). HasDimension g.row.K (variable_of y)) is c.requires.dimension in
    let shape : IsState g.row.K S = subst (IsState g.row.K) c.state-in-Coordinate.ensures.value c.objects-objects.ensures.shape in
    let h : o < length S = subst (λ (y : Variable). object_of (variable_of y) < length S) is c.requires.object in
    subst (λ (y : Variable). Narrows S c.set_high.new.self.state (λ T. IsFixed T (variable_of y) c.args.u)) (sym is)
    (fix_up S c.set_high.new.self.state o d c.args.u h (omega (arith, hi_long g.row.K S o shape h, k)) (subst (λ (y : Variable). NotEmpty (reach S (object_of (variable_of y)))) is c.requires.full) (subst (λ (y : Variable). IsFirstValue S (variable_of y) c.args.u) is c.requires.first) (c.set_high.ensures.state ∙ ap (λ (z : ℤ). set S o (with_high (reach S o) d z)) (kept64 c.args.u c.ranges.u.sfits)))

pub returns-in-Place-clause-first : goal.returns-in-Place-clause-first
returns-in-Place-clause-first g c =
    let S = c.args.t.now.state in
    let is = c.in-Place.is in
    let o = c.in-Place.o.0 in
    let p = c.least_place-place.result in
    let f = subst (λ (y : Variable). IsFirstValue S (variable_of y) c.args.u) is c.requires.first in
    let there : has S o p ≡ true = ap (λ (T : State). has T o p) (sym c.state-in-Place.ensures.value) ∙ c.least_place-place.ensures.there in
    let least : (z : ℕ) → has S o z ≡ true → p ≤ z = λ z t. c.least_place-place.ensures.least z (ap (λ (T : State). has T o z) c.state-in-Place.ensures.value ∙ t) in
    let v : c.args.u ≡ pos p = (let a : f.0 ≤ p = f.3 p there in let b : p ≤ f.0 = least f.0 f.2 in omega (arith, ints, f.1, a, b)) in
    subst (λ (y : Variable). c.shed.new.t.state ≡ with_first (variable_of y) c.args.u S) (sym is)
    (first_place S c.shed.new.t.state o p c.args.u (subst (λ (T : State). length (reach T o).places ≡ 16) c.state.ensures.value c.region-region.ensures.places) there least v c.shed.ensures.clears)

pub returns-then-down-clause-first : goal.returns-then-down-clause-first
returns-then-down-clause-first g c =
    let S = c.args.t.now.state in
    let o = c.in-Coordinate.o.0 in
    let d = c.in-Coordinate.d in
    let is : c.args.x ≡ Coordinate c.in-Coordinate.o d true = c.in-Coordinate.is ∙ ap (λ (b : Bool). Coordinate c.in-Coordinate.o d b) c.if-down.true in
    subst (λ (y : Variable). c.set_low.new.self.state ≡ with_first (variable_of y) c.args.u S) (sym is)
    (first_down S c.set_low.new.self.state o d c.args.u (subst (λ (y : Variable). NotEmpty (reach S (object_of (variable_of y)))) is c.requires.full) (subst (λ (y : Variable). IsFirstValue S (variable_of y) c.args.u) is c.requires.first) (c.set_low.ensures.state ∙ ap (λ (z : ℤ). set S o (with_low (reach S o) d z)) (kept64 c.args.u c.ranges.u.sfits)))

pub returns-else-down-clause-first : goal.returns-else-down-clause-first
returns-else-down-clause-first g c =
    let S = c.args.t.now.state in
    let o = c.in-Coordinate.o.0 in
    let d = c.in-Coordinate.d in
    let is : c.args.x ≡ Coordinate c.in-Coordinate.o d false = c.in-Coordinate.is ∙ ap (λ (b : Bool). Coordinate c.in-Coordinate.o d b) c.if-down.false in
    subst (λ (y : Variable). c.set_high.new.self.state ≡ with_first (variable_of y) c.args.u S) (sym is)
    (first_up S c.set_high.new.self.state o d c.args.u (subst (λ (y : Variable). NotEmpty (reach S (object_of (variable_of y)))) is c.requires.full) (subst (λ (y : Variable). IsFirstValue S (variable_of y) c.args.u) is c.requires.first) (c.set_high.ensures.state ∙ ap (λ (z : ℤ). set S o (with_high (reach S o) d z)) (kept64 c.args.u c.ranges.u.sfits)))
