use Rattle.std.proofs.Common.{◌≡◌, ◌<ℤ◌, set, length, pos, ◌≤ℤ◌, ap, sym, ◌∙◌, subst, ℤ, Bool, true, false}
use Rattle.geo_conditions.specs.Reach.{State, reach, low, high, with_low, with_high}
use Rattle.geo_state.proofs.Numbers.{kept64}
use Rattle.geo_conditions.specs.Walk.{IsFirstValue, CoordinateOf}
use Rattle.trail_search.specs.declared.variable.Variable.{Variable}
use Rattle.trail_search.specs.declared.variable.Variable.TheVariants.{Coordinate}
use Rattle.trail_search.specs.Variables.{variable_of}
use Rattle.trail_search.specs.Cursor.{Narrows, IsFrom}
use Rattle.trail_search.specs.Cursor.{after, HasAfter}
use Rattle.trail_search.specs.Record.{with_later}
use Rattle.trail_search.proofs.Moves.{bound_place}
use Rattle.trail_search.proofs.Cases.{place_bound, later_up, later_down}
use Rattle.trail_search.proofs.narrow.bound.Goals as goal

pub returns-in-Place-clause-narrows : goal.returns-in-Place-clause-narrows
returns-in-Place-clause-narrows g c =
    let S = c.args.t.now.state in
    let o = c.in-Place.o.0 in
    let e = c.place_within.ensures in
    let k = kept64 c.args.v c.ranges.v.sfits in
    subst (λ (y : Variable). Narrows S c.shed.new.t.state (λ T. IsFrom T (variable_of y) c.args.v)) (sym c.in-Place.is)
    (bound_place S c.shed.new.t.state o c.place_within.result c.args.v (subst (λ (T : State). length (reach T o).places ≡ 16) c.state.ensures.value c.region-region.ensures.places) e.to e.from (λ h. subst (λ (z : ℤ). z ≤ℤ pos c.place_within.result) k (e.above h)) (λ h. subst (λ (z : ℤ). pos c.place_within.result ≤ℤ z) k (e.below h)) c.shed.ensures.sheds)

pub returns-then-down-clause-narrows : goal.returns-then-down-clause-narrows
returns-then-down-clause-narrows g c =
    let S = c.args.t.now.state in
    let is : c.args.x ≡ Coordinate c.in-Coordinate.o c.in-Coordinate.d true = c.in-Coordinate.is ∙ ap (λ (b : Bool). Coordinate c.in-Coordinate.o c.in-Coordinate.d b) c.if-down.true in
    subst (λ (y : Variable). Narrows S c.lower_to.new.t.state (λ T. IsFrom T (variable_of y) c.args.v)) (sym is)
    (subst (λ (z : ℤ). Narrows S c.lower_to.new.t.state (λ T. IsFrom T (CoordinateOf c.in-Coordinate.o.0 c.in-Coordinate.d true) z)) (kept64 c.args.v c.ranges.v.sfits) c.lower_to.ensures.narrows)

pub returns-else-down-clause-narrows : goal.returns-else-down-clause-narrows
returns-else-down-clause-narrows g c =
    let S = c.args.t.now.state in
    let is : c.args.x ≡ Coordinate c.in-Coordinate.o c.in-Coordinate.d false = c.in-Coordinate.is ∙ ap (λ (b : Bool). Coordinate c.in-Coordinate.o c.in-Coordinate.d b) c.if-down.false in
    subst (λ (y : Variable). Narrows S c.raise_to.new.t.state (λ T. IsFrom T (variable_of y) c.args.v)) (sym is)
    (subst (λ (z : ℤ). Narrows S c.raise_to.new.t.state (λ T. IsFrom T (CoordinateOf c.in-Coordinate.o.0 c.in-Coordinate.d false) z)) (kept64 c.args.v c.ranges.v.sfits) c.raise_to.ensures.narrows)

pub returns-in-Place-clause-later : goal.returns-in-Place-clause-later
returns-in-Place-clause-later g c =
    let S = c.args.t.now.state in
    let o = c.in-Place.o.0 in
    let e = c.place_within.ensures in
    let k = kept64 c.args.v c.ranges.v.sfits in
    subst (λ (y : Variable). (u : ℤ) → c.args.v ≡ after (variable_of y) u → IsFirstValue S (variable_of y) u → HasAfter S (variable_of y) u → c.shed.new.t.state ≡ with_later (variable_of y) u S) (sym c.in-Place.is)
    (λ u n f h. place_bound S c.shed.new.t.state o c.place_within.result c.args.v u (subst (λ (T : State). length (reach T o).places ≡ 16) c.state.ensures.value c.region-region.ensures.places) e.from e.to (λ l. subst (λ (z : ℤ). z ≤ℤ pos c.place_within.result) k (e.above l)) (λ l. subst (λ (z : ℤ). pos c.place_within.result ≤ℤ z) k (e.below l)) n f h c.shed.ensures.clears)

pub returns-then-down-clause-later : goal.returns-then-down-clause-later
returns-then-down-clause-later g c =
    let S = c.args.t.now.state in
    let o = c.in-Coordinate.o in
    let d = c.in-Coordinate.d in
    let is : c.args.x ≡ Coordinate o d true = c.in-Coordinate.is ∙ ap (λ (b : Bool). Coordinate o d b) c.if-down.true in
    let N = c.lower_to.new.t.state in
    let q : c.args.v <ℤ high S o.0 d → low S o.0 d ≤ℤ c.args.v → N ≡ set S o.0 (with_high (reach S o.0) d c.args.v) =
    subst (λ (z : ℤ). z <ℤ high S o.0 d → low S o.0 d ≤ℤ z → N ≡ set S o.0 (with_high (reach S o.0) d z)) (kept64 c.args.v c.ranges.v.sfits) c.lower_to.ensures.lowered in
    subst (λ (y : Variable). (u : ℤ) → c.args.v ≡ after (variable_of y) u → IsFirstValue S (variable_of y) u → HasAfter S (variable_of y) u → N ≡ with_later (variable_of y) u S) (sym is)
    (λ u n f h. later_down S N o.0 d c.args.v u n f h q)

pub returns-else-down-clause-later : goal.returns-else-down-clause-later
returns-else-down-clause-later g c =
    let S = c.args.t.now.state in
    let o = c.in-Coordinate.o in
    let d = c.in-Coordinate.d in
    let is : c.args.x ≡ Coordinate o d false = c.in-Coordinate.is ∙ ap (λ (b : Bool). Coordinate o d b) c.if-down.false in
    let N = c.raise_to.new.t.state in
    let q : low S o.0 d <ℤ c.args.v → c.args.v ≤ℤ high S o.0 d → N ≡ set S o.0 (with_low (reach S o.0) d c.args.v) =
    subst (λ (z : ℤ). low S o.0 d <ℤ z → z ≤ℤ high S o.0 d → N ≡ set S o.0 (with_low (reach S o.0) d z)) (kept64 c.args.v c.ranges.v.sfits) c.raise_to.ensures.raised in
    subst (λ (y : Variable). (u : ℤ) → c.args.v ≡ after (variable_of y) u → IsFirstValue S (variable_of y) u → HasAfter S (variable_of y) u → N ≡ with_later (variable_of y) u S) (sym is)
    (λ u n f h. later_up S N o.0 d c.args.v u n f h q)
