use Rattle.std.proofs.Common.{◌≡◌, ◌∙◌, true, false, ap, sym}
use Rattle.derivation.specs.declared.event.Event.TheVariants.{SplitFrom, SplitUpto}
use Rattle.geo_conditions.specs.Walk.{Variable as Seen, CoordinateOf}
use Rattle.geo_state.proofs.Numbers.{kept64}
use Rattle.trail_search.specs.Variables.{variable_of, split_of}
use Rattle.trail_search.proofs.variable.split.Goals as goal

pub returns-then-down : goal.returns-then-down
returns-then-down g c =
    let v : variable_of c.args.x ≡ CoordinateOf c.in-Coordinate.o.0 c.in-Coordinate.d true = ap variable_of c.in-Coordinate.is ∙ ap (CoordinateOf c.in-Coordinate.o.0 c.in-Coordinate.d) c.if-down.true in
    ap (SplitFrom c.in-Coordinate.o c.in-Coordinate.d) (kept64 c.args.u c.ranges.u.sfits) ∙ sym (ap (λ (x : Seen). split_of x c.args.u) v)

pub returns-else-down : goal.returns-else-down
returns-else-down g c =
    let v : variable_of c.args.x ≡ CoordinateOf c.in-Coordinate.o.0 c.in-Coordinate.d false = ap variable_of c.in-Coordinate.is ∙ ap (CoordinateOf c.in-Coordinate.o.0 c.in-Coordinate.d) c.if-down.false in
    ap (SplitUpto c.in-Coordinate.o c.in-Coordinate.d) (kept64 c.args.u c.ranges.u.sfits) ∙ sym (ap (λ (x : Seen). split_of x c.args.u) v)
