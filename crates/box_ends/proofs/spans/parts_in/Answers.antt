use Rattle.std.proofs.Common.{ℤ, arith}
use Rattle.std.proofs.lemmas.Int.{ints}
use Rattle.geo_base.specs.Tuple.{spot}
use Rattle.problem_data.specs.Cells.{IsIn}
use Rattle.box_ends.proofs.Corners.{on_true_map, on_false_map}
use Rattle.box_ends.proofs.spans.parts_in.Goals as goal

pub returns-clause-yes : goal.returns-clause-yes
returns-clause-yes c = on_true_map c.no_common.result _ ((x : ℤ) → IsIn c.args.a.now (spot c.args.layout.now c.args.o.0).origin c.args.d x → IsIn c.args.b.now (spot c.args.layout.now c.args.u.0).origin c.args.d x → ⊥) c.no_common.ensures.yes
    (λ f x h k. f x (omega (arith, ints)) (omega (arith, ints)) (omega (arith, ints)) (omega (arith, ints)))

pub returns-clause-no : goal.returns-clause-no
returns-clause-no c = on_false_map c.no_common.result _ ((x : ℤ) × (IsIn c.args.a.now (spot c.args.layout.now c.args.o.0).origin c.args.d x × IsIn c.args.b.now (spot c.args.layout.now c.args.u.0).origin c.args.d x)) c.no_common.ensures.no
    (λ f. (f.0, (record { from = omega (arith, ints); to = omega (arith, ints) }, record { from = omega (arith, ints); to = omega (arith, ints) })))
