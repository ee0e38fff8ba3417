use Rattle.std.proofs.Common.{ℤ, ◌≤ℤ◌, arith}
use Rattle.std.proofs.lemmas.Int.{ints}
use Rattle.geo_base.specs.Tuple.{spot}
use Rattle.problem_data.specs.Cells.{IsIn}
use Rattle.box_ends.proofs.Corners.{on_true_map, on_false_map}
use Rattle.geo_meaning.proofs.boxes.part_lies_in.Goals as goal

pub returns-clause-yes : goal.returns-clause-yes
returns-clause-yes c = on_true_map c.all_between.result _ ((x : ℤ) → IsIn c.args.a.now (spot c.args.layout.now c.args.o.0).origin c.args.d x → (c.args.range.now.low ≤ℤ x) × (x ≤ℤ c.args.range.now.high)) c.all_between.ensures.yes
    (λ f x h. let b = f x (omega (arith, ints)) (omega (arith, ints)) in (omega (arith, ints, b.0), omega (arith, ints, b.1)))

pub returns-clause-no : goal.returns-clause-no
returns-clause-no c = on_false_map c.all_between.result _ ((x : ℤ) × (IsIn c.args.a.now (spot c.args.layout.now c.args.o.0).origin c.args.d x × ((c.args.range.now.low ≤ℤ x) → (x ≤ℤ c.args.range.now.high) → ⊥))) c.all_between.ensures.no
    (λ f. (f.0, (record { from = omega (arith, ints); to = omega (arith, ints) }, λ l h. f.1.2 (omega (arith, ints)) (omega (arith, ints)))))
