use Rattle.std.proofs.Common.{ℕ, ℤ, List, ◌≡◌, ◌<◌, ◌≤ℤ◌, map, length, get_or, subst, sym, arith, below_more}
use Rattle.std.proofs.lemmas.List.{get_or-map, length-map}
use Rattle.geo_base.specs.Boxes.{coordinate}
use Rattle.geo_base.specs.Tuple.{spot}
use Rattle.problem_data.specs.declared.problem.RangeDef.{RangeDef}
use Rattle.problem_data.specs.Problem.{RangeData}
use Rattle.problem_data.specs.Cells.{range_at, IsIn}
use Rattle.problem_data.specs.ProblemView.{range_data}
use Rattle.box_ends.proofs.Corners.{cell_with}
use Rattle.geo_meaning.proofs.boxes.box_lies_within.Goals as goal

module _ (ranges : List RangeDef) (d : ℕ) (e : RangeDef) (h : d < length ranges) where
  range_is : range_at (map range_data ranges) d ≡ range_data (get_or ranges d e)
  range_is = get_or-map range_data ranges d e _ h

  pub in_range : (v : ℤ) → ((get_or ranges d e).low ≤ℤ v) × (v ≤ℤ (get_or ranges d e).high) → ((range_at (map range_data ranges) d).low ≤ℤ v) × (v ≤ℤ (range_at (map range_data ranges) d).high)
  in_range v = subst (λ (x : RangeData). (x.low ≤ℤ v) × (v ≤ℤ x.high)) (sym range_is)

  pub out_of_range : (v : ℤ) → ((get_or ranges d e).low ≤ℤ v → v ≤ℤ (get_or ranges d e).high → ⊥) → ((range_at (map range_data ranges) d).low ≤ℤ v) × (v ≤ℤ (range_at (map range_data ranges) d).high) → ⊥
  out_of_range v outside i = let b = subst (λ (x : RangeData). (x.low ≤ℤ v) × (v ≤ℤ x.high)) range_is i in outside b.0 b.1

pub loop-d-preserved : goal.loop-d-preserved
loop-d-preserved c =
    let P : ℕ → Type 0 = λ e. (v : ℤ) → IsIn c.args.a.now (spot c.args.layout.now c.args.o.0).origin e v
    → ((range_at (map range_data c.args.ranges.now) e).low ≤ℤ v) × (v ≤ℤ (range_at (map range_data c.args.ranges.now) e).high) in
    below_more P c.loop-d.d c.loop-d.invariant
    (λ v i. in_range c.args.ranges.now c.loop-d.d _ c.loop-d-test.true v (c.if-not-part_lies_in.ensures.yes v i))

pub returns-then-not-part_lies_in-clause-no : goal.returns-then-not-part_lies_in-clause-no
returns-then-not-part_lies_in-clause-no c =
    let f = c.if-not-part_lies_in.ensures.no in
    let k = length c.args.ranges.now in
    let w = cell_with k c.args.a.now (spot c.args.layout.now c.args.o.0).origin c.loop-d.d f.0 c.requires.a c.loop-d-test.true f.1.0 in
    let h : c.loop-d.d < length (map range_data c.args.ranges.now) = subst (λ n. c.loop-d.d < n) (sym (length-map c.args.ranges.now range_data)) c.loop-d-test.true in (
      w.0,
      (
        w.1.0,
        λ inside. out_of_range c.args.ranges.now c.loop-d.d _ c.loop-d-test.true f.0 f.1.1
            (subst (λ (v : ℤ). ((range_at (map range_data c.args.ranges.now) c.loop-d.d).low ≤ℤ v) × (v ≤ℤ (range_at (map range_data c.args.ranges.now) c.loop-d.d).high)) w.1.1 (inside c.loop-d.d h)),
      ),
    )

pub returns-clause-yes : goal.returns-clause-yes
returns-clause-yes c = λ x has d h. c.loop-d.invariant d (let e = length-map c.args.ranges.now range_data in omega (arith, e)) (coordinate x d) (has d (let e = length-map c.args.ranges.now range_data in omega (arith, e)))
