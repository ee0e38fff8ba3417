use Rattle.std.proofs.Common.{◌≡◌, ◌<◌, ℕ, List, length, map, get_or, false, true, refl, sym, ap, ◌∙◌, arith, below_more}
use Rattle.std.proofs.lemmas.List.{get_or_default, length-map}
use Rattle.geo_base.specs.Tuple.{spot}
use Rattle.problem_data.specs.Cells.{IsSpotOf}
use Rattle.problem_data.specs.Problem.{ObjectData, no_object, ProblemData}
use Rattle.problem_data.specs.Tuple.{object_of}
use Rattle.layout_text.specs.declared.tree.GroupText.{GroupText}
use Rattle.layout_text.specs.Token.{tuple_in}
use Rattle.layout_text.specs.View.{group_view}
use Rattle.layout_text.proofs.GivenSpots.{as_spot, from_spot}
use Rattle.layout_text.proofs.spots.give_tuple.Goals as goal

-- the object of a group
object_there : (p : ProblemData) (os : List ObjectData) (i : ℕ) (o : ObjectData) → os ≡ p.objects → i < length p.objects → o ≡ get_or os i o → o ≡ object_of p i
object_there p os i o same lt is = is ∙ ap (λ (xs : List ObjectData). get_or xs i o) same ∙ get_or_default p.objects i o no_object lt

pub loop-i-preserved : goal.loop-i-preserved
loop-i-preserved c =
    let p : ProblemData = c.args.problem.now in
    let gs : List GroupText = c.args.groups.now in
    let i : ℕ = c.loop-i.i in
    let P : ℕ → Type 0 = λ o. IsSpotOf p (object_of p o) (spot (tuple_in (map group_view gs)) o) in
    let few : i < length p.objects = (let lt : i < length gs = c.loop-i-test.true in let e = ap length c.objects-objects.ensures in let k = c.if-groups-objects.false in omega arith) in
    below_more P i c.loop-i.invariant
    (as_spot p gs i c.index-groups-i.result c.index-objects-i.result c.loop-i-test.true c.index-groups-i.is (object_there p c.objects-objects.result.now i c.index-objects-i.result c.objects-objects.ensures few c.index-objects-i.is) (c.is_spot.ensures.0 c.if-not-is_spot.false))

pub returns-then-not-is_spot : goal.returns-then-not-is_spot
returns-then-not-is_spot c =
    let p : ProblemData = c.args.problem.now in
    let gs : List GroupText = c.args.groups.now in
    let i : ℕ = c.loop-i.i in
    let few : i < length p.objects = (let lt : i < length gs = c.loop-i-test.true in let e = ap length c.objects-objects.ensures in let k = c.if-groups-objects.false in omega arith) in (
      λ t. (let e : false ≡ true = t in absurd cc),
      λ h. sym c.if-not-is_spot.true ∙ c.is_spot.ensures.1
          (from_spot p gs i c.index-groups-i.result c.index-objects-i.result c.loop-i-test.true c.index-groups-i.is (object_there p c.objects-objects.result.now i c.index-objects-i.result c.objects-objects.ensures few c.index-objects-i.is) (h.each i few)),
    )
