use Rattle.std.proofs.Common.{◌<◌, ◌≤◌, ℕ, List, length, map, subst, arith}
use Rattle.std.proofs.lemmas.List.{length-map}
use Rattle.problem_data.specs.Cells.{IsSpotOf}
use Rattle.problem_data.specs.Problem.{ProblemData}
use Rattle.problem_data.specs.Places.{place_count}
use Rattle.problem_data.specs.Tuple.{Spot, object_of}
use Rattle.layout_text.specs.declared.tree.GroupText.{GroupText}
use Rattle.layout_text.specs.Faults.{spot_in}
use Rattle.layout_text.specs.View.{group_view}
use Rattle.layout_text.proofs.GivenSpots.{group_spot}
use Rattle.problem_data.specs.Problem.{no_object}
use Rattle.layout_text.proofs.spots.tuple_in.Goals as goal

pub overflow_cast-group : goal.overflow_cast-group
overflow_cast-group c =
    let p : ProblemData = c.args.problem.now in
    let gs : List GroupText = c.args.groups.now in
    let i : ℕ = c.loop-group.group-index in
    let g : GroupText = c.group-item.result in
    let n = length-map gs group_view in
    let m = length-map (map group_view gs) spot_in in
    let there : i < length gs = c.loop-group-test.true in
    let few : i < length p.objects = omega (arith, n, m, c.requires.objects) in
    let fits : IsSpotOf p (object_of p i) (spot_in (group_view g)) = subst (λ (s : Spot). IsSpotOf p (object_of p i) s) (group_spot gs i g there c.group-item.is) (c.requires.each i few) in
    let last : g.shape ≤ place_count (object_of p i) = fits.form.last in
    let sixteen : place_count (object_of p i) ≤ 16 = (c.is_said.ensures.formed.objects i no_object few).few in
    omega (arith, last, sixteen)
