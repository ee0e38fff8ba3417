use Rattle.std.proofs.Common.{◌≡◌, ◌+◌, ℕ, ℤ, Some, length, sym, ap, ◌∙◌, subst, arith, to_z, of_z, to_z-of_z, w64}
use Rattle.std.proofs.lemmas.Grind.{common_steps}
use Rattle.geo_base.specs.Tuple.{spot}
use Rattle.problem_data.specs.Cells.{box_at}
use Rattle.problem_data.specs.Problem.{BoxData}
use Rattle.box_ends.proofs.Corners.{box_there}
use Rattle.extent_caps.specs.Extents.{IsGreatestOf, box_end}
use Rattle.extent_caps.proofs.Ending.{Below, all-below, box-small, greatest-more, greatest-one, origin-small}
use Rattle.extent_caps.proofs.ends.end_of_object.Goals as goal

pub end_of_box-requires-clause-origin : goal.end_of_box-requires-clause-origin
end_of_box-requires-clause-origin c = origin-small c.args.problem.now c.args.layout.now c.is_said.ensures.formed c.requires.layout c.args.o.0 c.args.d c.requires.o c.requires.d

pub end_of_box-requires-clause-small : goal.end_of_box-requires-clause-small
end_of_box-requires-clause-small c =
    box-small c.args.problem.now c.args.layout.now c.is_said.ensures.formed c.requires.layout c.args.o.0 c.args.d c.loop-b.b-index c.boxes-own.result.now c.b-item.result c.requires.shapes c.requires.o c.requires.d
    c.boxes-own.ensures.same c.b-item.is c.loop-b-test.true

pub loop-b-preserved : goal.loop-b-preserved
loop-b-preserved c =
    let own = c.boxes-own.result.now in
    let i = c.loop-b.b-index in
    let origin = (spot c.args.layout.now c.args.o.0).origin in
    let Ends : ℕ → ℤ → Type 0 = λ n v. v ≡ box_end (box_at own n) origin c.args.d in
    let end = to_z w64 (of_z w64 c.end_of_box.result) in
    let is = to_z-of_z {w = w64} (record { sfits = c.end_of_box.type_inv }) ∙ c.end_of_box.ensures ∙ ap (λ (b : BoxData). box_end b origin c.args.d) (box_there own i c.b-item.result c.b-item.is c.loop-b-test.true) in
    subst (IsGreatestOf (Below Ends (i + 1))) (sym c.later-greatest.ensures)
    (greatest-more Ends i c.loop-b.greatest (Some end) c.loop-b.invariant (greatest-one (box_end (box_at own i) origin c.args.d) end is))

pub returns : goal.returns
returns c =
    let all : c.loop-b.b-index ≡ length c.boxes-own.result.now = grind (arith, common_steps) in
    all-below c.boxes-own.result.now _ (spot c.args.layout.now c.args.o.0).origin c.args.d c.loop-b.b-index c.loop-b.greatest c.boxes-own.ensures.same all c.loop-b.invariant
