use Rattle.std.proofs.Common.{◌≡◌, List, map, subst, sym, false, true, ◌∙◌}
use Rattle.problem_data.specs.declared.tree.Int.{Int}
use Rattle.problem_data.specs.Meaning.{number_of}
use Rattle.problem_data.specs.Places.{is_absent_at}
use Rattle.problem_data.specs.Problem.{RangeData}
use Rattle.problem_data.specs.Tuple.{Spot}
use Rattle.layout_text.specs.Faults.{AreInPieces, first_values, spot_in}
use Rattle.layout_text.specs.View.{group_view}
use Rattle.layout_text.proofs.GivenSpots.{made_spot, spot_first, spot_inside}
use Rattle.layout_text.proofs.spots.is_spot.Goals as goal

pub returns-then-not-has_form : goal.returns-then-not-has_form
returns-then-not-has_form c = (
  (λ t. (let e : false ≡ true = t in absurd cc)),
  (λ h. sym c.if-not-has_form.true ∙ c.has_form.ensures.1 h.form),
)

pub returns-else-are_in_pieces : goal.returns-else-are_in_pieces
returns-else-are_in_pieces c =
    let s : Spot = spot_in (group_view c.args.group.now) in (
      (λ t. (let e : false ≡ true = sym c.if-are_in_pieces.false ∙ t in absurd cc)),
      (λ h. c.are_in_pieces.ensures.1
          (subst (λ (xs : List Int). AreInPieces c.pieces.result.now (map number_of xs)) (sym c.as_slice-origin.ensures.value)
          (subst (λ (rs : List (List RangeData)). AreInPieces rs s.origin) (sym c.pieces.ensures) (spot_inside c.args.problem.now c.args.object.now s c.requires h)))),
    )

pub returns-then-are_in_pieces : goal.returns-then-are_in_pieces
returns-then-are_in_pieces c =
    let s : Spot = spot_in (group_view c.args.group.now) in
    let inside : AreInPieces c.args.object.now.pieces s.origin =
    subst (λ (rs : List (List RangeData)). AreInPieces rs s.origin) c.pieces.ensures
    (subst (λ (xs : List Int). AreInPieces c.pieces.result.now (map number_of xs)) c.as_slice-origin.ensures.value (c.are_in_pieces.ensures.0 c.if-are_in_pieces.true)) in (
      (λ t. made_spot c.args.problem.now c.args.object.now s c.requires (c.has_form.ensures.0 c.if-not-has_form.false) inside
          (subst (λ (xs : List Int). is_absent_at c.args.object.now s.place ≡ true → map number_of xs ≡ first_values c.args.problem.now c.args.object.now) c.as_slice-origin.ensures.value (c.lies_right.ensures.0 t))),
      (λ h. c.lies_right.ensures.1
          (subst (λ (xs : List Int). is_absent_at c.args.object.now s.place ≡ true → map number_of xs ≡ first_values c.args.problem.now c.args.object.now) (sym c.as_slice-origin.ensures.value) (spot_first c.args.problem.now c.args.object.now s h))),
    )
