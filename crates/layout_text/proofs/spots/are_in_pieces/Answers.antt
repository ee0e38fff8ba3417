use Rattle.std.proofs.Common.{◌≡◌, ◌<◌, ℕ, pos, [], length, map, false, true, refl, sym, ◌∙◌, arith, below_more}
use Rattle.std.specs.Prelude.{slice_index_or}
use Rattle.geo_base.specs.Boxes.{coordinate}
use Rattle.problem_data.specs.Meaning.{number_of}
use Rattle.problem_data.specs.Pieces.{IsInPieces}
use Rattle.layout_text.proofs.GivenSpots.{in_pieces, out_of_pieces}
use Rattle.layout_text.proofs.spots.are_in_pieces.Goals as goal

pub loop-i-preserved : goal.loop-i-preserved
loop-i-preserved c =
    let P : ℕ → Type 0 = λ d. IsInPieces (slice_index_or c.args.pieces.now d []) (coordinate (map number_of c.args.origin.now) d) in
    below_more P c.loop-i.i c.loop-i.invariant
    (in_pieces c.args.pieces.now c.args.origin.now c.loop-i.i c.index-pieces-i.result (record { place = 0; value = pos 0 }) c.requires c.loop-i-test.true c.index-pieces-i.is (c.is_in_pieces.ensures.0 c.if-not-is_in_pieces.false))

pub returns-then-not-is_in_pieces : goal.returns-then-not-is_in_pieces
returns-then-not-is_in_pieces c =
    let few : c.loop-i.i < length c.args.pieces.now = (let lt : c.loop-i.i < length c.args.origin.now = c.loop-i-test.true in omega (arith, c.requires)) in (
      λ t. (let e : false ≡ true = t in absurd cc),
      λ h. sym c.if-not-is_in_pieces.true ∙ c.is_in_pieces.ensures.1
          (out_of_pieces c.args.pieces.now c.args.origin.now c.loop-i.i c.index-pieces-i.result (record { place = 0; value = pos 0 }) c.requires c.loop-i-test.true c.index-pieces-i.is (h c.loop-i.i few)),
    )

pub returns : goal.returns
returns c = (λ t d lt. c.loop-i.invariant d (omega (arith, c.requires)), λ h. refl)
