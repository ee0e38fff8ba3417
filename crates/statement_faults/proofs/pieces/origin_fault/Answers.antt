use Rattle.std.proofs.Common.{◌≡◌, ℕ, length, map, sym, subst}
use Rattle.std.proofs.lemmas.List.{length-map}
use Rattle.geo_tokens.specs.declared.fault.FaultWord.TheVariants.{Limit}
use Rattle.problem_data.specs.Least.{fault, IsLeast}
use Rattle.problem_data.specs.View.{pieces_view}
use Rattle.problem_data.specs.Faults.{Among, Miscounted, first_place, pieces_place, PiecesFault}
use Rattle.problem_data.proofs.Firsts.{joined, placed}
use Rattle.problem_data.proofs.InLists.{least_view}
use Rattle.statement_faults.proofs.pieces.origin_fault.Goals as goal

pub returns : goal.returns
returns c =
    joined (Miscounted pieces_place c.args.k (map pieces_view c.args.ranges.now)) (Among (λ before. PiecesFault) (map pieces_view c.args.ranges.now)) _ _ _ c.earlier.ensures
    (subst (λ (n : ℕ). IsLeast (λ f. (n ≡ c.args.k → ⊥) × (f ≡ fault (first_place pieces_place (map pieces_view c.args.ranges.now)) Limit)) c.miscount-count.result) (sym (length-map c.args.ranges.now pieces_view))
    (placed (length c.args.ranges.now ≡ c.args.k → ⊥) _ _ _ _ c.first_piece.ensures c.miscount-count.ensures))
    (least_view pieces_view (λ before. PiecesFault) c.args.ranges.now _ c.each_fault-each.ensures)
