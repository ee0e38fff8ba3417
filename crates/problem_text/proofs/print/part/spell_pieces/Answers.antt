use Rattle.std.proofs.Common.{map, pos, refl}
use Rattle.problem_data.specs.ProblemView.{range_data}
use Rattle.problem_text.specs.Canonical.{range_spelling}
use Rattle.problem_text.proofs.PrintingLists.{left_listed, comma_joined_at, comma_joined_end, none_left}
use Rattle.problem_text.proofs.print.part.spell_pieces.Goals as goal

pub pieces-preserved : goal.pieces-preserved
pieces-preserved c =
    comma_joined_at (λ b xs. left_listed b range_spelling (map range_data xs)) (λ x. range_spelling (range_data x)) (λ x xs. refl) (λ x xs. refl) c.pieces.is_first c.args.pieces.now c.pieces.piece-index (record { low = pos 0; high = pos 0 }) _ _ _ _ _ c.pieces-test.true refl (c.in_ok-push_if.ensures {u = tt}) (c.in_ok-spell_range.ensures {u = tt}) c.pieces.invariant

pub returns : goal.returns
returns c =
    comma_joined_end (λ b xs. left_listed b range_spelling (map range_data xs)) (none_left range_spelling) c.pieces.is_first c.args.pieces.now c.pieces.piece-index _ _ c.pieces-test.false c.pieces.invariant
