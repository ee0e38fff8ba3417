use Rattle.std.proofs.Common.{ℕ, List, [], ◌∷◌, ◌++◌, sym, ap, ◌∙◌}
use Rattle.problem_data.proofs.Distinct.{range_push}
use Rattle.problem_text.proofs.build.order.file_order.Goals as goal

pub loop-i-preserved : goal.loop-i-preserved
loop-i-preserved c = c.in_ok-push.ensures.items ∙ ap (λ (ns : List ℕ). ns ++ c.loop-i.i ∷ []) c.loop-i.invariant ∙ sym (range_push c.loop-i.i)
