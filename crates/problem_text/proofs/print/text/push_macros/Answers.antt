use Rattle.std.proofs.Common.{refl}
use Rattle.std.specs.Prelude.{flat_map}
use Rattle.problem_text.specs.Canonical.{line_text, macro_spelling}
use Rattle.problem_text.proofs.PrintingLists.{joined}
use Rattle.problem_text.proofs.print.text.push_macros.Goals as goal

pub macros-preserved : goal.macros-preserved
macros-preserved c = joined (λ xs. flat_map (λ m. line_text (macro_spelling m)) xs) (λ m. line_text (macro_spelling m)) (λ x xs. refl) c.args.macros.now c.macros.own-index c.own-item.result _ _ _ c.macros-test.true c.own-item.is (c.in_ok-push_macro.ensures {u = tt}) c.macros.invariant
