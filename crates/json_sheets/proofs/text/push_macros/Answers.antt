use Rattle.std.proofs.Common.{refl}
use Rattle.problem_text.specs.Canonical.{line_text}
use Rattle.problem_text.proofs.PrintingLists.{joined}
use Rattle.json_sheets.specs.SheetText.{macro_line, lines}
use Rattle.json_sheets.proofs.text.push_macros.Goals as goal

pub macros-preserved : goal.macros-preserved
macros-preserved c =
    joined (λ xs. lines macro_line xs) (λ x. line_text (macro_line x)) (λ x xs. refl) c.args.macros.now c.macros.own-index c.own-item.result _ _ _ c.macros-test.true c.own-item.is (c.in_ok-push_macro.ensures {u = tt}) c.macros.invariant
