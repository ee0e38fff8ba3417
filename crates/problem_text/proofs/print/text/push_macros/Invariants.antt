use Rattle.std.proofs.Common.{◌≡◌, ◌++◌, drop}
use Rattle.std.specs.Prelude.{flat_map}
use Rattle.problem_text.specs.Canonical.{line_text, macro_spelling}
use Rattle.problem_text.proofs.print.text.push_macros.Given as goal

abbrev pub invariant-macros : goal.invariant-macros
invariant-macros l = l.text.items ++ flat_map (λ m. line_text (macro_spelling m)) (drop l.own-index l.macros) ≡ l.fn.text.items ++ flat_map (λ m. line_text (macro_spelling m)) l.fn.macros
