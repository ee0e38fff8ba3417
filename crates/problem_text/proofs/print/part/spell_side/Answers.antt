use Rattle.problem_text.proofs.print.part.spell_side.Goals as goal

pub returns-in-High : goal.returns-in-High
returns-in-High c = rw c.in-High.is c.push_word-in-High.ensures
