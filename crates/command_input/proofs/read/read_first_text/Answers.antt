use Rattle.std.proofs.Common.{List, ℕ, subst}
use Rattle.command_input.specs.Reading.{ReadsUpTo}
use Rattle.command_input.proofs.Taking.{one_text, first_short}
use Rattle.command_input.proofs.read.read_first_text.Goals as goal

pub returns-clause-text : goal.returns-clause-text
returns-clause-text g c =
    one_text _ _ c.read_up_to.new.text.items (subst (λ (t : List ℕ). ReadsUpTo 1048577 (g.S.Source.left c.args.source.now) (g.S.Source.left c.read_up_to.new.source) t c.read_up_to.new.text.items) c.new-text.ensures.items c.in_ok-read_up_to.ensures.text)

pub returns-clause-short : goal.returns-clause-short
returns-clause-short g c =
    first_short _ _ c.read_up_to.new.text.items (subst (λ (t : List ℕ). ReadsUpTo 1048577 (g.S.Source.left c.args.source.now) (g.S.Source.left c.read_up_to.new.source) t c.read_up_to.new.text.items) c.new-text.ensures.items c.in_ok-read_up_to.ensures.text)
