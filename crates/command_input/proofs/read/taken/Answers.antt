use Rattle.command_input.proofs.read.taken.Goals as goal

pub returns-in-Err-clause-count : goal.returns-in-Err-clause-count
returns-in-Err-clause-count c = tt {0}
