use Rattle.generated_problems.proofs.Canonical.{made_is_canonical}
use Rattle.generated_problems.proofs.ReadBack.{made_reads_back, made_printed_again}
use Rattle.generated_problems.proofs.laws.made_texts_are_read_back.Goals as goal

pub returns-clause-canonical : goal.returns-clause-canonical
returns-clause-canonical c = made_is_canonical c.args.seed

pub returns-clause-read : goal.returns-clause-read
returns-clause-read c = made_reads_back c.args.seed

pub returns-clause-printed : goal.returns-clause-printed
returns-clause-printed c = made_printed_again c.args.seed
