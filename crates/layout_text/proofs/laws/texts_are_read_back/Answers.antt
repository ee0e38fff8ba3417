use Rattle.layout_text.proofs.ReadBack.{reads_back, one_block, one_token}
use Rattle.layout_text.proofs.laws.texts_are_read_back.Goals as goal

pub returns-clause-read_back : goal.returns-clause-read_back
returns-clause-read_back c = λ t is short. reads_back c.args.problem.now c.is_said.ensures.formed c.is_said.ensures.said t is short

pub returns-clause-one_block : goal.returns-clause-one_block
returns-clause-one_block c = λ t u is also e. one_block c.args.problem.now c.is_said.ensures.formed c.is_said.ensures.said t u is also e

pub returns-clause-one_token : goal.returns-clause-one_token
returns-clause-one_token c = λ t u is also e. one_token c.args.problem.now c.is_said.ensures.formed c.is_said.ensures.said t u is also e
