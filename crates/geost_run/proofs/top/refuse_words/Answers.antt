use Rattle.geost_run.proofs.top.refuse_words.Goals as goal

pub returns-in-Err-Failed-clause-quiet : goal.returns-in-Err-Failed-clause-quiet
returns-in-Err-Failed-clause-quiet g c = λ quiet wants. cc
