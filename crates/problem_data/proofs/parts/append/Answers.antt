use Rattle.problem_data.proofs.parts.append.Goals as goal

pub returns : goal.returns
returns g c = (c.in_ok-push.ensures {u = tt}).items
