use Rattle.command_reply.proofs.Ending.{decides_accepted, decides_refused}
use Rattle.search_commands.specs.Best.{best_question}
use Rattle.search_commands.specs.Refuted.{search_says}
use Rattle.search_commands.proofs.best.BestDeciding.decide.Goals as goal

pub returns-in_ok-best_of-in-Ok-clause-answer : goal.returns-in_ok-best_of-in-Ok-clause-answer
returns-in_ok-best_of-in-Ok-clause-answer g c =
    decides_accepted (best_question c.args.self.now.dimension c.args.self.now.most) (g.S.Source.left c.args.source.now) (search_says c.in_ok-best_of-in-Ok.field-0) c.in_ok-accepted.field-0 c.in-Ok.accepted c.in_ok-accepted.ensures.answer c.in-Ok.is c.in_ok-best_of-in-Ok.ensures.answers

pub returns-in_ok-refuse-in-Err-clause-answer : goal.returns-in_ok-refuse-in-Err-clause-answer
returns-in_ok-refuse-in-Err-clause-answer g c =
    let r = c.in_ok-refuse-in-Err.field-0 in
    decides_refused (best_question c.args.self.now.dimension c.args.self.now.most) (g.S.Source.left c.args.source.now) r.text.items r.status c.in_ok-accepted.field-0 c.in-Err.fault c.in_ok-accepted.ensures.answer c.in-Err.is c.in_ok-refuse-in-Err.ensures (λ input text h. h)
