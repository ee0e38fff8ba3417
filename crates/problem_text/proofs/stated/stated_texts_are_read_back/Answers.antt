use Rattle.problem_text.proofs.PrintingProblem.{may_state_canonical}
use Rattle.problem_text.proofs.CanonicalRight.{stated_spelled, stated_again, stated_in_order, said_rise}
use Rattle.problem_text.proofs.stated.stated_texts_are_read_back.Goals as goal

pub returns-clause-spelled : goal.returns-clause-spelled
returns-clause-spelled c with_order with_sides may = stated_spelled with_order with_sides c.args.problem.now c.is_said.ensures.said may

pub returns-clause-read_back : goal.returns-clause-read_back
returns-clause-read_back c with_order with_sides may short = stated_again with_order with_sides c.args.problem.now c.is_said.ensures.said may short

pub returns-clause-canonical : goal.returns-clause-canonical
returns-clause-canonical c = may_state_canonical c.args.problem.now

pub returns-clause-in_order : goal.returns-clause-in_order
returns-clause-in_order c with_order with_sides may again a = stated_in_order with_order with_sides c.args.problem.now c.is_said.ensures.said may again a

pub returns-clause-macros_rise : goal.returns-clause-macros_rise
returns-clause-macros_rise c = said_rise c.args.problem.now c.is_said.ensures.said
