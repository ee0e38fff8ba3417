use Rattle.std.proofs.Common.{refl, arith}
use Rattle.std.specs.Prelude.{codes}
use Rattle.command_input.specs.declared.command.Status.TheVariants.{Answered, No}
use Rattle.command_reply.proofs.Ending.{answers_told, replied}
use Rattle.layout_commands.specs.Judge.{JudgeAnswer, broken_rule, rule_name}
use Rattle.layout_commands.proofs.Givens.{gives_read}
use Rattle.layout_commands.proofs.judge.judged.Goals as goal

pub returns-in-Good : goal.returns-in-Good
returns-in-Good c =
    let g = c.args.given.now in
    replied c.reply_of.result (codes "good\n") Answered _ c.reply_of.ensures.text c.reply_of.ensures.status (λ x e s input h.
    answers_told JudgeAnswer input (codes "good\n") x.text.items Answered x.status e s (record {
      problem = g.accepted.problem;
      tuple = g.layout;
      gives = gives_read input g h;
      layout = record { tuple = h.tuple; rules = c.in-Good.ensures };
      says = refl;
    }) tt)

pub broken-requires : goal.broken-requires
broken-requires c = (let n = c.in-Broken.ensures.number in let i = c.in-Broken.ensures.inside in (omega (arith, n), omega (arith, n, i)))

pub returns-in-Broken : goal.returns-in-Broken
returns-in-Broken c =
    let g = c.args.given.now in
    let own = broken_rule (rule_name g.accepted.problem c.in-Broken.number) in
    replied c.broken.result own No _ c.broken.ensures.text c.broken.ensures.status (λ x e s input h.
    answers_told JudgeAnswer input own x.text.items No x.status e s (record {
      problem = g.accepted.problem;
      tuple = g.layout;
      number = c.in-Broken.number;
      gives = gives_read input g h;
      broken = c.in-Broken.ensures;
      says = refl;
    }) tt)
