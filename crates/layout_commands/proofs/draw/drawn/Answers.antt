use Rattle.std.proofs.Common.{refl, subst}
use Rattle.std.specs.Prelude.{codes}
use Rattle.std.specs.Option.{MatchOption}
use Rattle.layout_drawing.specs.Drawing.{IsDrawing, IsLarge}
use Rattle.command_input.specs.declared.command.Status.TheVariants.{Answered, No}
use Rattle.command_reply.proofs.Ending.{answers_text, answers_told, replied}
use Rattle.layout_commands.specs.Draw.{DrawAnswer}
use Rattle.layout_commands.proofs.Givens.{gives_read}
use Rattle.layout_commands.proofs.draw.drawn.Goals as goal

pub returns-in-Some : goal.returns-in-Some
returns-in-Some c = λ input h.
    let p = c.args.given.now.accepted.problem in
    let t = c.args.given.now.layout in
    answers_text DrawAnswer input c.in-Some.text.items Answered (record {
      problem = p;
      tuple = t;
      gives = gives_read input c.args.given.now h;
      drawing = subst (λ o. MatchOption o (IsLarge p t) (λ text. IsDrawing p t text.items)) c.in-Some.is c.in_ok-text.ensures;
    }) tt

pub returns-in-None : goal.returns-in-None
returns-in-None c =
    let p = c.args.given.now.accepted.problem in
    let t = c.args.given.now.layout in
    replied c.reply_of.result (codes "large\n") No _ c.reply_of.ensures.text c.reply_of.ensures.status (λ x e s input h.
    answers_told DrawAnswer input (codes "large\n") x.text.items No x.status e s (record {
      problem = p;
      tuple = t;
      gives = gives_read input c.args.given.now h;
      large = subst (λ o. MatchOption o (IsLarge p t) (λ text. IsDrawing p t text.items)) c.in-None.is c.in_ok-text.ensures;
      says = refl;
    }) tt)
