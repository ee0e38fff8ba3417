use Rattle.std.proofs.Common.{sym, subst}
use Rattle.std.proofs.lemmas.Result.{IfOk-weaker}
use Rattle.printed_derivation.specs.Printable.{IsPrintable}
use Rattle.std.specs.Str.{IsAscii}
use Rattle.json_search_commands.proofs.JsonLines.{says_none}
use Rattle.json_search_commands.proofs.refuted.refuted.Goals as goal

pub derivation_lines-requires : goal.derivation_lines-requires
derivation_lines-requires c = subst (λ n. IsPrintable n c.in_ok-log.log.events) (sym c.in_ok-names.ensures) c.in_ok-log.ensures.printable

pub none_reply-requires : goal.none_reply-requires
none_reply-requires c = subst IsAscii (sym c.as_slice.ensures.value) c.in_ok-lines.ensures.ascii

pub returns-clause-text : goal.returns-clause-text
returns-clause-text c =
    IfOk-weaker c.none_reply.result _ _ (λ r e.
    says_none c.args.problem.now c.args.conditions.now c.in_ok-names.names c.in_ok-log.log.events c.in_ok-lines.lines.items c.as_slice.result.now r.text.items c.in_ok-names.ensures c.in_ok-log.ensures c.in_ok-lines.ensures.lines
    c.as_slice.ensures.value e) c.none_reply.ensures.text
