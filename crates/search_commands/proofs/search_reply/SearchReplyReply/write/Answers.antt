use Rattle.std.proofs.lemmas.Result.{err_from_is_err_and}
use Rattle.printed_derivation.specs.Laws.{printed}
use Rattle.search_commands.proofs.Refuting.{text_cut, lines_written, lines_cut}
use Rattle.search_commands.proofs.search_reply.SearchReplyReply.write.Goals as goal

pub returns-in_err-status-in-Refuted-clause-reply : goal.returns-in_err-status-in-Refuted-clause-reply
returns-in_err-status-in-Refuted-clause-reply g c =
    let x = err_from_is_err_and c.from_residual.result c.from_residual.ensures.1 in
    rw (x.1, x.2, c.in-Refuted.is) (text_cut c.in-Refuted.text.text.items (printed c.in-Refuted.refutation.names c.in-Refuted.refutation.log.events) c.in-Refuted.text.status _ _ _ _ _ _ c.in_err-status-in-Refuted.field-0.0 c.in_err-status-in-Refuted.ensures.reply)

pub returns-in_err-write_refutation-in-Refuted-clause-reply : goal.returns-in_err-write_refutation-in-Refuted-clause-reply
returns-in_err-write_refutation-in-Refuted-clause-reply g c =
    let x = err_from_is_err_and c.from_residual-in_err-write_refutation-in-Refuted.result c.from_residual-in_err-write_refutation-in-Refuted.ensures.1 in
    rw (x.1, x.2, c.in-Refuted.is) (lines_cut c.in-Refuted.text.text.items (printed c.in-Refuted.refutation.names c.in-Refuted.refutation.log.events) c.in-Refuted.text.status _ _ _ _ _ _ _ _ _ c.in_ok-status-in-Refuted.status c.in_ok-status-in-Refuted.ensures.reply c.in_err-write_refutation-in-Refuted.field-0.0 c.in_err-write_refutation-in-Refuted.ensures)

pub returns-in_ok-write_refutation-in-Refuted-clause-reply : goal.returns-in_ok-write_refutation-in-Refuted-clause-reply
returns-in_ok-write_refutation-in-Refuted-clause-reply g c =
    rw c.in-Refuted.is (lines_written c.in-Refuted.text.text.items (printed c.in-Refuted.refutation.names c.in-Refuted.refutation.log.events) c.in-Refuted.text.status _ _ _ _ _ _ _ _ _ c.in_ok-status-in-Refuted.status c.in_ok-status-in-Refuted.ensures.reply c.in_ok-write_refutation-in-Refuted.field-0 c.in_ok-write_refutation-in-Refuted.ensures)
