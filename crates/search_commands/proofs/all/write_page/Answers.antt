use Rattle.std.proofs.Common.{Err, Ok, Option, subst}
use Rattle.std.specs.Prelude.{IsErrOf, Result}
use Rattle.command_input.specs.declared.command.Status.{Status}
use Rattle.geo_chan.proofs.Appending.{err_same}
use Rattle.geo_chan.specs.declared.outside.PutFault.{PutFault}
use Rattle.geo_chan.specs.declared.outside.PutFault.TheVariants.{Memory}
use Rattle.std.proofs.lemmas.Result.{err_from_is_err_and}
use Rattle.geo_base.specs.Tuple.{Tuple}
use Rattle.layout_search.specs.Page.{WritesPage}
use Rattle.layout_search.specs.FirstLayout.{walk_after}
use Rattle.search_commands.proofs.Listed.{page_cut, line_written, line_cut}
use Rattle.search_commands.proofs.all.write_page.Goals as goal

pub returns-in_err-ending-clause-reply : goal.returns-in_err-ending-clause-reply
returns-in_err-ending-clause-reply g c =
    let l = c.args.listing in
    let p = l.problem in
    let cs = l.conditions.items in
    let x = err_from_is_err_and c.from_residual.result c.from_residual.ensures.1 in
    let h = subst (λ (o : Option Tuple). WritesPage p (walk_after p cs o) l.most l.budget (g.W.Sink.written c.args.sink.now) (g.W.Sink.written c.write_listing.new.sink) (g.W.Sink.faults c.args.sink.now) (g.W.Sink.faults c.write_listing.new.sink) (g.W.Sink.quiet c.args.sink.now) (g.W.Sink.quiet c.write_listing.new.sink) (Err c.in_err-ending.field-0.0)) c.as_ref.ensures.value c.in_err-ending.ensures.page in
    rw (x.1, x.2) (page_cut p (walk_after p cs l.after) l.most l.budget _ _ _ _ _ _ c.in_err-ending.field-0.0 h)

pub returns-in_err-write_last_line-clause-reply : goal.returns-in_err-write_last_line-clause-reply
returns-in_err-write_last_line-clause-reply g c =
    let l = c.args.listing in
    let p = l.problem in
    let cs = l.conditions.items in
    let x = err_from_is_err_and c.from_residual-in_err-write_last_line.result c.from_residual-in_err-write_last_line.ensures.1 in
    let h = subst (λ (o : Option Tuple). WritesPage p (walk_after p cs o) l.most l.budget (g.W.Sink.written c.args.sink.now) (g.W.Sink.written c.write_listing.new.sink) (g.W.Sink.faults c.args.sink.now) (g.W.Sink.faults c.write_listing.new.sink) (g.W.Sink.quiet c.args.sink.now) (g.W.Sink.quiet c.write_listing.new.sink) (Ok c.in_ok-ending.ending)) c.as_ref.ensures.value c.in_ok-ending.ensures.page in
    rw (x.1, x.2) (line_cut p (walk_after p cs l.after) l.most l.budget _ _ _ _ _ _ _ _ _ c.in_ok-ending.ending h c.in_err-write_last_line.field-0.0 c.in_err-write_last_line.ensures)

pub returns-clause-reply : goal.returns-clause-reply
returns-clause-reply g c =
    let l = c.args.listing in
    let p = l.problem in
    let cs = l.conditions.items in
    let h = subst (λ (o : Option Tuple). WritesPage p (walk_after p cs o) l.most l.budget (g.W.Sink.written c.args.sink.now) (g.W.Sink.written c.write_listing.new.sink) (g.W.Sink.faults c.args.sink.now) (g.W.Sink.faults c.write_listing.new.sink) (g.W.Sink.quiet c.args.sink.now) (g.W.Sink.quiet c.write_listing.new.sink) (Ok c.in_ok-ending.ending)) c.as_ref.ensures.value c.in_ok-ending.ensures.page in
    line_written p (walk_after p cs l.after) l.most l.budget _ _ _ _ _ _ _ _ _ c.in_ok-ending.ending h c.in_ok-write_last_line.field-0 c.status_of.result c.status_of.ensures c.in_ok-write_last_line.ensures

pub returns-in_err-write_last_line-clause-unwritten : goal.returns-in_err-write_last_line-clause-unwritten
returns-in_err-write_last_line-clause-unwritten g c = λ quiet wants.
    let x = err_from_is_err_and c.from_residual-in_err-write_last_line.result c.from_residual-in_err-write_last_line.ensures.1 in
    let own = subst (λ (r : Result Status PutFault). IsErrOf r Memory) x.1 wants in
    let same = subst (λ (f : PutFault). IsErrOf {T = Status} (Err f) Memory) x.2 own in
    absurd ((c.in_err-write_last_line.ensures.quiet (c.in_ok-ending.ensures.page.quiet quiet).0).1 (err_same _ Status _ Memory same))
