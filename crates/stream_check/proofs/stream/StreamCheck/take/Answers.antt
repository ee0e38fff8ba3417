use Rattle.std.proofs.Common.{List, ◌++◌, sym, ◌∙◌, subst, arith}
use Rattle.derivation.specs.declared.event.Event.{Event}
use Rattle.derivation_reading.specs.declared.feeder.Feeder.{Feeder}
use Rattle.stream_check.specs.Streaming.{IsChecking}
use Rattle.stream_check.proofs.Pieces.{piece_fits, piece_checked, piece_whole}
use Rattle.stream_check.proofs.stream.StreamCheck.take.Goals as goal

pub check_events-requires : goal.check_events-requires
check_events-requires g c =
    let fits = piece_fits g.row.K c.args.self.now.feeder c.feed.new.self c.args.self.now.checker c.args.self.now.log c.feed.new.out c.args.piece.now c.in_ok-done.ensures.come c.in_ok-done.done (sym c.in_ok-done.ensures.answer) c.requires.ready in
    (omega arith, (c.requires.k, (fits.0, fits.1)))

pub returns-clause-checking : goal.returns-clause-checking
returns-clause-checking g c = λ e first text es h.
    let all = c.in_ok-check_events.ensures in
    subst (λ (f : Feeder). (more : List Event) × IsChecking first g.row.K f c.check_events.new.self.checker c.check_events.new.self.log (text ++ c.args.piece.now) (es ++ more)) (sym all.feeder)
    (piece_checked g.row.K c.args.self.now.feeder c.feed.new.self c.args.self.now.checker c.args.self.now.log c.feed.new.out c.args.piece.now c.in_ok-done.ensures.come
    c.check_events.new.self.checker c.check_events.new.self.log all.taken all.conditions all.objects all.nodes all.empty first text es h)

pub returns-clause-checked : goal.returns-clause-checked
returns-clause-checked g c = λ e first text rest es h.
    let all = c.in_ok-check_events.ensures in
    piece_whole g.row.K c.args.self.now.feeder c.feed.new.self c.args.self.now.checker c.args.self.now.log c.feed.new.out c.args.piece.now c.in_ok-done.ensures.come
    c.check_events.new.self.checker c.check_events.new.self.log all.taken all.conditions all.objects all.nodes (sym c.in_ok-done.ensures.answer ∙ e) first text rest es h
