use Rattle.std.proofs.Common.{◌≡◌, ◌∙◌, Ok, refl, sym, ap, subst, map, string_bytes}
use Rattle.geost_run.specs.Runs.{RunsWell}
use Rattle.geost_run.proofs.unread.answer_words.Goals as goal

pub returns-in-Ok-clause-read : goal.returns-in-Ok-clause-read
returns-in-Ok-clause-read g c = λ given e.
    let both : Ok c.in-Ok.words ≡ Ok given = sym c.in-Ok.is ∙ e in
    let is : c.in-Ok.words ≡ given = cc in
    let r = c.run.ensures in
    subst (λ ws. RunsWell (map string_bytes ws) (g.S.Source.left c.args.source.now) (g.S.Source.left c.run.new.source) (g.S.Source.taken c.args.source.now) (g.S.Source.taken c.run.new.source) (g.S.Source.faults c.args.source.now) (g.S.Source.faults c.run.new.source)
    (g.W.Sink.written c.args.sink.now) (g.W.Sink.written c.run.new.sink) (g.W.Sink.faults c.args.sink.now) (g.W.Sink.faults c.run.new.sink) (g.W.Sink.quiet c.args.sink.now)
    (c.run.new.source ≡ c.args.source.now) (c.run.new.sink ≡ c.args.sink.now) c.run.result) (c.deref.ensures.value ∙ ap (λ v. v.items) is) (record {
      ends = r.ends;
      most = r.most;
      most_of_one = r.most_of_one;
      counted = r.counted;
      counted_of_one = r.counted_of_one;
      one_status = r.one_status;
      one_text = r.one_text;
      headline = r.headline;
      promises = r.promises;
      sound = r.sound;
      best = r.best;
      sound_best = r.sound_best;
      loads = r.loads;
      lists = r.lists;
      why = r.why;
      returns = r.returns;
      complete = r.complete;
      unread = r.unread;
      unread_by_make = r.unread_by_make;
      kept = r.kept;
      unwritten = r.unwritten;
      quiet_unread = r.quiet;
      wanting = r.wanting;
    })

pub returns-in-Err-Memory-clause-memory : goal.returns-in-Err-Memory-clause-memory
returns-in-Err-Memory-clause-memory g c = λ _. (refl, refl, refl)

pub returns-in-Err-NoText-clause-no_text : goal.returns-in-Err-NoText-clause-no_text
returns-in-Err-NoText-clause-no_text g c = λ _. (refl, c.refuse_words.ensures.ends)
