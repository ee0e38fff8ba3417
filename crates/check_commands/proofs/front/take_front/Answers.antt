use Rattle.std.proofs.Common.{◌≡◌, List, ℕ, Err, length, take, drop, subst, arith, rules}
use Rattle.std.proofs.lemmas.Bool.{ltb-true, ltb-false}
use Rattle.command_input.specs.Reading.{ReadsUpTo}
use Rattle.command_reply.specs.Accepted.{AnswersAccepted, HasRead}
use Rattle.check_commands.proofs.Behind.{cut_inside, cut_there, refused_before}
use Rattle.check_commands.proofs.front.take_front.Goals as goal

pub returns-in-Err-clause-answer : goal.returns-in-Err-clause-answer
returns-in-Err-clause-answer g c =
    let left = g.S.Source.left c.args.source.now in
    let new = g.S.Source.left c.read_up_to.new.source in
    let bytes = c.read_up_to.new.text.items in
    let place = c.unwrap_or-place.result in
    let size : c.len.result ≡ length bytes = search rules in
    refused_before left new bytes (take place bytes) (drop place bytes) (subst (λ (t : List ℕ). ReadsUpTo 1048577 left new t bytes) c.new-read.ensures.items c.in_ok-read_up_to.ensures.text)
    (cut_there bytes c.deref.result.now c.first_text_end.result place c.len.result c.deref.ensures.value size c.unwrap_or-place.ensures c.first_text_end.ensures.inside c.first_text_end.ensures.value) c.in-Err.fault
    (subst (λ (t : List ℕ). AnswersAccepted (Err c.in-Err.fault) (take place t)) c.deref-2.ensures.value c.in-Err.ensures)

pub returns-clause-answer : goal.returns-clause-answer
returns-clause-answer g c =
    let left = g.S.Source.left c.args.source.now in
    let new = g.S.Source.left c.read_up_to.new.source in
    let bytes = c.read_up_to.new.text.items in
    let place = c.unwrap_or-place.result in
    let size : c.len.result ≡ length bytes = search rules in
    let whole : c.len-is_whole.result ≡ length bytes = search rules in
    record {
      read = subst (λ (t : List ℕ). ReadsUpTo 1048577 left new t bytes) c.new-read.ensures.items c.in_ok-read_up_to.ensures.text;
      inside = cut_inside bytes c.deref.result.now c.first_text_end.result place c.len.result c.deref.ensures.value size c.unwrap_or-place.ensures c.first_text_end.ensures.inside;
      cut = cut_there bytes c.deref.result.now c.first_text_end.result place c.len.result c.deref.ensures.value size c.unwrap_or-place.ensures c.first_text_end.ensures.inside c.first_text_end.ensures.value;
      problem = subst (λ (t : List ℕ). HasRead (take place t) c.in-Ok.accepted) c.deref-2.ensures.value c.in-Ok.ensures;
      all = λ e. let l = ltb-true c.len-is_whole.result 1048577 e in omega (arith, l, whole);
      part = λ e. let l = ltb-false c.len-is_whole.result 1048577 e in omega (arith, l, whole);
    }
