use Rattle.std.proofs.Common.{◌≡◌, ℕ, List, take, sym, ap, subst, arith}
use Rattle.std.proofs.lemmas.List.{length-take, take_more}
use Rattle.token_stream.specs.declared.stream.TokenStream.{TokenStream}
use Rattle.token_stream.specs.declared.stream.Taken.TheVariants as takes
use Rattle.derivation_reading.specs.declared.feeder.Feeder.{Feeder}
use Rattle.derivation_reading.specs.Feeding.{Comes}
use Rattle.derivation_reading.proofs.Coming.{comes_next}
use Rattle.derivation_reading.proofs.feeder.Feeder.take_token.Goals as goal

pub returns-in-Some-clause-come : goal.returns-in-Some-clause-come
returns-in-Some-clause-come c =
    let accepted = c.accept.ensures in
    let room = c.requires.room in
    let n = c.in-Some.count in
    let piece = c.args.piece.now in
    comes_next c.args.self.now c.accept.new.self c.take_whole.new.self c.args.symbol (takes.Token c.in-Some.token) (take n piece) c.args.out.now.events
    c.accept.new.out.events c.requires.«open» (omega (arith, room, length-take n piece)) (c.in-Some.ensures {u = tt}).taken accepted.keeps accepted.grown accepted.reaches tt

pub returns-in-None-clause-come : goal.returns-in-None-clause-come
returns-in-None-clause-come c =
    let f = c.args.self.now in
    let g = c.take_next.new.self in
    let piece = c.args.piece.now in
    let before = c.args.out.now.events in
    let later = c.take_next.new.out.events in
    let same : record f { stream = c.take_whole.new.self } ≡ f = ap (λ (s : TokenStream). record f { stream = s }) c.in-None.ensures.taken in
    subst (λ (x : Feeder). Comes x g (take 1 piece) before later) same
    (subst (λ (x : List ℕ). Comes (record f { stream = c.take_whole.new.self }) g x before later) (sym (take_more piece 0 0 c.requires.some)) c.take_next.ensures)
