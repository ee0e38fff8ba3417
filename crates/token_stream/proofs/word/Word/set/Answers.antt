use Rattle.std.proofs.Common.{ℕ, List, take, sym, ◌∙◌, subst, arith}
use Rattle.std.proofs.lemmas.List.{take_all, take_more, length-take}
use Rattle.token_stream.specs.Word.{IsWordOf}
use Rattle.token_stream.proofs.word.Word.set.Goals as goal

pub loop-byte-preserved : goal.loop-byte-preserved
loop-byte-preserved c =
    let bytes = c.args.bytes.now in
    let i = c.loop-byte.byte-index in
    record {
      of = subst (λ (x : List ℕ). IsWordOf c.push.new.self x) (sym (take_more bytes i 0 c.loop-byte-test.true))
          (c.push.ensures (take i bytes) (omega (arith, length-take i bytes)) c.loop-byte.invariant.of);
    }

pub returns : goal.returns
returns c = λ short.
    let all = take_all c.loop-byte.byte-index c.args.bytes.now c.loop-byte-test.false in
    (subst (λ (x : List ℕ). IsWordOf c.loop-byte.self x) all c.loop-byte.invariant.of).kept ∙ take_all 40 c.args.bytes.now short
