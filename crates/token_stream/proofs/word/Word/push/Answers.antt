use Rattle.std.proofs.Common.{◌≡◌, ap, ◌+◌, length, arith, rules}
use Rattle.token_stream.specs.declared.word.Word.{Word}
use Rattle.token_stream.proofs.Words.{push_kept, push_past}
use Rattle.token_stream.proofs.word.Word.push.Goals as goal
use Rattle.token_stream.proofs.word.Word.push.Goals.{then-self-lt-NAME_BYTES, else-self-lt-NAME_BYTES}

pub returns : goal.returns
returns c = λ rest small of.
    let room : length c.args.self.now.bytes ≡ 40 = search rules in
    let fits : c.if-self-lt-NAME_BYTES.self.len ≡ c.args.self.now.len → c.saturating_add-self.result ≡ c.args.self.now.len + 1 = λ e. omega (arith, c.saturating_add-self.ensures, of.count, small, e) in
    elim c.if-self-lt-NAME_BYTES.branch [
      | then-self-lt-NAME_BYTES w ↦
          rw w.self-is (push_kept c.args.self.now rest c.args.byte c.saturating_add-self.result of (fits (ap (λ (x : Word). x.len) w.self-is)) room w.if-self-lt-NAME_BYTES.true)
      | else-self-lt-NAME_BYTES w ↦
          rw w.self-is (push_past c.args.self.now rest c.args.byte c.saturating_add-self.result of (fits (ap (λ (x : Word). x.len) w.self-is)) room w.if-self-lt-NAME_BYTES.false)
    ]
