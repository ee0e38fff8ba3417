use Rattle.std.proofs.Common.{◌≡◌, arith, Ok, sym, ◌∙◌, ap}
use Rattle.std.specs.Prelude.{decimal}
use lib.Pointwise.{bytes_decides}
use Rattle.std.proofs.lemmas.Fmt.{parse-decimal}
use Rattle.command_input.proofs.words.read_number.Goals as goal
use Rattle.command_input.proofs.words.read_number.Goals.{else-n-least-via-then-n-least+then-n-most+else-eq, else-n-least-via-then-n-least+else-n-most, else-n-least-via-else-n-least}

pub returns-in_default : goal.returns-in_default
returns-in_default c = λ n e low le. let fits = c.ranges.most.fits in c.in_default.not-Ok n (parse-decimal 64 n c.args.word.now c.parse.result (omega arith) (omega arith) e c.parse.ensures.value.0)

pub returns-else-n-least : goal.returns-else-n-least
returns-else-n-least c = λ n e low le. let fits = c.ranges.most.fits in
    let r : c.parse.result ≡ Ok n = parse-decimal 64 n c.args.word.now c.parse.result (omega arith) (omega arith) e c.parse.ensures.value.0 in
    let same : c.in-Ok.n ≡ n = cc (r, c.in-Ok.is) in
    elim c.else-n-least.branch [
      | else-n-least-via-then-n-least+then-n-most+else-eq w ↦ absurd (cc (w.if-eq.ensures ∙ (bytes_decides _ _).1 (w.format.ensures.text ∙ ap decimal same ∙ sym e)))
      | else-n-least-via-then-n-least+else-n-most w ↦ omega arith
      | else-n-least-via-else-n-least w ↦ omega arith
    ]
