use Rattle.std.proofs.Common.{◌≡◌, ℤ, Ok, sym, subst, ◌∙◌, ap, to_z-of_z, arith}
use Rattle.std.specs.Fmt.{signed_decimal}
use Rattle.std.specs.Int.{w64}
use Rattle.std.proofs.lemmas.Fmt.{parse-signed_decimal}
use Rattle.std.proofs.lemmas.Int.{ints}
use lib.Pointwise.{bytes_decides}
use mir.Val.{SFits}
use Rattle.command_input.proofs.OneForm.{small_extent}
use Rattle.command_input.proofs.words.read_extent.Goals as goal
use Rattle.command_input.proofs.words.read_extent.Goals.{else-e-geminus2000000-via-then-e-geminus2000000+then-e-le3000000+else-eq, else-e-geminus2000000-via-then-e-geminus2000000+else-e-le3000000, else-e-geminus2000000-via-else-e-geminus2000000}

pub returns-in_default : goal.returns-in_default
returns-in_default c = λ e is h. c.in_default.not-Ok e (parse-signed_decimal w64 e c.args.word.now c.parse.result (record { sfits = small_extent e h }) (small_extent e h) is c.parse.ensures.value.0)

pub returns-else-e-geminus2000000 : goal.returns-else-e-geminus2000000
returns-else-e-geminus2000000 c = λ e is h.
    let r : c.parse.result ≡ Ok e = parse-signed_decimal w64 e c.args.word.now c.parse.result (record { sfits = small_extent e h }) (small_extent e h) is c.parse.ensures.value.0 in
    let same : c.in-Ok.e ≡ e = cc (r, c.in-Ok.is) in
    let own : SFits w64 e = record { sfits = small_extent e h } in
    let fits : SFits w64 c.in-Ok.e = subst (λ (z : ℤ). SFits w64 z) (sym same) own in
    let low = h.0 in
    let high = h.1 in
    elim c.else-e-geminus2000000.branch [
      | else-e-geminus2000000-via-then-e-geminus2000000+then-e-le3000000+else-eq w ↦ absurd (cc (w.if-eq.ensures ∙ (bytes_decides _ _).1 (w.format.ensures.text ∙ ap signed_decimal (to_z-of_z fits ∙ same) ∙ sym is)))
      | else-e-geminus2000000-via-then-e-geminus2000000+else-e-le3000000 w ↦ (let f = w.if-e-le3000000.false in omega (arith, ints, same, high, f))
      | else-e-geminus2000000-via-else-e-geminus2000000 w ↦ (let f = w.if-e-geminus2000000.false in omega (arith, ints, same, low, f))
    ]
