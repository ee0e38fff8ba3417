use Rattle.std.proofs.Common.{inl, sym, ◌∙◌, refl}
use Rattle.token_stream.proofs.Runs.{one_digit, mark_of}
use Rattle.token_stream.proofs.run.Run.begin.Goals as goal
use Rattle.token_stream.proofs.run.Run.begin.Goals.{then-byte-eq33, else-byte-eq33}

pub returns-then-is_digit : goal.returns-then-is_digit
returns-then-is_digit c = one_digit c.with_digit.result c.args.byte (sym c.is_digit.ensures ∙ c.if-is_digit.true) (c.with_digit.ensures 0 (inl refl))

pub returns-then-is_some : goal.returns-then-is_some
returns-then-is_some c = (
  refl,
  elim c.if-byte-eq33.branch [
    | then-byte-eq33 w ↦ inl w.if-byte-eq33.true
    | else-byte-eq33 w ↦ mark_of w.short_symbol.result c.args.byte w.short_symbol.ensures (sym w.is_some.ensures ∙ sym w.value-is ∙ c.if-is_some.true)
  ],
)
