-- A text, and behind it the lines of a derivation, to whatever end.
use Rattle.std.proofs.Common.{◌++◌, ℕ, List, refl, ap, sym, ◌∙◌, subst, append_assoc, Option, Ok, Err}
use Rattle.std.specs.Prelude.{Bool}
use Rattle.std.specs.Io.KnownBytes.{Appends}
use Rattle.geo_chan.specs.Written.{Writes, Wrote}
use Rattle.geo_chan.specs.declared.outside.PutFault.{PutFault}
use Rattle.geo_chan.specs.declared.outside.PutFault.TheVariants.{Memory}
use Rattle.geo_chan.proofs.Appending.{err_same, wrote_then}
use Rattle.command_input.specs.declared.command.Status.{Status}
use Rattle.command_reply.specs.Reply.{IsSaid, WritesReply}
use Rattle.search_commands.proofs.Listed.{cause_of}

module _ (own more : List ℕ) (mine : Status) (w0 w1 : Option (List ℕ)) (f0 f1 : ℕ) (q0 q1 : Bool) where
  -- the text was cut off
  pub text_cut : (e : PutFault) → WritesReply (IsSaid own mine) w0 w1 f0 f1 q0 q1 (Err e) → WritesReply (IsSaid (own ++ more) mine) w0 w1 f0 f1 q0 q1 (Err e)
  text_cut e h =
      let (text, status, (t, s), (front, back, is, bytes)) = h.bytes in
      record {
        bytes = (own ++ more, mine, (refl, refl), (front, back ++ more, ap (λ u. u ++ more) (sym t ∙ is) ∙ append_assoc front back more, bytes));
        cause = h.cause;
        quiet = h.quiet;
      }

  module _ (w2 : Option (List ℕ)) (f2 : ℕ) (q2 : Bool) (status : Status) (h : WritesReply (IsSaid own mine) w0 w1 f0 f1 q0 q1 (Ok status)) where
    wrote : Wrote w0 w1 f0 f1 q0 q1 own
    wrote = let (text, (t, s), bytes) = h.bytes in record { bytes = subst (Appends w0 w1) t bytes; same = h.cause.stays; quiet = λ q. (h.quiet q).0 }

    -- the lines behind it were written
    pub lines_written : {T : Type 0} (u : T) → Writes w1 w2 f1 f2 q1 q2 (Ok u) more → WritesReply (IsSaid (own ++ more) mine) w0 w2 f0 f2 q0 q2 (Ok status)
    lines_written {T} u k =
        let all = wrote_then w0 w1 w2 f0 f1 f2 q0 q1 q2 (Ok u) own more (own ++ more) wrote k refl in
        let (text, (t, s), bytes) = h.bytes in
        record {
          bytes = (own ++ more, (refl, s), all.bytes);
          cause = record { later = all.cause.later; failed = λ x. absurd (cc (x)); stays = all.cause.stays };
          quiet = λ q. ((all.quiet q).0, λ x. absurd (cc (x)));
        }

    -- the lines behind it were cut off
    pub lines_cut : {T : Type 0} (x : PutFault) → Writes {T = T} w1 w2 f1 f2 q1 q2 (Err x) more → WritesReply (IsSaid (own ++ more) mine) w0 w2 f0 f2 q0 q2 (Err x)
    lines_cut {T} x k =
        let all = wrote_then {T = T} w0 w1 w2 f0 f1 f2 q0 q1 q2 (Err x) own more (own ++ more) wrote k refl in
        record {
          bytes = (own ++ more, mine, (refl, refl), all.bytes);
          cause = cause_of {T = T} {U = Status} f0 f2 x all.cause;
          quiet = λ q. ((all.quiet q).0, λ m. absurd ((all.quiet q).1 (err_same T Status x Memory m)));
        }
