-- Lines that are gathered before they are written.
use Rattle.std.proofs.Common.{◌≡◌, ◌∙◌, ℕ, List, [], ◌++◌, length, take, sym, ap, append_assoc, append-nil}
use Rattle.std.specs.Prelude.{Option, Some, Bool, Result, Ok, Err, MatchResult}
use Rattle.std.specs.Io.KnownBytes.{Appends}
use Rattle.std.proofs.Math.Seq.{take-append_seam}
use Rattle.geo_chan.specs.Written.{AppendsFront, Writes, Wrote}
use Rattle.geo_chan.specs.declared.outside.PutFault.{PutFault}
use Rattle.geo_chan.proofs.Appending.{appends_then, wrote_ok, wrote_err}
use Rattle.derivation_text.specs.Gathering.{Gathers}

begins_with : (old page more : List ℕ) (n : ℕ) → page ≡ old ++ more → n ≡ length old → take n page ≡ old
begins_with old page more n is same = rw (is, same) (take-append_seam old more)

-- a page that had no room for a text begins with what it held
pub still_held : {T : Type 0} (r : Result T PutFault) (old page text : List ℕ) (n : ℕ) → MatchResult r (λ _. Appends (Some old) (Some page) text) (λ _. AppendsFront (Some old) (Some page) text)
    → n ≡ length old → take n page ≡ old
still_held (Ok u) old page text n h same = begins_with old page text n h same
still_held (Err e) old page text n (front, back, is, h) same = begins_with old page front n h same

pub wrote_both : (w0 w1 w2 : Option (List ℕ)) (f0 f1 f2 : ℕ) (q0 q1 q2 : Bool) (xs ys : List ℕ) → Wrote w0 w1 f0 f1 q0 q1 xs → Wrote w1 w2 f1 f2 q1 q2 ys → Wrote w0 w2 f0 f2 q0 q2 (xs ++ ys)
wrote_both w0 w1 w2 f0 f1 f2 q0 q1 q2 xs ys a b = record { bytes = appends_then w0 w1 w2 xs ys a.bytes b.bytes; same = b.same ∙ a.same; quiet = λ h. b.quiet (a.quiet h) }

-- what was held is written, and then the text
pub all_put : {S T : Type 0} (written : S → Option (List ℕ)) (faults : S → ℕ) (quiet : S → Bool) (old mid new : S) (held seen holds text : List ℕ) (r : Result T PutFault) → seen ≡ held
    → Wrote (written old) (written mid) (faults old) (faults mid) (quiet old) (quiet mid) seen → Writes (written mid) (written new) (faults mid) (faults new) (quiet mid) (quiet new) r text → holds ≡ []
    → Gathers written faults quiet old new held holds r text
all_put written faults quiet old mid new held seen holds text (Ok u) is a b none = (
  held ++ text,
  sym (ap (λ z. (held ++ text) ++ z) none ∙ append-nil (held ++ text)),
  wrote_ok _ _ _ _ _ _ _ _ _ u seen text (held ++ text) a b (ap (λ z. z ++ text) (sym is)),
)
all_put written faults quiet old mid new held seen holds text (Err e) is a b none =
    wrote_err _ _ _ _ _ _ _ _ _ e seen text [] (held ++ text) a b (ap (λ z. z ++ text) (sym is) ∙ ap (λ z. seen ++ z) (sym (append-nil text)))

-- what is held, a line and more, where the line was put behind what is held
pub gathered : (front page line now page' rest : List ℕ) → page ++ line ≡ now ++ page' → front ++ (page ++ (line ++ rest)) ≡ (front ++ now) ++ (page' ++ rest)
gathered front page line now page' rest e =
    ap (λ z. front ++ z) (sym (append_assoc page line rest) ∙ ap (λ z. z ++ rest) e ∙ append_assoc now page' rest) ∙ sym (append_assoc front now (page' ++ rest))
