-- A text that comes in pieces, one behind the other.
use Rattle.std.proofs.Common.{◌≡◌, ℕ, List, [], ◌++◌, refl, sym, ap, ◌∙◌, append_assoc, subst}
use Rattle.std.proofs.lemmas.List.{append-nil}
use Rattle.geo_tokens.specs.Names.{NameTable}
use Rattle.derivation.specs.declared.event.Event.{Event}
use Rattle.derivation_reading.specs.declared.symbol.Symbol.{Symbol}
use Rattle.derivation_reading.specs.declared.feeder.Progress.{Progress}
use Rattle.derivation_reading.specs.declared.feeder.Progress.TheVariants.{Open, Done, Failed}
use Rattle.derivation_reading.specs.declared.feeder.Feeder.{Feeder}
use Rattle.derivation_reading.specs.FirstFault.{IsText, HasFaultFrom}
use Rattle.derivation_reading.specs.Feeding.{IsAt, HasEvents, HasCome, Comes, IsAtEnd, HasEnded, Ends}

-- no piece
pub nothing_comes : (f : Feeder) (before : List Event) → Comes f f [] before before
nothing_comes f before n from text es h =
    ([], sym (append-nil before), subst (λ (x : List ℕ). HasCome n from f x (es ++ [])) (sym (append-nil text)) (subst (HasCome n from f text) (sym (append-nil es)) h))

-- one piece behind another
pub comes_both : (f g h : Feeder) (piece other : List ℕ) (before middle later : List Event) → Comes f g piece before middle → Comes g h other middle later
    → Comes f h (piece ++ other) before later
comes_both f g h piece other before middle later first second n from text es come =
    let a = first n from text es come in
    let b = second n from (text ++ piece) (es ++ a.0) a.2 in (
      a.0 ++ b.0,
      b.1 ∙ ap (λ (x : List Event). x ++ b.0) a.1 ∙ append_assoc before a.0 b.0,
      subst (λ (x : List ℕ). HasCome n from h x (es ++ (a.0 ++ b.0))) (append_assoc text piece other)
          (subst (HasCome n from h (text ++ piece ++ other)) (append_assoc es a.0 b.0) b.2),
    )

-- ---- a reading that has ended

module _ (n : NameTable) (from : ℕ) (f : Feeder) (text : List ℕ) (es : List Event) where
  at_more : (piece : List ℕ) (p : Progress) → ((s : Symbol) → p ≡ Open s → ⊥) → IsAt n from f p text es → IsAt n from f p (text ++ piece) es
  at_more piece (Open s) not_open far = absurd (not_open s refl)
  at_more piece Done not_open far = λ x. subst (λ (u : List ℕ). IsText n u es) (sym (append_assoc text piece x)) (far (piece ++ x))
  at_more piece (Failed fault) not_open far = λ x. subst (λ (u : List ℕ). HasFaultFrom n from u fault) (sym (append_assoc text piece x)) (far (piece ++ x))

  at_end : (p : Progress) → ((s : Symbol) → p ≡ Open s → ⊥) → IsAt n from f p text es → IsAtEnd n from p text es
  at_end (Open s) not_open far = absurd (not_open s refl)
  at_end Done not_open far = subst (λ (u : List ℕ). IsText n u es) (append-nil text) (far [])
  at_end (Failed fault) not_open far = subst (λ (u : List ℕ). HasFaultFrom n from u fault) (append-nil text) (far [])

  come_more : (piece : List ℕ) → ((s : Symbol) → f.progress ≡ Open s → ⊥) → HasCome n from f text es → HasCome n from f (text ++ piece) es
  come_more piece not_open h = record {
    names = h.names;
    place = h.place;
    low = h.low;
    far = at_more piece f.progress not_open h.far;
    events = λ x. subst (λ (u : List ℕ). HasEvents n u es) (sym (append_assoc text piece x)) (h.events (piece ++ x));
  }

  ended : ((s : Symbol) → f.progress ≡ Open s → ⊥) → HasCome n from f text es → HasEnded n from f text es
  ended not_open h = record { far = at_end f.progress not_open h.far; events = subst (λ (u : List ℕ). HasEvents n u es) (append-nil text) (h.events []) }

-- any piece changes nothing
pub stays_closed : (f : Feeder) (piece : List ℕ) (before : List Event) → ((s : Symbol) → f.progress ≡ Open s → ⊥) → Comes f f piece before before
stays_closed f piece before not_open n from text es h =
    ([], sym (append-nil before), subst (HasCome n from f (text ++ piece)) (sym (append-nil es)) (come_more n from f text es piece not_open h))

-- nor does the end
pub ends_closed : (f : Feeder) (before : List Event) → ((s : Symbol) → f.progress ≡ Open s → ⊥) → Ends f f before before
ends_closed f before not_open n from text es h =
    ([], sym (append-nil before), subst (HasEnded n from f text) (sym (append-nil es)) (ended n from f text es not_open h))
