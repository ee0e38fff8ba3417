-- What a check of a text that comes in pieces has taken.
use Rattle.std.proofs.Common.{◌≡◌, ◌⊎◌, inl, inr, ℕ, ◌+◌, ◌-◌, ◌<◌, ◌≤◌, List, [], ◌++◌, length, Bool, true, false, refl, sym, ap, ◌∙◌, subst, arith, append-nil, append_assoc, length-append}
use Rattle.std.specs.Prelude.{◌^◌, Option, None, Some, Result, Ok, Err, IfErr}
use Rattle.std.specs.Io.KnownBytes.{Consumes, IsAtEnd}
use Rattle.std.proofs.lemmas.Bool.{false≢true}
use Rattle.geo_tokens.specs.declared.fault.TextFault.{TextFault}
use Rattle.geo_tokens.specs.Names.{NameTable}
use Rattle.geo_conditions.specs.Reach.{State}
use Rattle.derivation.specs.declared.event.Event.{Event}
use Rattle.derivation.specs.Events.{Kept}
use Rattle.derivation_check.specs.Checking.{Checking}
use Rattle.derivation_reading.specs.declared.symbol.Symbol.{Symbol}
use Rattle.derivation_reading.specs.declared.feeder.Progress.{Progress}
use Rattle.derivation_reading.specs.declared.feeder.Progress.TheVariants.{Open}
use Rattle.derivation_reading.specs.declared.feeder.Feeder.{Feeder}
use Rattle.derivation_reading.specs.FirstFault.{HasFaultFrom}
use Rattle.derivation_reading.specs.Feeding.{IsOpen, IsAt}
use Rattle.stream_check.specs.Streaming.{IsChecking, HasChecked}
use Rattle.command_input.specs.Reading.{TakesAtMost}
use Rattle.check_commands.specs.Checks.{Follows}
use Rattle.command_input.proofs.Taking.{nothing_taken, taken_then}

-- what has come of the text: the check goes on behind it, or it is decided whatever stands behind
abbrev pub IsFar : State → ℕ → NameTable → ℕ → Result Bool TextFault → Feeder → Checking → Kept → List ℕ → Type 0
IsFar first k n from (Ok false) f c log text = (es : List Event) × (s : Symbol) × IsChecking first k f c log text es × (f.progress ≡ Open s)
IsFar first k n from (Ok true) f c log text = (rest : List ℕ) → HasChecked first k n c (text ++ rest)
IsFar first k n from (Err fault) f c log text = (rest : List ℕ) → HasFaultFrom n from (text ++ rest) fault

-- what the check says of a piece that it was given
pub piece_taken : (k : ℕ) (f g : Feeder) (c d : Checking) (log kept : Kept) (piece : List ℕ) (n : NameTable) (from : ℕ) (r : Result Bool TextFault)
    → (r ≡ Ok false → (first : State) (text : List ℕ) (es : List Event) → IsChecking first k f c log text es → (more : List Event) × IsChecking first k g d kept (text ++ piece) (es ++ more))
    → (r ≡ Ok false → (s : Symbol) × (g.progress ≡ Open s))
    → (r ≡ Ok true → (first : State) (text rest : List ℕ) (es : List Event) → IsChecking first k f c log text es → HasChecked first k f.names.now d ((text ++ piece) ++ rest))
    → IfErr r (λ fault. (first : State) (text rest : List ℕ) (es : List Event) → IsChecking first k f c log text es → HasFaultFrom f.names.now f.place ((text ++ piece) ++ rest) fault)
    → f.names.now ≡ n → f.place ≡ from → (first : State) (text : List ℕ) (es : List Event) → IsChecking first k f c log text es → IsFar first k n from r g d kept (text ++ piece)
piece_taken k f g c d log kept piece n from (Ok false) checking going checked refused en ep first text es h =
    let x = checking refl first text es h in let y = going refl in (es ++ x.0, y.0, x.1, y.1)
piece_taken k f g c d log kept piece n from (Ok true) checking going checked refused en ep first text es h = λ rest.
    subst (λ (m : NameTable). HasChecked first k m d ((text ++ piece) ++ rest)) en (checked refl first text rest es h)
piece_taken k f g c d log kept piece n from (Err fault) checking going checked refused en ep first text es h = λ rest.
    subst (λ (m : NameTable). HasFaultFrom m from ((text ++ piece) ++ rest) fault) en (subst (λ (q : ℕ). HasFaultFrom f.names.now q ((text ++ piece) ++ rest) fault) ep (refused first text rest es h))

-- the text that is open has this many bytes, and no more than a derivation may have
open_text : (first : State) (k : ℕ) (f : Feeder) (c : Checking) (log : Kept) (text : List ℕ) (es : List Event) (s : Symbol) → IsChecking first k f c log text es → f.progress ≡ Open s
    → (f.stream.count ≡ length text) × (length text ≤ 2 ^ 40)
open_text first k f c log text es s h e =
    let o : IsOpen f.names.now f text es s = subst (λ (p : Progress). IsAt f.names.now f.place f p text es) e h.come.far in
    (o.has.count, o.short)

-- how many bytes may still come
abbrev pub still : Result Bool TextFault → Feeder → ℕ
still (Ok false) f = 1 + (2 ^ 40 - f.stream.count)
still r f = 0

-- These bytes and then others of the source were given to a check that was fresh on the state.
pub record HasGiven (k : ℕ) (Fresh : State → Type 0) (n : NameTable) (from : ℕ) (is_whole : Bool) (left left_new : Option (List ℕ)) (count count_new : ℕ) (bytes : List ℕ) (r : Result Bool TextFault) (f : Feeder)
    (c : Checking) (log : Kept) : Type 0 where
  pub more : List ℕ
  pub taken : Consumes left left_new more
  pub counted : count_new ≤ count + length more
  pub few : length more ≤ 2 ^ 40 + 4096
  pub none : is_whole ≡ true → more ≡ []
  pub far : (first : State) → Fresh first → IsFar first k n from r f c log (bytes ++ more)

module _ (k : ℕ) (Fresh : State → Type 0) (n : NameTable) (from : ℕ) (is_whole : Bool) (left : Option (List ℕ)) (count : ℕ) (bytes : List ℕ) where
  pub first_given : (r : Result Bool TextFault) (f : Feeder) (c : Checking) (log : Kept) → ((first : State) → Fresh first → IsFar first k n from r f c log bytes)
      → HasGiven k Fresh n from is_whole left left count count bytes r f c log
  first_given r f c log far = record {
    more = [];
    taken = nothing_taken left [] refl;
    counted = omega arith;
    few = omega arith;
    none = λ e. refl;
    far = λ first h. subst (λ (t : List ℕ). IsFar first k n from r f c log t) (sym (append-nil bytes)) (far first h);
  }

  -- a check that goes on
  still_open : (mid : Option (List ℕ)) (m : ℕ) (r : Result Bool TextFault) (f : Feeder) (c : Checking) (log : Kept) → (h : HasGiven k Fresh n from is_whole left mid count m bytes r f c log) → r ≡ Ok false → (first : State) → Fresh first
      → IsFar first k n from (Ok false) f c log (bytes ++ h.more)
  still_open mid m r f c log h e first fresh = subst (λ (s : Result Bool TextFault). IsFar first k n from s f c log (bytes ++ h.more)) e (h.far first fresh)

  module _ (mid new : Option (List ℕ)) (m l : ℕ) (was r : Result Bool TextFault) (f g : Feeder) (c d : Checking) (log kept : Kept) (piece : List ℕ) (first : State) (fresh : Fresh first)
      (h : HasGiven k Fresh n from is_whole left mid count m bytes was f c log) (going : was ≡ Ok false)
      (on : (u : State) (text : List ℕ) (es : List Event) → IsChecking u k f c log text es → IsFar u k n from r g d kept (text ++ piece)) where
    -- the piece goes behind what was given
    pub next_given : Consumes mid new piece → l ≤ m + length piece → length piece ≤ 4096 → (is_whole ≡ true → piece ≡ []) → HasGiven k Fresh n from is_whole left new count l bytes r g d kept
    next_given got more small all =
        let x = still_open mid m was f c log h going first fresh in
        let o = open_text first k f c log (bytes ++ h.more) x.0 x.1 x.2 x.3 in
        record {
          more = h.more ++ piece;
          taken = taken_then left mid new h.more piece (h.more ++ piece) h.taken got refl;
          counted = omega (arith, h.counted, more, length-append h.more piece);
          few = omega (arith, o.1, small, length-append bytes h.more, length-append h.more piece);
          none = λ e. ap (λ (t : List ℕ). t ++ piece) (h.none e) ∙ all e;
          far = λ u fresh_u. let y = still_open mid m was f c log h going u fresh_u in
              subst (λ (t : List ℕ). IsFar u k n from r g d kept t) (append_assoc bytes h.more piece) (on u (bytes ++ h.more) y.0 y.2);
        }

    -- and less may still come
    pub less_still : 0 < length piece → still r g < still was f
    less_still some =
        let x = still_open mid m was f c log h going first fresh in
        let o = open_text first k f c log (bytes ++ h.more) x.0 x.1 x.2 x.3 in
        subst (λ (s : Result Bool TextFault). still r g < still s f) (sym going) (go r (on first (bytes ++ h.more) x.0 x.2) o.0)
      where
        go : (s : Result Bool TextFault) → IsFar first k n from s g d kept ((bytes ++ h.more) ++ piece) → f.stream.count ≡ length (bytes ++ h.more) → still s g < still (Ok false) f
        go (Ok false) y before =
            let o = open_text first k g d kept ((bytes ++ h.more) ++ piece) y.0 y.1 y.2 y.3 in
            omega (arith, o.0, o.1, before, some, length-append (bytes ++ h.more) piece)
        go (Ok true) y before = omega arith
        go (Err fault) y before = omega arith

  -- what was taken, where the check is still open, and one piece more
  pub most_given : (mid new : Option (List ℕ)) (m : ℕ) (r : Result Bool TextFault) (f : Feeder) (c : Checking) (log : Kept) (first : State) → Fresh first → HasGiven k Fresh n from is_whole left mid count m bytes r f c log → r ≡ Ok false
      → TakesAtMost 4096 mid new → TakesAtMost (2 ^ 40 + 4096) left new
  most_given mid new m r f c log first fresh h e (piece, got, small) =
      let x = still_open mid m r f c log h e first fresh in
      let o = open_text first k f c log (bytes ++ h.more) x.0 x.1 x.2 x.3 in
      (h.more ++ piece, taken_then left mid new h.more piece (h.more ++ piece) h.taken got refl, omega (arith, o.1, small, length-append bytes h.more, length-append h.more piece))

  -- the same by the source's own count
  pub count_given : (mid : Option (List ℕ)) (m l : ℕ) (r : Result Bool TextFault) (f : Feeder) (c : Checking) (log : Kept) (first : State) → Fresh first → HasGiven k Fresh n from is_whole left mid count m bytes r f c log → r ≡ Ok false
      → l ≤ m + 4096 → l ≤ count + (2 ^ 40 + 4096)
  count_given mid m l r f c log first fresh h e more =
      let x = still_open mid m r f c log h e first fresh in
      let o = open_text first k f c log (bytes ++ h.more) x.0 x.1 x.2 x.3 in
      omega (arith, o.1, more, h.counted, length-append bytes h.more)

-- ---- the end

-- what was given is decided, whatever comes behind
pub all_behind : (is_whole : Bool) (left new : Option (List ℕ)) (bytes more : List ℕ) (P : List ℕ → Type 0) → Consumes left new more → (is_whole ≡ true → more ≡ []) → ((rest : List ℕ) → P ((bytes ++ more) ++ rest))
    → (u : List ℕ) × Follows is_whole left u × P (bytes ++ u)
all_behind true left new bytes more P got none p = (more, none refl, subst P (append-nil (bytes ++ more)) (p []))
all_behind false None new bytes more P got none p = (more, tt, subst P (append-nil (bytes ++ more)) (p []))
all_behind false (Some u) None bytes more P got none p = absurd got
all_behind false (Some u) (Some v) bytes more P got none p = (u, refl, subst P (append_assoc bytes more v ∙ ap (λ (t : List ℕ). bytes ++ t) (sym got)) (p v))

-- nothing comes behind what was given
pub end_behind : (is_whole : Bool) (left new : Option (List ℕ)) (bytes more : List ℕ) (P : List ℕ → Type 0) → Consumes left new more → (is_whole ≡ true → more ≡ []) → (is_whole ≡ true) ⊎ IsAtEnd new → P (bytes ++ more)
    → (u : List ℕ) × Follows is_whole left u × P (bytes ++ u)
end_behind true left new bytes more P got none end p = (more, none refl, p)
end_behind false None new bytes more P got none end p = (more, tt, p)
end_behind false (Some u) None bytes more P got none end p = absurd got
end_behind false (Some u) (Some v) bytes more P got none (inl e) p = absurd (false≢true e)
end_behind false (Some u) (Some v) bytes more P got none (inr e) p = (more, sym (got ∙ ap (λ (t : List ℕ). more ++ t) e ∙ append-nil more), p)

-- the check has said that the text is a derivation, or what its fault is
module _ (k : ℕ) (Fresh : State → Type 0) (n : NameTable) (from : ℕ) (is_whole : Bool) (left new : Option (List ℕ)) (count count_new : ℕ) (bytes : List ℕ) (r : Result Bool TextFault) (f : Feeder) (c : Checking) (log : Kept)
    (h : HasGiven k Fresh n from is_whole left new count count_new bytes r f c log) (first : State) (fresh : Fresh first) where
  pub all_checked : r ≡ Ok true → (u : List ℕ) × Follows is_whole left u × HasChecked first k n c (bytes ++ u)
  all_checked e = all_behind is_whole left new bytes h.more (HasChecked first k n c) h.taken h.none (subst (λ (s : Result Bool TextFault). IsFar first k n from s f c log (bytes ++ h.more)) e (h.far first fresh))

  pub fault_found : (fault : TextFault) → r ≡ Err fault → (u : List ℕ) × Follows is_whole left u × HasFaultFrom n from (bytes ++ u) fault
  fault_found fault e =
      all_behind is_whole left new bytes h.more (λ t. HasFaultFrom n from t fault) h.taken h.none (subst (λ (s : Result Bool TextFault). IsFar first k n from s f c log (bytes ++ h.more)) e (h.far first fresh))

pub ok_or_err : (r : Result Bool TextFault) (b : Bool) (fault : TextFault) → r ≡ Ok b → r ≡ Err fault → ⊥
ok_or_err r b fault e x = (let no_both : Ok b ≡ Err fault = sym e ∙ x in absurd cc)
