-- A reading that a byte or the end of the text takes on.
use Rattle.std.proofs.Common.{◌≡◌, ◌+◌, ◌≤◌, ◌^◌, ℕ, List, [], ◌∷◌, ◌++◌, length, reverse, Bool, true, false, inl, inr, refl, sym, ap, ◌∙◌, append_assoc, subst, arith}
use Rattle.std.proofs.lemmas.List.{append-nil, length-append}
use Rattle.std.proofs.lemmas.List.Elements.{All-weaker}
use Rattle.std.proofs.lemmas.Bool.{leb-false}
use Rattle.std.specs.Prelude.{nat_le, if◌then◌else◌}
use Rattle.geo_tokens.specs.declared.token.Token.{Token}
use Rattle.geo_tokens.specs.declared.fault.FaultWord.{FaultWord}
use Rattle.geo_tokens.specs.Names.{NameTable}
use Rattle.geo_tokens.specs.Cut.{Cut}
use Rattle.token_stream.specs.declared.stream.TokenStream.{TokenStream}
use Rattle.token_stream.specs.declared.stream.Taken.{Taken}
use Rattle.token_stream.specs.declared.stream.Taken.TheVariants as takes
use Rattle.token_stream.specs.Stream.{Stands, Has, HasName, IsFault, Takes, Finishes, run_length}
use Rattle.token_stream.proofs.Steps.{stands_now}
use Rattle.derivation.specs.declared.event.Event.{Event}
use Rattle.derivation.specs.Events.{Continues}
use Rattle.derivation_reading.specs.declared.symbol.Symbol.{Symbol}
use Rattle.derivation_reading.specs.declared.feeder.Progress.{Progress}
use Rattle.derivation_reading.specs.declared.feeder.Progress.TheVariants.{Open, Done, Failed}
use Rattle.derivation_reading.specs.declared.feeder.Feeder.{Feeder}
use Rattle.derivation_reading.specs.Terminals.{Lexeme, lexemes}
use Rattle.derivation_reading.specs.Grammar.{lookup}
use Rattle.derivation_reading.specs.Machine.{Opens}
use Rattle.derivation_reading.specs.FirstFault.{most_bytes, IsText}
use Rattle.derivation_reading.specs.Feeding.{IsOpen, IsAt, HasEvents, HasCome, Comes, HasReached, IsNext, IsNextFault, Shows, with_taken, Reaches, Stops, Keeps, without_byte}
use Rattle.derivation_reading.proofs.Cuttings.{cut_inside, to_last}
use Rattle.derivation_reading.proofs.Longer.{same_bytes, same_lexemes}
use Rattle.derivation_reading.proofs.Reached.{events_of}

-- ---- what was completed, whatever comes behind the text

-- a token that ends within `most_bytes`
token_shows : (f : Feeder) (text more : List ℕ) (ts : List Token) (t : Token) (place : ℕ) (rest : List ℕ) → Stands text (ts ++ t ∷ []) place rest → t.end + 1 ≡ length text
    → HasName f.stream text t → t.end ≤ most_bytes → IsNext f (text ++ more) ts t
token_shows f text more ts t place rest stands last name short = record {
  end = place;
  rest = rest ++ more;
  cut = stands more;
  short = short;
  name = λ e. name e ∙ sym (same_bytes text more t (omega arith));
}

-- a fault whose run ends within them
fault_shows : (text more : List ℕ) (ts : List Token) (place : ℕ) (word : FaultWord) → IsFault text ts place word → length text ≤ most_bytes + 1
    → (place + 1 ≡ length text → place + 1 ≤ most_bytes) → IsNextFault (text ++ more) ts place word
fault_shows text more ts place word h count byte = record {
  rest = h.stuck.rest ++ more;
  cut = h.stuck.stands more;
  bad = h.stuck.bad more;
  short = elim h.now [
    | inl e ↦ subst (λ (w : FaultWord). place + run_length w (h.stuck.rest ++ more) ≤ most_bytes) (sym e.1) (byte e.0)
    | inr e ↦ (let run = h.stuck.run more in omega (arith, e, run))
  ];
}

module _ (f : Feeder) (text more : List ℕ) (ts : List Token) where
  shows_next : (taken : Taken) → length text ≤ most_bytes → Takes f.stream taken text ts → Shows f (text ++ more) ts taken
  shows_next takes.Nothing count h = tt
  shows_next (takes.Token t) count h =
      let last = h.1 in token_shows f text more ts t f.stream.start h.0.rest h.0.stands last h.2 (omega (arith, last))
  shows_next (takes.Fault place word) count h = fault_shows text more ts place word h (omega arith) (λ e. omega (arith, e))
  shows_next (takes.TokenAndFault t place) count h =
      let last = h.1 in
      let run = h.0.run more in (
        token_shows f text more ts t place h.0.rest h.0.stands last h.3 (omega (arith, last)),
        record { rest = h.0.rest ++ more; cut = h.0.stands more; bad = h.0.bad more; short = omega (arith, run) },
      )

  pub shows_last : (taken : Taken) → length text ≡ most_bytes + 1 → Takes f.stream taken text ts → Shows f (text ++ more) ts (without_byte taken)
  shows_last takes.Nothing count h = tt
  shows_last (takes.Token t) count h =
      let last = h.1 in token_shows f text more ts t f.stream.start h.0.rest h.0.stands last h.2 (omega (arith, last))
  shows_last (takes.Fault place word) count h = by (nat_le most_bytes place) refl
    where
      by : (b : Bool) → nat_le most_bytes place ≡ b → Shows f (text ++ more) ts (if b then takes.Nothing else takes.Fault place word)
      by true e = tt
      by false e = (let early = leb-false most_bytes place e in fault_shows text more ts place word h (omega arith) (λ same. omega (arith, early)))
  shows_last (takes.TokenAndFault t place) count h =
      let last = h.1 in token_shows f text more ts t place h.0.rest h.0.stands last h.3 (omega (arith, last))

-- at the end of the text
pub shows_end : (f : Feeder) (text : List ℕ) (ts : List Token) (taken : Taken) → length text ≤ most_bytes → Finishes f.stream taken text ts → Shows f text ts taken
shows_end f text ts takes.Nothing count h = tt
shows_end f text ts (takes.Token t) count h = (let last = h.1 in record { end = length text; rest = []; cut = h.0; short = omega (arith, last); name = h.2 })
shows_end f text ts (takes.Fault place word) count h = (let run = h.run in record { rest = h.rest; cut = h.before; bad = h.bad; short = omega (arith, run) })
shows_end f text ts (takes.TokenAndFault t place) count h = absurd h

-- ---- what was read

-- The text is cut into these tokens up to a place within `most_bytes`, and behind them these symbols may come.
pub record IsReadTo (n : NameTable) (text : List ℕ) (ts : List Token) (ss : List Symbol) (es : List Event) : Type 0 where
  pub end : ℕ
  pub rest : List ℕ
  pub cut : Cut end rest 0 text ts
  pub short : end ≤ most_bytes
  pub opens : Opens (lookup n) (lexemes text ts) ss es

pub record IsCutTo (text : List ℕ) (ts : List Token) : Type 0 where
  pub end : ℕ
  pub rest : List ℕ
  pub cut : Cut end rest 0 text ts
  pub short : end ≤ most_bytes

-- whatever comes behind an open text
pub read_to : (n : NameTable) (f : Feeder) (text more : List ℕ) (es : List Event) (s : Symbol) (o : IsOpen n f text es s) → IsReadTo n (text ++ more) o.tokens (s ∷ reverse f.behind.items) es
read_to n f text more es s o =
    let place = o.has.run.place in
    let count = o.has.count in
    let short = o.short in
    let tokens_inside = All-weaker (λ t. t.end ≤ 0 + length text) (λ t. t.end ≤ length text) (λ t h. omega arith) o.tokens
    (cut_inside f.stream.start o.has.rest 0 text o.tokens (stands_now text o.tokens f.stream.start o.has.rest o.has.stands)) in
    record {
      end = f.stream.start;
      rest = o.has.rest ++ more;
      cut = o.has.stands more;
      short = omega (arith, place, count, short);
      opens = subst (λ (ws : List Lexeme). Opens (lookup n) ws (s ∷ reverse f.behind.items) es) (sym (same_lexemes text more o.tokens tokens_inside)) o.opens;
    }

-- with what was completed
pub cut_to : (f : Feeder) (n : NameTable) (text : List ℕ) (ts : List Token) (ss : List Symbol) (es : List Event) (taken : Taken) → IsReadTo n text ts ss es → Shows f text ts taken
    → IsCutTo text (with_taken ts taken)
cut_to f n text ts ss es takes.Nothing h shows = record { end = h.end; rest = h.rest; cut = h.cut; short = h.short }
cut_to f n text ts ss es (takes.Token t) h shows = (let r = to_last shows.end shows.rest text ts t shows.cut in record { end = t.end; rest = r.0; cut = r.1; short = shows.short })
cut_to f n text ts ss es (takes.Fault place word) h shows = record { end = h.end; rest = h.rest; cut = h.cut; short = h.short }
cut_to f n text ts ss es (takes.TokenAndFault t place) h shows =
    (let r = to_last shows.0.end shows.0.rest text ts t shows.0.cut in record { end = t.end; rest = r.0; cut = r.1; short = shows.0.short })

-- a whole text
pub whole : (g : Feeder) (text : List ℕ) (us : List Token) (gs : List Event) → IsCutTo text us → HasReached g Done text us gs → IsText g.names.now text gs
whole g text us gs h spells = record { tokens = us; end = h.end; rest = h.rest; cut = h.cut; short = h.short; spells = spells }

-- the events of what was reached
pub events_at : (g : Feeder) (text : List ℕ) (us : List Token) (gs : List Event) (p : Progress) → IsCutTo text us → HasReached g p text us gs → HasEvents g.names.now text gs
events_at g text us gs (Open s) h opens = events_of g.names.now text us (s ∷ reverse g.behind.items) gs h.end h.rest h.cut opens
events_at g text us gs Done h spells = events_of g.names.now text us [] gs h.end h.rest h.cut spells
events_at g text us gs (Failed fault) h failed = failed.1

-- ---- the names and the place that a reader keeps

pub by_its_own : (n : NameTable) (from : ℕ) (f : Feeder) (text : List ℕ) (es : List Event) → HasCome n from f text es → HasCome f.names.now f.place f text es
by_its_own n from f text es h = subst (λ (m : NameTable). HasCome m f.place f text es) (sym h.names) (subst (λ (q : ℕ). HasCome n q f text es) (sym h.place) h)

pub come_by : (n : NameTable) (from : ℕ) (g h : Feeder) (text : List ℕ) (gs : List Event) → g.names.now ≡ n → g.place ≡ from → HasCome g.names.now g.place h text gs → HasCome n from h text gs
come_by n from g h text gs names place x = subst (λ (m : NameTable). HasCome m from h text gs) names (subst (λ (q : ℕ). HasCome g.names.now q h text gs) place x)

-- ---- bytes that a text may have

-- behind no fault, the tokens are those of the stream
still_has : (stream : TokenStream) (taken : Taken) (text : List ℕ) (ts : List Token) (s : Symbol) → Stops taken (Open s) → Takes stream taken text ts → Has stream text (with_taken ts taken)
still_has stream takes.Nothing text ts s on h = h
still_has stream (takes.Token t) text ts s on h = h.0
still_has stream (takes.Fault place word) text ts s on h = absurd on
still_has stream (takes.TokenAndFault t place) text ts s on h = absurd on

module _ (g : Feeder) (text : List ℕ) (us : List Token) (gs : List Event) (cuts : (x : List ℕ) → IsCutTo (text ++ x) us) where
  at : (p : Progress) → ((s : Symbol) → p ≡ Open s → Has g.stream text us × (length text ≤ most_bytes)) → ((x : List ℕ) → HasReached g p (text ++ x) us gs)
      → IsAt g.names.now g.place g p text gs
  at (Open s) has reached =
      let there = has s refl in
      record { tokens = us; has = there.0; opens = subst (λ (u : List ℕ). HasReached g (Open s) u us gs) (append-nil text) (reached []); short = there.1 }
  at Done has reached = λ x. whole g (text ++ x) us gs (cuts x) (reached x)
  at (Failed fault) has reached = λ x. (reached x).0

-- the text with the byte and with more
pub with_byte : (text : List ℕ) (byte : ℕ) (x : List ℕ) → text ++ byte ∷ x ≡ text ++ byte ∷ [] ++ x
with_byte text byte x = sym (append_assoc text (byte ∷ []) x)

module _ (f g : Feeder) (stream : TokenStream) (s : Symbol) (taken : Taken) (piece : List ℕ) (before later : List Event) (open_before : f.progress ≡ Open s)
    (room : f.stream.count + length piece ≤ 2 ^ 40) (takes_it : (text : List ℕ) (ts : List Token) → Has f.stream text ts → Takes stream taken (text ++ piece) ts)
    (keeps : Keeps (record f { stream = stream }) g) (grown : Continues before later) (reaches : Reaches (record f { stream = stream }) g s taken before later)
    (stops : Stops taken g.progress) where
  pub comes_next : Comes f g piece before later
  comes_next n from text es come =
      let own = by_its_own n from f text es come in
      let names = f.names.now in
      let is_open : IsOpen names f text es s = subst (λ (p : Progress). IsAt names f.place f p text es) open_before own.far in
      let m : Feeder = record f { stream = stream } in
      let text_now = text ++ piece in
      let ts = is_open.tokens in
      let ss = s ∷ reverse f.behind.items in
      let us = with_taken ts taken in
      let gs = es ++ grown.0 in
      let there = takes_it text ts is_open.has in
      let count = is_open.has.count in
      let short : length text_now ≤ most_bytes = omega (arith, count, length-append text piece) in
      let read = λ (x : List ℕ). subst (λ (u : List ℕ). IsReadTo names u ts ss es) (sym (append_assoc text piece x)) (read_to names f text (piece ++ x) es s is_open) in
      let shows = λ (x : List ℕ). shows_next m text_now x ts taken short there in
      let cuts = λ (x : List ℕ). cut_to m names (text_now ++ x) ts ss es taken (read x) (shows x) in
      let reached = λ (x : List ℕ). reaches (text_now ++ x) ts es grown.0 grown.1 own.low (read x).opens (shows x) in
      let has : (u : Symbol) → g.progress ≡ Open u → Has g.stream text_now us × (length text_now ≤ most_bytes) = λ u e. (
        subst (λ (y : TokenStream). Has y text_now us) (sym keeps.stream) (still_has stream taken text_now ts u (subst (Stops taken) e stops) there),
        short,
      ) in (
        grown.0,
        grown.1,
        come_by n from g g text_now gs (ap (λ b. b.now) keeps.names ∙ come.names) (keeps.place ∙ come.place) (record {
          names = refl;
          place = refl;
          low = subst (λ (q : ℕ). q ≤ 2 ^ 62) (sym keeps.place) own.low;
          far = at g text_now us gs cuts g.progress has reached;
          events = λ x. events_at g (text_now ++ x) us gs g.progress (cuts x) (reached x);
        }),
      )
