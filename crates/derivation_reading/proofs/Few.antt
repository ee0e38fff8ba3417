-- A text has no more events than bytes, and they name what exists.
use Rattle.std.proofs.Common.{◌≡◌, ◌+◌, ◌≤◌, ◌^◌, ℕ, Bool, true, false, List, [], ◌∷◌, length, Option, Some, None, if◌then◌else◌, ap, subst, arith, length-append}
use Rattle.std.specs.Prelude.{codes}
use Rattle.std.specs.Str.{bytes_eq}
use Rattle.std.specs.List.{All}
use Rattle.std.proofs.lemmas.List.{length-map}
use Rattle.geo_tokens.specs.declared.token.Token.{Token}
use Rattle.geo_tokens.specs.Names.{NameTable, IsNameTable}
use Rattle.geo_tokens.specs.Cut.{Cut, here, behind_gap, behind_token}
use Rattle.geo_tokens.proofs.Fronts.{gap_inside, token_inside}
use Rattle.derivation.specs.declared.event.Event.{Event}
use Rattle.derivation.specs.Fits.{EventFits}
use Rattle.derivation_reading.specs.declared.symbol.Sign.TheVariants.{Plus, Minus}
use Rattle.derivation_reading.specs.declared.symbol.Symbol.{Symbol}
use Rattle.derivation_reading.specs.declared.symbol.Symbol.TheVariants.{Text, Node, Qed, SplitObject, SplitBy, SplitShape, SplitPart, SplitNumber, DropObject, DropShape, BoundObject, BoundDimension, BoundNumber, BoundCovers, GoneObject, GoneCovers, DeadNumber, Covers, Cover, ByNumber, CutDimension, CutNumber}
use Rattle.derivation_reading.specs.declared.symbol.Terminal.{Terminal}
use Rattle.derivation_reading.specs.declared.symbol.Terminal.TheVariants as terminals
use Rattle.derivation_reading.specs.Terminals.{Lexeme, lexeme, lexemes}
use Rattle.derivation_reading.specs.Grammar.{Lookup, Next, Wrong, Unknown, Goes, known, node_by, next}
use Rattle.derivation_reading.specs.Machine.{Leaves, here as at_end, on}
use Rattle.derivation_reading.specs.declared.feeder.Feeder.{Feeder}
use Rattle.derivation_reading.specs.FirstFault.{IsText}
use Rattle.derivation_reading.specs.Feeding.{IsOpen}
use Rattle.derivation_reading.proofs.Fitting.{opens_fit, cut_small}

-- ---- one event for a token at most

abbrev AtMostOne : List Event → Type 0
AtMostOne [] = Unit {0}
AtMostOne (e ∷ []) = Unit {0}
AtMostOne (e ∷ f ∷ es) = ⊥

abbrev GivesOne : Next → Type 0
GivesOne Wrong = Unit {0}
GivesOne Unknown = Unit {0}
GivesOne (Goes more es) = AtMostOne es

one_if : (b : Bool) (x y : Next) → GivesOne x → GivesOne y → GivesOne (if b then x else y)
one_if true x y f g = f
one_if false x y f g = g

one_known : (o : Option ℕ) (f : ℕ → Next) → ((i : ℕ) → GivesOne (f i)) → GivesOne (known o f)
one_known None f g = tt
one_known (Some i) f g = g i

one_node : (w : List ℕ) (more : List Symbol) → GivesOne (node_by w more)
one_node w more =
    one_if (bytes_eq w (codes "split")) _ _ tt (one_if (bytes_eq w (codes "drop")) _ _ tt (one_if (bytes_eq w (codes "raise")) _ _ tt
    (one_if (bytes_eq w (codes "lower")) _ _ tt (one_if (bytes_eq w (codes "gone")) _ _ tt (one_if (bytes_eq w (codes "dead")) _ _ tt tt)))))

one_next : (L : Lookup) (s : Symbol) (t : Terminal) (w : List ℕ) → GivesOne (next L s t w)
one_next L Text terminals.Name w = one_if (bytes_eq w (codes "none")) _ _ tt (one_node w (Qed ∷ []))
one_next L Node terminals.Name w = one_node w []
one_next L Qed terminals.Qed w = tt
one_next L SplitObject terminals.Name w = one_known (L.object w) _ (λ o. tt)
one_next L (SplitBy o) terminals.Shape w = tt
one_next L (SplitBy o) (terminals.Number v) w = one_known (L.dimension v) _ (λ d. tt)
one_next L (SplitShape o) terminals.Name w = one_known (L.place o.0 w) _ (λ s. tt)
one_next L (SplitShape o) terminals.Absent w = one_known (L.place o.0 (codes "absent")) _ (λ s. tt)
one_next L (SplitPart o d) terminals.Name w = one_if (bytes_eq w (codes "upto")) _ _ tt (one_if (bytes_eq w (codes "from")) _ _ tt tt)
one_next L (SplitNumber part o d Plus) terminals.Minus w = tt
one_next L (SplitNumber part o d Plus) (terminals.Number v) w = tt
one_next L (SplitNumber part o d Minus) (terminals.Number v) w = tt
one_next L DropObject terminals.Name w = one_known (L.object w) _ (λ o. tt)
one_next L (DropShape o) terminals.Name w = one_known (L.place o.0 w) _ (λ s. tt)
one_next L (DropShape o) terminals.Absent w = one_known (L.place o.0 (codes "absent")) _ (λ s. tt)
one_next L (BoundObject part) terminals.Name w = one_known (L.object w) _ (λ o. tt)
one_next L (BoundDimension part o) (terminals.Number v) w = one_known (L.dimension v) _ (λ d. tt)
one_next L (BoundNumber part o d Plus) terminals.Minus w = tt
one_next L (BoundNumber part o d Plus) (terminals.Number v) w = tt
one_next L (BoundNumber part o d Minus) (terminals.Number v) w = tt
one_next L (BoundCovers part o d v) terminals.Open w = tt
one_next L GoneObject terminals.Name w = one_known (L.object w) _ (λ o. tt)
one_next L (GoneCovers o) terminals.Open w = tt
one_next L DeadNumber (terminals.Number v) w = tt
one_next L (Covers o) terminals.Name w = one_known (L.place o.0 w) _ (λ s. tt)
one_next L (Covers o) terminals.Absent w = one_known (L.place o.0 (codes "absent")) _ (λ s. tt)
one_next L (Covers o) terminals.Close w = tt
one_next L Cover terminals.Name w = one_if (bytes_eq w (codes "by")) _ _ tt (one_if (bytes_eq w (codes "cut")) _ _ tt (one_if (bytes_eq w (codes "from")) _ _ tt tt))
one_next L ByNumber (terminals.Number v) w = tt
one_next L (CutDimension part) (terminals.Number v) w = one_known (L.dimension v) _ (λ d. tt)
one_next L (CutNumber part d Plus) terminals.Minus w = tt
one_next L (CutNumber part d Plus) (terminals.Number v) w = tt
one_next L (CutNumber part d Minus) (terminals.Number v) w = tt
one_next L s t w = tt

one_length : (es : List Event) → AtMostOne es → length es ≤ 1
one_length [] h = omega arith
one_length (e ∷ []) h = omega arith
one_length (e ∷ f ∷ es) h = absurd h

-- so there are no more events than tokens
events_few : {L : Lookup} {left ss : List Symbol} {ws : List Lexeme} {es : List Event} → Leaves L left ss ws es → length es ≤ length ws
events_few (at_end _ _ es a b c) = omega (arith, ap length c)
events_few {L} (on s w more ss ds es gs ws a d e) =
    let first = one_length ds (subst GivesOne a (one_next L s w.is w.name)) in
    let others = events_few d in
    omega (arith, first, others, ap length e, length-append ds es)

-- and no more tokens than bytes
tokens_few : {end : ℕ} {rest : List ℕ} {place : ℕ} {bytes : List ℕ} {ts : List Token} → Cut end rest place bytes ts → place + length ts ≤ end
tokens_few (here _ _ _ a b c) = omega (arith, a, ap length c)
tokens_few (behind_gap _ bytes _ n g d) = (let others = tokens_few d in let size = gap_inside n bytes g in omega (arith, others, size.0))
tokens_few (behind_token _ bytes _ k n us g c d) = (let others = tokens_few d in let size = token_inside k n bytes g in omega (arith, others, size.0, ap length c))

-- ---- of a text that was read

module _ (n : NameTable) (table : IsNameTable n) (text : List ℕ) (es : List Event) where
  pub text_events : IsText n text es → All (EventFits (length n.objects) n.dims) es × (length es ≤ 2 ^ 40)
  text_events h =
      let e = events_few h.spells in
      let t = tokens_few h.cut in
      let s = h.short in
      let m : length (lexemes text h.tokens) ≡ length h.tokens = length-map h.tokens (lexeme text) in
      (opens_fit n table (cut_small text h.cut) h.spells, omega (arith, e, t, s, m))

-- ---- of a reader

module _ (n : NameTable) (table : IsNameTable n) (f : Feeder) (text : List ℕ) (es : List Event) where
  pub open_events : (s : Symbol) → IsOpen n f text es s → All (EventFits (length n.objects) n.dims) es × (length es ≤ 2 ^ 40)
  open_events s h =
      let cut = h.has.stands [] in
      let e = events_few h.opens in
      let t = tokens_few cut in
      let m : length (lexemes text h.tokens) ≡ length h.tokens = length-map h.tokens (lexeme text) in
      let run = h.has.run.place in
      let count = h.has.count in
      let short = h.short in
      (opens_fit n table (cut_small text cut) h.opens, omega (arith, e, t, m, run, count, short))
