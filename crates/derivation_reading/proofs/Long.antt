-- A text whose first `most_bytes` bytes are read, and where what stands behind them ends past these, is long.
use Rattle.std.proofs.Common.{◌≡◌, ℕ, ◌+◌, ◌<◌, ◌≤◌, List, [], ◌∷◌, length, drop, ◌⊎◌, inl, inr, sym, subst, arith}
use Rattle.geo_tokens.specs.declared.token.Token.{Token}
use Rattle.geo_tokens.specs.declared.token.Kind.{Kind}
use Rattle.geo_tokens.specs.declared.fault.FaultWord.{FaultWord}
use Rattle.geo_tokens.specs.Names.{NameTable}
use Rattle.geo_tokens.specs.Cut.{IsGap, IsToken, IsBad, Cut, here, behind_gap, behind_token}
use Rattle.geo_tokens.proofs.Fronts.{token_inside}
use Rattle.token_stream.specs.Stream.{run_length}
use Rattle.token_stream.proofs.Whole.{bad_inside}
use Rattle.derivation.specs.declared.event.Event.{Event}
use Rattle.derivation_reading.specs.declared.symbol.Symbol.{Symbol}
use Rattle.derivation_reading.specs.Terminals.{lexemes}
use Rattle.derivation_reading.specs.Grammar.{lookup}
use Rattle.derivation_reading.specs.Machine.{Leaves, Opens}
use Rattle.derivation_reading.specs.FirstFault.{most_bytes, IsText, HasFault, IsLong}
use Rattle.derivation_reading.proofs.Steps.{none_taken, only_empty}
use Rattle.derivation_reading.proofs.Cuttings.{cut_onwards, further, shorter, compared}
use Rattle.derivation_reading.proofs.OneReading.{rest_behind, nothing_behind_point, Cause, bad, wrong, missing, at_end, fault_at}

-- What stands at the place ends past `most_bytes`.
pub record GoesPast (p : ℕ) (rest : List ℕ) : Type 0 where
  pub gap : (m : ℕ) → IsGap m rest → most_bytes ≤ p + m
  pub token : (k : Kind) (m : ℕ) → IsToken k m rest → most_bytes < p + m
  pub bad : (w : FaultWord) → IsBad w rest → most_bytes < p + run_length w rest
  pub some : rest ≡ [] → most_bytes ≤ p

-- ---- cuts that go on

-- a cut has no token, or goes on by a byte at least
none_or_some : (q : ℕ) (last : List ℕ) (place : ℕ) (bytes : List ℕ) (vs : List Token) → Cut q last place bytes vs → (vs ≡ []) ⊎ (place < q)
none_or_some q last place bytes vs (here _ _ _ a b c) = inl c
none_or_some q last place bytes vs (behind_gap _ _ _ n g d) = elim (none_or_some q last (place + n) (drop n bytes) vs d) [
  | inl e ↦ inl e
  | inr l ↦ inr (omega (arith, l))
]
none_or_some q last place bytes vs (behind_token _ _ _ k n us g e d) =
    let some = (token_inside k n bytes g).0 in
    inr (omega (arith, some, cut_onwards q last (place + n) (drop n bytes) us d))

-- so where what stands there ends past `most_bytes`, it has no token or goes past it too
none_or_past : (q : ℕ) (last : List ℕ) (p : ℕ) (rest : List ℕ) (vs : List Token) → GoesPast p rest → Cut q last p rest vs → (vs ≡ []) ⊎ (most_bytes < q)
none_or_past q last p rest vs x (here _ _ _ a b c) = inl c
none_or_past q last p rest vs x (behind_gap _ _ _ n g d) = elim (none_or_some q last (p + n) (drop n rest) vs d) [
  | inl e ↦ inl e
  | inr l ↦ (let past = x.gap n g in inr (omega (arith, l, past)))
]
none_or_past q last p rest vs x (behind_token _ _ _ k n us g e d) =
    let past = x.token k n g in
    inr (omega (arith, past, cut_onwards q last (p + n) (drop n rest) us d))

-- it ends where it began, or at `most_bytes` or past it
here_or_past : (q : ℕ) (last : List ℕ) (p : ℕ) (rest : List ℕ) (vs : List Token) → GoesPast p rest → Cut q last p rest vs → ((p ≡ q) × (rest ≡ last)) ⊎ (most_bytes ≤ q)
here_or_past q last p rest vs x (here _ _ _ a b c) = inl (a, b)
here_or_past q last p rest vs x (behind_gap _ _ _ n g d) =
    let past = x.gap n g in
    inr (omega (arith, past, cut_onwards q last (p + n) (drop n rest) vs d))
here_or_past q last p rest vs x (behind_token _ _ _ k n us g e d) =
    let past = x.token k n g in
    inr (omega (arith, past, cut_onwards q last (p + n) (drop n rest) us d))

-- ---- faults

module _ (n : NameTable) (text : List ℕ) where
  -- a fault begins before `most_bytes`
  cause_early : (q : ℕ) (last : List ℕ) (us : List Token) (t : Symbol) (w : FaultWord) → Cause n text q last us t w → q < most_bytes
  cause_early q last us t w (bad h size) = let some = (bad_inside w last h).0 in omega (arith, some, size)
  cause_early q last us t w (wrong k m g size none e) = let some = (token_inside k m last g).0 in omega (arith, some, size)
  cause_early q last us t w (missing k m g size b is e) = let some = (token_inside k m last g).0 in omega (arith, some, size)
  cause_early q last us t w (at_end none size e) = size

  -- and does not stand where all ends past it
  no_cause : (p : ℕ) (rest : List ℕ) (us : List Token) (t : Symbol) (w : FaultWord) → GoesPast p rest → Cause n text p rest us t w → ⊥
  no_cause p rest us t w x (bad h size) = let past = x.bad w h in omega (arith, past, size)
  no_cause p rest us t w x (wrong k m g size none e) = let past = x.token k m g in omega (arith, past, size)
  no_cause p rest us t w x (missing k m g size b is e) = let past = x.token k m g in omega (arith, past, size)
  no_cause p rest us t w x (at_end none size e) = let past = x.some none in omega (arith, past, size)

  no_cause_here : (p q : ℕ) (rest last : List ℕ) (us : List Token) (t : Symbol) (w : FaultWord) → GoesPast p rest → p ≡ q → rest ≡ last → Cause n text q last us t w → ⊥
  no_cause_here p q rest last us t w x a b c =
      no_cause p rest us t w x (subst (λ (m : ℕ). Cause n text m rest us t w) (sym a) (subst (λ (u : List ℕ). Cause n text q u us t w) (sym b) c))

-- ---- the law

module _ (n : NameTable) (text : List ℕ) (p : ℕ) (rest : List ℕ) (ts : List Token) (s : Symbol) (ss : List Symbol) (es : List Event) (cut : Cut p rest 0 text ts)
    (opens : Opens (lookup n) (lexemes text ts) (s ∷ ss) es) (past : GoesPast p rest) where
  no_text : (fs : List Event) → IsText n text fs → ⊥
  no_text fs x = elim (compared p rest x.end x.rest 0 text ts x.tokens cut x.cut) [
    | further vs e d ↦ (let r = rest_behind text ts x.tokens vs e opens x.spells in
        elim (none_or_past x.end x.rest p rest vs past d) [
          | inl none ↦ (let left = none_taken (subst (λ (v : List Token). Leaves (lookup n) [] (s ∷ ss) (lexemes text v) r.0) none r.2) in
              let no_symbols : s ∷ ss ≡ [] = left.0 in
              absurd cc)
          | inr l ↦ (let short = x.short in omega (arith, l, short))
        ])
    | shorter vs e d ↦ (let r = rest_behind text x.tokens ts vs e x.spells opens in
        let no_symbols : s ∷ ss ≡ [] = (only_empty r.2).0 in
        absurd cc)
  ]

  no_fault : (q : ℕ) (w : FaultWord) → HasFault n text q w → ⊥
  no_fault q w x =
      let f = fault_at n text q w x in
      elim (compared p rest q f.rest 0 text ts f.tokens cut f.point.read.cut) [
        | further vs e d ↦ elim (here_or_past q f.rest p rest vs past d) [
          | inl same ↦ no_cause_here n text p q rest f.rest f.tokens f.symbol w past same.0 same.1 f.cause
          | inr l ↦ (let early = cause_early n text q f.rest f.tokens f.symbol w f.cause in omega (arith, l, early))
        ]
        | shorter vs e d ↦ (let r = rest_behind text f.tokens ts vs e f.point.read.opens opens in
            let same = nothing_behind_point n text q f.rest f.tokens f.symbol f.point f.point.read.others (s ∷ ss) r.0 p rest vs d r.2 in
            no_cause_here n text p q rest f.rest f.tokens f.symbol w past (sym same.0) (sym same.1) f.cause)
      ]

  pub is_long : most_bytes ≤ length text → IsLong n text
  is_long h = record { long = h; no_text = no_text; no_fault = no_fault }
