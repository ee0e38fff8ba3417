-- A text has one reading: it is a derivation with its events, or it has its first fault, and no other.
use Rattle.std.proofs.Common.{◌≡◌, ℕ, ◌+◌, ◌<◌, ◌≤◌, List, [], ◌∷◌, ◌++◌, length, append-nil, refl, sym, ap, ◌∙◌, subst, arith}
use Rattle.std.proofs.lemmas.List.{map-append}
use Rattle.geo_tokens.specs.declared.token.Token.{Token}
use Rattle.geo_tokens.specs.declared.token.Kind.{Kind}
use Rattle.geo_tokens.specs.declared.front.Front.TheVariants as fronts
use Rattle.geo_tokens.specs.declared.fault.FaultWord.{FaultWord}
use Rattle.geo_tokens.specs.declared.fault.FaultWord.TheVariants as words
use Rattle.geo_tokens.specs.Names.{NameTable}
use Rattle.geo_tokens.specs.Cut.{IsGap, IsToken, IsBad, Cut, here, behind_gap, behind_token}
use Rattle.geo_tokens.proofs.Fronts.{gap_inside, token_inside, one_front}
use Rattle.token_stream.specs.Stream.{run_length}
use Rattle.token_stream.proofs.Whole.{bad_inside}
use Rattle.derivation.specs.declared.event.Event.{Event}
use Rattle.derivation_reading.specs.declared.symbol.Symbol.{Symbol}
use Rattle.derivation_reading.specs.Terminals.{Lexeme, lexeme, lexemes}
use Rattle.derivation_reading.specs.Grammar.{Lookup, lookup, at, Unknown, Goes}
use Rattle.derivation_reading.specs.Machine.{Leaves, Spells}
use Rattle.derivation_reading.specs.Begins.{Begins}
use Rattle.derivation_reading.specs.FirstFault.{most_bytes, IsText, IsRead, token_at, HasFault, no_token, syntax, unknown, ended, HasFirstFault, inside, long}
use Rattle.derivation_reading.proofs.Steps.{none_taken, only_empty, first_step, one_more, rest_of}
use Rattle.derivation_reading.proofs.Viable.{opens_begins}
use Rattle.derivation_reading.proofs.Cuttings.{same_token, gap_or_token, further, shorter, compared}
use Rattle.derivation_reading.proofs.Longer.{lexemes_more}

-- ---- what stands at the front

bad_or_gap : (w : FaultWord) (m : ℕ) (bytes : List ℕ) → IsBad w bytes → IsGap m bytes → ⊥
bad_or_gap w m bytes h g = (let e : fronts.Bad w ≡ fronts.Gap m = one_front (fronts.Bad w) (fronts.Gap m) bytes h g in absurd cc)

bad_or_token : (w : FaultWord) (k : Kind) (m : ℕ) (bytes : List ℕ) → IsBad w bytes → IsToken k m bytes → ⊥
bad_or_token w k m bytes h g = (let e : fronts.Bad w ≡ fronts.Token k m = one_front (fronts.Bad w) (fronts.Token k m) bytes h g in absurd cc)

same_word : (v w : FaultWord) (bytes : List ℕ) → IsBad v bytes → IsBad w bytes → v ≡ w
same_word v w bytes g h = (let e : fronts.Bad v ≡ fronts.Bad w = one_front (fronts.Bad v) (fronts.Bad w) bytes g h in cc)

-- at the end stands nothing
no_gap_last : (m : ℕ) (bytes : List ℕ) → bytes ≡ [] → IsGap m bytes → ⊥
no_gap_last m bytes e g = let q = gap_inside m bytes g in let none : length bytes ≡ 0 = ap length e in omega arith

no_token_last : (k : Kind) (m : ℕ) (bytes : List ℕ) → bytes ≡ [] → IsToken k m bytes → ⊥
no_token_last k m bytes e g = let q = token_inside k m bytes g in let none : length bytes ≡ 0 = ap length e in omega arith

no_bad_last : (w : FaultWord) (bytes : List ℕ) → bytes ≡ [] → IsBad w bytes → ⊥
no_bad_last w bytes e h = let q = bad_inside w bytes h in let none : length bytes ≡ 0 = ap length e in omega arith

-- ---- readings that go on

-- what stands behind some tokens goes on from what these leave
pub rest_behind : {L : Lookup} {left middle start : List Symbol} {es gs : List Event} (text : List ℕ) (ts us vs : List Token) → us ≡ ts ++ vs
    → Leaves L middle start (lexemes text ts) es → Leaves L left start (lexemes text us) gs → (fs : List Event) × (gs ≡ es ++ fs) × Leaves L left middle (lexemes text vs) fs
rest_behind {L} {left} {start} {gs} text ts us vs e d f =
    rest_of (lexemes text vs) d (subst (λ (x : List Lexeme). Leaves L left start x gs) (ap (lexemes text) e ∙ map-append (lexeme text) ts vs) f)

-- A point of a text: it is read up to here, and goes on from here in no way.
pub record IsPoint (n : NameTable) (text : List ℕ) (p : ℕ) (rest : List ℕ) (ts : List Token) (s : Symbol) : Type 0 where
  pub read : IsRead n text p rest ts s
  pub no_gap : (m : ℕ) → IsGap m rest → ⊥
  pub no_more : (k : Kind) (m : ℕ) → IsToken k m rest → (more : List Symbol) (ds : List Event) → at (lookup n) s (lexeme text (token_at k p m)) ≡ Goes more ds → ⊥

module _ (n : NameTable) (text : List ℕ) where
  -- so a reading that goes on from here is at its end
  pub nothing_behind_point : (p : ℕ) (rest : List ℕ) (ts : List Token) (s : Symbol) (x : IsPoint n text p rest ts s) (ss left : List Symbol) (gs : List Event) (q : ℕ) (last : List ℕ) (vs : List Token)
      → Cut q last p rest vs → Leaves (lookup n) left (s ∷ ss) (lexemes text vs) gs → (p ≡ q) × (rest ≡ last) × (vs ≡ [])
  nothing_behind_point p rest ts s x ss left gs q last vs (here _ _ _ a b c) l = (a, b, c)
  nothing_behind_point p rest ts s x ss left gs q last vs (behind_gap _ _ _ m g d) l = absurd (x.no_gap m g)
  nothing_behind_point p rest ts s x ss left gs q last vs (behind_token _ _ _ k m ws g e d) l =
      let f = first_step (subst (λ (v : List Token). Leaves (lookup n) left (s ∷ ss) (lexemes text v) gs) e l) in
      absurd (x.no_more k m g f.0 f.1 f.3)

-- ---- one point

pub record SamePoint (p q : ℕ) (rest last : List ℕ) (ts us : List Token) (s t : Symbol) : Type 0 where
  pub place : p ≡ q
  pub left : rest ≡ last
  pub tokens : ts ≡ us
  pub symbol : s ≡ t

module _ (n : NameTable) (text : List ℕ) where
  ahead : (p q : ℕ) (rest last : List ℕ) (ts us vs : List Token) (s t : Symbol) → IsPoint n text p rest ts s → IsRead n text q last us t → us ≡ ts ++ vs → Cut q last p rest vs
      → SamePoint p q rest last ts us s t
  ahead p q rest last ts us vs s t x y e d =
      let r = rest_behind text ts us vs e x.read.opens y.opens in
      let same = nothing_behind_point n text p rest ts s x x.read.others (t ∷ y.others) r.0 q last vs d r.2 in
      let none = none_taken (subst (λ (v : List Token). Leaves (lookup n) (t ∷ y.others) (s ∷ x.read.others) (lexemes text v) r.0) same.2 r.2) in
      let symbols : s ∷ x.read.others ≡ t ∷ y.others = none.0 in
      record { place = same.0; left = same.1; tokens = sym (e ∙ ap (λ (v : List Token). ts ++ v) same.2 ∙ append-nil ts); symbol = cc }

  -- two points of a text are one
  pub one_point : (p q : ℕ) (rest last : List ℕ) (ts us : List Token) (s t : Symbol) → IsPoint n text p rest ts s → IsPoint n text q last us t → SamePoint p q rest last ts us s t
  one_point p q rest last ts us s t x y = elim (compared p rest q last 0 text ts us x.read.cut y.read.cut) [
    | further vs e d ↦ ahead p q rest last ts us vs s t x y.read e d
    | shorter vs e d ↦ (let same = ahead q p last rest us ts vs t s y x.read e d in
        record { place = sym same.place; left = sym same.left; tokens = sym same.tokens; symbol = sym same.symbol })
  ]

  -- a text with a point is no derivation
  pub text_or_point : (p : ℕ) (rest : List ℕ) (ts : List Token) (s : Symbol) (es : List Event) → IsText n text es → IsPoint n text p rest ts s → ⊥
  text_or_point p rest ts s es x y = elim (compared p rest x.end x.rest 0 text ts x.tokens y.read.cut x.cut) [
    | further vs e d ↦ (let r = rest_behind text ts x.tokens vs e y.read.opens x.spells in
        let same = nothing_behind_point n text p rest ts s y y.read.others [] r.0 x.end x.rest vs d r.2 in
        let none = none_taken (subst (λ (v : List Token). Leaves (lookup n) [] (s ∷ y.read.others) (lexemes text v) r.0) same.2 r.2) in
        let no_symbols : s ∷ y.read.others ≡ [] = none.0 in
        absurd cc)
    | shorter vs e d ↦ (let r = rest_behind text x.tokens ts vs e x.spells y.read.opens in
        let no_symbols : s ∷ y.read.others ≡ [] = (only_empty r.2).0 in
        absurd cc)
  ]

  -- ---- one list of events

  alike : (ts us vs : List Token) (es fs : List Event) → us ≡ ts ++ vs → Spells (lookup n) (lexemes text ts) es → Spells (lookup n) (lexemes text us) fs → es ≡ fs
  alike ts us vs es fs e x y =
      let r = rest_behind text ts us vs e x y in
      sym (r.1 ∙ ap (λ (v : List Event). es ++ v) (only_empty r.2).2 ∙ append-nil es)

  pub one_text : (es fs : List Event) → IsText n text es → IsText n text fs → es ≡ fs
  one_text es fs x y = elim (compared x.end x.rest y.end y.rest 0 text x.tokens y.tokens x.cut y.cut) [
    | further vs e d ↦ alike x.tokens y.tokens vs es fs e x.spells y.spells
    | shorter vs e d ↦ sym (alike y.tokens x.tokens vs fs es e y.spells x.spells)
  ]

-- ---- one fault

-- What makes a point a fault.
pub data Cause (n : NameTable) (text : List ℕ) (p : ℕ) (rest : List ℕ) (ts : List Token) (s : Symbol) (w : FaultWord) : Type 0 where
  bad : IsBad w rest → p + run_length w rest ≤ most_bytes → Cause n text p rest ts s w
  wrong : (k : Kind) (m : ℕ) → IsToken k m rest → p + m ≤ most_bytes → (Begins (lexemes text (ts ++ token_at k p m ∷ [])) → ⊥) → w ≡ words.Syntax → Cause n text p rest ts s w
  missing : (k : Kind) (m : ℕ) → IsToken k m rest → p + m ≤ most_bytes → Begins (lexemes text (ts ++ token_at k p m ∷ [])) → at (lookup n) s (lexeme text (token_at k p m)) ≡ Unknown
      → w ≡ words.Unknown → Cause n text p rest ts s w
  at_end : rest ≡ [] → p < most_bytes → w ≡ words.Syntax → Cause n text p rest ts s w

pub record FaultAt (n : NameTable) (text : List ℕ) (p : ℕ) (w : FaultWord) : Type 0 where
  pub rest : List ℕ
  pub tokens : List Token
  pub symbol : Symbol
  pub point : IsPoint n text p rest tokens symbol
  pub cause : Cause n text p rest tokens symbol w

module _ (n : NameTable) (text : List ℕ) (p : ℕ) where
  -- the token that stands there, by its kind and size
  same_token_at : (k j : Kind) (m l : ℕ) (bytes : List ℕ) → IsToken k m bytes → IsToken j l bytes → token_at k p m ≡ token_at j p l
  same_token_at k j m l bytes g h = let t = same_token k j m l bytes g h in ap (λ (i : Kind). token_at i p m) t.0 ∙ ap (token_at j p) t.1

  -- with a token that goes on, the tokens begin a text
  goes_begins : (rest : List ℕ) (ts : List Token) (s : Symbol) (t : Token) (more : List Symbol) (ds : List Event) → IsRead n text p rest ts s → at (lookup n) s (lexeme text t) ≡ Goes more ds
      → Begins (lexemes text (ts ++ t ∷ []))
  goes_begins rest ts s t more ds x e =
      subst Begins (sym (lexemes_more text ts t)) (opens_begins n (lexemes text ts ++ lexeme text t ∷ []) (more ++ x.others) (x.events ++ ds) (one_more (lexeme text t) x.opens e))

  -- a token that does not go on stands at a point
  token_point : (rest : List ℕ) (ts : List Token) (s : Symbol) (k : Kind) (m : ℕ) → IsRead n text p rest ts s → IsToken k m rest
      → ((more : List Symbol) (ds : List Event) → at (lookup n) s (lexeme text (token_at k p m)) ≡ Goes more ds → ⊥) → IsPoint n text p rest ts s
  token_point rest ts s k m x g h = record {
    read = x;
    no_gap = λ l gap. gap_or_token l m k rest gap g;
    no_more = λ j l other more ds e. h more ds (ap (λ (t : Token). at (lookup n) s (lexeme text t)) (same_token_at k j m l rest g other) ∙ e);
  }

  pub fault_at : (w : FaultWord) → HasFault n text p w → FaultAt n text p w
  fault_at w (no_token rest ts s x h size) = record {
    rest = rest;
    tokens = ts;
    symbol = s;
    point = record { read = x; no_gap = λ m g. bad_or_gap w m rest h g; no_more = λ k m g more ds e. bad_or_token w k m rest h g };
    cause = bad h size;
  }
  fault_at w (syntax rest ts s x k m g size b none e) = record {
    rest = rest;
    tokens = ts;
    symbol = s;
    point = token_point rest ts s k m x g (λ more ds goes. none (goes_begins rest ts s (token_at k p m) more ds x goes));
    cause = wrong k m g size none e;
  }
  fault_at w (unknown rest ts s x k m g size b is e) = record {
    rest = rest;
    tokens = ts;
    symbol = s;
    point = token_point rest ts s k m x g (λ more ds goes. (let both : Unknown ≡ Goes more ds = sym is ∙ goes in absurd cc));
    cause = missing k m g size b is e;
  }
  fault_at w (ended ts s x size b e) = record {
    rest = [];
    tokens = ts;
    symbol = s;
    point = record { read = x; no_gap = λ m g. no_gap_last m [] refl g; no_more = λ k m g more ds goes. no_token_last k m [] refl g };
    cause = at_end refl size e;
  }

  -- a token with which the tokens begin a text, or do not
  begins_or_not : (rest : List ℕ) (ts : List Token) (k j : Kind) (m l : ℕ) → IsToken k m rest → IsToken j l rest → Begins (lexemes text (ts ++ token_at k p m ∷ []))
      → (Begins (lexemes text (ts ++ token_at j p l ∷ [])) → ⊥) → ⊥
  begins_or_not rest ts k j m l g h b none = none (subst (λ (t : Token). Begins (lexemes text (ts ++ t ∷ []))) (same_token_at k j m l rest g h) b)

  -- one cause at a point
  same_cause : (rest : List ℕ) (ts : List Token) (s : Symbol) (v w : FaultWord) → Cause n text p rest ts s v → Cause n text p rest ts s w → v ≡ w
  same_cause rest ts s v w (bad g a) (bad h b) = same_word v w rest g h
  same_cause rest ts s v w (bad g a) (wrong j l h b c e) = absurd (bad_or_token v j l rest g h)
  same_cause rest ts s v w (bad g a) (missing j l h b c i e) = absurd (bad_or_token v j l rest g h)
  same_cause rest ts s v w (bad g a) (at_end h b e) = absurd (no_bad_last v rest h g)
  same_cause rest ts s v w (wrong k m g a c d) (bad h b) = absurd (bad_or_token w k m rest h g)
  same_cause rest ts s v w (wrong k m g a c d) (wrong j l h b i e) = d ∙ sym e
  same_cause rest ts s v w (wrong k m g a c d) (missing j l h b i u e) = absurd (begins_or_not rest ts j k l m h g i c)
  same_cause rest ts s v w (wrong k m g a c d) (at_end h b e) = d ∙ sym e
  same_cause rest ts s v w (missing k m g a c u d) (bad h b) = absurd (bad_or_token w k m rest h g)
  same_cause rest ts s v w (missing k m g a c u d) (wrong j l h b i e) = absurd (begins_or_not rest ts k j m l g h c i)
  same_cause rest ts s v w (missing k m g a c u d) (missing j l h b i o e) = d ∙ sym e
  same_cause rest ts s v w (missing k m g a c u d) (at_end h b e) = absurd (no_token_last k m rest h g)
  same_cause rest ts s v w (at_end g a d) (bad h b) = absurd (no_bad_last w rest g h)
  same_cause rest ts s v w (at_end g a d) (wrong j l h b i e) = d ∙ sym e
  same_cause rest ts s v w (at_end g a d) (missing j l h b i u e) = absurd (no_token_last j l rest g h)
  same_cause rest ts s v w (at_end g a d) (at_end h b e) = d ∙ sym e

module _ (n : NameTable) (text : List ℕ) where
  -- at the same point
  moved : (p q : ℕ) (rest last : List ℕ) (ts us : List Token) (s t : Symbol) (w : FaultWord) → SamePoint p q rest last ts us s t → Cause n text q last us t w → Cause n text p rest ts s w
  moved p q rest last ts us s t w e c =
      subst (λ (x : ℕ). Cause n text x rest ts s w) (sym e.place) (subst (λ (x : List ℕ). Cause n text q x ts s w) (sym e.left)
      (subst (λ (x : List Token). Cause n text q last x s w) (sym e.tokens) (subst (λ (x : Symbol). Cause n text q last us x w) (sym e.symbol) c)))

  pub text_or_fault : (es : List Event) (p : ℕ) (w : FaultWord) → IsText n text es → HasFault n text p w → ⊥
  text_or_fault es p w x y = let f = fault_at n text p w y in text_or_point n text p f.rest f.tokens f.symbol es x f.point

  pub one_fault : (p q : ℕ) (v w : FaultWord) → HasFault n text p v → HasFault n text q w → (p ≡ q) × (v ≡ w)
  one_fault p q v w x y =
      let f = fault_at n text p v x in
      let g = fault_at n text q w y in
      let same = one_point n text p q f.rest g.rest f.tokens g.tokens f.symbol g.symbol f.point g.point in
      (same.place, same_cause n text p f.rest f.tokens f.symbol v w f.cause (moved p q f.rest g.rest f.tokens g.tokens f.symbol g.symbol w same g.cause))

  -- ---- one first fault

  pub first_faults : (p q : ℕ) (v w : FaultWord) → HasFirstFault n text p v → HasFirstFault n text q w → (p ≡ q) × (v ≡ w)
  first_faults p q v w (inside x) (inside y) = one_fault p q v w x y
  first_faults p q v w (inside x) (long y b d) = absurd (y.no_fault p v x)
  first_faults p q v w (long x a c) (inside y) = absurd (x.no_fault q w y)
  first_faults p q v w (long x a c) (long y b d) = (a ∙ sym b, c ∙ sym d)

  pub text_or_first : (es : List Event) (p : ℕ) (w : FaultWord) → IsText n text es → HasFirstFault n text p w → ⊥
  text_or_first es p w x (inside y) = text_or_fault es p w x y
  text_or_first es p w x (long y a c) = y.no_text es x
