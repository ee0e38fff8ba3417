-- A text is cut in one way: of two cuts one goes on from where the other ends. Where a cut ends, and where its last token stands.
use Rattle.std.proofs.Common.{◌≡◌, ℕ, ◌+◌, ◌-◌, ◌<◌, ◌≤◌, List, [], ◌∷◌, ◌++◌, length, drop, All, refl, sym, ap, ◌∙◌, subst, arith}
use Rattle.std.proofs.lemmas.List.{length-drop}
use Rattle.std.proofs.lemmas.List.Elements.{All-nil, All-cons, All-weaker}
use Rattle.geo_tokens.specs.declared.token.Token.{Token}
use Rattle.geo_tokens.specs.declared.token.Kind.{Kind}
use Rattle.geo_tokens.specs.declared.front.Front.TheVariants as fronts
use Rattle.geo_tokens.specs.Cut.{IsGap, IsToken, Cut, here, behind_gap, behind_token}
use Rattle.geo_tokens.proofs.Fronts.{gap_inside, token_inside, one_front}
use Rattle.geo_tokens.proofs.Cuts.{token_more}
use Rattle.derivation_reading.specs.FirstFault.{token_at}

-- ---- where a cut ends

module _ (end : ℕ) (rest : List ℕ) where
  -- not before its place
  pub cut_onwards : (place : ℕ) (bytes : List ℕ) (ts : List Token) → Cut end rest place bytes ts → place ≤ end
  cut_onwards place bytes ts (here _ _ _ a b c) = omega (arith, a)
  cut_onwards place bytes ts (behind_gap _ _ _ n g d) = omega (arith, cut_onwards (place + n) (drop n bytes) ts d)
  cut_onwards place bytes ts (behind_token _ _ _ k n us g e d) = omega (arith, cut_onwards (place + n) (drop n bytes) us d)

  -- with what it leaves it has all bytes
  pub cut_length : (place : ℕ) (bytes : List ℕ) (ts : List Token) → Cut end rest place bytes ts → end + length rest ≡ place + length bytes
  cut_length place bytes ts (here _ _ _ a b c) = omega (arith, a, ap length b)
  cut_length place bytes ts (behind_gap _ _ _ n g d) = omega (arith, (gap_inside n bytes g).1, length-drop n bytes, cut_length (place + n) (drop n bytes) ts d)
  cut_length place bytes ts (behind_token _ _ _ k n us g e d) = omega (arith, (token_inside k n bytes g).1, length-drop n bytes, cut_length (place + n) (drop n bytes) us d)

  -- and no token of it ends behind it
  pub cut_before : (place : ℕ) (bytes : List ℕ) (ts : List Token) → Cut end rest place bytes ts → All (λ t. t.end ≤ end) ts
  cut_before place bytes ts (here _ _ _ a b c) = subst (All (λ t. t.end ≤ end)) (sym c) (All-nil (λ t. t.end ≤ end))
  cut_before place bytes ts (behind_gap _ _ _ n g d) = cut_before (place + n) (drop n bytes) ts d
  cut_before place bytes ts (behind_token _ _ _ k n us g e d) =
      subst (All (λ t. t.end ≤ end)) (sym e)
      (All-cons (λ t. t.end ≤ end) (token_at k place n) us (cut_onwards (place + n) (drop n bytes) us d) (cut_before (place + n) (drop n bytes) us d))

  pub cut_inside : (place : ℕ) (bytes : List ℕ) (ts : List Token) → Cut end rest place bytes ts → All (λ t. t.end ≤ place + length bytes) ts
  cut_inside place bytes ts d =
      let whole = cut_length place bytes ts d in
      All-weaker (λ t. t.end ≤ end) (λ t. t.end ≤ place + length bytes) (λ t h. omega (arith, h, whole)) ts (cut_before place bytes ts d)

-- ---- the last token

some_last : (ts : List Token) (t : Token) → [] ≡ ts ++ t ∷ [] → ⊥
some_last [] t e = absurd cc
some_last (u ∷ ts) t e = absurd cc

-- a token stands at these bytes
token_there : (t : Token) (k : Kind) (place n : ℕ) (bytes : List ℕ) → t ≡ token_at k place n → IsToken k n bytes → IsToken t.kind (t.end - t.start) bytes × (t.start < t.end)
token_there t k place n bytes e g =
    let size : n ≡ t.end - t.start = omega (arith, ap (λ (x : Token). x.start) e, ap (λ (x : Token). x.end) e) in
    let some = (token_inside k n bytes g).0 in (
      subst (λ (j : Kind). IsToken j (t.end - t.start) bytes) (sym (ap (λ (x : Token). x.kind) e)) (subst (λ (m : ℕ). IsToken k m bytes) size g),
      omega (arith, ap (λ (x : Token). x.start) e, ap (λ (x : Token). x.end) e, some),
    )

module _ (end : ℕ) (last : List ℕ) (t : Token) where
  before_last_at : (place : ℕ) (bytes : List ℕ) (ts all : List Token) → all ≡ ts ++ t ∷ [] → Cut end last place bytes all
      → (rest : List ℕ) × Cut t.start rest place bytes ts × IsToken t.kind (t.end - t.start) rest × (t.start < t.end)
  before_last_at place bytes ts all e (here _ _ _ a b c) = absurd (some_last ts t (sym c ∙ e))
  before_last_at place bytes ts all e (behind_gap _ _ _ n g d) =
      let r = before_last_at (place + n) (drop n bytes) ts all e d in
      (r.0, behind_gap place bytes ts n g r.1, r.2, r.3)
  before_last_at place bytes [] all e (behind_token _ _ _ k n us g c d) =
      let same : t ≡ token_at k place n = cc in
      let there = token_there t k place n bytes same g in
      (bytes, here place bytes [] (sym (ap (λ (x : Token). x.start) same)) refl refl, there.0, there.1)
  before_last_at place bytes (u ∷ ts) all e (behind_token _ _ _ k n us g c d) =
      let same : u ≡ token_at k place n = cc in
      let others : us ≡ ts ++ t ∷ [] = cc in
      let r = before_last_at (place + n) (drop n bytes) ts us others d in
      (r.0, behind_token place bytes (u ∷ ts) k n ts g (ap (λ (x : Token). x ∷ ts) same) r.1, r.2, r.3)

module _ (end : ℕ) (last text : List ℕ) (ts : List Token) (t : Token) where
  -- the last token stands behind those before it
  pub before_last : Cut end last 0 text (ts ++ t ∷ []) → (rest : List ℕ) × Cut t.start rest 0 text ts × IsToken t.kind (t.end - t.start) rest × (t.start < t.end)
  before_last d = before_last_at end last t 0 text ts (ts ++ t ∷ []) refl d

  -- and the text is cut up to its end
  pub to_last : Cut end last 0 text (ts ++ t ∷ []) → (rest : List ℕ) × Cut t.end rest 0 text (ts ++ t ∷ [])
  to_last d =
      let b = before_last d in
      let size = t.end - t.start in
      let some = b.3 in
      let whole : t.start + size ≡ t.end = omega (arith, some) in
      let same : token_at t.kind t.start size ≡ t = ap (λ (m : ℕ). record { kind = t.kind; start = t.start; end = m }) whole in (
        drop size b.0,
        subst (λ (m : ℕ). Cut m (drop size b.0) 0 text (ts ++ t ∷ [])) whole
            (subst (λ (x : Token). Cut (t.start + size) (drop size b.0) 0 text (ts ++ x ∷ [])) same (token_more t.start size b.0 t.kind b.2 0 text ts b.1)),
      )

-- a token has its kind, its place and its size
pub is_token_at : (t : Token) → t.start ≤ t.end → t ≡ token_at t.kind t.start (t.end - t.start)
is_token_at t h = let whole : t.end ≡ t.start + (t.end - t.start) = omega arith in ap (λ (m : ℕ). record { kind = t.kind; start = t.start; end = m }) whole

-- ---- two cuts

pub same_gap : (n m : ℕ) (bytes : List ℕ) → IsGap n bytes → IsGap m bytes → n ≡ m
same_gap n m bytes g h = (let e : fronts.Gap n ≡ fronts.Gap m = one_front (fronts.Gap n) (fronts.Gap m) bytes g h in cc)

pub same_token : (k j : Kind) (n m : ℕ) (bytes : List ℕ) → IsToken k n bytes → IsToken j m bytes → (k ≡ j) × (n ≡ m)
same_token k j n m bytes g h = (let e : fronts.Token k n ≡ fronts.Token j m = one_front (fronts.Token k n) (fronts.Token j m) bytes g h in (cc, cc))

pub gap_or_token : (n m : ℕ) (k : Kind) (bytes : List ℕ) → IsGap n bytes → IsToken k m bytes → ⊥
gap_or_token n m k bytes g h = (let e : fronts.Gap n ≡ fronts.Token k m = one_front (fronts.Gap n) (fronts.Token k m) bytes g h in absurd cc)

-- of two cuts one goes on from where the other ends
pub data Compared (p : ℕ) (rest : List ℕ) (ts : List Token) (q : ℕ) (last : List ℕ) (us : List Token) : Type 0 where
  further : (vs : List Token) → us ≡ ts ++ vs → Cut q last p rest vs → Compared p rest ts q last us
  shorter : (vs : List Token) → ts ≡ us ++ vs → Cut p rest q last vs → Compared p rest ts q last us

module _ (p : ℕ) (rest : List ℕ) (q : ℕ) (last : List ℕ) where
  compared_more : (t u : Token) (ts us : List Token) → t ≡ u → Compared p rest ts q last us → Compared p rest (t ∷ ts) q last (u ∷ us)
  compared_more t u ts us e (further vs a d) = further vs (ap (λ (x : List Token). u ∷ x) a ∙ ap (λ (x : Token). x ∷ ts ++ vs) (sym e)) d
  compared_more t u ts us e (shorter vs a d) = shorter vs (ap (λ (x : List Token). t ∷ x) a ∙ ap (λ (x : Token). x ∷ us ++ vs) e) d

  -- both are cuts of the same bytes
  pub compared : (place : ℕ) (bytes : List ℕ) (ts us : List Token) → Cut p rest place bytes ts → Cut q last place bytes us → Compared p rest ts q last us
  compared place bytes ts us (here _ _ _ a b c) y =
      further us (sym (ap (λ (x : List Token). x ++ us) c)) (subst (λ (x : List ℕ). Cut q last p x us) b (subst (λ (m : ℕ). Cut q last m bytes us) a y))
  compared place bytes ts us x (here _ _ _ a b c) =
      shorter ts (sym (ap (λ (v : List Token). v ++ ts) c)) (subst (λ (v : List ℕ). Cut p rest q v ts) b (subst (λ (m : ℕ). Cut p rest m bytes ts) a x))
  compared place bytes ts us (behind_gap _ _ _ n g x) (behind_gap _ _ _ m h y) =
      compared (place + n) (drop n bytes) ts us x (subst (λ (j : ℕ). Cut q last (place + j) (drop j bytes) us) (same_gap m n bytes h g) y)
  compared place bytes ts us (behind_gap _ _ _ n g x) (behind_token _ _ _ k m vs h e y) = absurd (gap_or_token n m k bytes g h)
  compared place bytes ts us (behind_token _ _ _ k n ws g c x) (behind_gap _ _ _ m h y) = absurd (gap_or_token m n k bytes h g)
  compared place bytes ts us (behind_token _ _ _ k n ws g c x) (behind_token _ _ _ j m vs h e y) =
      let t = same_token k j n m bytes g h in
      let same : token_at k place n ≡ token_at j place m = ap (λ (l : Kind). token_at l place n) t.0 ∙ ap (token_at j place) t.1 in
      let i = compared (place + n) (drop n bytes) ws vs x (subst (λ (l : ℕ). Cut q last (place + l) (drop l bytes) vs) (sym t.1) y) in
      subst (λ (v : List Token). Compared p rest v q last us) (sym c)
      (subst (λ (v : List Token). Compared p rest (token_at k place n ∷ ws) q last v) (sym e) (compared_more (token_at k place n) (token_at j place m) ws vs same i))
