-- What stands at the end of a text, when a byte comes behind it and when it ends.
use Rattle.std.proofs.Common.{◌≡◌, ℕ, ◌+◌, ◌-◌, ◌≤◌, List, [], ◌∷◌, ◌++◌, length, take, drop, ◌⊎◌, inl, inr, sym, ap, ◌∙◌, append_assoc, subst, arith}
use Rattle.std.proofs.lemmas.List.{append-nil, drop-drop}
use Rattle.std.proofs.Math.Seq.{take-append_seam, drop-append_seam, drop-length}
use Rattle.geo_tokens.specs.declared.token.Token.{Token}
use Rattle.geo_tokens.specs.declared.token.Kind.{Kind}
use Rattle.geo_tokens.specs.Bytes.{bytes_of}
use Rattle.geo_tokens.specs.Cut.{IsGap, IsToken, Cut, here, behind_gap, behind_token, IsTokens}
use Rattle.geo_tokens.proofs.Cuts.{token_of, gap_more, token_more}
use Rattle.token_stream.specs.Stream.{Stands}

-- what was not cut off yet
record IsLeft (end : ℕ) (rest : List ℕ) (place : ℕ) (bytes : List ℕ) : Type 0 where
  inside : place ≤ end
  left : drop (end - place) bytes ≡ rest

left_more : (end : ℕ) (rest : List ℕ) (place n : ℕ) (bytes : List ℕ) → IsLeft end rest (place + n) (drop n bytes) → IsLeft end rest place bytes
left_more end rest place n bytes h =
    let e : n + (end - (place + n)) ≡ end - place = omega (arith, h.inside) in
    record { inside = omega (arith, h.inside); left = ap (λ (m : ℕ). drop m bytes) (sym e) ∙ sym (drop-drop (end - (place + n)) n bytes) ∙ h.left }

cut_left : (end : ℕ) (rest : List ℕ) (place : ℕ) (bytes : List ℕ) (ts : List Token) → Cut end rest place bytes ts → IsLeft end rest place bytes
cut_left end rest place bytes ts (here _ _ _ a b c) =
    let e : end - place ≡ 0 = omega (arith, a) in record { inside = omega (arith, a); left = ap (λ (m : ℕ). drop m bytes) e ∙ b }
cut_left end rest place bytes ts (behind_gap _ _ _ n g d) = left_more end rest place n bytes (cut_left end rest (place + n) (drop n bytes) ts d)
cut_left end rest place bytes ts (behind_token _ _ _ k n us g e d) = left_more end rest place n bytes (cut_left end rest (place + n) (drop n bytes) us d)

-- the bytes of a token in front of some others
pub bytes_there : (text : List ℕ) (ts : List Token) (start : ℕ) (rest more : List ℕ) (kind : Kind) → Cut start (rest ++ more) 0 text ts → bytes_of text (token_of kind start (length rest)) ≡ rest
bytes_there text ts start rest more kind cut =
    let left = cut_left start (rest ++ more) 0 text ts cut in
    let size : start + length rest - start ≡ length rest = omega arith in
    let from : start - 0 ≡ start = omega arith in
    ap (λ (m : ℕ). take m (drop start text)) size ∙ ap (λ (u : List ℕ). take (length rest) u) (ap (λ (m : ℕ). drop m text) (sym from) ∙ left.left) ∙ take-append_seam rest more

module _ (text : List ℕ) (ts : List Token) (place : ℕ) (rest : List ℕ) (stands : Stands text ts place rest) where
  module _ (byte : ℕ) where
    pub stands_on : Stands (text ++ byte ∷ []) ts place (rest ++ byte ∷ [])
    stands_on more =
        subst (λ (u : List ℕ). Cut place u 0 (text ++ byte ∷ [] ++ more) ts) (sym (append_assoc rest (byte ∷ []) more))
        (subst (λ (u : List ℕ). Cut place (rest ++ byte ∷ more) 0 u ts) (sym (append_assoc text (byte ∷ []) more)) (stands (byte ∷ more)))

    gap_at : (more : List ℕ) → (length rest ≡ 0) ⊎ IsGap (length rest) (rest ++ byte ∷ more) → Cut (place + length rest) (drop (length rest) (rest ++ byte ∷ more)) 0 (text ++ byte ∷ more) ts
    gap_at more (inl e) = rw e (subst (λ (m : ℕ). Cut m (rest ++ byte ∷ more) 0 (text ++ byte ∷ more) ts) (omega arith) (stands (byte ∷ more)))
    gap_at more (inr g) = gap_more place (length rest) (rest ++ byte ∷ more) g 0 (text ++ byte ∷ more) ts (stands (byte ∷ more))

    turned : (us : List Token) → ((more : List ℕ) → Cut (place + length rest) (drop (length rest) (rest ++ byte ∷ more)) 0 (text ++ byte ∷ more) us) → Stands (text ++ byte ∷ []) us (place + length rest) (byte ∷ [])
    turned us cut more =
        subst (λ (u : List ℕ). Cut (place + length rest) (byte ∷ more) 0 u us) (sym (append_assoc text (byte ∷ []) more))
        (subst (λ (u : List ℕ). Cut (place + length rest) u 0 (text ++ byte ∷ more) us) (drop-append_seam rest (byte ∷ more)) (cut more))

    pub stands_behind_gap : ((more : List ℕ) → (length rest ≡ 0) ⊎ IsGap (length rest) (rest ++ byte ∷ more)) → Stands (text ++ byte ∷ []) ts (place + length rest) (byte ∷ [])
    stands_behind_gap gap = turned ts (λ more. gap_at more (gap more))

    pub stands_behind_token : (kind : Kind) → ((more : List ℕ) → IsToken kind (length rest) (rest ++ byte ∷ more)) → Stands (text ++ byte ∷ []) (ts ++ token_of kind place (length rest) ∷ []) (place + length rest) (byte ∷ [])
    stands_behind_token kind is = turned (ts ++ token_of kind place (length rest) ∷ []) (λ more. token_more place (length rest) (rest ++ byte ∷ more) kind (is more) 0 (text ++ byte ∷ more) ts (stands (byte ∷ more)))

  -- the text ends
  pub stands_now : Cut place rest 0 text ts
  stands_now =
      subst (λ (u : List ℕ). Cut place u 0 text ts) (append-nil rest) (subst (λ (u : List ℕ). Cut place (rest ++ []) 0 u ts) (append-nil text) (stands []))

  module _ (whole : place + length rest ≡ length text) where
    ended : (us : List Token) → Cut (place + length rest) (drop (length rest) rest) 0 text us → IsTokens text us
    ended us cut = subst (λ (m : ℕ). Cut m [] 0 text us) whole (subst (λ (u : List ℕ). Cut (place + length rest) u 0 text us) (drop-length rest) cut)

    pub ends_behind_gap : (length rest ≡ 0) ⊎ IsGap (length rest) rest → IsTokens text ts
    ends_behind_gap gap = ended ts (elim gap [
      | inl e ↦ rw e (subst (λ (m : ℕ). Cut m rest 0 text ts) (omega arith) stands_now)
      | inr g ↦ gap_more place (length rest) rest g 0 text ts stands_now
    ])

    pub ends_behind_token : (kind : Kind) → IsToken kind (length rest) rest → IsTokens text (ts ++ token_of kind place (length rest) ∷ [])
    ends_behind_token kind is = ended (ts ++ token_of kind place (length rest) ∷ []) (token_more place (length rest) rest kind is 0 text ts stands_now)
