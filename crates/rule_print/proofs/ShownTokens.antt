-- What a canonical text is cut into: one token for each lexeme, with its kind and its bytes.
use Rattle.std.proofs.Common.{◌≡◌, ℕ, ◌+◌, ◌-◌, List, [], ◌∷◌, ◌++◌, length, take, drop, Option, Some, None, Bool, true, false, refl, sym, ap, ◌∙◌, subst, append_assoc, arith}
use Rattle.std.specs.Prelude.{slice_index, if◌then◌else◌}
use Rattle.std.proofs.lemmas.List.{append-nil, drop_at, length-append}
use Rattle.std.proofs.Math.Seq.{take-append_seam}
use Rattle.geo_tokens.specs.declared.token.Token.{Token}
use Rattle.geo_tokens.specs.Bytes.{bytes_of}
use Rattle.geo_tokens.specs.Cut.{Cut, here, behind_gap, behind_token, white, IsTokens}
use Rattle.geo_tokens.proofs.Cuts.{token_of}
use Rattle.rule_print.specs.Canonical.{Written, kind_of, spelling, close, gap, shown_behind, shown}
use Rattle.rule_print.proofs.Lexemes.{IsWritten, ends_at, token_at, EndsAll, space_ends, nothing_ends, close_ends}

abbrev pub AllWritten : List Written → Type 0
AllWritten [] = Unit {0}
AllWritten (p ∷ ps) = IsWritten p × AllWritten ps

-- the tokens of lexemes that are shown from the place e on, behind p
abbrev pub tokens_behind : Option Written → ℕ → List Written → List Token
tokens_behind p e [] = []
tokens_behind p e (q ∷ qs) = token_of (kind_of q) (e + length (gap p q)) (length (spelling q)) ∷ tokens_behind (Some q) (e + length (gap p q) + length (spelling q)) qs

-- ---- cutting

module _ (end : ℕ) (rest : List ℕ) where
  no_or_space : (t : Bool) (e : ℕ) (bytes : List ℕ) (ts : List Token) → Cut end rest (e + length (let g : List ℕ = if t then [] else 32 ∷ [] in g)) bytes ts → Cut end rest e ((if t then [] else 32 ∷ []) ++ bytes) ts
  no_or_space true e bytes ts c = let same : e + 0 ≡ e = omega arith in subst (λ (k : ℕ). Cut end rest k bytes ts) same c
  no_or_space false e bytes ts c = behind_gap e (32 ∷ bytes) ts 1 (white refl refl) c

  gap_cut : (p : Option Written) (q : Written) (e : ℕ) (bytes : List ℕ) (ts : List Token) → Cut end rest (e + length (gap p q)) bytes ts → Cut end rest e (gap p q ++ bytes) ts
  gap_cut None q e bytes ts c = no_or_space true e bytes ts c
  gap_cut (Some p) q e bytes ts c = no_or_space (close p q) e bytes ts c

  lexeme_cut : (q : Written) (s : ℕ) (u : List ℕ) (ts : List Token) → IsWritten q → ends_at q (slice_index u 0) ≡ true → Cut end rest (s + length (spelling q)) u ts → Cut end rest s (spelling q ++ u) (token_of (kind_of q) s (length (spelling q)) ∷ ts)
  lexeme_cut q s u ts i f c =
      behind_token s (spelling q ++ u) _ (kind_of q) (length (spelling q)) ts (token_at q u i f) refl
      (subst (λ (v : List ℕ). Cut end rest (s + length (spelling q)) v ts) (sym (drop_at (spelling q) u (length (spelling q)) refl)) c)

-- where a gap stands, or something close
gap_ends : (t : Bool) (p q : Written) (u : List ℕ) → close p q ≡ t → IsWritten q → ends_at p (slice_index ((if t then [] else 32 ∷ []) ++ (spelling q ++ u)) 0) ≡ true
gap_ends true p q u e i = close_ends p q u i e
gap_ends false p q u e i = space_ends p

ends_before : (q : Written) (qs : List Written) (u : List ℕ) → AllWritten qs → EndsAll (slice_index u 0) → ends_at q (slice_index (shown_behind (Some q) qs ++ u) 0) ≡ true
ends_before q [] u h f = f q
ends_before q (r ∷ rs) u h f =
    let bytes : (gap (Some q) r ++ (spelling r ++ shown_behind (Some r) rs)) ++ u ≡ gap (Some q) r ++ (spelling r ++ (shown_behind (Some r) rs ++ u)) = simp append_assoc in
    ap (λ (v : List ℕ). ends_at q (slice_index v 0)) bytes ∙ gap_ends (close q r) q r (shown_behind (Some r) rs ++ u) refl h.0

module _ (end : ℕ) (rest : List ℕ) where
  pub shown_cut : (p : Option Written) (e : ℕ) (qs : List Written) (u : List ℕ) (ts : List Token) → AllWritten qs → EndsAll (slice_index u 0) → Cut end rest (e + length (shown_behind p qs)) u ts → Cut end rest e (shown_behind p qs ++ u) (tokens_behind p e qs ++ ts)
  shown_cut p e [] u ts h f c = let same : e + 0 ≡ e = omega arith in subst (λ (k : ℕ). Cut end rest k u ts) same c
  shown_cut p e (q ∷ qs) u ts h f c =
      let s : ℕ = e + length (gap p q) in
      let bytes : (gap p q ++ (spelling q ++ shown_behind (Some q) qs)) ++ u ≡ gap p q ++ (spelling q ++ (shown_behind (Some q) qs ++ u)) = simp append_assoc in
      let sizes : e + length (gap p q ++ (spelling q ++ shown_behind (Some q) qs)) ≡ e + length (gap p q) + length (spelling q) + length (shown_behind (Some q) qs) =
      omega (arith, length-append (gap p q) (spelling q ++ shown_behind (Some q) qs), length-append (spelling q) (shown_behind (Some q) qs)) in
      let others : Cut end rest (e + length (gap p q) + length (spelling q)) (shown_behind (Some q) qs ++ u) (tokens_behind (Some q) (e + length (gap p q) + length (spelling q)) qs ++ ts) =
      shown_cut (Some q) (e + length (gap p q) + length (spelling q)) qs u ts h.1 f (subst (λ (k : ℕ). Cut end rest k u ts) sizes c) in
      subst (λ (v : List ℕ). Cut end rest e v (tokens_behind p e (q ∷ qs) ++ ts)) (sym bytes)
      (gap_cut end rest p q e (spelling q ++ (shown_behind (Some q) qs ++ u)) _
      (lexeme_cut end rest q (e + length (gap p q)) (shown_behind (Some q) qs ++ u) _ h.0 (ends_before q qs u h.1 f) others))

-- a canonical text that stands alone
pub shown_tokens : (qs : List Written) → AllWritten qs → IsTokens (shown qs) (tokens_behind None 0 qs)
shown_tokens qs h =
    let all : Cut (length (shown qs)) [] 0 (shown_behind None qs ++ []) (tokens_behind None 0 qs ++ []) =
    shown_cut (length (shown qs)) [] None 0 qs [] [] h nothing_ends (here (0 + length (shown_behind None qs)) [] [] (omega arith) refl refl) in
    subst (λ (ts : List Token). Cut (length (shown qs)) [] 0 (shown qs) ts) (append-nil (tokens_behind None 0 qs)) (subst (λ (v : List ℕ). Cut (length (shown qs)) [] 0 v (tokens_behind None 0 qs ++ [])) (append-nil (shown qs)) all)

-- ---- what the tokens stand for

-- each token is of its lexeme's kind, and its bytes are the lexeme's
abbrev pub Stands : List ℕ → List Written → List Token → Type 0
Stands text [] [] = Unit {0}
Stands text [] (t ∷ ts) = ⊥
Stands text (p ∷ ps) [] = ⊥
Stands text (p ∷ ps) (t ∷ ts) = (t.kind ≡ kind_of p) × (bytes_of text t ≡ spelling p) × Stands text ps ts

part_of : (before part behind text : List ℕ) (s : ℕ) → s ≡ length before → text ≡ before ++ (part ++ behind) → take ((s + length part) - s) (drop s text) ≡ part
part_of before part behind text s e q =
    let size : (s + length part) - s ≡ length part = omega arith in
    let at : drop s text ≡ part ++ behind = ap (λ (v : List ℕ). drop s v) q ∙ drop_at before (part ++ behind) s (sym e) in
    ap (λ (k : ℕ). take k (drop s text)) size ∙ ap (λ (v : List ℕ). take (length part) v) at ∙ take-append_seam part behind

pub shown_stands : (text before : List ℕ) (p : Option Written) (e : ℕ) (qs : List Written) (u : List ℕ) → e ≡ length before → text ≡ before ++ (shown_behind p qs ++ u) → Stands text qs (tokens_behind p e qs)
shown_stands text before p e [] u l q = tt
shown_stands text before p e (r ∷ qs) u l q =
    let s : e + length (gap p r) ≡ length (before ++ gap p r) = omega (arith, length-append before (gap p r)) in
    let at : text ≡ (before ++ gap p r) ++ (spelling r ++ (shown_behind (Some r) qs ++ u)) = q ∙ simp append_assoc in
    let next : text ≡ ((before ++ gap p r) ++ spelling r) ++ (shown_behind (Some r) qs ++ u) = q ∙ simp append_assoc in
    let place : e + length (gap p r) + length (spelling r) ≡ length ((before ++ gap p r) ++ spelling r) = omega (arith, length-append (before ++ gap p r) (spelling r)) in (
      refl,
      part_of (before ++ gap p r) (spelling r) (shown_behind (Some r) qs ++ u) text (e + length (gap p r)) s at,
      shown_stands text ((before ++ gap p r) ++ spelling r) (Some r) (e + length (gap p r) + length (spelling r)) qs u place next,
    )

-- the lexemes of a list of tokens that is in two parts
pub stands_split : (text : List ℕ) (ps qs : List Written) (v : List Token) → Stands text (ps ++ qs) v → (x : List Token) × (y : List Token) × (v ≡ x ++ y) × Stands text ps x × Stands text qs y
stands_split text [] qs v h = ([], v, refl, tt, h)
stands_split text (p ∷ ps) qs [] h = absurd h
stands_split text (p ∷ ps) qs (t ∷ v) h = let r = stands_split text ps qs v h.2 in (t ∷ r.0, r.1, ap (λ (w : List Token). t ∷ w) r.2, (h.0, h.1, r.3), r.4)

pub written_append : (ps qs : List Written) → AllWritten ps → AllWritten qs → AllWritten (ps ++ qs)
written_append [] qs h g = g
written_append (p ∷ ps) qs h g = (h.0, written_append ps qs h.1 g)
