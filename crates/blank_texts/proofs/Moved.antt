-- Tokens that stand as far behind as their text does.
use Rattle.std.proofs.Common.{◌≡◌, ℕ, ◌+◌, ◌-◌, List, [], ◌∷◌, ◌++◌, length, map, take, drop, refl, sym, ap, ◌∙◌, subst, arith}
use Rattle.std.proofs.Math.Seq.{drop-append-add}
use Rattle.geo_tokens.specs.declared.token.Token.{Token}
use Rattle.geo_tokens.specs.Bytes.{bytes_of}
use Rattle.geo_tokens.specs.Cut.{Cut, here, behind_gap, behind_token}
use Rattle.blank_texts.specs.Blank.{moved}

module _ (k end : ℕ) (rest : List ℕ) where
  pub cut_moved : (place : ℕ) (bytes : List ℕ) (ts : List Token) → Cut end rest place bytes ts → Cut (k + end) rest (k + place) bytes (map (moved k) ts)
  cut_moved place bytes ts (here _ _ _ a b c) = here (k + place) bytes (map (moved k) ts) (ap (λ (m : ℕ). k + m) a) b (ap (map (moved k)) c)
  cut_moved place bytes ts (behind_gap _ _ _ n g d) =
      let same : k + (place + n) ≡ k + place + n = omega arith in
      behind_gap (k + place) bytes (map (moved k) ts) n g (subst (λ (m : ℕ). Cut (k + end) rest m (drop n bytes) (map (moved k) ts)) same (cut_moved (place + n) (drop n bytes) ts d))
  cut_moved place bytes ts (behind_token _ _ _ kind n us g e d) =
      let same : k + (place + n) ≡ k + place + n = omega arith in
      behind_token (k + place) bytes (map (moved k) ts) kind n (map (moved k) us) g
      (ap (map (moved k)) e ∙ ap (λ (m : ℕ). (let t : Token = record { kind = kind; start = k + place; end = m } in t) ∷ map (moved k) us) same)
      (subst (λ (m : ℕ). Cut (k + end) rest m (drop n bytes) (map (moved k) us)) same (cut_moved (place + n) (drop n bytes) us d))

  -- gaps, where their text is moved to the front
  pub gaps_back : (e p place : ℕ) (bytes : List ℕ) → Cut end rest p bytes [] → p ≡ k + place → end ≡ k + e → Cut e rest place bytes []
  gaps_back e p place bytes (here _ _ _ a b c) q z = here place bytes [] (omega arith) b refl
  gaps_back e p place bytes (behind_gap _ _ _ n g d) q z = behind_gap place bytes [] n g (gaps_back e (p + n) (place + n) (drop n bytes) d (omega arith) z)
  gaps_back e p place bytes (behind_token _ _ _ kind n us g f d) q z = absurd cc

-- behind gaps the tokens go on
pub gaps_then : (p end : ℕ) (u rest : List ℕ) (ts : List Token) → Cut end rest p u ts → (place : ℕ) (bytes : List ℕ) → Cut p u place bytes [] → Cut end rest place bytes ts
gaps_then p end u rest ts x place bytes (here _ _ _ a b c) = subst (λ (v : List ℕ). Cut end rest place v ts) (sym b) (subst (λ (m : ℕ). Cut end rest m u ts) (sym a) x)
gaps_then p end u rest ts x place bytes (behind_gap _ _ _ n g d) = behind_gap place bytes ts n g (gaps_then p end u rest ts x (place + n) (drop n bytes) d)
gaps_then p end u rest ts x place bytes (behind_token _ _ _ kind n us g e d) = absurd cc

pub bytes_moved : (before text : List ℕ) (t : Token) → bytes_of (before ++ text) (moved (length before) t) ≡ bytes_of text t
bytes_moved before text t =
    let size : (length before + t.end) - (length before + t.start) ≡ t.end - t.start = omega arith in
    ap (λ (n : ℕ). take n (drop (length before + t.start) (before ++ text))) size ∙ ap (take (t.end - t.start)) (drop-append-add before text t.start)

pub tokens_moved : (before text rest : List ℕ) (end : ℕ) (ts : List Token) → Cut end rest 0 text ts → Cut (length before + end) rest (length before) text (map (moved (length before)) ts)
tokens_moved before text rest end ts d =
    let same : length before + 0 ≡ length before = omega arith in
    subst (λ (m : ℕ). Cut (length before + end) rest m text (map (moved (length before)) ts)) same (cut_moved (length before) end rest 0 text ts d)
