-- The bytes of a name token, taken alone, are the text of that name.
use Rattle.std.proofs.Common.{◌≡◌, ℕ, ◌+◌, ◌-◌, ◌<◌, ◌≤◌, List, [], ◌∷◌, length, take, drop, Bool, true, false, refl, sym, ap, ◌∙◌, subst, arith}
use Rattle.std.specs.Prelude.{slice_index, cond}
use Rattle.std.specs.List.{prefix_len, All}
use Rattle.std.proofs.Math.Numerals.{one-add}
use Rattle.std.proofs.lemmas.List.{length-take-le, get_or-take, take_all}
use Rattle.std.proofs.lemmas.List.Elements.{All-nil, All-cons}
use Rattle.geo_tokens.specs.declared.token.Token.{Token}
use Rattle.geo_tokens.specs.declared.token.Kind.{Kind}
use Rattle.geo_tokens.specs.declared.token.Kind.TheVariants as kinds
use Rattle.geo_tokens.specs.Bytes.{is_letter, is_word_byte, bytes_of}
use Rattle.geo_tokens.specs.Cut.{IsName, IsToken, InOrder}
use Rattle.geo_tokens.specs.Names.{IsNameText}
use Rattle.geo_tokens.proofs.Fronts.{token_inside}

-- a run of bytes that pass, taken alone, is a run as long
run_step : (p : ℕ → Bool) (b m : ℕ) (bytes : List ℕ) (t : Bool) → p b ≡ t → prefix_len p (take m bytes) ≡ m → prefix_len p (take (cond t (1 + m) 0) (b ∷ bytes)) ≡ cond t (1 + m) 0
run_step p b m bytes true e h =
    let one : prefix_len p (take (1 + m) (b ∷ bytes)) ≡ prefix_len p (b ∷ take m bytes) = rw one-add refl in
    let two : prefix_len p (b ∷ take m bytes) ≡ 1 + prefix_len p (take m bytes) = ap (λ (t : Bool). cond t (1 + prefix_len p (take m bytes)) 0) e in
    one ∙ two ∙ ap (λ (n : ℕ). 1 + n) h
run_step p b m bytes false e h = refl

run_alone : (p : ℕ → Bool) (bytes : List ℕ) → prefix_len p (take (prefix_len p bytes) bytes) ≡ prefix_len p bytes
run_alone p [] = refl
run_alone p (b ∷ bytes) = run_step p b (prefix_len p bytes) bytes (p b) refl (run_alone p bytes)

pub name_text : (n : ℕ) (bytes : List ℕ) → IsName n bytes → IsNameText (take n bytes)
name_text n bytes h =
    let q = token_inside kinds.Name n bytes h in
    let some : 0 < n = q.0 in
    let size : length (take n bytes) ≡ n = length-take-le n bytes q.1 in
    let first : slice_index (take n bytes) 0 ≡ slice_index bytes 0 = get_or-take n bytes 0 0 some in
    let run : prefix_len is_word_byte (take n bytes) ≡ n = subst (λ (m : ℕ). prefix_len is_word_byte (take m bytes) ≡ m) (sym h.form.longest) (run_alone is_word_byte bytes) in
    record {
      form = record {
        begins = ap is_letter first ∙ h.form.begins;
        longest = size ∙ sym run;
        short = subst (λ (m : ℕ). m ≤ 40) (sym size) h.form.short;
      };
      free = λ w e. h.free w (sym (take_all (length (take n bytes)) (take n bytes) (omega arith)) ∙ e);
    }

-- each of the tokens in order is what stands at its place
pub token_stands : (text : List ℕ) (low : ℕ) (ts : List Token) → InOrder text low ts → All (λ t. IsToken t.kind (t.end - t.start) (drop t.start text)) ts
token_stands text low [] h = All-nil (λ (t : Token). IsToken t.kind (t.end - t.start) (drop t.start text))
token_stands text low (t ∷ ts) h = All-cons (λ (u : Token). IsToken u.kind (u.end - u.start) (drop u.start text)) t ts h.2 (token_stands text t.end ts h.3)

-- the bytes of a name among them are the text of a name
pub name_token : (text : List ℕ) (t : Token) → IsToken t.kind (t.end - t.start) (drop t.start text) → t.kind ≡ kinds.Name → IsNameText (bytes_of text t)
name_token text t h e = name_text (t.end - t.start) (drop t.start text) (subst (λ (k : Kind). IsToken k (t.end - t.start) (drop t.start text)) e h)
