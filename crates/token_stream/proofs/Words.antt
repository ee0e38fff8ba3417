-- A word that has ended is a name, a reserved word, or too long.
use Rattle.std.proofs.Common.{◌≡◌, ℕ, ◌+◌, ◌<◌, ◌≤◌, List, [], ◌∷◌, ◌++◌, length, get_or, take, set, true, sym, ap, ◌∙◌, refl, arith}
use Rattle.std.specs.List.{prefix_len}
use Rattle.std.proofs.lemmas.List.{length-append, take_all, take-append-le, take_more_set}
use Rattle.std.proofs.Math.Seq.{take-append_seam}
use Rattle.geo_tokens.specs.declared.token.Keyword.{Keyword}
use Rattle.geo_tokens.specs.Class.{word_bytes}
use Rattle.geo_tokens.specs.Bytes.{is_word_byte, is_letter}
use Rattle.geo_tokens.specs.Cut.{IsWordForm, IsName, IsReserved, IsLongWord}
use Rattle.token_stream.specs.declared.word.Word.{Word}
use Rattle.token_stream.specs.Run.{IsWord}
use Rattle.token_stream.specs.Word.{IsWordOf, kept_bytes}
use Rattle.token_stream.proofs.Made.{first_stays, made_longest}

module _ (word : Word) (rest more : List ℕ) (of : IsWordOf word rest) (made : IsWord rest) (over : prefix_len is_word_byte more ≡ 0) where
  begins : is_letter (get_or (rest ++ more) 0 0) ≡ true
  begins = first_stays is_letter rest more refl made.begins

  longest : length rest ≡ prefix_len is_word_byte (rest ++ more)
  longest = made_longest is_letter is_word_byte rest made more over

  pub long_word : 40 < word.len → IsLongWord (rest ++ more) × (prefix_len is_word_byte (rest ++ more) ≡ length rest)
  long_word h = (record { begins = begins; long = omega (arith, of.count, longest) }, sym longest)

  form : word.len ≤ 40 → IsWordForm (length rest) (rest ++ more)
  form h = record { begins = begins; longest = longest; short = omega (arith, of.count) }

  spelled : word.len ≤ 40 → take (length rest) (rest ++ more) ≡ kept_bytes word
  spelled h = take-append_seam rest more ∙ sym (of.kept ∙ take_all 40 rest (omega (arith, of.count)))

  pub is_reserved : (w : Keyword) → word.len ≤ 40 → kept_bytes word ≡ word_bytes w → IsReserved w (length rest) (rest ++ more)
  is_reserved w h e = record { form = form h; spelled = spelled h ∙ e }

  pub is_name : word.len ≤ 40 → ((w : Keyword) → kept_bytes word ≡ word_bytes w → ⊥) → IsName (length rest) (rest ++ more)
  is_name h free = record { form = form h; free = λ w e. free w (sym (spelled h) ∙ e) }

-- ---- one byte more

module _ (word : Word) (rest : List ℕ) (byte n : ℕ) (of : IsWordOf word rest) (more : n ≡ word.len + 1) (room : length word.bytes ≡ 40) where
  longer : n ≡ length (rest ++ byte ∷ [])
  longer = omega (arith, of.count, length-append rest (byte ∷ []))

  pub push_kept : word.len < 40 → IsWordOf (record { len = n; bytes = set word.bytes word.len byte }) (rest ++ byte ∷ [])
  push_kept h =
      let stored : take (word.len + 1) (set word.bytes word.len byte) ≡ kept_bytes word ++ byte ∷ [] = take_more_set word.bytes word.len byte (omega arith) in
      let all : take 40 rest ≡ rest = take_all 40 rest (omega (arith, of.count)) in
      let all_more : take 40 (rest ++ byte ∷ []) ≡ rest ++ byte ∷ [] = take_all 40 (rest ++ byte ∷ []) (omega (arith, longer)) in
      record {
        count = longer;
        kept = ap (λ (m : ℕ). take m (set word.bytes word.len byte)) more ∙ stored ∙ ap (λ (u : List ℕ). u ++ byte ∷ []) (of.kept ∙ all) ∙ sym all_more;
      }

  pub push_past : 40 ≤ word.len → IsWordOf (record { len = n; bytes = word.bytes }) (rest ++ byte ∷ [])
  push_past h = record {
    count = longer;
    kept = take_all n word.bytes (omega arith) ∙ sym (take_all word.len word.bytes (omega arith)) ∙ of.kept ∙ sym (take-append-le 40 rest (byte ∷ []) (omega (arith, of.count)));
  }
