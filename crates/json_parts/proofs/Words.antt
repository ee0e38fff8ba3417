-- Names and words are ASCII, and a name is a word.
use Rattle.std.proofs.Common.{◌≡◌, ℕ, ◌<◌, List, [], ◌∷◌, length, true, false, arith, subst, get_or}
use Rattle.std.proofs.lemmas.Str.Ascii.{IsAscii-from_all}
use Rattle.std.proofs.lemmas.List.Sums.{prefix_len_passes}
use Rattle.std.specs.Str.{IsAscii}
use Rattle.geo_tokens.specs.Bytes.{is_word_byte}
use Rattle.geo_tokens.specs.Names.{IsNameText}
use Rattle.json_parts.specs.Form.{IsWord}

small_byte : (b : ℕ) → is_word_byte b ≡ true → b < 128
small_byte b e = grind arith

pub word_ascii : (text : List ℕ) → IsWord text → IsAscii text
word_ascii text w = IsAscii-from_all text (λ k d l. small_byte (get_or text k d) (w.bytes k d l))

some_byte : (text : List ℕ) → IsNameText text → 0 < length text
some_byte [] n = absurd (let e : false ≡ true = n.form.begins in cc)
some_byte (b ∷ bs) n = omega arith

pub name_word : (text : List ℕ) → IsNameText text → IsWord text
name_word text n = record { some = some_byte text n; bytes = λ k d l. prefix_len_passes is_word_byte text k d (subst (λ (m : ℕ). k < m) n.form.longest l) }
