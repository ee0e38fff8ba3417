-- Whatever comes behind a run, what stands there takes all its bytes.
use Rattle.std.proofs.Common.{◌≡◌, ℕ, ◌<◌, ◌≤◌, List, ◌++◌, length, get_or, take, Option, Some, None, Bool, true, false, ◌||◌, inl, inr, refl, sym, ap, ◌∙◌, subst, arith}
use Rattle.std.specs.List.{prefix_len}
use Rattle.std.proofs.lemmas.Bool.{cases_lt, eqb-true}
use Rattle.std.proofs.Math.Seq.{take-append_seam}
use Rattle.geo_tokens.specs.declared.token.Keyword.{Keyword}
use Rattle.geo_tokens.specs.declared.token.Sym.{Sym}
use Rattle.geo_tokens.specs.declared.token.Kind.{Kind}
use Rattle.geo_tokens.specs.declared.token.Kind.TheVariants as kinds
use Rattle.geo_tokens.specs.declared.front.Front.{Front}
use Rattle.geo_tokens.specs.declared.front.Front.TheVariants as fronts
use Rattle.geo_tokens.specs.declared.fault.FaultWord.{FaultWord}
use Rattle.geo_tokens.specs.declared.fault.FaultWord.TheVariants as words
use Rattle.geo_tokens.specs.Class.{word_bytes, symbol_bytes}
use Rattle.geo_tokens.specs.Bytes.{is_digit, is_letter, is_word_byte, is_line_byte, value_of}
use Rattle.geo_tokens.specs.Spelled.{spelled_as, all_words}
use Rattle.geo_tokens.specs.Cut.{IsGap, comment, IsWordForm, IsToken, IsBad}
use Rattle.geo_tokens.specs.Front.{IsFront}
use Rattle.geo_tokens.proofs.Spellings.{found, is_there}
use Rattle.geo_tokens.proofs.Symbols.{size_small}
use Rattle.geo_tokens.proofs.Fronts.{run_inside, gap_inside, token_inside, one_front}
use Rattle.token_stream.specs.declared.run.Run.{Run}
use Rattle.token_stream.specs.declared.run.Run.TheVariants as runs
use Rattle.token_stream.specs.Run.{is_hash, IsComment, IsWord, IsDigits, IsRun}
use Rattle.token_stream.specs.Stream.{run_length}
use Rattle.token_stream.proofs.Made.{all_pass, first_stays}

-- ---- how many bytes something takes

letter_in_word : (a b : Bool) → a ≡ true → (a || b) ≡ true
letter_in_word true b h = refl
letter_in_word false b h = absurd cc

-- the run of a fault has a byte at least, and is inside
pub bad_inside : (w : FaultWord) (bytes : List ℕ) → IsBad w bytes → (0 < run_length w bytes) × (run_length w bytes ≤ length bytes)
bad_inside words.Byte bytes h = (omega arith, omega (arith, h.some))
bad_inside words.Number bytes h = run_inside is_digit (prefix_len is_digit bytes) bytes h.begins refl refl
bad_inside words.Name bytes h =
    run_inside is_word_byte (prefix_len is_word_byte bytes) bytes (letter_in_word (is_letter (get_or bytes 0 0)) (is_digit (get_or bytes 0 0)) h.begins) refl refl
bad_inside _ bytes h = absurd h

abbrev front_length : Front → List ℕ → ℕ
front_length (fronts.Gap n) bytes = n
front_length (fronts.Token k n) bytes = n
front_length (fronts.Bad w) bytes = run_length w bytes

front_some : (x : Front) (bytes : List ℕ) → IsFront x bytes → 0 < front_length x bytes
front_some (fronts.Gap n) bytes h = (gap_inside n bytes h).0
front_some (fronts.Token k n) bytes h = (token_inside k n bytes h).0
front_some (fronts.Bad w) bytes h = (bad_inside w bytes h).0

-- what stands there takes so many bytes at least
abbrev Takes : ℕ → List ℕ → Type 0
Takes size bytes = (x : Front) → IsFront x bytes → size ≤ front_length x bytes

takes_one : (size : ℕ) (bytes : List ℕ) → size ≤ 1 → Takes size bytes
takes_one size bytes h x is = omega (arith, front_some x bytes is)

takes_front : (size : ℕ) (bytes : List ℕ) (x : Front) → IsFront x bytes → size ≤ front_length x bytes → Takes size bytes
takes_front size bytes x is h y other = subst (λ (z : Front). size ≤ front_length z bytes) (one_front x y bytes is other) h

-- ---- what stands at the bytes of a run

module _ (size : ℕ) (bytes : List ℕ) where
  takes_word : (n : ℕ) (o : Option Keyword) → spelled_as word_bytes all_words (take n bytes) ≡ o → IsWordForm n bytes → size ≤ n → Takes size bytes
  takes_word n None e form h =
      takes_front size bytes (fronts.Token kinds.Name n)
      (record { form = form; free = λ w q. (let none : None ≡ Some w = sym e ∙ ap (spelled_as word_bytes all_words) q ∙ (is_there w).found in absurd cc) }) h
  takes_word n (Some w) e form h = takes_front size bytes (fronts.Token (kinds.Word w) n) (record { form = form; spelled = found word_bytes all_words (take n bytes) w e }) h

  takes_letters : is_letter (get_or bytes 0 0) ≡ true → size ≤ prefix_len is_word_byte bytes → Takes size bytes
  takes_letters begins h =
      let n = prefix_len is_word_byte bytes in
      elim (cases_lt 40 n) [
        | inl long ↦ takes_front size bytes (fronts.Bad words.Name) (record { begins = begins; long = long }) h
        | inr short ↦ takes_word n (spelled_as word_bytes all_words (take n bytes)) refl (record { begins = begins; longest = refl; short = short }) h
      ]

  takes_number : (ends : Bool) → is_letter (get_or bytes (prefix_len is_digit bytes) 0) ≡ ends → is_digit (get_or bytes 0 0) ≡ true → size ≤ prefix_len is_digit bytes → Takes size bytes
  takes_number true e begins h = takes_front size bytes (fronts.Bad words.Number) (record { begins = begins; wrong = inr e }) h
  takes_number false e begins h =
      let n = prefix_len is_digit bytes in
      elim (cases_lt 1000000000 (value_of (take n bytes))) [
        | inl large ↦ takes_front size bytes (fronts.Bad words.Number) (record { begins = begins; wrong = inl large }) h
        | inr small ↦ takes_front size bytes (fronts.Token (kinds.Number (value_of (take n bytes))) n)
            (record { begins = begins; longest = refl; value = refl; small = small; ends = e }) h
      ]

module _ (rest more : List ℕ) where
  takes_comment : IsComment rest → Takes (length rest) (rest ++ more)
  takes_comment made =
      let n = prefix_len is_line_byte (rest ++ more) in
      let hash = eqb-true (get_or (rest ++ more) 0 0) 35 (first_stays is_hash rest more refl made.begins) in
      takes_front (length rest) (rest ++ more) (fronts.Gap n) (comment hash refl) (omega (arith, all_pass is_line_byte rest more made.whole))

  takes_run_of_letters : IsWord rest → Takes (length rest) (rest ++ more)
  takes_run_of_letters made =
      takes_letters (length rest) (rest ++ more) (first_stays is_letter rest more refl made.begins) (omega (arith, all_pass is_word_byte rest more made.whole))

  takes_digits : IsDigits rest → Takes (length rest) (rest ++ more)
  takes_digits made =
      takes_number (length rest) (rest ++ more) (is_letter (get_or (rest ++ more) (prefix_len is_digit (rest ++ more)) 0)) refl (first_stays is_digit rest more refl made.begins)
      (omega (arith, all_pass is_digit rest more made.whole))

  takes_pair : (s : Sym) → rest ≡ symbol_bytes s → length rest ≡ 2 → Takes (length rest) (rest ++ more)
  takes_pair s e two =
      takes_front (length rest) (rest ++ more) (fronts.Token (kinds.Symbol s) 2)
      (record {
        size = sym two ∙ ap length e;
        fits = subst (λ (x : List ℕ). take (length x) (rest ++ more) ≡ x) e (take-append_seam rest more);
        longest = λ t f. size_small t;
      })
      (omega arith)

  takes_run : (run : Run) → IsRun run rest → Takes (length rest) (rest ++ more)
  takes_run runs.Space (inl e) = takes_one (length rest) (rest ++ more) (omega (arith, ap length e))
  takes_run runs.Space (inr h) = takes_one (length rest) (rest ++ more) (omega (arith, ap length h.1))
  takes_run runs.Comment h = takes_comment h
  takes_run runs.Word h = takes_run_of_letters h
  takes_run (runs.Digits v) h = takes_digits h.0
  takes_run (runs.Mark b) h = takes_one (length rest) (rest ++ more) (omega (arith, ap length h.0))
  takes_run (runs.Pair s) h = takes_pair s h.0 h.1

-- ---- the laws

module _ (run : Run) (rest more : List ℕ) (is : IsRun run rest) where
  -- a gap, a token and the run of a fault have all bytes of the run
  pub gap_whole : (m : ℕ) → IsGap m (rest ++ more) → length rest ≤ m
  gap_whole m g = takes_run rest more run is (fronts.Gap m) g

  pub token_whole : (k : Kind) (m : ℕ) → IsToken k m (rest ++ more) → length rest ≤ m
  token_whole k m g = takes_run rest more run is (fronts.Token k m) g

  pub bad_whole : (w : FaultWord) → IsBad w (rest ++ more) → length rest ≤ run_length w (rest ++ more)
  bad_whole w h = takes_run rest more run is (fronts.Bad w) h
