-- A token that ends inside some bytes stands there, whatever comes behind them.
use Rattle.std.proofs.Common.{◌≡◌, ℕ, ◌+◌, ◌<◌, ◌≤◌, List, ◌++◌, length, get_or, take, Bool, true, ◌==◌, inl, inr, sym, ap, ◌∙◌, arith}
use Rattle.std.specs.Prelude.{cond}
use Rattle.std.specs.List.{prefix_len}
use Rattle.std.proofs.lemmas.List.{take-append-le, get_or_append_left}
use Rattle.std.proofs.lemmas.List.Folds.{prefix_len-append}
use Rattle.std.proofs.lemmas.Bool.{cases_Bool}
use Rattle.geo_tokens.specs.declared.token.Sym.{Sym}
use Rattle.geo_tokens.specs.declared.token.Kind.{Kind}
use Rattle.geo_tokens.specs.declared.token.Kind.TheVariants as kinds
use Rattle.geo_tokens.specs.Class.{symbol_bytes}
use Rattle.geo_tokens.specs.Bytes.{is_digit, is_letter, is_word_byte, value_of}
use Rattle.geo_tokens.specs.Cut.{IsWordForm, Fits, IsToken}
use Rattle.geo_tokens.proofs.Fronts.{token_inside}
use Rattle.geo_tokens.proofs.Symbols.{size_small}

module _ (front tail more : List ℕ) where
  same_byte : (i : ℕ) → i < length front → get_or (front ++ tail) i 0 ≡ get_or (front ++ more) i 0
  same_byte i h = get_or_append_left front tail 0 i h ∙ sym (get_or_append_left front more 0 i h)

  same_taken : (n : ℕ) → n ≤ length front → take n (front ++ tail) ≡ take n (front ++ more)
  same_taken n h = take-append-le n front tail h ∙ sym (take-append-le n front more h)

  -- bytes of one sort that end inside
  same_run : (p : ℕ → Bool) (n : ℕ) → n < length front → n ≡ prefix_len p (front ++ tail) → n ≡ prefix_len p (front ++ more)
  same_run p n h e = elim (cases_Bool (prefix_len p front == length front)) [
    | inl t ↦ absurd (
        let all : prefix_len p (front ++ tail) ≡ length front + prefix_len p tail =
        prefix_len-append p front tail ∙ ap (λ (b : Bool). cond b (length front + prefix_len p tail) (prefix_len p front)) t in
        omega arith)
    | inr f ↦ e ∙ (prefix_len-append p front tail ∙ ap (λ (b : Bool). cond b (length front + prefix_len p tail) (prefix_len p front)) f)
        ∙ sym (prefix_len-append p front more ∙ ap (λ (b : Bool). cond b (length front + prefix_len p more) (prefix_len p front)) f)
  ]

  module _ (n : ℕ) (inside : n < length front) where
    first_stays_so : (p : ℕ → Bool) → p (get_or (front ++ tail) 0 0) ≡ true → p (get_or (front ++ more) 0 0) ≡ true
    first_stays_so p h = ap p (sym (same_byte 0 (omega (arith, inside)))) ∙ h

    form_stays : IsWordForm n (front ++ tail) → IsWordForm n (front ++ more)
    form_stays f = record { begins = first_stays_so is_letter f.begins; longest = same_run is_word_byte n inside f.longest; short = f.short }

    taken : take n (front ++ tail) ≡ take n (front ++ more)
    taken = same_taken n (omega (arith, inside))

    fits_back : (t : Sym) → 0 < n → Fits t (front ++ more) → Fits t (front ++ tail)
    fits_back t some f = same_taken (length (symbol_bytes t)) (omega (arith, inside, size_small t, some)) ∙ f

    pub token_stays : (kind : Kind) → IsToken kind n (front ++ tail) → IsToken kind n (front ++ more)
    token_stays kinds.Name f = record { form = form_stays f.form; free = λ w e. f.free w (taken ∙ e) }
    token_stays (kinds.Word w) f = record { form = form_stays f.form; spelled = sym taken ∙ f.spelled }
    token_stays (kinds.Number v) f = record {
      begins = first_stays_so is_digit f.begins;
      longest = same_run is_digit n inside f.longest;
      value = f.value ∙ ap value_of taken;
      small = f.small;
      ends = ap is_letter (sym (same_byte n inside)) ∙ f.ends;
    }
    token_stays (kinds.Symbol s) f =
        let some : 0 < n = (token_inside (kinds.Symbol s) n (front ++ tail) f).0 in
        record {
          size = f.size;
          fits = sym (same_taken (length (symbol_bytes s)) (let e = f.size in omega (arith, inside, e))) ∙ f.fits;
          longest = λ t g. f.longest t (fits_back t some g);
        }
