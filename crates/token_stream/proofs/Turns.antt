-- What a stream takes with a byte that its run does not go on with, and with the end of the text.
use Rattle.std.proofs.Common.{◌≡◌, ℕ, ◌+◌, ◌≤◌, List, [], ◌∷◌, ◌++◌, length, true, inl, inr, sym, ap, ◌∙◌, append_assoc, subst, refl, arith}
use Rattle.std.proofs.lemmas.List.{append-nil, length-append, take_all}
use Rattle.geo_tokens.specs.declared.token.Token.{Token}
use Rattle.geo_tokens.specs.declared.token.Kind.{Kind}
use Rattle.geo_tokens.specs.declared.token.Kind.TheVariants as kinds
use Rattle.geo_tokens.specs.declared.fault.FaultWord.{FaultWord}
use Rattle.geo_tokens.specs.declared.fault.FaultWord.TheVariants as words
use Rattle.geo_tokens.specs.Bytes.{bytes_of}
use Rattle.geo_tokens.specs.Cut.{IsToken, IsBad, Cut, IsTokens}
use Rattle.geo_tokens.proofs.Cuts.{token_of}
use Rattle.token_stream.specs.declared.stream.TokenStream.{TokenStream}
use Rattle.token_stream.specs.declared.run.Ended.{Ended}
use Rattle.token_stream.specs.declared.run.Ended.TheVariants as ends
use Rattle.token_stream.specs.Run.{EndsAt, is_word, BeginsNone}
use Rattle.token_stream.specs.Word.{kept_bytes, IsWordOf}
use Rattle.token_stream.specs.Ended.{IsEnd, StreamEnds}
use Rattle.token_stream.specs.Stream.{Stands, run_length, IsStuck, HasRun, Has, name_of, HasName, IsFault, IsLastFault}
use Rattle.token_stream.proofs.Steps.{bytes_there, stands_on, stands_behind_gap, stands_behind_token, stands_now, ends_behind_gap, ends_behind_token}
use Rattle.token_stream.proofs.Runs.{over_at_end}

-- the token of this kind that the run is
abbrev pub run_token : TokenStream → Kind → Token
run_token s kind = record { kind = kind; start = s.start; end = s.count }

pub name_short : (kind : Kind) (n : ℕ) (bytes : List ℕ) → kind ≡ kinds.Name → IsToken kind n bytes → n ≤ 40
name_short kind n bytes e h = let name : IsToken kinds.Name n bytes = subst (λ (k : Kind). IsToken k n bytes) e h in name.form.short

module _ (s : TokenStream) (text : List ℕ) (ts : List Token) (has : Has s text ts) where
  same_token : (kind : Kind) → token_of kind s.start (length has.rest) ≡ run_token s kind
  same_token kind = ap (λ (m : ℕ). record { kind = kind; start = s.start; end = m }) has.run.place

  -- the name that ended in front of these bytes
  name_there : (n : TokenStream) (whole more : List ℕ) (kind : Kind) → n.word ≡ s.word → is_word s.run ≡ true → kind ≡ kinds.Name → IsToken kind (length has.rest) (has.rest ++ more)
      → Cut s.start (has.rest ++ more) 0 whole ts → name_of n ≡ bytes_of whole (run_token s kind)
  name_there n whole more kind same w e is cut =
      let of : IsWordOf s.word has.rest = has.run.word w in
      ap kept_bytes same ∙ of.kept ∙ take_all 40 has.rest (name_short kind (length has.rest) (has.rest ++ more) e is)
      ∙ sym (bytes_there whole ts s.start has.rest more kind cut) ∙ ap (λ (t : Token). bytes_of whole t) (same_token kind)

  whole_place : s.start + length has.rest ≡ length text
  whole_place = has.run.place ∙ has.count

  -- ---- with a byte

  module _ (byte : ℕ) (over : EndsAt s.run byte) where
    counted : s.count + 1 ≡ length (text ++ byte ∷ [])
    counted = omega (arith, has.count, length-append text (byte ∷ []))

    here_end : (e : Ended) → StreamEnds s e byte → (more : List ℕ) → IsEnd e (length has.rest) (has.rest ++ byte ∷ more)
    here_end e end more = end has.rest (byte ∷ more) has.run (over more) refl

    -- these tokens are whole, and the byte stands behind them
    gap_before : StreamEnds s ends.Gap byte → Stands (text ++ byte ∷ []) ts s.count (byte ∷ [])
    gap_before end =
        subst (λ (m : ℕ). Stands (text ++ byte ∷ []) ts m (byte ∷ [])) has.run.place
        (stands_behind_gap text ts s.start has.rest has.stands byte (here_end ends.Gap end))

    token_before : (kind : Kind) → StreamEnds s (ends.Token kind) byte → Stands (text ++ byte ∷ []) (ts ++ run_token s kind ∷ []) s.count (byte ∷ [])
    token_before kind end =
        subst (λ (m : ℕ). Stands (text ++ byte ∷ []) (ts ++ run_token s kind ∷ []) m (byte ∷ [])) has.run.place
        (subst (λ (t : Token). Stands (text ++ byte ∷ []) (ts ++ t ∷ []) (s.start + length has.rest) (byte ∷ [])) (same_token kind)
        (stands_behind_token text ts s.start has.rest has.stands byte kind (here_end (ends.Token kind) end)))

    begun : (n : TokenStream) (us : List Token) → HasRun n (byte ∷ []) × (n.start ≡ s.count) → n.count ≡ s.count + 1 → Stands (text ++ byte ∷ []) us s.count (byte ∷ []) → Has n (text ++ byte ∷ []) us
    begun n us h e stands = record {
      rest = byte ∷ [];
      run = h.0;
      stands = subst (λ (m : ℕ). Stands (text ++ byte ∷ []) us m (byte ∷ [])) (sym h.1) stands;
      count = e ∙ counted;
    }

    stuck : (us : List Token) → BeginsNone byte → Stands (text ++ byte ∷ []) us s.count (byte ∷ []) → IsStuck (text ++ byte ∷ []) us s.count words.Byte (length (text ++ byte ∷ []))
    stuck us none stands = record { rest = byte ∷ []; stands = stands; bad = none; run = λ more. counted }

    pub gap_begun : (n : TokenStream) → StreamEnds s ends.Gap byte → HasRun n (byte ∷ []) × (n.start ≡ s.count) → n.count ≡ s.count + 1 → Has n (text ++ byte ∷ []) ts
    gap_begun n end h e = begun n ts h e (gap_before end)

    pub gap_stuck : StreamEnds s ends.Gap byte → BeginsNone byte → IsFault (text ++ byte ∷ []) ts s.count words.Byte
    gap_stuck end none = record { last = length (text ++ byte ∷ []); stuck = stuck ts none (gap_before end); now = inl (counted, refl) }

    pub token_begun : (n : TokenStream) (kind : Kind) → StreamEnds s (ends.Token kind) byte → HasRun n (byte ∷ []) × (n.start ≡ s.count) → n.count ≡ s.count + 1 → Has n (text ++ byte ∷ []) (ts ++ run_token s kind ∷ [])
    token_begun n kind end h e = begun n (ts ++ run_token s kind ∷ []) h e (token_before kind end)

    pub token_stuck : (kind : Kind) → StreamEnds s (ends.Token kind) byte → BeginsNone byte → IsStuck (text ++ byte ∷ []) (ts ++ run_token s kind ∷ []) s.count words.Byte (length (text ++ byte ∷ []))
    token_stuck kind end none = stuck (ts ++ run_token s kind ∷ []) none (token_before kind end)

    pub token_counted : s.count + 1 ≡ length (text ++ byte ∷ [])
    token_counted = counted

    pub token_named : (n : TokenStream) (kind : Kind) → StreamEnds s (ends.Token kind) byte → (kind ≡ kinds.Name → (is_word s.run ≡ true) × (n.word ≡ s.word)) → HasName n (text ++ byte ∷ []) (run_token s kind)
    token_named n kind end word e =
        let both = word e in
        name_there n (text ++ byte ∷ []) (byte ∷ []) kind both.1 both.0 e (here_end (ends.Token kind) end []) (has.stands (byte ∷ []))

    pub bad_now : (word : FaultWord) → StreamEnds s (ends.Bad word) byte → IsFault (text ++ byte ∷ []) ts s.start word
    bad_now word end =
        let same : (more : List ℕ) → has.rest ++ byte ∷ more ≡ has.rest ++ byte ∷ [] ++ more = λ more. sym (append_assoc has.rest (byte ∷ []) more) in
        record {
          last = s.start + length has.rest;
          stuck = record {
            rest = has.rest ++ byte ∷ [];
            stands = stands_on text ts s.start has.rest has.stands byte;
            bad = λ more. subst (λ (u : List ℕ). IsBad word u) (same more) (here_end (ends.Bad word) end more).0;
            run = λ more. ap (λ (m : ℕ). s.start + m) (ap (λ (u : List ℕ). run_length word u) (sym (same more)) ∙ (here_end (ends.Bad word) end more).1);
          };
          now = inr (ap (λ (m : ℕ). m + 1) has.run.place ∙ counted);
        }

  -- ---- at the end of the text

  last_end : (e : Ended) → StreamEnds s e 0 → IsEnd e (length has.rest) has.rest
  last_end e end = subst (λ (u : List ℕ). IsEnd e (length has.rest) u) (append-nil has.rest) (end has.rest [] has.run (over_at_end s.run) refl)

  now : Cut s.start has.rest 0 text ts
  now = stands_now text ts s.start has.rest has.stands

  pub gap_last : StreamEnds s ends.Gap 0 → IsTokens text ts
  gap_last end = ends_behind_gap text ts s.start has.rest has.stands whole_place (last_end ends.Gap end)

  pub token_last : (kind : Kind) → StreamEnds s (ends.Token kind) 0 → IsTokens text (ts ++ run_token s kind ∷ [])
  token_last kind end =
      subst (λ (t : Token). IsTokens text (ts ++ t ∷ [])) (same_token kind)
      (ends_behind_token text ts s.start has.rest has.stands whole_place kind (last_end (ends.Token kind) end))

  pub name_last : (kind : Kind) → StreamEnds s (ends.Token kind) 0 → (kind ≡ kinds.Name → is_word s.run ≡ true) → HasName s text (run_token s kind)
  name_last kind end word e =
      name_there s text [] kind refl (word e) e (end has.rest [] has.run (over_at_end s.run) refl)
      (subst (λ (u : List ℕ). Cut s.start u 0 text ts) (sym (append-nil has.rest)) now)

  pub bad_last : (word : FaultWord) → StreamEnds s (ends.Bad word) 0 → IsLastFault text ts s.start word
  bad_last word end =
      let h = last_end (ends.Bad word) end in
      record { rest = has.rest; before = now; bad = h.0; run = ap (λ (m : ℕ). s.start + m) h.1 ∙ whole_place }
