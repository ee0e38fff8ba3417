-- What a stream has that takes a whole token between two of white space.
use Rattle.std.proofs.Common.{◌≡◌, ℕ, ◌+◌, ◌<◌, List, [], ◌∷◌, ◌++◌, length, get_or, take, drop, true, ◌⊎◌, inl, inr, refl, sym, ap, ◌∙◌, append_assoc, subst, arith}
use Rattle.std.proofs.lemmas.List.{append-nil, length-append, length-take, take-append-drop, take_more}
use Rattle.std.proofs.Math.Seq.{drop-append_seam}
use Rattle.geo_tokens.specs.declared.token.Token.{Token}
use Rattle.geo_tokens.specs.declared.token.Kind.{Kind}
use Rattle.geo_tokens.specs.Bytes.{is_white, bytes_of}
use Rattle.geo_tokens.specs.Cut.{IsGap, IsToken, Cut}
use Rattle.geo_tokens.proofs.Cuts.{token_of, gap_more, token_more}
use Rattle.token_stream.specs.declared.stream.TokenStream.{TokenStream}
use Rattle.token_stream.specs.declared.run.Run.{Run}
use Rattle.token_stream.specs.declared.run.Run.TheVariants as runs
use Rattle.token_stream.specs.Run.{IsRun, is_word}
use Rattle.token_stream.specs.Stream.{Stands, Has}
use Rattle.token_stream.proofs.Runs.{space_ended}
use Rattle.token_stream.proofs.Steps.{bytes_there}
use Rattle.token_stream.proofs.Fronts.{token_stays}

module _ (s : TokenStream) (text : List ℕ) (ts : List Token) (has : Has s text ts) (space : s.run ≡ runs.Space) where
  -- white space ends in front of anything
  gap : (more : List ℕ) → (length has.rest ≡ 0) ⊎ IsGap (length has.rest) (has.rest ++ more)
  gap more = space_ended has.rest more (subst (λ (run : Run). IsRun run has.rest) space has.run.run)

  behind : (more : List ℕ) → (length has.rest ≡ 0) ⊎ IsGap (length has.rest) (has.rest ++ more) → Cut (s.start + length has.rest) (drop (length has.rest) (has.rest ++ more)) 0 (text ++ more) ts
  behind more (inl e) = rw e (subst (λ (m : ℕ). Cut m (has.rest ++ more) 0 (text ++ more) ts) (omega arith) (has.stands more))
  behind more (inr g) = gap_more s.start (length has.rest) (has.rest ++ more) g 0 (text ++ more) ts (has.stands more)

  -- these tokens are whole, and anything stands behind them
  pub cut_behind : (more : List ℕ) → Cut s.count more 0 (text ++ more) ts
  cut_behind more =
      subst (λ (m : ℕ). Cut m more 0 (text ++ more) ts) has.run.place
      (subst (λ (u : List ℕ). Cut (s.start + length has.rest) u 0 (text ++ more) ts) (drop-append_seam has.rest more) (behind more (gap more)))

  module _ (piece : List ℕ) (kind : Kind) (n : ℕ) (is : IsToken kind n piece) (inside : n < length piece) (white : is_white (get_or piece n 0) ≡ true) where
    abbrev front : List ℕ
    front = take (n + 1) piece

    in_front : length front ≡ n + 1
    in_front = omega (arith, inside, length-take (n + 1) piece)

    length_before : length (take n piece) ≡ n
    length_before = omega (arith, inside, length-take n piece)

    is_there : (more : List ℕ) → IsToken kind n (front ++ more)
    is_there more = token_stays (take (n + 1) piece) (drop (n + 1) piece) more n (let e = in_front in omega (arith, e)) kind (subst (IsToken kind n) (sym (take-append-drop (n + 1) piece)) is)

    -- the token, and the byte behind it
    seam : (more : List ℕ) → front ++ more ≡ take n piece ++ (get_or piece n 0 ∷ more)
    seam more = ap (λ (u : List ℕ). u ++ more) (take_more piece n 0 inside) ∙ append_assoc (take n piece) (get_or piece n 0 ∷ []) more

    left : (more : List ℕ) → drop n (front ++ more) ≡ get_or piece n 0 ∷ more
    left more = ap (drop n) (seam more) ∙ ap (λ (m : ℕ). drop m (take n piece ++ (get_or piece n 0 ∷ more))) (sym length_before) ∙ drop-append_seam (take n piece) (get_or piece n 0 ∷ more)

    pub stands_whole : Stands (text ++ front) (ts ++ token_of kind s.count n ∷ []) (s.count + n) (get_or piece n 0 ∷ [])
    stands_whole more =
        subst (λ (u : List ℕ). Cut (s.count + n) (get_or piece n 0 ∷ more) 0 u (ts ++ token_of kind s.count n ∷ [])) (sym (append_assoc text front more))
        (subst (λ (u : List ℕ). Cut (s.count + n) u 0 (text ++ (front ++ more)) (ts ++ token_of kind s.count n ∷ [])) (left more)
        (token_more s.count n (front ++ more) kind (is_there more) 0 (text ++ (front ++ more)) ts (cut_behind (front ++ more))))

    pub text_there : bytes_of (text ++ front) (token_of kind s.count n) ≡ take n piece
    text_there =
        let cut : Cut s.count (take n piece ++ (get_or piece n 0 ∷ [])) 0 (text ++ front) ts =
        subst (λ (u : List ℕ). Cut s.count u 0 (text ++ front) ts) (sym (append-nil front) ∙ seam []) (cut_behind front) in
        subst (λ (m : ℕ). bytes_of (text ++ front) (token_of kind s.count m) ≡ take n piece) length_before
        (bytes_there (text ++ front) ts s.count (take n piece) (get_or piece n 0 ∷ []) kind cut)

    pub count_there : s.count + n + 1 ≡ length (text ++ front)
    count_there = omega (arith, has.count, length-append text front, in_front)

    pub has_whole : (next : TokenStream) → next.run ≡ runs.Space → next.start ≡ s.count + n → next.count ≡ s.count + n + 1 → Has next (text ++ front) (ts ++ token_of kind s.count n ∷ [])
    has_whole next run start count = record {
      rest = get_or piece n 0 ∷ [];
      run = record {
        run = subst (λ (r : Run). IsRun r (get_or piece n 0 ∷ [])) (sym run) (inr (get_or piece n 0, refl, white));
        word = λ e. absurd (let f = sym e ∙ ap is_word run in cc);
        place = omega (arith, start, count);
      };
      stands = subst (λ (m : ℕ). Stands (text ++ front) (ts ++ token_of kind s.count n ∷ []) m (get_or piece n 0 ∷ [])) (sym start) stands_whole;
      count = count ∙ count_there;
    }
