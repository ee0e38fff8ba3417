use Rattle.std.proofs.Common.{◌≡◌, ℕ, ◌+◌, ◌∷◌, [], ◌++◌, length, take, sym, ap, ◌∙◌, subst, arith}
use Rattle.std.proofs.lemmas.List.{length-take}
use Rattle.geo_tokens.specs.declared.token.Token.{Token}
use Rattle.geo_tokens.specs.Bytes.{bytes_of}
use Rattle.geo_tokens.proofs.Cuts.{token_of}
use Rattle.token_stream.specs.Stream.{Has, token_at}
use Rattle.token_stream.proofs.Turns.{name_short}
use Rattle.token_stream.proofs.Wholes.{has_whole, count_there, text_there}
use Rattle.token_stream.proofs.stream.TokenStream.take_whole.Goals as goal

pub returns-clause-taken : goal.returns-clause-taken
returns-clause-taken c = λ text ts has.
    let s = c.args.self.now in
    let piece = c.args.piece.now in
    let kind = c.in_ok-kind.kind in
    let n = c.in_ok-kind.n in
    let whole = c.in_ok-kind.ensures {u = tt} in
    let next = c.pass_over.new.self in
    let passed = c.pass_over.ensures in
    let size : length (take n piece) ≡ n = omega (arith, length-take n piece, whole.inside) in
    let token : c.pass_over.result ≡ token_of kind s.count n = passed.token ∙ ap (λ (m : ℕ). token_at kind s.count (s.count + m)) size in
    let start : next.start ≡ s.count + n = omega (arith, passed.start, size) in
    let count : next.count ≡ s.count + n + 1 = omega (arith, passed.count, size) in (
      subst (λ (t : Token). Has next (text ++ take (n + 1) piece) (ts ++ t ∷ [])) (sym token)
          (has_whole s text ts has whole.space piece kind n whole.token whole.inside whole.white next passed.run start count),
      ap (λ (t : Token). t.end + 1) token ∙ count_there s text ts has whole.space piece kind n whole.token whole.inside whole.white,
      λ e.
          let name = ap (λ (t : Token). t.kind) (sym token) ∙ e in
          passed.name name (let short = name_short kind n piece name whole.token in omega (arith, size, short))
          ∙ sym (text_there s text ts has whole.space piece kind n whole.token whole.inside whole.white)
          ∙ ap (λ (t : Token). bytes_of (text ++ take (n + 1) piece) t) (sym token),
    )
