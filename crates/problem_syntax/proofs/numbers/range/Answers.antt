use Rattle.std.proofs.Common.{◌≡◌, List, refl, sym, ap, ◌∙◌, Result, Ok, Err, Some}
use Rattle.std.specs.Borrow.{Bor}
use Rattle.geo_tokens.specs.declared.token.Token.{Token}
use Rattle.geo_tokens.specs.declared.token.Sym.TheVariants as symbols
use Rattle.geo_tokens.specs.declared.stop.Stop.{Stop}
use Rattle.geo_tokens.specs.Words.{symbol}
use Rattle.geo_tokens.specs.Reading.{Got, token_at}
use Rattle.geo_tokens.specs.Gives.{Gives, Follows}
use Rattle.problem_data.specs.declared.tree.Int.{Int}
use Rattle.problem_syntax.specs.Reading.{int_at, range_at}
use Rattle.problem_syntax.proofs.numbers.range.Goals as goal

-- the lower end was read, and the dots behind it
record Lower (w rest : List Token) (low : Int) : Type 0 where
  end : List Token
  dots : Token
  is_end : int_at w ≡ Got (Some low) end
  is_dots : token_at (symbol symbols.DotDot) end ≡ Got (Some dots) rest

lower : (found : Result (Int × Bor (List Token)) Stop) (low : Int) (rest : Bor (List Token)) (w : List Token)
    → Follows (symbol symbols.DotDot) found (Ok (low, rest)) → Gives (λ i. i) found (int_at w) → Lower w rest.now low
lower (Ok x) low rest w h g = record { end = x.1.now; dots = h.0; is_end = g ∙ ap (λ (v : Int). Got (Some v) x.1.now) (sym h.2); is_dots = h.1 }
lower (Err e) low rest w h g = cc

pub returns : goal.returns
unfolding range_at
returns c =
    let l = lower c.int.result c.in_ok-low.low c.in_ok-low.rest c.args.tokens.now c.in_ok-low.ensures c.int.ensures in
    rw l.is_end (rw l.is_dots (rw c.in_ok-high.ensures refl))
