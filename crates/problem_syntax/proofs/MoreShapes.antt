-- One more name behind a comma, in the list of an object's shapes.
use Rattle.std.proofs.Common.{◌≡◌, ℕ, List, [], ◌∷◌, ◌++◌, drop, Some, Result, Ok, Err, true, sym, ap, ◌∙◌, subst}
use Rattle.std.specs.Prelude.{if◌then◌else◌}
use Rattle.std.specs.Borrow.{Bor}
use Rattle.std.proofs.lemmas.Bool.{and_parts}
use Rattle.geo_tokens.specs.declared.token.Token.{Token}
use Rattle.geo_tokens.specs.declared.token.Sym.TheVariants as symbols
use Rattle.geo_tokens.specs.declared.stop.Stop.{Stop}
use Rattle.geo_tokens.specs.Words.{names, symbol}
use Rattle.geo_tokens.specs.Reading.{Read, Got, Wrong, ◌>>=◌, next_is}
use Rattle.geo_tokens.specs.Gives.{Gives, Adds}
use Rattle.problem_syntax.proofs.EndedLoop.{with_items, item_goes_on}
use Rattle.rule_syntax.specs.declared.tree.PlacedName.{PlacedName}
use Rattle.rule_syntax.specs.Grammar.{Named}
use Rattle.rule_syntax.specs.Reading.{Reader, named_at}
use Rattle.rule_syntax.proofs.Expressions.{named_good}
use Rattle.problem_data.specs.Grammar.{ShapeList}
use Rattle.problem_syntax.specs.Reading.{next_at, absent_at, next_is_name, more_shapes_at}

-- a name was found, and put behind those before
added : (found : Result (PlacedName × Bor (List Token)) Stop) (before items : List PlacedName) (rest : Bor (List Token)) (r : Read PlacedName) → Adds found before items (Ok rest) → Gives (λ a. a) found r
    → (a : PlacedName) × (r ≡ Got (Some a) rest.now) × (items ≡ before ++ a ∷ [])
added (Ok x) before items rest r h g = (x.0, g ∙ ap (Got (Some x.0)) (sym h.1), h.0)
added (Err e) before items rest r h g = cc

behind_comma : {A : Type 0} (w : List Token) (r : Reader A) → next_is (symbol symbols.Comma) w ≡ true → next_at r w ≡ r (drop 1 w)
behind_comma [] r e = absurd cc
behind_comma (t ∷ w) r e = ap (λ b. (if b then Got (Some t) w else Wrong (t ∷ w)) >>= λ mark rest. r rest) e

pub one_more_shape : (text : List ℕ) (found : Result (PlacedName × Bor (List Token)) Stop) (before items : List PlacedName) (w : List Token) (rest : Bor (List Token)) (total : Read ShapeList) → next_is_name w ≡ true
    → Adds found before items (Ok rest) → Gives (λ a. a) found (next_at (named_at text) w) → with_items before (more_shapes_at text w) ≡ total → with_items items (more_shapes_at text rest.now) ≡ total
one_more_shape text found before items w rest total test h g so_far =
    let a = added found before items rest (next_at (named_at text) w) h g in
    let both = and_parts (next_is (symbol symbols.Comma) w) (next_is names (drop 1 w)) test in
    subst (λ (xs : List PlacedName). with_items xs (more_shapes_at text rest.now) ≡ total) (sym a.2)
    (item_goes_on (symbol symbols.Comma) (Named text) (named_at text) absent_at names [] (named_good text) before w rest.now a.0 total both.0 both.1 (sym (behind_comma w (named_at text) both.0) ∙ a.1) so_far)
