use Rattle.std.proofs.Common.{◌≡◌, ◌≤◌, ◌<◌, List, [], ◌∷◌, length, get_or, map, string_bytes, sym, subst, arith}
use Rattle.std.specs.Prelude.{OnErr}
use Rattle.command_input.specs.Words.{HasNoForm}
use Rattle.command_input.proofs.words.read_words.Goals as goal

-- a list of four elements
four : {X : Type 0} (xs : List X) (a b c d : X) → 4 ≤ length xs → length xs < 5 → a ≡ get_or xs 0 a → b ≡ get_or xs 1 b → c ≡ get_or xs 2 c → d ≡ get_or xs 3 d → xs ≡ a ∷ b ∷ c ∷ d ∷ []
four [] a b c d l m e f g h = absurd (omega arith)
four (x ∷ []) a b c d l m e f g h = absurd (omega arith)
four (x ∷ y ∷ []) a b c d l m e f g h = absurd (omega arith)
four (x ∷ y ∷ z ∷ []) a b c d l m e f g h = absurd (omega arith)
four (x ∷ y ∷ z ∷ w ∷ []) a b c d l m e f g h = λ i. sym e i ∷ sym f i ∷ sym g i ∷ sym h i ∷ []
four (x ∷ y ∷ z ∷ w ∷ v ∷ xs) a b c d l m e f g h = absurd (omega arith)

pub returns-in-len4-clause-none : goal.returns-in-len4-clause-none
returns-in-len4-clause-none c =
    let e = four c.args.words.now c.name-item-then-words-lt5.result c.most-item.result c.budget-item.result c.token-item.result c.in-len4.len_at_least c.in-len4.len_below c.name-item-then-words-lt5.is c.most-item.is c.budget-item.is c.token-item.is in
    subst (λ (ws : List _). OnErr c.read_four.result (HasNoForm (map string_bytes ws))) (sym e) c.read_four.ensures.none
