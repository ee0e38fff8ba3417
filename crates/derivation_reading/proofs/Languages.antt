-- Words one behind the other.
use Rattle.std.proofs.Common.{ℕ, List, [], ◌∷◌, ◌++◌, refl, sym, ap, ◌∙◌, append_assoc}
use Rattle.std.specs.Prelude.{codes}
use Rattle.derivation_reading.specs.declared.symbol.Part.{Part}
use Rattle.derivation_reading.specs.declared.symbol.Part.TheVariants.{Upto, From}
use Rattle.derivation_reading.specs.Terminals.{Lexeme}
use Rattle.derivation_reading.specs.Language.{Words, One, ◌⨾◌}

-- the word of a part
abbrev pub part_word : Part → List ℕ
part_word Upto = codes "upto"
part_word From = codes "from"

-- a token in front of others
pub put : (P : Lexeme → Type 0) (Q : Words) (w : Lexeme) (ws : List Lexeme) → P w → Q ws → (One P ⨾ Q) (w ∷ ws)
put P Q w ws p q = record { first = w ∷ []; second = ws; front = record { token = w; is = p; words = refl }; behind = q; words = refl }

pub to_right : (P Q R : Words) (ws : List Lexeme) → ((P ⨾ Q) ⨾ R) ws → (P ⨾ (Q ⨾ R)) ws
to_right P Q R ws h =
    let f = h.front in
    record {
      first = f.first;
      second = f.second ++ h.second;
      front = f.front;
      behind = record { first = f.second; second = h.second; front = f.behind; behind = h.behind; words = refl };
      words = h.words ∙ ap (λ (x : List Lexeme). x ++ h.second) f.words ∙ append_assoc f.first f.second h.second;
    }

pub to_left : (P Q R : Words) (ws : List Lexeme) → (P ⨾ (Q ⨾ R)) ws → ((P ⨾ Q) ⨾ R) ws
to_left P Q R ws h =
    let b = h.behind in
    record {
      first = h.first ++ b.first;
      second = b.second;
      front = record { first = h.first; second = b.first; front = h.front; behind = b.front; words = refl };
      behind = b.behind;
      words = h.words ∙ ap (λ (x : List Lexeme). h.first ++ x) b.words ∙ sym (append_assoc h.first b.first b.second);
    }
