use Rattle.std.proofs.Common.{◌≡◌, ◌∙◌, ◌++◌, [], ℕ, List, Bool, Some, sym, ap}
use Rattle.std.specs.Bool.{IsTrue}
use Rattle.std.specs.Str.{bytes_eq}
use Rattle.std.proofs.lemmas.Slice.Eq.{bytes_eq-Decides}
use Rattle.layout_text.specs.Block.{token_of}
use Rattle.layout_text.proofs.token.is_token.Goals as goal

-- what a sink that was empty has seen of a text
seen_is : (start now seen token : List ℕ) → Some start ≡ Some [] → now ≡ start ++ token → Some now ≡ Some seen → seen ≡ token
seen_is start now seen token s w b =
    let empty : start ≡ [] = cc in
    let all : now ≡ seen = cc in
    sym all ∙ w ∙ ap (λ (z : List ℕ). z ++ token) empty

same : (r : Bool) (seen word token : List ℕ) → r ≡ bytes_eq seen word → seen ≡ token → (IsTrue r → word ≡ token) × (word ≡ token → IsTrue r)
same r seen word token e f = (λ h. sym ((bytes_eq-Decides seen word).0 (sym e ∙ h)) ∙ f, λ h. e ∙ (bytes_eq-Decides seen word).1 (f ∙ sym h))

pub returns-in-Ok : goal.returns-in-Ok
returns-in-Ok c =
    same c.eq.result c.bytes.result.now c.args.word.now (token_of c.args.layout.now) c.eq.ensures
    (seen_is c.new-sink.result.bytes.items _ c.bytes.result.now _ c.new-sink.ensures (c.in-Ok.ensures {u = tt}).bytes c.bytes.ensures)
