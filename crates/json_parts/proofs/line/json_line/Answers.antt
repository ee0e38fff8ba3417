use Rattle.std.proofs.Common.{◌≡◌, ◌++◌, ◌∷◌, [], ap, ◌∙◌, rules}
use Rattle.std.specs.Prelude.{string_bytes}
use Rattle.serde_json.specs.Read.{read}
use Rattle.json_parts.proofs.Trailing.{read_fed}
use Rattle.json_parts.proofs.line.json_line.Goals as goal

pub returns-clause-again : goal.returns-clause-again
returns-clause-again c = λ flat.
    let is : c.into_bytes.result.items ≡ string_bytes c.in_ok-text.text ++ 10 ∷ [] = search rules in
    ap read is ∙ read_fed (string_bytes c.in_ok-text.text) ∙ c.in_ok-text.ensures.reads_back flat
