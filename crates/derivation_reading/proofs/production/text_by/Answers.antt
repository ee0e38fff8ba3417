use Rattle.std.proofs.Common.{◌≡◌, ◌∙◌, ◌∷◌, [], ℕ, List, codes, false, ap, sym}
use Rattle.std.specs.Str.{bytes_eq}
use Rattle.derivation_reading.specs.declared.symbol.Symbol.{Symbol}
use Rattle.derivation_reading.specs.declared.symbol.Symbol.TheVariants.{Qed}
use Rattle.derivation_reading.specs.Grammar.{goes, node_by, text_by}
use Rattle.derivation_reading.proofs.production.text_by.Goals as goal

-- a word that begins a node begins the text
begun : (w : List ℕ) (s : Symbol) → false ≡ bytes_eq w (codes "none") → ((more : List Symbol) → goes (s ∷ more) ≡ node_by w more) → goes (s ∷ Qed ∷ []) ≡ text_by w
begun w s other h = rw (sym other) (h (Qed ∷ []))

pub returns-in-Some : goal.returns-in-Some
returns-in-Some c =
    begun c.args.name.now c.in-Some.first (c.if-are_same.ensures {u = tt} ∙ ap (λ (v : List ℕ). bytes_eq c.args.name.now v) c.as_slice.ensures) (c.in-Some.ensures {u = tt})
