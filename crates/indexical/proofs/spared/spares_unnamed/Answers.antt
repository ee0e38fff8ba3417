use Rattle.std.proofs.Common.{◌≡◌, Bool, true, false, not, refl, sym, ◌∙◌}
use Rattle.std.proofs.lemmas.Bool.{false≢true}
use Rattle.geo_conditions.specs.Conditions.{possible}
use Rattle.indexical.specs.Names.{names}
use Rattle.indexical.proofs.Unnamed.{spares_unnamed}
use Rattle.indexical.proofs.spared.spares_unnamed.Goals as goal

some : (b r : Bool) → not r ≡ true → r ≡ not b → b ≡ true
some true r h e = refl
some false r h e = cc

never : (b : Bool) → b ≡ true → not b ≡ true → ⊥
never true e h = false≢true h
never false e h = false≢true e

pub returns-then-not-is_named : goal.returns-then-not-is_named
returns-then-not-is_named g c = λ h s.
    let x = c.args.c.now in
    let S = c.args.s.now in
    let unnamed : names c.args.o.0 x ≡ false = sym c.is_named.ensures ∙ c.if-not-is_named.true in
    let here : possible x S ≡ true = some (possible x S) c.refuted.result h c.refuted.ensures in
    spares_unnamed x S c.args.o.0 s unnamed here

pub returns-else-not-is_named : goal.returns-else-not-is_named
returns-else-not-is_named g c = λ h s. absurd (never c.is_named.result c.if-not-is_named.false h)
