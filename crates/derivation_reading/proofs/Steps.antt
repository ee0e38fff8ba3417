-- The steps of the machine: one run behind another, one step more, what is left behind a front part, and that it goes in one way.
use Rattle.std.proofs.Common.{◌≡◌, List, [], ◌∷◌, ◌++◌, refl, sym, ap, ◌∙◌, append_assoc, subst}
use Rattle.std.proofs.lemmas.List.{append-nil}
use Rattle.derivation.specs.declared.event.Event.{Event}
use Rattle.derivation_reading.specs.declared.symbol.Symbol.{Symbol}
use Rattle.derivation_reading.specs.Terminals.{Lexeme}
use Rattle.derivation_reading.specs.Grammar.{Lookup, Next, Goes, at}
use Rattle.derivation_reading.specs.Machine.{Leaves, here, on}

-- ---- where a list ends

-- behind no symbol comes no token
pub nothing_behind : {L : Lookup} {left : List Symbol} {w : Lexeme} {ws : List Lexeme} {es : List Event} → Leaves L left [] (w ∷ ws) es → ⊥
nothing_behind (here _ _ _ a b c) = absurd cc

pub only_empty : {L : Lookup} {left : List Symbol} {ws : List Lexeme} {es : List Event} → Leaves L left [] ws es → (left ≡ []) × (ws ≡ []) × (es ≡ [])
only_empty (here _ _ _ a b c) = (sym a, b, c)

-- without a token nothing changes
pub none_taken : {L : Lookup} {left start : List Symbol} {es : List Event} → Leaves L left start [] es → (start ≡ left) × (es ≡ [])
none_taken (here _ _ _ a b c) = (a, c)

pub at_once : (L : Lookup) (ss : List Symbol) → Leaves L ss ss [] []
at_once L ss = here ss [] [] refl refl refl

-- ---- one behind the other

-- the step at the first token, and those behind it
pub first_step : {L : Lookup} {left ss : List Symbol} {s : Symbol} {w : Lexeme} {ws : List Lexeme} {gs : List Event} → Leaves L left (s ∷ ss) (w ∷ ws) gs
    → (more : List Symbol) × (ds : List Event) × (es : List Event) × (at L s w ≡ Goes more ds) × Leaves L left (more ++ ss) ws es × (gs ≡ ds ++ es)
first_step (here _ _ _ a b c) = absurd cc
first_step (on _ _ more _ ds es _ _ a d e) = (more, ds, es, a, d, e)

-- the tokens of two runs, with the events of both
pub joined : {L : Lookup} {left middle start : List Symbol} (u v : List Lexeme) (es fs : List Event) → Leaves L middle start u es → Leaves L left middle v fs → Leaves L left start (u ++ v) (es ++ fs)
joined {L} {left} u v es fs (here ss _ _ a b c) d =
    subst (λ (x : List Lexeme). Leaves L left ss (x ++ v) (es ++ fs)) (sym b)
    (subst (λ (x : List Event). Leaves L left ss v (x ++ fs)) (sym c) (subst (λ (x : List Symbol). Leaves L left x v fs) (sym a) d))
joined u v es fs (on s w more ss ds es' _ ws a d e) f =
    on s w more ss ds (es' ++ fs) (es ++ fs) (ws ++ v) a (joined ws v es' fs d f) (ap (λ (x : List Event). x ++ fs) e ∙ append_assoc ds es' fs)

-- a step of one token
pub alone : {L : Lookup} {more ss : List Symbol} {ds : List Event} (s : Symbol) (w : Lexeme) → at L s w ≡ Goes more ds → Leaves L (more ++ ss) (s ∷ ss) (w ∷ []) ds
alone {L} {more} {ss} {ds} s w a = on s w more ss ds [] ds [] a (at_once L (more ++ ss)) (sym (append-nil ds))

-- one token more, with the events that are whole with it
pub one_more : {L : Lookup} {start more ss : List Symbol} {s : Symbol} {ws : List Lexeme} {es ds : List Event} (w : Lexeme) → Leaves L (s ∷ ss) start ws es → at L s w ≡ Goes more ds
    → Leaves L (more ++ ss) start (ws ++ w ∷ []) (es ++ ds)
one_more {s} {ws} {es} {ds} w d a = joined ws (w ∷ []) es ds d (alone s w a)

-- ---- in one way

same_step : {more others : List Symbol} {ds fs : List Event} {x : Next} → x ≡ Goes more ds → x ≡ Goes others fs → (more ≡ others) × (ds ≡ fs)
same_step a b = (cc, cc)

-- from the same place, by the other's step
other_step : {L : Lookup} {left ss more : List Symbol} {s : Symbol} {w : Lexeme} {ws : List Lexeme} {ds gs : List Event} → Leaves L left (s ∷ ss) (w ∷ ws) gs → at L s w ≡ Goes more ds
    → (es : List Event) × Leaves L left (more ++ ss) ws es × (gs ≡ ds ++ es)
other_step {L} {left} {ss} {ws} f a =
    let r = first_step f in
    let same = same_step r.3 a in
    (r.2, subst (λ (x : List Symbol). Leaves L left (x ++ ss) ws r.2) same.0 r.4, r.5 ∙ ap (λ (x : List Event). x ++ r.2) same.1)

-- what stands behind a run goes on from what that one leaves
pub rest_of : {L : Lookup} {left middle start : List Symbol} {u : List Lexeme} {es gs : List Event} (v : List Lexeme) → Leaves L middle start u es → Leaves L left start (u ++ v) gs
    → (fs : List Event) × (gs ≡ es ++ fs) × Leaves L left middle v fs
rest_of {L} {left} {gs} v (here ss _ _ a b c) f =
    (gs, ap (λ (x : List Event). x ++ gs) (sym c), subst (λ (x : List Symbol). Leaves L left x v gs) a (subst (λ (x : List Lexeme). Leaves L left ss (x ++ v) gs) b f))
rest_of v (on s w more ss ds es' gs ws a d e) f =
    let r = other_step f a in
    let q = rest_of v d r.1 in
    (q.0, r.2 ∙ ap (λ (x : List Event). ds ++ x) q.1 ∙ sym (append_assoc ds es' q.0) ∙ ap (λ (x : List Event). x ++ q.0) (sym e), q.2)

-- tokens leave one list of symbols, with one list of events
pub same_left : {L : Lookup} {a b start : List Symbol} {ws : List Lexeme} {es fs : List Event} → Leaves L a start ws es → Leaves L b start ws fs → (a ≡ b) × (es ≡ fs)
same_left {L} {b} {fs} (here ss _ _ p q r) f = let n = none_taken (subst (λ (x : List Lexeme). Leaves L b ss x fs) q f) in (sym p ∙ n.0, r ∙ sym n.1)
same_left (on s w more ss ds es' gs ws a d e) f =
    let r = other_step f a in
    let q = same_left d r.1 in
    (q.0, e ∙ ap (λ (x : List Event). ds ++ x) q.1 ∙ sym r.2)
