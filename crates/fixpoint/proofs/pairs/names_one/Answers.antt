use Rattle.std.proofs.Common.{◌≡◌, ◌≤◌, ◌-◌, ℕ, length, ap, sym, subst, inl, inr, arith}
use Rattle.std.proofs.lemmas.Bool.{cases_eq}
use Rattle.fixpoint.specs.Pairs.{names_at}
use Rattle.fixpoint.proofs.Linking.{names_get, names_past}
use Rattle.fixpoint.proofs.pairs.names_one.Goals as goal
use Rattle.fixpoint.proofs.pairs.names_one.Goals.{else-k-named-via-then-k-named+else-len-gt1, else-k-named-via-else-k-named}

pub loop-i-preserved : goal.loop-i-preserved
loop-i-preserved c =
    let named = c.args.named.now in
    let i = c.loop-i.i in
    let k = c.saturating_sub-k.result in
    let same : k ≡ i - 1 = c.saturating_sub-k.ensures in
    let here : length (names_at named k) ≤ 1 =
    elim c.else-k-named.branch [
      | else-k-named-via-then-k-named+else-len-gt1 w ↦
          let v = w.index-named-k.result in
          let items = names_get named k v w.if-k-named.true in
          let same_length = ap (λ (x : _). length x.items) w.index-named-k.is in
          omega (arith, ap length items, same_length, w.len.ensures, w.if-len-gt1.false)
      | else-k-named-via-else-k-named w ↦ omega (arith, ap length (names_past named k w.if-k-named.false))
    ] in
    let at : length (names_at named (i - 1)) ≤ 1 = subst (λ (z : ℕ). length (names_at named z) ≤ 1) same here in
    λ j low high. elim (cases_eq j i) [
      | inl e ↦ subst (λ (z : ℕ). length (names_at named (z - 1)) ≤ 1) (sym e) at
      | inr ne ↦ c.loop-i.invariant j low (omega (arith, high, ne))
    ]
