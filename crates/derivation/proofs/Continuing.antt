-- Lists of events that grow.
use Rattle.std.proofs.Common.{◌≡◌, ◌≤◌, ◌+◌, ◌-◌, ◌^◌, min, ℕ, Bool, true, false, List, [], ◌∷◌, ◌++◌, refl, sym, ap, ◌∙◌, arith, subst, Result, Ok, Err, OnOk, OnErr, IsOk, IsErr, is_ok, is_err}
use Rattle.std.proofs.lemmas.List.{append-nil, append_assoc}
use Rattle.derivation.specs.declared.event.Event.{Event}
use Rattle.derivation.specs.Events.{Continues, Growth}

-- a list that stays
pub continues_same : (a b : List Event) → b ≡ a → Continues a b
continues_same a b e = ([], e ∙ sym (append-nil a))

-- one growth after another
pub continues_on : (a b c : List Event) → Continues a b → Continues b c → Continues a c
continues_on a b c h k = (h.0 ++ k.0, k.1 ∙ ap (λ (l : List Event). l ++ k.0) h.1 ∙ append_assoc a h.0 k.0)

-- nothing failed, and events went on
pub growth_done : {k : Bool} {a b : List Event} {m n : ℕ} → (k ≡ true → Continues a b) → m ≤ n → Growth k a b m n true
growth_done f h = record { events = f; refusals = h; refused = λ q. absurd (cc); no_record = λ q. refl }

-- nothing changed
pub growth_none : (k : Bool) (a : List Event) (m : ℕ) → Growth k a a m m true
growth_none k a m = growth_done (λ q. continues_same a a refl) (omega arith)

-- an event was added, or refused
pub growth_added : {k : Bool} {a b : List Event} {m n : ℕ} → (e : Event) → (k ≡ true → b ≡ a ++ e ∷ []) → m ≤ n → Growth k a b m n true
growth_added e f h = growth_done (λ q. (e ∷ [], f q)) h

pub growth_refused : {k : Bool} {a b : List Event} {m n : ℕ} → (k ≡ true → b ≡ a) → m ≤ n → min (m + 1) (2 ^ 64 - 1) ≤ n → (k ≡ false → false ≡ true) → Growth k a b m n false
growth_refused {a = a} {b = b} f h r none = record { events = λ q. continues_same a b (f q); refusals = h; refused = λ q. r; no_record = none }

-- one call after another
pub growth_on : {k done : Bool} {a b c : List Event} {m n o : ℕ} → Growth k a b m n true → Growth k b c n o done → Growth k a c m o done
growth_on {k = k} {done = done} {a = a} {b = b} {c = c} {m = m} {n = n} {o = o} g h = record {
  events = λ e. continues_on a b c (g.events e) (h.events e);
  refusals = omega (arith, g.refusals, h.refusals);
  refused = λ e. let r : min (n + 1) (2 ^ 64 - 1) ≤ o = h.refused e in omega (arith, r, g.refusals);
  no_record = h.no_record;
}

-- the same behind a call that refused no more than it counted
pub growth_later : {k done : Bool} {a b : List Event} {m n o : ℕ} → m ≤ n → Growth k a b n o done → Growth k a b m o done
growth_later {a = a} h g = growth_on (growth_done (λ q. continues_same a a refl) h) g

-- a failure handed on
pub growth_failed : {T E : Type 0} {k : Bool} {a b : List Event} {m n : ℕ} → Growth k a b m n false → (r : Result T E) → IsErr r → Growth k a b m n (is_ok r)
growth_failed g (Ok x) e = absurd (cc)
growth_failed g (Err x) e = g

-- the same record behind it
pub growth_as : {k done : Bool} {a b c : List Event} {m n o : ℕ} → Growth k a b m n done → c ≡ b → o ≡ n → Growth k a c m o done
growth_as {k = k} {done = done} {a = a} {b = b} {m = m} {o = o} g e f = subst (λ (x : List Event). Growth k a x m o done) (sym e) (subst (λ (x : ℕ). Growth k a b m x done) (sym f) g)

-- what adding an event makes of a record
pub growth_of_add : {T E : Type 0} {k : Bool} {a b : List Event} {m n : ℕ} → (e : Event) → (r : Result T E) → OnOk r (k ≡ true → b ≡ a ++ e ∷ []) → OnErr r (k ≡ true → b ≡ a) → OnErr r (min (m + 1) (2 ^ 64 - 1) ≤ n) → m ≤ n → (k ≡ false → IsOk r) → Growth k a b m n (is_ok r)
growth_of_add e (Ok x) f g t h l = growth_added e f h
growth_of_add e (Err x) f g t h l = growth_refused g h t l

-- what is known of a call that failed, and of one that did not
pub growth_err : {T E : Type 0} {k : Bool} {a b : List Event} {m n : ℕ} → (r : Result T E) → Growth k a b m n (is_ok r) → IsErr r → Growth k a b m n false
growth_err (Ok x) g e = absurd (cc)
growth_err (Err x) g e = g

pub growth_succeeded : {T E : Type 0} {k : Bool} {a b : List Event} {m n : ℕ} → (r : Result T E) → Growth k a b m n (is_ok r) → is_err r ≡ false → Growth k a b m n true
growth_succeeded (Ok x) g e = g
growth_succeeded (Err x) g e = absurd (cc)
