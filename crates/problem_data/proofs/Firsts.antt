-- The first of some faults: of two kinds of faults, of one fault that may be there, and that there is one first alone.
use Rattle.std.proofs.Common.{◌≡◌, ℕ, ◌≤◌, Bool, true, false, ◌&&◌, ◌||◌, Option, None, ◌⊎◌, refl, sym, ap, ◌∙◌, subst, arith}
use Rattle.std.proofs.lemmas.Bool.Decides.{nat_tests}
use Rattle.std.specs.Prelude.{if◌then◌else◌, ◌==◌, nat_lt, nat_le, not}
use Rattle.geo_tokens.specs.declared.fault.FaultWord.{FaultWord}
use Rattle.geo_tokens.specs.declared.fault.FaultWord.TheVariants as words
use Rattle.geo_tokens.specs.First.{IsOrdering}
use Rattle.geo_tokens.proofs.Firsts as firsts
use Rattle.problem_data.specs.declared.fault.Fault.{Fault}
use Rattle.problem_data.specs.Least.{fault, word_rank, is_after, IsFirst, IsLeast, earlier, fault_if}

-- ---- one place and rank after another, in plain numbers

after_turn : (p r q s : ℕ) → (nat_lt q p || ((p == q) && nat_lt s r)) ≡ true → (nat_lt p q || ((q == p) && nat_lt r s)) ≡ false
after_turn p r q s h = grind (arith, nat_tests)

after_chain : (p r q s u v : ℕ) → (nat_lt q p || ((p == q) && nat_lt s r)) ≡ false → (nat_lt u q || ((q == u) && nat_lt v s)) ≡ false → (nat_lt u p || ((p == u) && nat_lt v r)) ≡ false
after_chain p r q s u v h g = grind (arith, nat_tests)

same_place : (p r q s : ℕ) → (nat_lt q p || ((p == q) && nat_lt s r)) ≡ false → (nat_lt p q || ((q == p) && nat_lt r s)) ≡ false → p ≡ q
same_place p r q s h g = grind (arith, nat_tests)

same_rank : (p r q s : ℕ) → (nat_lt q p || ((p == q) && nat_lt s r)) ≡ false → (nat_lt p q || ((q == p) && nat_lt r s)) ≡ false → r ≡ s
same_rank p r q s h g = grind (arith, nat_tests)

-- ---- of faults

not_both : (f g : Fault) → is_after f g ≡ true → is_after g f ≡ false
not_both f g h = after_turn f.place (word_rank f.word) g.place (word_rank g.word) h

chain : (f g h : Fault) → is_after f g ≡ false → is_after g h ≡ false → is_after f h ≡ false
chain f g h a b = after_chain f.place (word_rank f.word) g.place (word_rank g.word) h.place (word_rank h.word) a b

-- a word by its rank
word_at : ℕ → FaultWord
word_at n =
    if n == 0 then words.Limit else if n == 1 then words.Twice else if n == 2 then words.Unknown else if n == 3 then words.Range else
    if n == 4 then words.Size else if n == 5 then words.Order else if n == 6 then words.Byte else if n == 7 then words.Number else
    if n == 8 then words.Name else if n == 9 then words.Syntax else if n == 10 then words.Deep else if n == 11 then words.Kind else
    if n == 12 then words.Args else if n == 13 then words.Expand else if n == 14 then words.Product else if n == 15 then words.Overflow else
    if n == 16 then words.Ground else if n == 17 then words.Token else words.Long

word_again : (w : FaultWord) → word_at (word_rank w) ≡ w
unfolding word_at
word_again words.Limit = refl
word_again words.Twice = refl
word_again words.Unknown = refl
word_again words.Range = refl
word_again words.Size = refl
word_again words.Order = refl
word_again words.Byte = refl
word_again words.Number = refl
word_again words.Name = refl
word_again words.Syntax = refl
word_again words.Deep = refl
word_again words.Kind = refl
word_again words.Args = refl
word_again words.Expand = refl
word_again words.Product = refl
word_again words.Overflow = refl
word_again words.Ground = refl
word_again words.Token = refl
word_again words.Long = refl

same_word : (v w : FaultWord) → word_rank v ≡ word_rank w → v ≡ w
same_word v w e = sym (word_again v) ∙ ap word_at e ∙ word_again w

-- two faults of which neither comes after the other are the same
pub same_fault : (f g : Fault) → is_after f g ≡ false → is_after g f ≡ false → f ≡ g
same_fault f g a b =
    let e : f.place ≡ g.place = same_place f.place (word_rank f.word) g.place (word_rank g.word) a b in
    let d : f.word ≡ g.word = same_word f.word g.word (same_rank f.place (word_rank f.word) g.place (word_rank g.word) a b) in
    λ i. record { place = e i; word = d i }

ordering : IsOrdering is_after
ordering = record { turn = not_both; chain = chain; same = same_fault }

pub one_first : (P : Fault → Type 0) (f g : Fault) → IsFirst P f → IsFirst P g → f ≡ g
one_first = firsts.one_first is_after ordering

-- the first of the faults of two kinds
pub least_or : (P Q : Fault → Type 0) (a b : Option Fault) → IsLeast P a → IsLeast Q b → IsLeast (λ f. P f ⊎ Q f) (earlier a b)
least_or = firsts.least_or is_after ordering

-- the first fault of the same faults
pub least_same : (P Q : Fault → Type 0) (o : Option Fault) → ((f : Fault) → P f → Q f) → ((f : Fault) → Q f → P f) → IsLeast P o → IsLeast Q o
least_same = firsts.least_same is_after

-- a fault that is there where the test says so
pub least_if : (C : Type 0) (b : Bool) (p : ℕ) (w : FaultWord) → (b ≡ true → C) → (C → b ≡ true) → IsLeast (λ f. C × (f ≡ fault p w)) (fault_if b p w)
least_if C true p w to back = record { there = (to refl, refl); first = λ g h. subst (λ (x : Fault). is_after (fault p w) x ≡ false) (sym h.1) (firsts.not_self is_after ordering (fault p w)) }
least_if C false p w to back = λ f h. let e : false ≡ true = back h.0 in cc

-- no fault
pub least_none : (P : Fault → Type 0) → ((f : Fault) → P f → ⊥) → IsLeast P None
least_none P h = h

-- what a call of `earlier` gave
pub joined : (P Q : Fault → Type 0) (a b o : Option Fault) → o ≡ earlier a b → IsLeast P a → IsLeast Q b → IsLeast (λ f. P f ⊎ Q f) o
joined P Q a b o e h g = subst (λ (z : Option Fault). IsLeast (λ f. P f ⊎ Q f) z) (sym e) (least_or P Q a b h g)

-- what a call of `fault_if` gave
pub tested : (C : Type 0) (b : Bool) (p q : ℕ) (w : FaultWord) (o : Option Fault) → o ≡ fault_if b p w → p ≡ q → (b ≡ true → C) → (C → b ≡ true) → IsLeast (λ f. C × (f ≡ fault q w)) o
tested C b p q w o e d to back =
    subst (λ (z : Option Fault). IsLeast (λ f. C × (f ≡ fault q w)) z) (sym e) (subst (λ (r : ℕ). IsLeast (λ f. C × (f ≡ fault r w)) (fault_if b p w)) d (least_if C b p w to back))

pub at_least : (most i n : ℕ) → n ≡ i → nat_le most i ≡ true → most ≤ n
at_least most i n e h = grind (arith, nat_tests)

pub at_least_back : (most i n : ℕ) → n ≡ i → most ≤ n → nat_le most i ≡ true
at_least_back most i n e h = grind (arith, nat_tests)

-- a fault at a place that is known by another name
pub placed : (C : Type 0) (p q : ℕ) (w : FaultWord) (o : Option Fault) → p ≡ q → IsLeast (λ f. C × (f ≡ fault p w)) o → IsLeast (λ f. C × (f ≡ fault q w)) o
placed C p q w o e h = subst (λ (r : ℕ). IsLeast (λ f. C × (f ≡ fault r w)) o) e h

-- a fault where a test fails
pub unless : (C : Type 0) (b : Bool) → (C → b ≡ true) → not b ≡ true → C → ⊥
unless C b to h k = let e : b ≡ true = to k in cc

pub unless_back : (C : Type 0) (b : Bool) → (b ≡ true → C) → (C → ⊥) → not b ≡ true
unless_back C true to h = absurd (h (to refl))
unless_back C false to h = refl
