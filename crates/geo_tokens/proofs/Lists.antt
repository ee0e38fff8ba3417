-- Where two ways to cut one list meet; sets of kinds.
use Rattle.std.proofs.Common.{◌≡◌, ℕ, List, [], ◌∷◌, ◌++◌, Bool, true, false, ◌&&◌, ◌||◌, not, ◌==◌, ◌⊎◌, inl, inr, refl, sym, ap, subst}
use Rattle.std.proofs.lemmas.Bool.{or_cases, and_parts, eqb-true}
use Rattle.geo_tokens.specs.declared.token.Token.{Token}
use Rattle.geo_tokens.specs.Words.{Kinds, has}
use Rattle.geo_tokens.specs.Reading.{Parts}

-- a ++ b and c ++ d are one list: a ends where c ends or behind it, or before it
pub data Cuts (a b c d : List Token) : Type 0 where
  behind : (e : List Token) → a ≡ c ++ e → d ≡ e ++ b → Cuts a b c d
  before : (s : Token) (e : List Token) → c ≡ a ++ s ∷ e → b ≡ s ∷ e ++ d → Cuts a b c d

cuts_more : (t : Token) (a b c d : List Token) → Cuts a b c d → Cuts (t ∷ a) b (t ∷ c) d
cuts_more t a b c d (behind e p q) = behind e (ap (λ (x : List Token). t ∷ x) p) q
cuts_more t a b c d (before s e p q) = before s e (ap (λ (x : List Token). t ∷ x) p) q

pub cuts : (a b c d : List Token) → a ++ b ≡ c ++ d → Cuts a b c d
cuts [] b [] d p = behind [] refl (sym p)
cuts [] b (s ∷ c) d p = before s c refl p
cuts (t ∷ a) b [] d p = behind (t ∷ a) refl (sym p)
cuts (t ∷ a) b (s ∷ c) d p =
    let head : t ≡ s = cc in
    let tail : a ++ b ≡ c ++ d = cc in
    subst (λ (x : Token). Cuts (t ∷ a) b (x ∷ c) d) head (cuts_more t a b c d (cuts a b c d tail))

pub parts_more : (d e rest : List Token) → Parts d rest → Parts (d ++ e) rest
parts_more (t ∷ d) e [] h = tt
parts_more (t ∷ d) e (s ∷ rest) h = h
parts_more [] e rest h = absurd h

pub parts_behind : (u v rest : List Token) → Parts (u ++ v) (u ++ rest) → Parts v rest
parts_behind [] v rest h = h
parts_behind (t ∷ u) v rest h = absurd (h refl)

-- nothing is in both
abbrev pub disjoint : Kinds → Kinds → Bool
disjoint [] ms = true
disjoint (k ∷ ks) ms = not (has ms k) && disjoint ks ms

-- all of the first are in the second
abbrev pub subset : Kinds → Kinds → Bool
subset [] ms = true
subset (k ∷ ks) ms = has ms k && subset ks ms

abbrev pub or_if : Bool → Kinds → Kinds
or_if true ks = ks
or_if false ks = []

not_both : (b : Bool) → not b ≡ true → b ≡ true → ⊥
not_both true p q = absurd cc
not_both false p q = absurd cc

pub has_disjoint : (ks ms : Kinds) (n : ℕ) → disjoint ks ms ≡ true → has ks n ≡ true → has ms n ≡ true → ⊥
has_disjoint [] ms n d h g = absurd cc
has_disjoint (k ∷ ks) ms n d h g =
    let p = and_parts (not (has ms k)) (disjoint ks ms) d in
    elim (or_cases (n == k) (has ks n) h) [
      | inl e ↦ not_both (has ms k) p.0 (subst (λ (x : ℕ). has ms x ≡ true) (eqb-true n k e) g)
      | inr e ↦ has_disjoint ks ms n p.1 e g
    ]

pub has_subset : (ks ms : Kinds) (n : ℕ) → subset ks ms ≡ true → has ks n ≡ true → has ms n ≡ true
has_subset [] ms n d h = absurd cc
has_subset (k ∷ ks) ms n d h =
    let p = and_parts (has ms k) (subset ks ms) d in
    elim (or_cases (n == k) (has ks n) h) [
      | inl e ↦ subst (λ (x : ℕ). has ms x ≡ true) (sym (eqb-true n k e)) p.0
      | inr e ↦ has_subset ks ms n p.1 e
    ]

or_left : (a b : Bool) → a ≡ true → (a || b) ≡ true
or_left true b p = refl
or_left false b p = absurd cc

or_right : (a b : Bool) → b ≡ true → (a || b) ≡ true
or_right true b p = refl
or_right false b p = p

or_again : (a b c : Bool) → (a ≡ true → c ≡ true) → (b ≡ true → c ≡ true) → (a || b) ≡ true → c ≡ true
or_again true b c f g p = f refl
or_again false b c f g p = g p

pub has_left : (ks ms : Kinds) (n : ℕ) → has ks n ≡ true → has (ks ++ ms) n ≡ true
has_left [] ms n h = absurd cc
has_left (k ∷ ks) ms n h = or_again (n == k) (has ks n) (has ((k ∷ ks) ++ ms) n) (or_left (n == k) (has (ks ++ ms) n)) (λ e. or_right (n == k) (has (ks ++ ms) n) (has_left ks ms n e)) h

pub has_right : (ks ms : Kinds) (n : ℕ) → has ms n ≡ true → has (ks ++ ms) n ≡ true
has_right [] ms n h = h
has_right (k ∷ ks) ms n h = or_right (n == k) (has (ks ++ ms) n) (has_right ks ms n h)

pub has_append : (ks ms : Kinds) (n : ℕ) → has (ks ++ ms) n ≡ true → (has ks n ≡ true) ⊎ (has ms n ≡ true)
has_append [] ms n h = inr h
has_append (k ∷ ks) ms n h =
    elim (or_cases (n == k) (has (ks ++ ms) n) h) [
      | inl e ↦ inl (or_left (n == k) (has ks n) e)
      | inr e ↦ elim (has_append ks ms n e) [
        | inl f ↦ inl (or_right (n == k) (has ks n) f)
        | inr f ↦ inr f
      ]
    ]
