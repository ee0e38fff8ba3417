-- What a loop of takes has taken, of a source whose bytes are known or not.
use Rattle.std.proofs.Common.{◌≡◌, inl, inr, ℕ, ◌<◌, ◌≤◌, List, [], ◌∷◌, ◌++◌, length, take, ◌-◌, ◌+◌, ◌⊎◌, refl, sym, subst, ◌∙◌, ap, append-nil, append_assoc, length-append, arith}
use Rattle.std.proofs.lemmas.Grind.{common_steps}
use Rattle.std.proofs.lemmas.List.{take-append-le}
use Rattle.std.specs.Prelude.{Option, None, Some}
use Rattle.std.specs.Io.KnownBytes.{Consumes, IsAtEnd, Keeps}
use Rattle.command_input.specs.Reading.{IsReadFrom, AreReadFrom, TakesAtMost, ReadsUpTo, ReadsOn}
use Rattle.geo_chan.specs.Causes.{with_more}
use Rattle.geo_tokens.specs.FirstEnd.{IsFirstEnd}
use Rattle.command_input.proofs.FrontEnds.{end-back}

pub nothing_taken : (l : Option (List ℕ)) (text : List ℕ) → text ≡ [] → Consumes l l text
nothing_taken None text e = tt
nothing_taken (Some xs) text e = sym (ap (λ t. t ++ xs) e)

pub taken_then : (a b c : Option (List ℕ)) (xs ys text : List ℕ) → Consumes a b xs → Consumes b c ys → text ≡ xs ++ ys → Consumes a c text
taken_then None b c xs ys text h k e = tt
taken_then (Some u) None c xs ys text h k e = absurd h
taken_then (Some u) (Some v) None xs ys text h k e = absurd k
taken_then (Some u) (Some v) (Some w) xs ys text h k e = h ∙ ap (λ t. xs ++ t) k ∙ sym (append_assoc xs ys w) ∙ ap (λ t. t ++ w) (sym e)

-- the end of the input was met
pub read_to_end : (a b : Option (List ℕ)) (text : List ℕ) → Consumes a b text → IsAtEnd b → IsReadFrom a text
read_to_end None b text h end = (text, tt, record { rest = []; front = sym (append-nil text); whole = inl refl })
read_to_end (Some u) None text h end = absurd h
read_to_end (Some u) (Some v) text h end = (u, refl, record { rest = v; front = h; whole = inl end })

-- one byte more than a text may have was taken
pub read_too_much : (a b : Option (List ℕ)) (text : List ℕ) → Consumes a b text → 1048576 < length text → IsReadFrom a text
read_too_much None b text h long = (text, tt, record { rest = []; front = sym (append-nil text); whole = inl refl })
read_too_much (Some u) None text h long = absurd h
read_too_much (Some u) (Some v) text h long = (u, refl, record { rest = v; front = h; whole = inr long })

-- a piece that was put behind the text
pub piece_is : (text new into more : List ℕ) (n : ℕ) → n ≤ length into → new ≡ text ++ take n (into ++ more) → new ≡ text ++ take n into
piece_is text new into more n le e = e ∙ ap (λ t. text ++ t) (take-append-le n into more le)

pub piece_fits : (text new into : List ℕ) (n room : ℕ) → n ≤ length into → length into ≡ room → room ≤ 1048577 - length text → length text ≤ 1048577 → new ≡ text ++ take n into → length new ≤ 1048577
piece_fits text new into n room le same small short e = let l = ap length e in grind (arith, common_steps, l)

-- the turn in which nothing was given for a piece that is not empty
pub end_turn : (a b c : Option (List ℕ)) (text into : List ℕ) (n : ℕ) → Consumes a b text → Consumes b c (take n into) × (n ≡ 0 → 0 < length into → IsAtEnd c) → n ≡ 0 → 0 < length into → IsReadFrom a text
end_turn a b c text into n h (k, end) zero some =
    let none : take n into ≡ [] = rw zero refl in
    read_to_end a c text (taken_then a b c text (take n into) text h k (sym (ap (λ t. text ++ t) none ∙ append-nil text))) (end zero some)

-- ---- how much was taken

pub keeps_none : (a b : Option (List ℕ)) → Keeps a b → Consumes a b []
keeps_none None b h = tt
keeps_none (Some u) None h = absurd h
keeps_none (Some u) (Some v) h = sym h

-- a source from which nothing was taken
pub none_taken : (most : ℕ) (a : Option (List ℕ)) → TakesAtMost most a a
none_taken most a = ([], nothing_taken a [] refl, omega arith)

-- what was taken, and then nothing
pub taken_only : (most : ℕ) (a b c : Option (List ℕ)) (text : List ℕ) → Consumes a b text → Keeps b c → length text ≤ most → TakesAtMost most a c
taken_only most a b c text h k le = (text, taken_then a b c text [] text h (keeps_none b c k) (sym (append-nil text)), le)

-- what was taken, and then a piece for which there was room
pub taken_more : (most : ℕ) (a b c : Option (List ℕ)) (text into : List ℕ) (n : ℕ) → Consumes a b text → Consumes b c (take n into) → length into ≤ most - length text → length text ≤ most → TakesAtMost most a c
taken_more most a b c text into n h k room le =
    let short : length (take n into) ≤ length into = grind (arith, common_steps) in
    let sum : length (text ++ take n into) ≡ length text + length (take n into) = grind (arith, common_steps) in
    (text ++ take n into, taken_then a b c text (take n into) (text ++ take n into) h k refl, omega (arith, short, sum, room))

-- ---- bytes behind those that are there

-- what was taken stands behind the old bytes, and it is not too much
pub record HasTaken (most : ℕ) (a b : Option (List ℕ)) (old text : List ℕ) : Type 0 where
  pub more : List ℕ
  pub behind : text ≡ old ++ more
  pub taken : Consumes a b more
  pub short : length more ≤ most - length old

pub none_behind : (most : ℕ) (a : Option (List ℕ)) (old : List ℕ) → HasTaken most a a old old
none_behind most a old = record { more = []; behind = sym (append-nil old); taken = nothing_taken a [] refl; short = omega arith }

pub more_behind : (most : ℕ) (a b c : Option (List ℕ)) (old text new into : List ℕ) (n : ℕ) → HasTaken most a b old text → Consumes b c (take n into) → length into ≤ most - length text → new ≡ text ++ take n into → HasTaken most a c old new
more_behind most a b c old text new into n h k room e =
    let short : length (take n into) ≤ length into = grind (arith, common_steps) in
    let sum : length (h.more ++ take n into) ≡ length h.more + length (take n into) = grind (arith, common_steps) in
    let whole : length text ≡ length old + length h.more = (let l = ap length h.behind in grind (arith, common_steps, l)) in
    record {
      more = h.more ++ take n into;
      behind = e ∙ ap (λ t. t ++ take n into) h.behind ∙ append_assoc old h.more (take n into);
      taken = taken_then a b c h.more (take n into) (h.more ++ take n into) h.taken k refl;
      short = omega (arith, short, sum, whole, room, h.short);
    }

-- the same, and then nothing
pub kept_behind : (most : ℕ) (a b c : Option (List ℕ)) (old text : List ℕ) → HasTaken most a b old text → Keeps b c → HasTaken most a c old text
kept_behind most a b c old text h k = record { more = h.more; behind = h.behind; taken = taken_then a b c h.more [] h.more h.taken (keeps_none b c k) (sym (append-nil h.more)); short = h.short }

pub taken_most : (most : ℕ) (a b : Option (List ℕ)) (old text : List ℕ) → HasTaken most a b old text → TakesAtMost (most - length old) a b
taken_most most a b old text h = (h.more, h.taken, h.short)

pub read_enough : (most : ℕ) (a b : Option (List ℕ)) (old text : List ℕ) → HasTaken most a b old text → IsAtEnd b ⊎ (most ≤ length text) → ReadsUpTo most a b old text
read_enough most a b old text h ends = record { more = h.more; behind = h.behind; taken = h.taken; short = h.short; ends = ends }

-- the turn in which nothing was given for a piece that is not empty
pub ended_behind : (most : ℕ) (a b c : Option (List ℕ)) (old text into : List ℕ) (n : ℕ) → HasTaken most a b old text → Consumes b c (take n into) × (n ≡ 0 → 0 < length into → IsAtEnd c) → n ≡ 0 → 0 < length into → ReadsUpTo most a c old text
ended_behind most a b c old text into n h (k, end) zero some =
    let none : take n into ≡ [] = rw zero refl in
    record { more = h.more; behind = h.behind; taken = taken_then a b c h.more (take n into) h.more h.taken k (sym (ap (λ t. h.more ++ t) none ∙ append-nil h.more)); short = h.short; ends = inl (end zero some) }

pub ended_most : (most : ℕ) (a b c : Option (List ℕ)) (old text into : List ℕ) (n : ℕ) → HasTaken most a b old text → Consumes b c (take n into) → n ≡ 0 → TakesAtMost (most - length old) a c
ended_most most a b c old text into n h k zero =
    let none : take n into ≡ [] = rw zero refl in
    (h.more, taken_then a b c h.more (take n into) h.more h.taken k (sym (ap (λ t. h.more ++ t) none ∙ append-nil h.more)), h.short)

-- ---- what the source counts

-- so many more, or fewer where the count stands at its last value
pub few_more : (b c n : ℕ) → c ≡ with_more b n → c ≤ b + n
few_more b c n e = grind (arith, common_steps, e)

-- a piece was counted, and put behind the text
pub counted_more : (a b c n : ℕ) (old text new into : List ℕ) → b + length old ≤ a + length text → c ≡ with_more b n → n ≤ length into → new ≡ text ++ take n into → c + length old ≤ a + length new
counted_more a b c n old text new into h e le is =
    let sum : length new ≡ length text + length (take n into) = ap length is ∙ length-append text (take n into) in
    let size : length (take n into) ≡ n = grind (arith, common_steps, le) in
    omega (arith, h, few_more b c n e, sum, size)

-- no more than there was room for
pub counted_most : (most : ℕ) (left new : Option (List ℕ)) (a b : ℕ) (old text : List ℕ) → HasTaken most left new old text → b + length old ≤ a + length text → b ≤ a + (most - length old)
counted_most most left new a b old text h k =
    let sum : length text ≡ length old + length h.more = ap length h.behind ∙ length-append old h.more in
    omega (arith, k, sum, h.short)

-- ---- the texts

-- one text
pub one_text : (a b : Option (List ℕ)) (text : List ℕ) → ReadsUpTo 1048577 a b [] text → IsReadFrom a text
one_text a b text h =
    let c : Consumes a b text = subst (λ (t : List ℕ). Consumes a b t) (sym h.behind) h.taken in
    elim h.ends [ inl end ↦ read_to_end a b text c end | inr long ↦ read_too_much a b text c (omega (arith, long)) ]

-- ---- two texts

nothing_long : (xs : List ℕ) → length xs ≤ 0 → xs ≡ []
nothing_long [] h = refl
nothing_long (x ∷ xs) h = absurd (omega arith)

at_end_on : (u : List ℕ) (c : Option (List ℕ)) (more : List ℕ) → IsAtEnd (Some u) → Consumes (Some u) c more → IsAtEnd c
at_end_on u None more e k = tt
at_end_on u (Some v) more e k = nothing_long v (let l = ap length (sym e ∙ k) in let s = length-append more v in omega (arith, l, s))

untold : (bytes : List ℕ) → AreReadFrom None bytes
untold bytes = (bytes, tt, record { rest = []; front = sym (append-nil bytes); whole = inl refl })

whole_input : (a c : Option (List ℕ)) (bytes : List ℕ) → Consumes a c bytes → IsAtEnd c → AreReadFrom a bytes
whole_input None c bytes h end = (bytes, tt, record { rest = []; front = sym (append-nil bytes); whole = inl refl })
whole_input (Some u) None bytes h end = absurd h
whole_input (Some u) (Some v) bytes h end = (u, refl, record { rest = v; front = h; whole = inl end })

cut_input : (a c : Option (List ℕ)) (bytes : List ℕ) → Consumes a c bytes → 1048576 < length bytes → ((e : ℕ) → IsFirstEnd bytes e → e ≤ 1048576 → e + 1048576 < length bytes) → AreReadFrom a bytes
cut_input None c bytes h long far = (bytes, tt, record { rest = []; front = sym (append-nil bytes); whole = inl refl })
cut_input (Some u) None bytes h long far = absurd h
cut_input (Some u) (Some v) bytes h long far = (u, refl, record { rest = v; front = h; whole = inr (long, far) })

both_taken : (a b c : Option (List ℕ)) (first bytes : List ℕ) (h : ReadsUpTo 1048577 a b [] first) (k : ReadsOn b c first bytes) → Consumes a c bytes
both_taken a b c first bytes h k = taken_then a b c h.more k.more bytes h.taken k.taken (k.behind ∙ ap (λ t. t ++ k.more) h.behind)

pub two_texts : (a b c : Option (List ℕ)) (first bytes : List ℕ) → ReadsUpTo 1048577 a b [] first → ReadsOn b c first bytes → AreReadFrom a bytes
two_texts None b c first bytes h k = untold bytes
two_texts (Some t) None c first bytes h k = absurd h.taken
two_texts (Some t) (Some u) c first bytes h k =
    let taken = both_taken (Some t) (Some u) c first bytes h k in
    elim h.ends [
      | inl end ↦ whole_input (Some t) c bytes taken (at_end_on u c k.more end k.taken)
      | inr long ↦ elim k.ends [
        | inl few ↦ absurd (omega (arith, few, long))
        | inr ends ↦ elim ends [
          | inl end ↦ whole_input (Some t) c bytes taken end
          | inr far ↦
              let sum = ap length k.behind ∙ length-append first k.more in
              cut_input (Some t) c bytes taken (omega (arith, long, sum)) (λ e x small.
              let own = end-back k.more first e (subst (λ (t : List ℕ). IsFirstEnd t e) k.behind x) (omega (arith, small, long)) in
              let f = far e own small in
              omega (arith, f))
        ]
      ]
    ]

pub first_short : (a b : Option (List ℕ)) (first : List ℕ) → ReadsUpTo 1048577 a b [] first → length first ≤ 1048577
first_short a b first h = (let e = ap length h.behind in omega (arith, e, h.short))

pub both_most : (a b c : Option (List ℕ)) (first : List ℕ) → ReadsUpTo 1048577 a b [] first → TakesAtMost (2097153 - length first) b c → TakesAtMost 2097153 a c
both_most a b c first h (front, k, l) =
    let e = ap length h.behind in
    let s = length-append h.more front in
    (h.more ++ front, taken_then a b c h.more front (h.more ++ front) h.taken k refl, omega (arith, e, s, l, h.short))

-- what was taken, and then more
pub sum_most : (m n : ℕ) (a b c : Option (List ℕ)) → TakesAtMost m a b → TakesAtMost n b c → TakesAtMost (m + n) a c
sum_most m n a b c (xs, h, l) (ys, k, s) = (xs ++ ys, taken_then a b c xs ys (xs ++ ys) h k refl, omega (arith, l, s, length-append xs ys))

-- what a first text that goes on no further leaves
pub nothing_on : (a : Option (List ℕ)) (text : List ℕ) → (length text < 1048577) ⊎ (IsAtEnd a ⊎ ((e : ℕ) → IsFirstEnd text e → e ≤ 1048576 → e + 1048577 ≤ length text)) → ReadsOn a a text text
nothing_on a text ends = record { more = []; behind = sym (append-nil text); taken = nothing_taken a [] refl; ends = ends }

pub read_on : (a b : Option (List ℕ)) (text new seen : List ℕ) (end : ℕ) → seen ≡ text → ((e : ℕ) → IsFirstEnd seen e → e ≡ end) → ReadsUpTo (end + 1048577) a b text new → ReadsOn a b text new
read_on a b text new seen end same one h = record {
  more = h.more;
  behind = h.behind;
  taken = h.taken;
  ends = elim h.ends [
    | inl e ↦ inr (inl e)
    | inr long ↦ inr (inr (λ e x small. let is = one e (subst (λ (t : List ℕ). IsFirstEnd t e) (sym same) x) in omega (arith, is, long)))
  ];
}
