-- What a call replied, as C is told it.
use Rattle.std.proofs.Common.{◌≡◌, ℕ, ◌<◌, List, ℤ, Ok, Err, Result, sym, refl, ap, ◌∙◌, subst, inl, inr, arith}
use Rattle.std.proofs.lemmas.List.{map-id}
use Rattle.booking.specs.Bookings.{Deed, Reply, on, refused}
use Rattle.booking.specs.Traces.{subscripts}
use Rattle.booking.specs.declared.refusal.Refusal.{Refusal}
use Rattle.booking.specs.declared.trace.Trace.{Trace}
use Rattle.elements.specs.Rows.{UnlessGranted, row_of}
use Rattle.keeper_c.specs.Calls.{Calls, at, too_deep, unknown}
use Rattle.keeper_c.specs.Told.{TellsInto, Tells, number_of, step_of, words_in}
use Rattle.keeper_c.specs.Traced.{Traced}
use Rattle.layout.specs.Booked.{Answers, Books}
use Rattle.layout.specs.Results.{done_of}

-- what is asked for, named in another way
another : (ws : List ℕ) (n : ℕ) (is : List ℤ) (d e : Deed) (P : Reply → List ℕ → Type 0) → d ≡ e → Calls ws n is d P → Calls ws n is e P
another ws n is d e P p = subst (λ (x : Deed). Calls ws n is x P) p

-- at a trace
pub done : (ws us vs : List ℕ) (n : ℕ) (is : List ℤ) (d e : Deed) (t : Trace) (q : Reply) (number step : ℕ)
    → (t.name ≡ n) × (subscripts t ≡ is) → Books ws (on t d) q us → d ≡ e → vs ≡ us → number ≡ number_of q → step ≡ step_of q
    → Calls ws n is e (Tells number step vs)
done ws us vs n is d e t q number step p b a l k s =
    another ws n is d e (Tells number step vs) a
    (at t p.0 p.1 (λ h. record { number_told = k ∙ ap number_of (b h).reply; step_told = s ∙ ap step_of (b h).reply; words = l ∙ (b h).words }))

-- where there is no trace
pub off : (ws vs : List ℕ) (n : ℕ) (is : List ℤ) (d : Deed) (e : Refusal) (number step : ℕ) → Traced n is (Err e) → vs ≡ ws
    → number ≡ number_of (refused e) → step ≡ step_of (refused e) → Calls ws n is d (Tells number step vs)
off ws vs n is d e number step (inl p) u k s =
    unknown p.0 (record { number_told = k ∙ ap (λ r. number_of (refused r)) p.1; step_told = s ∙ ap (λ r. step_of (refused r)) p.1; words = u })
off ws vs n is d e number step (inr p) u k s =
    too_deep p.0 (record { number_told = k ∙ ap (λ r. number_of (refused r)) p.1; step_told = s ∙ ap (λ r. step_of (refused r)) p.1; words = u })

-- the same call, where what is asked for, and the words that it leaves, are named in another way
pub alike : (ws us vs : List ℕ) (n : ℕ) (is : List ℤ) (d e : Deed) (number step : ℕ) → Calls ws n is d (Tells number step us) → d ≡ e → vs ≡ us
    → Calls ws n is e (Tells number step vs)
alike ws us vs n is d e number step c p q =
    another ws n is d e (Tells number step vs) p (subst (λ (x : List ℕ). Calls ws n is d (Tells number step x)) (sym q) c)

-- the same three of a call that only looks, and writes what it answers into a slot
pub shown : {X : Type 0} (ws : List ℕ) (n : ℕ) (is : List ℤ) (d e : Deed) (t : Trace) (q : Reply) (number step : ℕ) (f : Reply → X) (slot : X)
    → (t.name ≡ n) × (subscripts t ≡ is) → Answers ws (on t d) q → d ≡ e → number ≡ number_of q → step ≡ step_of q → slot ≡ f q
    → Calls ws n is e (TellsInto number step f slot)
shown ws n is d e t q number step f slot p b a k s l =
    another ws n is d e (TellsInto number step f slot) a
    (at t p.0 p.1 (λ h. record { number_told = k ∙ ap number_of (b h); step_told = s ∙ ap step_of (b h); answer = l ∙ ap f (b h) }))

pub off_shown : {X : Type 0} (ws : List ℕ) (n : ℕ) (is : List ℤ) (d : Deed) (e : Refusal) (number step : ℕ) (f : Reply → X) (slot : X)
    → Traced n is (Err e) → number ≡ number_of (refused e) → step ≡ step_of (refused e) → slot ≡ f (refused e)
    → Calls ws n is d (TellsInto number step f slot)
off_shown ws n is d e number step f slot (inl p) k s l =
    unknown p.0 (record { number_told = k ∙ ap (λ r. number_of (refused r)) p.1; step_told = s ∙ ap (λ r. step_of (refused r)) p.1; answer = l ∙ ap (λ r. f (refused r)) p.1 })
off_shown ws n is d e number step f slot (inr p) k s l =
    too_deep p.0 (record { number_told = k ∙ ap (λ r. number_of (refused r)) p.1; step_told = s ∙ ap (λ r. step_of (refused r)) p.1; answer = l ∙ ap (λ r. f (refused r)) p.1 })

pub alike_shown : {X : Type 0} (ws : List ℕ) (n : ℕ) (is : List ℤ) (d e : Deed) (number step : ℕ) (f : Reply → X) (slot : X)
    → Calls ws n is d (TellsInto number step f slot) → d ≡ e → Calls ws n is e (TellsInto number step f slot)
alike_shown ws n is d e number step f slot c p = another ws n is d e (TellsInto number step f slot) p c

-- a row, which the call itself wrote
row_slot : (r : Result (Unit {0}) Refusal) (xs ys : List ℕ) → UnlessGranted r (ys ≡ xs) → ys ≡ words_in xs (row_of (λ w. w) r ys)
row_slot (Ok u) xs ys p = sym (map-id ys)
row_slot (Err e) xs ys p = p

row_number : (r : Result (Unit {0}) Refusal) (ys : List ℕ) → number_of (done_of r) ≡ number_of (row_of (λ w. w) r ys)
row_number (Ok u) ys = refl
row_number (Err e) ys = refl

row_step : (r : Result (Unit {0}) Refusal) (ys : List ℕ) → step_of (done_of r) ≡ step_of (row_of (λ w. w) r ys)
row_step (Ok u) ys = refl
row_step (Err e) ys = refl

pub row_done : (ws : List ℕ) (n : ℕ) (is : List ℤ) (d e : Deed) (t : Trace) (r : Result (Unit {0}) Refusal) (number step : ℕ) (xs ys : List ℕ)
    → (t.name ≡ n) × (subscripts t ≡ is) → Answers ws (on t d) (row_of (λ w. w) r ys) → UnlessGranted r (ys ≡ xs) → d ≡ e
    → number ≡ number_of (done_of r) → step ≡ step_of (done_of r) → Calls ws n is e (TellsInto number step (words_in xs) ys)
row_done ws n is d e t r number step xs ys p b u a k s =
    shown ws n is d e t (row_of (λ w. w) r ys) number step (words_in xs) ys p b a (k ∙ row_number r ys) (s ∙ row_step r ys) (row_slot r xs ys u)

pub row_refused : (r : Result (Unit {0}) Refusal) (xs ys : List ℕ) (number : ℕ) → UnlessGranted r (ys ≡ xs) → number ≡ number_of (done_of r)
    → 0 < number → ys ≡ xs
row_refused (Ok u) xs ys number p k l = absurd (omega arith)
row_refused (Err e) xs ys number p k l = p
