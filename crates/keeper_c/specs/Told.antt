-- A reply as C is told it: a number, a step, and what it answers.
use Rattle.std.specs.Prelude.{◌≡◌, ℕ, cond, List, pos, Some, None, Result, unwrap_or}
use Rattle.booking.specs.Bookings.{Reply, Spans, Word, Words, granted, refused}
use Rattle.booking.specs.Refusals.{told}
use Rattle.booking.specs.declared.refusal.Refusal.{Refusal}
use Rattle.keeper.specs.Loaded.{Loads}
use Rattle.keeper_c.specs.declared.reply.span.Extent.{Extent}
use Rattle.layout.specs.Results.{done_of}

-- 0 where it is granted, else the number of the refusal
abbrev pub number_of : Reply → ℕ
number_of (granted a) = 0
number_of (refused r) = (told r).0

-- the step of a refusal on the walk, else 0
abbrev pub step_of : Reply → ℕ
step_of (granted a) = 0
step_of (refused r) = unwrap_or (told r).1 0

-- what a slot for a word, a list or a span then holds: the answer, or what it held
abbrev pub word_in : ℕ → Reply → ℕ
word_in w (granted (Word v)) = v
word_in w r = w

abbrev pub words_in : List ℕ → Reply → List ℕ
words_in ws (granted (Words vs)) = vs
words_in ws r = ws

-- where nothing is labelled all is 0; what is labelled has a length of at least 1
abbrev pub extent_in : Extent → Reply → Extent
extent_in e (granted (Spans (Some x))) = record { base = x.0; length = x.1; codes = cond x.2 1 0; kind = x.3 }
extent_in e (granted (Spans None)) = record { base = pos 0; length = 0; codes = 0; kind = 0 }
extent_in e r = e

-- C is told the reply r by a number and a step, and the words are us
pub record Tells (number step : ℕ) (vs : List ℕ) (r : Reply) (us : List ℕ) : Type 0 where
  pub number_told : number ≡ number_of r
  pub step_told : step ≡ step_of r
  pub words : vs ≡ us

-- C is told the reply r by a number and a step, and what it answers stands in the slot
pub record TellsInto {X : Type 0} (number step : ℕ) (shown : Reply → X) (slot : X) (r : Reply) (us : List ℕ) : Type 0 where
  pub number_told : number ≡ number_of r
  pub step_told : step ≡ step_of r
  pub answer : slot ≡ shown r

-- loading a list over the words ws leaves us, and C is told the number of the reply
abbrev pub Takes : List ℕ → List ℕ → ℕ → List ℕ → Type 0
Takes ws list number us = (reply : Result (Unit {0}) Refusal) × Loads ws list reply us × (number ≡ number_of (done_of reply))
