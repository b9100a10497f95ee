-- The doors that a booking passes, from the walk to room.
use Rattle.std.specs.Prelude.{ℕ, ◌+◌, Bool, true, false, not, ◌&&◌, ◌||◌, ℤ, pos, negsuc, ◌+ℤ◌, ◌-ℤ◌, ◌==◌, int_le, int_lt, nat_lt, unsigned_abs}
use Rattle.booking.specs.Bookings.{Answer}
use Rattle.booking.specs.declared.refusal.Refusal.{Refusal}

-- turned away; or past every door but room: what it needs, what it releases, its answer and the tree that it leaves
pub data Outcome (A : Type 0) : Type 0 where
  turned : Refusal → Outcome A
  passed : (needs releases : ℕ) → Answer → A → Outcome A

-- turned away by r if the test holds
unfoldable pub door : {A : Type 0} → Bool → Refusal → Outcome A → Outcome A
door true r o = turned r
door false r o = o

-- the same outcome, seen from one block higher
unfoldable pub put : {A B : Type 0} → (A → B) → Outcome A → Outcome B
put f (turned r) = turned r
put f (passed n m a x) = passed n m a (f x)

-- past every door but room
abbrev pub Past : {A : Type 0} → Outcome A → Type 0
Past (turned r) = ⊥
Past (passed n m a x) = Unit {0}

-- subscript i selects element i − b
abbrev pub element : ℤ → ℤ → ℕ
element b i = unsigned_abs (i -ℤ b)

-- not among the n elements from b
abbrev pub off : ℤ → ℕ → ℤ → Bool
off b n i = not (int_le b i && int_lt i (b +ℤ pos n))

-- outside −32,768 to 32,767
abbrev pub bad_base : ℤ → Bool
bad_base b = not (int_le (negsuc 32_767) b && int_le b (pos 32_767))

-- a type that no block at a step can have, one of codewords or one of data
abbrev pub bad_type : Bool → ℕ → ℕ → Bool
bad_type codes t step = nat_lt 2 t || (codes && (not (t == 0) || step == 4))

-- fields that no block taken at a step can have
abbrev pub bad_fields : ℤ → Bool → ℕ → ℕ → Bool
bad_fields b codes t step = bad_base b || bad_type codes t step

-- a run of n from element m, in a list of l
abbrev pub bad_run : ℕ → ℕ → ℕ → Bool
bad_run m n l = n == 0 || nat_lt l (m + n)
