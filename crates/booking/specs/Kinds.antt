-- The words of amounts and of vouchers, and what a word means as one of them.
use Rattle.std.specs.Prelude.{ℕ, ◌+◌, ◌-◌, ◌*◌, ◌/◌, ◌%◌, ◌^◌, cond, ℤ, pos, negsuc, nat_lt}
use Rattle.booking.specs.declared.kinds.Voucher.{Voucher}

-- an amount in 64 bits, two's complement
abbrev pub amount_word : ℤ → ℕ
amount_word (pos n) = n
amount_word (negsuc n) = 2 ^ 64 - 1 - n

-- the amount that 64 bits mean, in two's complement
abbrev pub amount_item : ℕ → ℤ
amount_item w = cond (nat_lt w (2 ^ 63)) (pos w) (negsuc (2 ^ 64 - 1 - w))

-- a voucher in a word: the days in bits 32-63, the number in bits 0-31
abbrev pub voucher_word : Voucher → ℕ
voucher_word v = 2 ^ 32 * v.days + v.number

-- the voucher that a word means
abbrev pub voucher_item : ℕ → Voucher
voucher_item w = record { days = w / 2 ^ 32; number = w % 2 ^ 32 }
