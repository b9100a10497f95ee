-- A word made of fields holds these fields.
use Rattle.std.proofs.Common.{◌≡◌, ℕ, ◌+◌, ◌-◌, ◌*◌, ◌^◌, ◌<◌, Bool, true, false, eqb, ℤ, pos, negsuc, ap, ◌∙◌, arith, w16, SFits}
use Rattle.std.proofs.lemmas.Bool.{cond-true, cond-false, lt-ltb, le-ltb}
use Rattle.codeword.specs.Codeword.{bit, bits16, signed16, field, InWidth, packed, unpacked}
use Rattle.codeword.specs.declared.Codeword.{Codeword}

pub bit_lt : (b : Bool) → bit b < 2
bit_lt true = omega arith
bit_lt false = omega arith

bit_is : (b : Bool) {n : ℕ} → n ≡ bit b → eqb n 1 ≡ b
bit_is true e = ap (λ n. eqb n 1) e
bit_is false e = ap (λ n. eqb n 1) e

bits16_lt : (z : ℤ) → SFits w16 z → bits16 z < 2 ^ 16
bits16_lt (pos n) f = omega arith
bits16_lt (negsuc n) f = omega arith

signed16_bits16 : (z : ℤ) → SFits w16 z → signed16 (bits16 z) ≡ z
signed16_bits16 (pos n) f = cond-true _ _ _ (lt-ltb n (2 ^ 15) (omega arith))
signed16_bits16 (negsuc n) f = cond-false _ _ _ (le-ltb (2 ^ 16 - 1 - n) (2 ^ 15) (omega arith)) ∙ ap negsuc (omega arith)

fields_of : (a b c d e f g k : ℕ) → a < 2 ^ 18 → b < 2 ^ 18 → c < 2 ^ 16 → d < 2 → e < 2 → f < 2 → g < 2 → k < 4
    → let w = a + 2 ^ 18 * b + 2 ^ 36 * c + 2 ^ 52 * d + 2 ^ 53 * e + 2 ^ 54 * f + 2 ^ 55 * g + 2 ^ 56 * k in
    (field 0 18 w ≡ a) × (field 18 18 w ≡ b) × (field 36 16 w ≡ c) × (field 52 1 w ≡ d) × (field 53 1 w ≡ e) × (field 54 1 w ≡ f) × (field 55 1 w ≡ g) × (field 56 2 w ≡ k)
fields_of a b c d e f g k ha hb hc hd he hf hg hk = omega arith

pub unpacked_packed : (c : Codeword) → InWidth c → SFits w16 c.base → unpacked (packed c) ≡ c
unpacked_packed c h z =
    let w = fields_of c.first c.length (bits16 c.base) (bit c.p) (bit c.q) (bit c.r) (bit c.s) c.kind h.0 h.1 (bits16_lt c.base z) (bit_lt c.p) (bit_lt c.q) (bit_lt c.r) (bit_lt c.s) h.2 in
    let b = ap signed16 w.2 ∙ signed16_bits16 c.base z in
    let p = bit_is c.p w.3 in
    let q = bit_is c.q w.4 in
    let r = bit_is c.r w.5 in
    let s = bit_is c.s w.6 in
    λ i. record { first = w.0 i; length = w.1 i; base = b i; p = p i; q = q i; r = r i; s = s i; kind = w.7 i }
