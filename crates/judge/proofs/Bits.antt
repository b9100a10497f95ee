-- Marks kept as bits of words: one put up or taken down, and none up.
use Rattle.std.proofs.Common.{◌≡◌, ℕ, ◌+◌, ◌*◌, ◌/◌, ◌%◌, ◌^◌, ◌<◌, ◌≤◌, Bool, true, false, eqb, List, length, get_or, set, sym, ap, ◌∙◌, arith, length-set, get_or-set_other, get_or-set_same, ext_get_or}
use native.Mathlib.Decide.{dec_lt}
use lib.Bits.{bit_or, bit_xor}
use lib.ListN.{get_or-eq_default}
use Rattle.std.proofs.lemmas.Bool.{false≢true, eq-eqb, eqb-false, eqb-true}
use Rattle.std.proofs.lemmas.List.{set_past}
use Rattle.std.proofs.lemmas.List.FromFn.{length-map-range_with_len, get_or-map-range_with_len}
use Rattle.std.proofs.lemmas.Nat.Bits.{bit_at_or, bit_at_xor, bit_at-pow_other, bit_at-pow_same, bit_at-zero, same_from_bits_below}
use Rattle.judge.specs.Marks.{has_bit, flags, Down, Zeros}

-- a bit is set, or turned
pub or_here : (w k : ℕ) → has_bit (bit_or w (2 ^ k)) k ≡ true
or_here w k = eq-eqb (bit_or w (2 ^ k) / 2 ^ k % 2) 1 (omega (arith, bit_at_or w (2 ^ k) k, bit_at-pow_same k))

pub or_there : (w k j : ℕ) → (j ≡ k → ⊥) → has_bit (bit_or w (2 ^ k)) j ≡ has_bit w j
or_there w k j n =
    let e : bit_or w (2 ^ k) / 2 ^ j % 2 ≡ w / 2 ^ j % 2 = omega (arith, bit_at_or w (2 ^ k) j, bit_at-pow_other k j n) in
    ap (λ (x : ℕ). eqb x 1) e

pub xor_here : (w k : ℕ) → has_bit w k ≡ true → has_bit (bit_xor w (2 ^ k)) k ≡ false
xor_here w k h =
    let o : w / 2 ^ k % 2 ≡ 1 = eqb-true (w / 2 ^ k % 2) 1 h in
    let e : bit_xor w (2 ^ k) / 2 ^ k % 2 ≡ 0 = omega (arith, bit_at_xor w (2 ^ k) k, bit_at-pow_same k) in
    ap (λ (x : ℕ). eqb x 1) e

pub xor_there : (w k j : ℕ) → (j ≡ k → ⊥) → has_bit (bit_xor w (2 ^ k)) j ≡ has_bit w j
xor_there w k j n =
    let e : bit_xor w (2 ^ k) / 2 ^ j % 2 ≡ w / 2 ^ j % 2 = omega (arith, bit_at_xor w (2 ^ k) j, bit_at-pow_other k j n) in
    ap (λ (x : ℕ). eqb x 1) e

-- ── The list of marks ─────────────────────────────────────────────────

no_bit : (w k : ℕ) → w ≡ 0 → has_bit w k ≡ false
no_bit w k e = ap (λ (x : ℕ). eqb (x / 2 ^ k % 2) 1) e ∙ ap (λ (x : ℕ). eqb x 1) (bit_at-zero k)

pub length_flags : (ws : List ℕ) → length (flags ws) ≡ 64 * length ws
unfolding flags
length_flags ws = length-map-range_with_len (λ s. has_bit (get_or ws (s / 64) 0) (s % 64)) 0 (64 * length ws)

pub getD_flags : (ws : List ℕ) (s : ℕ) → get_or (flags ws) s false ≡ has_bit (get_or ws (s / 64) 0) (s % 64)
unfolding flags
getD_flags ws s =
    elim (dec_lt s (64 * length ws)) [
      | yes l ↦ get_or-map-range_with_len (λ s. has_bit (get_or ws (s / 64) 0) (s % 64)) 0 (64 * length ws) s s false l (omega arith)
      | no l ↦
          let n : length (flags ws) ≤ s = omega (arith, length_flags ws) in
          let m : length ws ≤ s / 64 = omega arith in
          get_or-eq_default (flags ws) false n ∙ sym (no_bit (get_or ws (s / 64) 0) (s % 64) (get_or-eq_default ws 0 m))
    ]

-- past the last mark none is up, and putting one there up or down changes nothing
pub none_past : (ws : List ℕ) (s : ℕ) → length ws ≤ s / 64 → get_or (flags ws) s false ≡ false
none_past ws s h = getD_flags ws s ∙ no_bit (get_or ws (s / 64) 0) (s % 64) (get_or-eq_default ws 0 h)

pub up_within : (ws : List ℕ) (s : ℕ) → get_or (flags ws) s false ≡ true → s / 64 < length ws
up_within ws s u =
    elim (dec_lt (s / 64) (length ws)) [ yes l ↦ l | no l ↦ absurd (false≢true (sym (none_past ws s (omega arith)) ∙ u)) ]

pub set_past_marks : (ws : List ℕ) (s : ℕ) (b : Bool) → length ws ≤ s / 64 → flags ws ≡ set (flags ws) s b
set_past_marks ws s b h = sym (set_past (flags ws) s b (omega (arith, length_flags ws)))

pub zeros_down : (ws : List ℕ) → Zeros ws → Down (flags ws)
zeros_down ws h s = getD_flags ws s ∙ no_bit (get_or ws (s / 64) 0) (s % 64) (h (s / 64))

pub set_flags : (ws : List ℕ) (s w : ℕ) (b : Bool) → s < 64 * length ws → has_bit w (s % 64) ≡ b
    → ((j : ℕ) → (j ≡ s % 64 → ⊥) → has_bit w j ≡ has_bit (get_or ws (s / 64) 0) j)
    → flags (set ws (s / 64) w) ≡ set (flags ws) s b
set_flags ws s w b l h o =
    ext_get_or false (flags (set ws (s / 64) w)) (set (flags ws) s b)
    (length_flags (set ws (s / 64) w) ∙ ap (λ (k : ℕ). 64 * k) (length-set ws (s / 64) w) ∙ sym (length_flags ws) ∙ sym (length-set (flags ws) s b))
    (λ i t. elim (dec_lt i s) [
      | yes p ↦ other i (omega arith)
      | no p ↦ elim (dec_lt s i) [ yes q ↦ other i (omega arith) | no q ↦ same i (omega arith) ]
    ])
  where
    same : (i : ℕ) → i ≡ s → get_or (flags (set ws (s / 64) w)) i false ≡ get_or (set (flags ws) s b) i false
    same i e =
        let r : s / 64 < length ws = omega arith in
        let m : s < length (flags ws) = omega (arith, length_flags ws) in
        ap (λ (k : ℕ). get_or (flags (set ws (s / 64) w)) k false) e
        ∙ getD_flags (set ws (s / 64) w) s
        ∙ ap (λ (x : ℕ). has_bit x (s % 64)) (get_or-set_same ws (s / 64) w 0 r)
        ∙ h
        ∙ sym (ap (λ (k : ℕ). get_or (set (flags ws) s b) k false) e ∙ get_or-set_same (flags ws) s b false m)

    other : (i : ℕ) → (i ≡ s → ⊥) → get_or (flags (set ws (s / 64) w)) i false ≡ get_or (set (flags ws) s b) i false
    other i n =
        getD_flags (set ws (s / 64) w) i
        ∙ elim (dec_lt (i / 64) (s / 64)) [
          | yes p ↦ apart (omega arith)
          | no p ↦ elim (dec_lt (s / 64) (i / 64)) [ yes q ↦ apart (omega arith) | no q ↦ within (omega arith) ]
        ]
        ∙ sym (get_or-set_other (flags ws) s i b false n ∙ getD_flags ws i)
      where
        apart : (i / 64 ≡ s / 64 → ⊥) → has_bit (get_or (set ws (s / 64) w) (i / 64) 0) (i % 64) ≡ has_bit (get_or ws (i / 64) 0) (i % 64)
        apart z = ap (λ (x : ℕ). has_bit x (i % 64)) (get_or-set_other ws (s / 64) (i / 64) w 0 z)

        within : i / 64 ≡ s / 64 → has_bit (get_or (set ws (s / 64) w) (i / 64) 0) (i % 64) ≡ has_bit (get_or ws (i / 64) 0) (i % 64)
        within z =
            let r : s / 64 < length ws = omega arith in
            let d : i % 64 ≡ s % 64 → ⊥ = λ (q : i % 64 ≡ s % 64). n (omega arith) in
            ap (λ (k : ℕ). has_bit (get_or (set ws (s / 64) w) k 0) (i % 64)) z
            ∙ ap (λ (x : ℕ). has_bit x (i % 64)) (get_or-set_same ws (s / 64) w 0 r)
            ∙ o (i % 64) d
            ∙ ap (λ (k : ℕ). has_bit (get_or ws k 0) (i % 64)) (sym z)

-- ── No mark is up ─────────────────────────────────────────────────────

pub down_zero : (ws : List ℕ) (k : ℕ) → get_or ws k 0 < 2 ^ 64 → Down (flags ws) → get_or ws k 0 ≡ 0
down_zero ws k fit h =
    same_from_bits_below 64 (get_or ws k 0) 0 fit (omega arith) (λ j m.
    let q : (64 * k + j) / 64 ≡ k = omega arith in
    let r : (64 * k + j) % 64 ≡ j = omega arith in
    let b : has_bit (get_or ws k 0) j ≡ false =
    sym (getD_flags ws (64 * k + j) ∙ ap (λ (x : ℕ). has_bit (get_or ws x 0) ((64 * k + j) % 64)) q ∙ ap (has_bit (get_or ws k 0)) r)
    ∙ h (64 * k + j) in
    let n : get_or ws k 0 / 2 ^ j % 2 ≡ 1 → ⊥ = eqb-false (get_or ws k 0 / 2 ^ j % 2) 1 b in
    omega (arith, bit_at-zero j))
