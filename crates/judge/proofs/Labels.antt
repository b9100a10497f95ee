-- The words that label a block: what the fields of one are, and that every label of a block in the list is one.
use Rattle.std.proofs.Common.{◌≡◌, ℕ, zero, suc, ◌+◌, ◌-◌, ◌*◌, ◌^◌, ◌<◌, ◌≤◌, Bool, true, false, eqb, ℤ, pos, negsuc, sym, refl, ap, ◌∙◌, subst, arith}
use native.Mathlib.Decide.{dec_lt}
use lib.Signed.{mag}
use Rattle.std.proofs.lemmas.Bool.{cond-false, cond-true, le-ltb, lt-ltb}
use Rattle.std.proofs.lemmas.Bool.Decides.{nat_tests}
use Rattle.codeword.specs.Codeword.{bit, bits16, field, packed, signed16, unpacked}
use Rattle.codeword.specs.Lawful.{labels, lawful}
use Rattle.codeword.specs.declared.Codeword.{Codeword}
use Rattle.codeword.proofs.Packing.{bit_lt, unpacked_packed}
use Rattle.layout.specs.Words.{labelling}
use Rattle.judge.specs.Arrays.{coded, count, first, is_label}

-- ── A word without unnamed bits is what its fields pack to ─────────────

signed_bits : (x : ℕ) → x < 2 ^ 16 → (bits16 (signed16 x) ≡ x) × (mag (signed16 x) < 2 ^ 15)
signed_bits x h =
    elim (dec_lt x (2 ^ 15)) [
      | yes l ↦
          let e : signed16 x ≡ pos x = cond-true _ _ _ (lt-ltb x (2 ^ 15) l) in
          (ap bits16 e, subst (λ (z : ℤ). mag z < 2 ^ 15) (sym e) l)
      | no l ↦
          let e : signed16 x ≡ negsuc (2 ^ 16 - 1 - x) = cond-false _ _ _ (le-ltb x (2 ^ 15) (omega arith)) in
          let b : 2 ^ 16 - 1 - (2 ^ 16 - 1 - x) ≡ x = omega arith in
          let m : 2 ^ 16 - 1 - x < 2 ^ 15 = omega arith in
          (ap bits16 e ∙ b, subst (λ (z : ℤ). mag z < 2 ^ 15) (sym e) m)
    ]

bit_eqb : (x : ℕ) → x < 2 → bit (eqb x 1) ≡ x
bit_eqb zero h = refl
bit_eqb (suc zero) h = refl
bit_eqb (suc (suc x)) h = absurd (omega arith)

fields_sum : (w b p q r s : ℕ) → w < 2 ^ 58 → b ≡ field 36 16 w → p ≡ field 52 1 w → q ≡ field 53 1 w → r ≡ field 54 1 w → s ≡ field 55 1 w
    → w ≡ field 0 18 w + 2 ^ 18 * field 18 18 w + 2 ^ 36 * b + 2 ^ 52 * p + 2 ^ 53 * q + 2 ^ 54 * r + 2 ^ 55 * s + 2 ^ 56 * field 56 2 w
fields_sum w b p q r s h eb ep eq er es = omega arith

packed_unpacked : (w : ℕ) → w < 2 ^ 58 → w ≡ packed (unpacked w)
packed_unpacked w h =
    fields_sum w _ _ _ _ _ h (signed_bits (field 36 16 w) (omega arith)).0
    (bit_eqb (field 52 1 w) (omega arith)) (bit_eqb (field 53 1 w) (omega arith)) (bit_eqb (field 54 1 w) (omega arith)) (bit_eqb (field 55 1 w) (omega arith))

-- ── What a label says ──────────────────────────────────────────────────

record Plain (c : Codeword) : Type 0 where
  no_p : c.p ≡ false
  no_q : c.q ≡ false
  no_s : c.s ≡ false
  some_words : 1 ≤ c.length
  type_2 : c.kind ≤ 2
  plain : c.r ≡ true → c.kind ≡ 0

plain_fields : (c : Codeword) → labels c ≡ true → Plain c
plain_fields c h = record {
  no_p = grind (arith, nat_tests);
  no_q = grind (arith, nat_tests);
  no_s = grind (arith, nat_tests);
  some_words = grind (arith, nat_tests);
  type_2 = grind (arith, nat_tests);
  plain = λ e. grind (arith, nat_tests);
}

as_labelling : (c : Codeword) → Plain c → c ≡ labelling c.first c.length c.base c.r c.kind
as_labelling c h = λ i. record {
  first = c.first;
  length = c.length;
  base = c.base;
  p = h.no_p i;
  q = h.no_q i;
  r = c.r;
  s = h.no_s i;
  kind = c.kind;
}

-- a word that labels a block in a list of n words
pub record Label (n w : ℕ) : Type 0 where
  pub whole : w ≡ packed (labelling (first w) (count w) (unpacked w).base (coded w) (unpacked w).kind)
  pub base : mag (unpacked w).base < 2 ^ 15
  pub type_2 : (unpacked w).kind ≤ 2
  pub plain : coded w ≡ true → (unpacked w).kind ≡ 0
  pub some_words : 1 ≤ count w
  pub from_65 : 66 ≤ first w
  pub within : first w + count w ≤ n

parts : (n w : ℕ) → is_label n w ≡ true → (lawful w ≡ true) × (66 ≤ first w) × (first w + count w ≤ n)
unfolding is_label
parts n w h = (grind (arith, nat_tests), grind (arith, nat_tests), grind (arith, nat_tests))

lawful_parts : (w : ℕ) → (w ≡ 0 → ⊥) → lawful w ≡ true → (w < 2 ^ 58) × (labels (unpacked w) ≡ true)
lawful_parts w nz h = (grind (arith, nat_tests), grind (arith, nat_tests))

pub label_fields : (n w : ℕ) → is_label n w ≡ true → Label n w
label_fields n w h =
    let p = parts n w h in
    let f : 66 ≤ first w = p.1 in
    let l = lawful_parts w (λ (z : w ≡ 0). omega arith) p.0 in
    let c = plain_fields (unpacked w) l.1 in
    record {
      whole = packed_unpacked w l.0 ∙ ap packed (as_labelling (unpacked w) c);
      base = (signed_bits (field 36 16 w) (omega arith)).1;
      type_2 = c.type_2;
      plain = c.plain;
      some_words = c.some_words;
      from_65 = f;
      within = p.2;
    }

pub label_unlawful : (n w : ℕ) → lawful w ≡ false → is_label n w ≡ false
unfolding is_label
label_unlawful n w h = grind (arith, nat_tests)

pub label_early : (n w : ℕ) → first w < 66 → is_label n w ≡ false
unfolding is_label
label_early n w h = grind (arith, nat_tests)

pub label_late : (n w : ℕ) → n < first w + count w → is_label n w ≡ false
unfolding is_label
label_late n w h = grind (arith, nat_tests)

-- ── The label of a block is one ────────────────────────────────────────

base_small : (b : ℤ) → mag b < 2 ^ 15 → bits16 b < 2 ^ 16
base_small (pos n) h = omega arith
base_small (negsuc n) h = omega arith

labels_yes : (F k : ℕ) (b : ℤ) (q : Bool) (t : ℕ) → 1 ≤ k → t ≤ 2 → (q ≡ true → t ≡ 0) → labels (labelling F k b q t) ≡ true
labels_yes F k b true t h l p = let z : t ≡ 0 = p refl in grind (arith, nat_tests)
labels_yes F k b false t h l p = grind (arith, nat_tests)

lawful_yes : (w : ℕ) → w < 2 ^ 58 → labels (unpacked w) ≡ true → lawful w ≡ true
lawful_yes w h l = grind (arith, nat_tests)

pub is_label_yes : (n w : ℕ) → lawful w ≡ true → 66 ≤ first w → first w + count w ≤ n → is_label n w ≡ true
unfolding is_label
is_label_yes n w l f g = grind (arith, nat_tests)

pub label_yes : (n w s k : ℕ) (b : ℤ) (q : Bool) (t : ℕ) → n ≤ 2 ^ 18 → 1 ≤ k → 65 ≤ s → s + 1 + k ≤ n → mag b < 2 ^ 15 → t ≤ 2 → (q ≡ true → t ≡ 0)
    → w ≡ packed (labelling (s + 1) k b q t) → (is_label n w ≡ true) × (unpacked w ≡ labelling (s + 1) k b q t)
label_yes n w s k b q t hn hk hs hi hb ht hq e =
    let u : unpacked w ≡ labelling (s + 1) k b q t =
    ap unpacked e ∙ unpacked_packed (labelling (s + 1) k b q t) (omega arith, omega arith, omega arith) (record { sfits = hb }) in
    let f : first w ≡ s + 1 = ap (λ (c : Codeword). c.first) u in
    let g : count w ≡ k = ap (λ (c : Codeword). c.length) u in
    let small : w < 2 ^ 58 = omega (arith, base_small b hb, bit_lt q, e) in
    let l : lawful w ≡ true = lawful_yes w small (ap labels u ∙ labels_yes (s + 1) k b q t hk ht hq) in
    (is_label_yes n w l (omega (arith, f)) (omega (arith, f, g)), u)
