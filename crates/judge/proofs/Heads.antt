-- What the header, or the first word of a gap, says.
use Rattle.std.proofs.Common.{◌≡◌, ℕ, ◌^◌, ◌<◌, ◌≤◌, Bool, true, false, cond, ltb, List, get_or, Some, None, Option, sym, refl, ap, ◌∙◌, arith}
use Rattle.std.proofs.lemmas.Option.{none-some, same_Some}
use Rattle.std.proofs.lemmas.Bool.{cond-false, cond-true}
use Rattle.std.proofs.lemmas.Bool.Decides.{nat_tests}
use Rattle.judge.specs.Tiles.{gap_head, head_of, high, is_gap, low}
use Rattle.codeword.specs.declared.head.Head.{Head}

-- one that says what w says
pub record Says (h : Head) (w : ℕ) : Type 0 where
  pub size : h.size ≡ low w
  pub next : h.next ≡ high w

-- a test's two ways, told by what they answer
abbrev pub way : Bool → ℕ → Option Head
way b w = cond b (Some (record { size = low w; next = high w })) None

module _ (b : Bool) (w : ℕ) where
  pub told_none : None ≡ way b w → b ≡ false
  told_none e = go b refl
    where
      go : (q : Bool) → b ≡ q → b ≡ false
      go false p = p
      go true p = absurd (none-some (record { size = low w; next = high w }) (e ∙ ap (λ (z : Bool). way z w) p))

  pub told_some : (h : Head) → Some h ≡ way b w → (b ≡ true) × Says h w
  told_some h e = go b refl
    where
      go : (q : Bool) → b ≡ q → (b ≡ true) × Says h w
      go false p = absurd (none-some h (sym (e ∙ ap (λ (z : Bool). way z w) p)))
      go true p =
          let s : h ≡ record { size = low w; next = high w } =
          same_Some h (record { size = low w; next = high w }) (e ∙ ap (λ (z : Bool). way z w) p) in
          (p, record { size = ap (λ (k : Head). k.size) s; next = ap (λ (k : Head). k.next) s })

  pub tells_none : b ≡ false → None ≡ way b w
  tells_none p = sym (cond-false _ _ _ p)

  pub tells_some : (h : Head) → b ≡ true → Says h w → Some h ≡ way b w
  tells_some h p s =
      let e : h ≡ record { size = low w; next = high w } = λ i. record { size = s.size i; next = s.next i } in
      ap Some e ∙ sym (cond-true _ _ _ p)

pub head_none : (w : ℕ) → None ≡ head_of w → 2 ^ 36 ≤ w
head_none w e = let p : ltb w (2 ^ 36) ≡ false = told_none (ltb w (2 ^ 36)) w e in grind (arith, nat_tests)

pub head_some : (w : ℕ) (h : Head) → Some h ≡ head_of w → (w < 2 ^ 36) × Says h w
head_some w h e =
    let p = told_some (ltb w (2 ^ 36)) w h e in
    let q : ltb w (2 ^ 36) ≡ true = p.0 in
    (grind (arith, nat_tests), p.1)

module _ (ws : List ℕ) (x left : ℕ) where
  pub no_gap : None ≡ gap_head ws x left → is_gap ws x left ≡ false
  no_gap e = told_none (is_gap ws x left) (get_or ws x 0) e

  pub some_gap : (h : Head) → Some h ≡ gap_head ws x left → (is_gap ws x left ≡ true) × Says h (get_or ws x 0)
  some_gap h e = told_some (is_gap ws x left) (get_or ws x 0) h e

  pub gap_none : is_gap ws x left ≡ false → None ≡ gap_head ws x left
  gap_none e = tells_none (is_gap ws x left) (get_or ws x 0) e

  pub gap_some : (h : Head) → is_gap ws x left ≡ true → Says h (get_or ws x 0) → Some h ≡ gap_head ws x left
  gap_some h e s = tells_some (is_gap ws x left) (get_or ws x 0) h e s
