-- A block of codewords grows in place: what its cells say stands in the words, and so does what the arrays below say.
use Rattle.std.proofs.Common.{◌≡◌, ℕ, zero, suc, ◌+◌, ◌-◌, ◌^◌, ◌<◌, ◌≤◌, true, ◌≢◌, ◌⊎◌, List, length, get_or, ℤ, sym, refl, ap, ◌∙◌, subst, inl, inr, arith}
use Rattle.std.proofs.lemmas.Bool.{cases_eq, cases_lt}
use Rattle.codeword.specs.Codeword.{packed}
use Rattle.ledger.specs.Lists.{insert_at}
use Rattle.layout.specs.Arrangement.{Codes, Data, Placed, Vacant, vacant}
use Rattle.layout.specs.Holds.{Shows}
use Rattle.layout.specs.Sound.{Each}
use Rattle.layout.specs.Words.{Cell, cells, cells_along, datum_at, labelling}
use Rattle.layout.proofs.Attached.{nothing_shown}
use Rattle.layout.proofs.Bridge.{Fits}
use Rattle.layout.proofs.Cells.{Shown, shows→cells}
use Rattle.layout.proofs.Change.{each_get}
use Rattle.layout.proofs.Tops.{at_place, by_place, cells_hits, code, codeword_is, one_hit, rest, starts}
use Rattle.layout.proofs.Grown.{insert_length}
use Rattle.layout.proofs.Hits.{here, here_no, here_yes, hits}
use Rattle.layout.proofs.WalkEnd.{along_get}
use Rattle.layout.proofs.Rewritten.{each_kept}
use Rattle.placement.specs.Moves.{renewed}
use Rattle.insertion.proofs.Inserted.{come_after, come_before, come_in}
use Rattle.insertion.proofs.Renewed.{is_here, renewed_here, renewed_other}
use Rattle.insertion.proofs.OpenedUp.{at_label, at_low, at_moved, at_new, at_past, length_opened, opened_words}
use Rattle.insertion.proofs.TableApart.{both, codes_away, its, not_at, outside}

-- a block begins in the store
inside_of : (count d : ℕ) (p : Placed d) (y : ℕ) → Fits count d p → 1 ≤ starts y d p → count ≤ y → ⊥
inside_of count zero p y g l z = omega arith
inside_of count (suc d) Vacant y g l z = omega arith
inside_of count (suc d) (Data s b t ws) y g l z = let e = is_here y s l in omega (arith, g.2)
inside_of count (suc d) (Codes s b ps) y g l z = let e = is_here y s l in omega (arith, g.2)

-- an array whose codeword is elsewhere now
reseated : (vs us : List ℕ) (d a a' : ℕ) (p : Placed d) → Each (Shown vs) (cells d a p) → get_or us a' 0 ≡ code d p
    → ((y : ℕ) → 1 ≤ starts y d p → get_or us y 0 ≡ a') → ((y : ℕ) → 1 ≤ hits y (rest d p) → get_or us y 0 ≡ get_or vs y 0)
    → Each (Shown us) (cells d a' p)
reseated vs us zero a a' p e w back kept = (w, tt)
reseated vs us (suc d) a a' Vacant e w back kept = (w, tt)
reseated vs us (suc d) a a' (Data s b t ws) e w back kept =
    (w, (back s (omega (arith, here_yes s)), each_kept vs us (cells_along datum_at (s + 1) ws) kept e.1.1))
reseated vs us (suc d) a a' (Codes s b ps) e w back kept =
    (w, (back s (omega (arith, here_yes s)), each_kept vs us (cells_along (cells d) (s + 1) ps) kept e.1.1))

module _ (vs : List ℕ) (few : length vs ≤ 2 ^ 18) (d s at k n : ℕ) (b : ℤ) (ps : List (Placed d)) (le : k ≤ length ps)
    (shows : Shows (suc d) vs at (Codes s b ps)) (fits : Fits (length vs) (suc d) (Codes s b ps))
    (inside : at < length vs) (fit : s + 1 + length ps + n ≤ length vs)
    (one : (y : ℕ) → hits y (cells (suc d) at (Codes s b (insert_at k n (vacant d) ps))) ≤ 1) where
  abbrev M : ℕ
  M = length ps

  abbrev ps' : List (Placed d)
  ps' = insert_at k n (vacant d) ps

  abbrev C : List Cell
  C = cells (suc d) at (Codes s b ps')

  abbrev at' : ℕ → Placed d
  at' m = get_or ps' m (vacant d)

  abbrev mid : List ℕ
  mid = opened_words s M k n at b true 0 vs le shows.1 inside fit (codes_away d s at k n b ps one)

  abbrev a : ℕ
  a = s + 1 + k + n

  abbrev ren : List ℕ
  ren = renewed (M - k) a mid

  -- the elements that moved
  abbrev q : ℕ → Placed d
  q j = get_or ps (k + j) (vacant d)

  q_is : (j : ℕ) → at' (k + n + j) ≡ q j
  q_is j = come_after k n (vacant d) ps le (k + n + j) (omega arith) ∙ ap (λ (i : ℕ). get_or ps i (vacant d)) (let p : k + n + j - n ≡ k + j = omega arith in p)

  mid_long : length mid ≡ length vs
  mid_long = length_opened s M k n at b true 0 vs le shows.1 inside fit (codes_away d s at k n b ps one)

  q_fits : (j : ℕ) → j < M - k → Fits (length mid) d (q j)
  q_fits j h =
      subst (λ (z : ℕ). Fits z d (q j)) (sym mid_long) (each_get (Fits (length vs) d) (vacant d) ps (k + j) (omega arith) fits.4)

  q_codes : (j : ℕ) → j < M - k → get_or mid (a + j) 0 ≡ code d (q j)
  q_codes j h =
      at_moved s M k n at b true 0 vs le shows.1 inside fit (codes_away d s at k n b ps one) j h
      ∙ ap (λ (y : ℕ). get_or vs y 0) (let p : s + 1 + k + j ≡ s + 1 + (k + j) = omega arith in p)
      ∙ codeword_is vs d (s + 1 + (k + j)) (q j) (along_get (Shows d vs) (s + 1) ps (vacant d) (k + j) (omega arith) shows.2)

  -- within the block no array below begins
  none_in : (y j : ℕ) → j < M - k → s ≤ y → y < s + 1 + M + n → starts y d (q j) ≡ 0
  none_in y j h lo hi =
      elim (cases_lt 0 (starts y d (q j))) [
        | inl some ↦ absurd (elim (outside d s at k n b ps one (k + n + j) y (omega arith) (omega (arith, ap (starts y d) (q_is j)))) [ inl z ↦ omega arith | inr z ↦ omega arith ])
        | inr z ↦ omega arith
      ]

  q_apart : (y j : ℕ) → j < M - k → a ≤ y → y < a + (M - k) → starts y d (q j) ≡ 0
  q_apart y j h lo hi = none_in y j h (omega arith) (omega arith)

  q_once : (y i j : ℕ) → i < M - k → j < M - k → i ≢ j → starts y d (q i) + starts y d (q j) ≤ 1
  q_once y i j h l ne =
      omega (
        arith,
        both d s at k n b ps one y (k + n + i) (k + n + j) (omega arith) (omega arith) (λ e. let d' : i ≢ j = ne in omega arith),
        ap (starts y d) (q_is i),
        ap (starts y d) (q_is j),
      )

  other : (y : ℕ) → ((j : ℕ) → j < M - k → starts y d (q j) ≡ 0) → get_or ren y 0 ≡ get_or mid y 0
  other y h = renewed_other d a (M - k) mid q (omega (arith, mid_long)) q_fits q_codes q_apart q_once (M - k) (omega arith) y h

  own : (j : ℕ) → j < M - k → (y : ℕ) → 1 ≤ starts y d (q j) → y < length vs → get_or ren y 0 ≡ a + j
  own j h y l m =
      renewed_here d a (M - k) mid q (omega (arith, mid_long)) q_fits q_codes q_apart q_once (M - k) (omega arith) j h y l (omega (arith, mid_long))

  below_low : (y : ℕ) → y ≢ at → y < s + 1 + k → get_or mid y 0 ≡ get_or vs y 0
  below_low y ne h = at_low s M k n at b true 0 vs le shows.1 inside fit (codes_away d s at k n b ps one) y ne h

  out_kept : (y : ℕ) → y ≢ at → (y < s) ⊎ (s + 1 + M + n ≤ y) → get_or mid y 0 ≡ get_or vs y 0
  out_kept y ne h =
      elim h [
        | inl z ↦ below_low y ne (omega arith)
        | inr z ↦ at_past s M k n at b true 0 vs le shows.1 inside fit (codes_away d s at k n b ps one) y ne z
      ]

  was : (m : ℕ) → m < M → Each (Shown vs) (cells d (s + 1 + m) (get_or ps m (vacant d)))
  was m l = at_place (cells d) (vacant d) (Shown vs) (s + 1) ps m l (shows→cells vs (suc d) at (Codes s b ps) shows).1.1

  -- an element before the new ones
  stays : (m : ℕ) → m < k → Each (Shown ren) (cells d (s + 1 + m) (at' m))
  stays m h =
      let same : at' m ≡ get_or ps m (vacant d) = come_before k n (vacant d) ps le m h in
      subst (λ (p : Placed d). Each (Shown ren) (cells d (s + 1 + m) p)) (sym same)
      (each_kept vs ren (cells d (s + 1 + m) (get_or ps m (vacant d))) (λ y l.
      let hit : 1 ≤ here y (s + 1 + m) + starts y d (at' m) + hits y (rest d (at' m)) =
      omega (arith, cells_hits y d (s + 1 + m) (at' m), ap (λ (p : Placed d). hits y (cells d (s + 1 + m) p)) same) in
      let ne : y ≢ at = not_at d s at k n b ps one m y (omega arith) hit in
      other y (λ j i. omega (arith, both d s at k n b ps one y m (k + n + j) (omega arith) (omega arith) (λ e. omega arith), ap (starts y d) (q_is j)))
      ∙ elim (cases_lt y (s + 1 + k)) [
        | inl z ↦ below_low y ne z
        | inr z ↦
            let none : here y (s + 1 + m) ≡ 0 = here_no y (s + 1 + m) (λ e. omega arith) in
            out_kept y ne (outside d s at k n b ps one m y (omega arith) (omega arith))
      ])
      (was m (omega arith)))

  -- a new one
  comes : (m : ℕ) → k ≤ m → m < k + n → Each (Shown ren) (cells d (s + 1 + m) (at' m))
  comes m h l =
      subst (λ (p : Placed d). Each (Shown ren) (cells d (s + 1 + m) p)) (sym (come_in k n (vacant d) ps le m h l))
      (nothing_shown ren d (s + 1 + m)
      (other (s + 1 + m) (λ j i. none_in (s + 1 + m) j i (omega arith) (omega arith))
      ∙ at_new s M k n at b true 0 vs le shows.1 inside fit (codes_away d s at k n b ps one) (s + 1 + m) (omega arith) (omega arith)))

  -- one that moved
  moves : (j : ℕ) → j < M - k → Each (Shown ren) (cells d (a + j) (q j))
  moves j h =
      let i = k + n + j in
      let p : a + j ≡ s + 1 + i = omega arith in
      reseated vs ren d (s + 1 + (k + j)) (a + j) (q j) (was (k + j) (omega arith))
      (other (a + j) (λ m l. none_in (a + j) m l (omega arith) (omega arith)) ∙ q_codes j h)
      (λ y l.
      own j h y l
      (elim (cases_lt y (length vs)) [
        | inl z ↦ z
        | inr z ↦ absurd (inside_of (length vs) d (q j) y (each_get (Fits (length vs) d) (vacant d) ps (k + j) (omega arith) fits.4) l z)
      ]))
      (λ y l.
      let some : 1 ≤ hits y (rest d (at' i)) = omega (arith, ap (λ (r : Placed d). hits y (rest d r)) (q_is j)) in
      other y (λ m g.
      elim (cases_eq m j) [
        | inl e ↦ omega (arith, its d s at k n b ps one y i (omega arith), ap (starts y d) (q_is j), ap (λ (z : ℕ). starts y d (q z)) e)
        | inr e ↦
            let ne : m ≢ j = e in
            omega (arith, both d s at k n b ps one y i (k + n + m) (omega arith) (omega arith) (λ z. omega arith), ap (starts y d) (q_is m))
      ])
      ∙ out_kept y (not_at d s at k n b ps one i y (omega arith) (omega arith)) (outside d s at k n b ps one i y (omega arith) (omega arith)))

  element_shown : (m : ℕ) → m < length ps' → Each (Shown ren) (cells d (s + 1 + m) (at' m))
  element_shown m l =
      let most : m < M + n = omega (arith, insert_length k n (vacant d) ps) in
      elim (cases_lt m k) [
        | inl h ↦ stays m h
        | inr h ↦ elim (cases_lt m (k + n)) [
          | inl g ↦ comes m h g
          | inr g ↦
              let j = m - k - n in
              let p : k + n + j ≡ m = omega arith in
              subst (λ (i : ℕ). Each (Shown ren) (cells d (s + 1 + i) (at' i))) p
              (subst (λ (y : ℕ). Each (Shown ren) (cells d y (at' (k + n + j)))) (let z : a + j ≡ s + 1 + (k + n + j) = omega arith in z)
              (subst (λ (r : Placed d). Each (Shown ren) (cells d (a + j) r)) (sym (q_is j)) (moves j (omega arith))))
        ]
      ]

  pub codes_shown : Each (Shown ren) C
  codes_shown = (
    other at (λ j h.
        elim (cases_lt 0 (starts at d (q j))) [
          | inl z ↦ absurd (not_at d s at k n b ps one (k + n + j) at (omega arith) (omega (arith, ap (starts at d) (q_is j))) refl)
          | inr z ↦ omega arith
        ])
        ∙ at_label s M k n at b true 0 vs le shows.1 inside fit (codes_away d s at k n b ps one)
        ∙ ap (λ (m : ℕ). packed (labelling (s + 1) m b true 0)) (sym (insert_length k n (vacant d) ps)),
    (
      other s (λ j h. none_in s j h (omega arith) (omega arith))
          ∙ below_low s (codes_away d s at k n b ps one s (omega arith) (omega arith)) (omega arith) ∙ shows.1,
      by_place (cells d) (vacant d) (Shown ren) (s + 1) ps' element_shown,
    ),
  )

  pub codes_kept : (y : ℕ) → hits y C ≡ 0 → get_or ren y 0 ≡ get_or vs y 0
  codes_kept y z =
      let ne : y ≢ at = λ e. omega (arith, z, subst (λ (a : ℕ). here y a ≡ 1) e (here_yes y)) in
      let hit : (m : ℕ) → m < M + n → here y (s + 1 + m) + starts y d (at' m) + hits y (rest d (at' m)) ≡ 0 =
      λ m l. omega (arith, z, one_hit (cells d) (vacant d) y (s + 1) ps' m (omega (arith, insert_length k n (vacant d) ps)), cells_hits y d (s + 1 + m) (at' m)) in
      other y (λ j h. omega (arith, hit (k + n + j) (omega arith), ap (starts y d) (q_is j)))
      ∙ out_kept y ne
      (elim (cases_lt y s) [
        | inl l ↦ inl l
        | inr l ↦ elim (cases_lt y (s + 1 + M + n)) [
          | inr g ↦ inr g
          | inl g ↦ absurd (elim (cases_eq y s) [
            | inl e ↦ omega (arith, z, subst (λ (a : ℕ). here y a ≡ 1) e (here_yes y))
            | inr e ↦
                let nes : y ≢ s = e in
                let j = y - s - 1 in
                let p : y ≡ s + 1 + j = omega arith in
                omega (arith, hit j (omega arith), subst (λ (a : ℕ). here y a ≡ 1) p (here_yes y))
          ])
        ]
      ])
