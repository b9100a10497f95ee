-- A block of data grows in place: what its cells say stands in the words.
use Rattle.std.proofs.Common.{◌≡◌, ℕ, suc, ◌+◌, ◌-◌, ◌<◌, ◌≤◌, false, ◌≢◌, List, length, get_or, ℤ, sym, ap, ◌∙◌, subst, inl, inr, arith}
use Rattle.std.proofs.lemmas.Bool.{cases_lt}
use Rattle.codeword.specs.Codeword.{packed}
use Rattle.ledger.specs.Lists.{insert_at}
use Rattle.layout.specs.Arrangement.{Data}
use Rattle.layout.specs.Holds.{Shows}
use Rattle.layout.specs.Sound.{Each, covers}
use Rattle.layout.specs.Words.{Cell, cells, datum_at, labelling}
use Rattle.layout.proofs.Cells.{Shown}
use Rattle.layout.proofs.Cover.{above, among, below, lies}
use Rattle.layout.proofs.Tops.{by_place}
use Rattle.layout.proofs.Grown.{insert_length}
use Rattle.layout.proofs.Hits.{here, here_yes, hits, hits_cells}
use Rattle.layout.proofs.WalkEnd.{along_get}
use Rattle.insertion.proofs.Inserted.{come_after, come_before, come_in}
use Rattle.insertion.proofs.OpenedUp.{at_label, at_low, at_moved, at_new, at_past, opened_words}

-- an address is none that is hit where it is hit once already
apart_from : (y a h : ℕ) → here y a + h ≤ 1 → 1 ≤ h → y ≢ a
apart_from y a h one some e = omega (arith, subst (λ (z : ℕ). here y z ≡ 1) e (here_yes y))

-- ── A block of data ────────────────────────────────────────────────────

module _ (vs : List ℕ) (d s at k n : ℕ) (b : ℤ) (ty : ℕ) (ws : List ℕ) (le : k ≤ length ws) (shows : Shows (suc d) vs at (Data s b ty ws))
    (inside : at < length vs) (fit : s + 1 + length ws + n ≤ length vs)
    (one : (y : ℕ) → hits y (cells (suc d) at (Data s b ty (insert_at k n 0 ws))) ≤ 1) where
  abbrev N : ℕ
  N = length ws

  abbrev ws' : List ℕ
  ws' = insert_at k n 0 ws

  abbrev D : List Cell
  D = cells (suc d) at (Data s b ty ws')

  data_hits : (y : ℕ) → hits y D ≡ here y at + covers y (record { start = s; size = N + n + 1 })
  data_hits y =
      hits_cells y (suc d) at (Data s b ty ws')
      ∙ ap (λ (m : ℕ). here y at + (covers y (record { start = s; size = m + 1 }) + 0)) (insert_length k n 0 ws) ∙ omega arith

  pub data_away : (y : ℕ) → s ≤ y → y < s + 1 + N + n → y ≢ at
  data_away y lo hi =
      elim (lies y s (N + n + 1)) [
        | below l e ↦ absurd (omega arith)
        | among l h e ↦ apart_from y at (covers y (record { start = s; size = N + n + 1 })) (omega (arith, one y, data_hits y)) (omega arith)
        | above l e ↦ absurd (omega arith)
      ]

  abbrev us : List ℕ
  us = opened_words s N k n at b false ty vs le shows.1 inside fit data_away

  pub data_kept : (y : ℕ) → hits y D ≡ 0 → get_or us y 0 ≡ get_or vs y 0
  data_kept y z =
      let ne : y ≢ at = λ e. omega (arith, z, data_hits y, subst (λ (a : ℕ). here y a ≡ 1) e (here_yes y)) in
      elim (lies y s (N + n + 1)) [
        | below l e ↦ at_low s N k n at b false ty vs le shows.1 inside fit data_away y ne (omega arith)
        | among l h e ↦ absurd (omega (arith, z, data_hits y))
        | above l e ↦ at_past s N k n at b false ty vs le shows.1 inside fit data_away y ne (omega arith)
      ]

  element_there : (m : ℕ) → m < length ws' → get_or us (s + 1 + m) 0 ≡ get_or ws' m 0
  element_there m l =
      let was : (j : ℕ) → j < N → get_or vs (s + 1 + j) 0 ≡ get_or ws j 0 =
      λ j h. along_get (λ y v. get_or vs y 0 ≡ v) (s + 1) ws 0 j h shows.2 in
      let most : m < N + n = omega (arith, insert_length k n 0 ws) in
      elim (cases_lt m k) [
        | inl h ↦
            at_low s N k n at b false ty vs le shows.1 inside fit data_away (s + 1 + m) (data_away (s + 1 + m) (omega arith) (omega arith)) (omega arith)
            ∙ was m (omega arith) ∙ sym (come_before k n 0 ws le m h)
        | inr h ↦ elim (cases_lt m (k + n)) [
          | inl g ↦
              at_new s N k n at b false ty vs le shows.1 inside fit data_away (s + 1 + m) (omega arith) (omega arith)
              ∙ sym (come_in k n 0 ws le m h g)
          | inr g ↦
              ap (λ (y : ℕ). get_or us y 0) (let p : s + 1 + m ≡ s + 1 + k + n + (m - n - k) = omega arith in p)
              ∙ at_moved s N k n at b false ty vs le shows.1 inside fit data_away (m - n - k) (omega arith)
              ∙ ap (λ (y : ℕ). get_or vs y 0) (let p : s + 1 + k + (m - n - k) ≡ s + 1 + (m - n) = omega arith in p)
              ∙ was (m - n) (omega arith) ∙ sym (come_after k n 0 ws le m g)
        ]
      ]

  pub data_shown : Each (Shown us) D
  data_shown = (
    at_label s N k n at b false ty vs le shows.1 inside fit data_away
        ∙ ap (λ (m : ℕ). packed (labelling (s + 1) m b false ty)) (sym (insert_length k n 0 ws)),
    (
      at_low s N k n at b false ty vs le shows.1 inside fit data_away s (data_away s (omega arith) (omega arith)) (omega arith) ∙ shows.1,
      by_place datum_at 0 (Shown us) (s + 1) ws' (λ m l. (element_there m l, tt)),
    ),
  )
