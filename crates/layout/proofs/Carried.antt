-- What a release carries along: pieces that do not overlap have no more words than S, and a gap stays in the chain while others are linked.
use Rattle.std.proofs.Common.{◌≡◌, ℕ, ◌+◌, ◌-◌, ◌<◌, ◌≤◌, List, [], ◌∷◌, refl, inl, inr, arith}
use Rattle.std.proofs.lemmas.Bool.{cases_lt}
use Rattle.layout.specs.Arrangement.{Piece}
use Rattle.layout.specs.Chains.{Begins, InChain}
use Rattle.layout.specs.Gaps.{link, link_all}
use Rattle.layout.specs.Released.{run}
use Rattle.layout.specs.Sound.{Each, covered, covers}
use Rattle.layout.specs.Words.{total}
use Rattle.layout.proofs.Change.{Climbs, at_most_1}
use Rattle.layout.proofs.Cover.{above, among, below, covers_low, covers_yes, lies}
use Rattle.layout.proofs.GivenUp.{all_climb, all_covered, all_sized, all_total, link_cases}
use Rattle.layout.proofs.Order.{Some}
use Rattle.layout.proofs.Taken.{From, clear}

-- ── How many words pieces have ─────────────────────────────────────────

from_covered : (y a : ℕ) (gs : List Piece) → y < a → From a gs → covered y gs ≡ 0
from_covered y a [] l f = refl
from_covered y a (g ∷ gs) l f = omega (arith, covers_low y g.start g.size (omega (arith, f.0)), from_covered y a gs l f.1)

climbs_total : (gs : List Piece) (a m : ℕ) → Each Some gs → Climbs gs → ((y : ℕ) → covered y gs ≤ covers y (run a m)) → total gs ≤ m
climbs_total [] a m e c o = omega arith
climbs_total (g ∷ gs) a m e c o =
    let some = e.0 in
    let end = g.start + g.size in
    let first = covers_yes g.start g.start g.size (omega arith) (omega arith) in
    let last = covers_yes (end - 1) g.start g.size (omega arith) (omega arith) in
    let low : a ≤ g.start = elim (lies g.start a m) [
      | below l z ↦ absurd (omega (arith, o g.start))
      | among l k z ↦ l
      | above l z ↦ absurd (omega (arith, o g.start))
    ] in
    let high : end ≤ a + m = elim (lies (end - 1) a m) [
      | below l z ↦ absurd (omega (arith, o (end - 1)))
      | among l k z ↦ omega arith
      | above l z ↦ absurd (omega (arith, o (end - 1)))
    ] in
    let past = clear g gs e.1 c.0 (λ y. omega (arith, o y, at_most_1 y a m)) in
    let more = climbs_total gs end (a + m - end) e.1 c.1 (λ y. elim (cases_lt y end) [
      | inl l ↦ omega (arith, from_covered y end gs l past)
      | inr l ↦ elim (lies y a m) [
        | below k z ↦ omega (arith, o y)
        | among k h z ↦ omega (arith, o y, covers_yes y end (a + m - end) l (omega arith))
        | above k z ↦ omega (arith, o y)
      ]
    ]) in
    omega arith

pub few_words : (ps : List Piece) (n : ℕ) → Each Some ps → ((y : ℕ) → covered y ps ≤ covers y (run 65 (n - 65))) → total ps ≤ n - 65
few_words ps n e o =
    let t = climbs_total (link_all ps []) 65 (n - 65) (all_sized ps [] e tt) (all_climb ps [] tt) (λ y. omega (arith, o y, all_covered y ps [])) in
    omega (arith, all_total ps [])

-- ── A gap in the chain ─────────────────────────────────────────────────

link_begins : (p : Piece) (gs : List Piece) → Begins p.start (link p gs)
link_begins p [] = inl refl
link_begins p (g ∷ gs) = let more = link_begins p gs in link_cases (Begins p.start) p g gs (λ l. inl refl) (λ l. inr more)

pub linked_known : (p : Piece) (gs : List Piece) → InChain p.start (link p gs)
linked_known p gs = inr (link_begins p gs)
