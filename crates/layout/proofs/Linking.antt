-- The order in which pieces are linked into the chain does not matter.
use Rattle.std.proofs.Common.{◌≡◌, ℕ, ◌+◌, ◌<◌, ◌≤◌, ◌≢◌, List, [], ◌∷◌, ◌++◌, sym, refl, ap, ◌∙◌, inl, inr, arith}
use Rattle.std.proofs.lemmas.Bool.{cases_lt, cond-false, cond-true, le-ltb, lt-ltb}
use Rattle.layout.specs.Arrangement.{Piece}
use Rattle.layout.specs.Gaps.{link, link_all}
use Rattle.layout.specs.Sound.{Each, covered}
use Rattle.layout.proofs.Cover.{covers_yes}
use Rattle.layout.proofs.Order.{Some}

-- ── Two pieces ─────────────────────────────────────────────────────────

module _ (p g : Piece) (gs : List Piece) where
  link_here : p.start < g.start → link p (g ∷ gs) ≡ p ∷ g ∷ gs
  link_here h = cond-true _ _ _ (lt-ltb p.start g.start h)

  link_later : g.start ≤ p.start → link p (g ∷ gs) ≡ g ∷ link p gs
  link_later h = cond-false _ _ _ (le-ltb p.start g.start h)

module _ (p q : Piece) where
  both_here : (gs : List Piece) → link p gs ≡ p ∷ gs → link q gs ≡ q ∷ gs → p.start < q.start → link p (link q gs) ≡ link q (link p gs)
  both_here gs hp hq l =
      ap (link p) hq ∙ link_here p q gs l ∙ ap (λ (zs : List Piece). p ∷ zs) (sym hq) ∙ sym (link_later q p gs (omega arith)) ∙ ap (link q) (sym hp)

  one_here : (g : Piece) (gs : List Piece) → p.start < g.start → g.start ≤ q.start → link p (link q (g ∷ gs)) ≡ link q (link p (g ∷ gs))
  one_here g gs l k =
      ap (link p) (link_later q g gs k) ∙ link_here p g (link q gs) l
      ∙ ap (λ (zs : List Piece). p ∷ zs) (sym (link_later q g gs k)) ∙ sym (link_later q p (g ∷ gs) (omega arith)) ∙ ap (link q) (sym (link_here p g gs l))

link_swap : (p q : Piece) (gs : List Piece) → p.start ≢ q.start → link p (link q gs) ≡ link q (link p gs)
link_swap p q [] h =
    elim (cases_lt p.start q.start) [
      | inl l ↦ both_here p q [] refl refl l
      | inr l ↦ sym (both_here q p [] refl refl (elim (cases_lt q.start p.start) [ inl k ↦ k | inr k ↦ absurd (h (omega arith)) ]))
    ]
link_swap p q (g ∷ gs) h =
    let more = link_swap p q gs h in
    elim (cases_lt p.start g.start) [
      | inl l ↦ elim (cases_lt q.start g.start) [
        | inl k ↦ elim (cases_lt p.start q.start) [
          | inl m ↦ both_here p q (g ∷ gs) (link_here p g gs l) (link_here q g gs k) m
          | inr m ↦ sym (both_here q p (g ∷ gs) (link_here q g gs k) (link_here p g gs l)
              (elim (cases_lt q.start p.start) [ inl n ↦ n | inr n ↦ absurd (h (omega arith)) ]))
        ]
        | inr k ↦ one_here p q g gs l k
      ]
      | inr l ↦ elim (cases_lt q.start g.start) [
        | inl k ↦ sym (one_here q p g gs k l)
        | inr k ↦ ap (link p) (link_later q g gs k) ∙ link_later p g (link q gs) l
            ∙ ap (λ (zs : List Piece). g ∷ zs) more
            ∙ sym (link_later q g (link p gs) k) ∙ ap (link q) (sym (link_later p g gs l))
      ]
    ]

-- ── Many pieces ────────────────────────────────────────────────────────

-- no piece of the one list begins where one of the other does
abbrev pub Away : Piece → List Piece → Type 0
Away p qs = Each (λ q. p.start ≢ q.start) qs

all-++ : (ps qs gs : List Piece) → link_all (ps ++ qs) gs ≡ link_all ps (link_all qs gs)
all-++ [] qs gs = refl
all-++ (p ∷ ps) qs gs = ap (link p) (all-++ ps qs gs)

link_past : (p : Piece) (qs gs : List Piece) → Away p qs → link p (link_all qs gs) ≡ link_all qs (link p gs)
link_past p [] gs h = refl
link_past p (q ∷ qs) gs h = link_swap p q (link_all qs gs) h.0 ∙ ap (link q) (link_past p qs gs h.1)

all_swap : (ps qs gs : List Piece) → Each (λ p. Away p qs) ps → link_all ps (link_all qs gs) ≡ link_all qs (link_all ps gs)
all_swap [] qs gs h = refl
all_swap (p ∷ ps) qs gs h = ap (link p) (all_swap ps qs gs h.1) ∙ link_past p qs (link_all ps gs) h.0

-- the first pieces are linked before the others
pub all_turn : (ps qs gs : List Piece) → Each (λ p. Away p qs) ps → link_all (ps ++ qs) gs ≡ link_all qs (link_all ps gs)
all_turn ps qs gs h = all-++ ps qs gs ∙ all_swap ps qs gs h

-- ── Pieces that do not overlap ─────────────────────────────────────────

away : (p : Piece) (qs : List Piece) → Each Some qs → covered p.start qs ≡ 0 → Away p qs
away p [] e h = tt
away p (q ∷ qs) e h = (
  (λ z. let one = covers_yes p.start q.start q.size (omega arith) (omega (arith, e.0)) in omega arith),
  away p qs e.1 (omega arith),
)

pub apart_away : (ps qs : List Piece) → Each Some ps → Each Some qs → ((y : ℕ) → covered y ps + covered y qs ≤ 1) → Each (λ p. Away p qs) ps
apart_away [] qs e f h = tt
apart_away (p ∷ ps) qs e f h = (
  away p qs f (omega (arith, h p.start, covers_yes p.start p.start p.size (omega arith) (omega (arith, e.0)))),
  apart_away ps qs e.1 f (λ y. omega (arith, h y)),
)
