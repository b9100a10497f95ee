-- Marks at the starts of pieces: taken down one by one, with none left over, exactly when the pieces are the marked ones in some order.
use Rattle.std.proofs.Common.{◌≡◌, ℕ, ◌+◌, ◌<◌, ◌≤◌, Bool, true, false, cond, List, [], ◌∷◌, ◌++◌, map, length, get_or, set, Some, None, Option, option_and_then, sym, refl, ap, ◌∙◌, arith, get_or-set_other, get_or-set_same}
use mathlib.Core.List.Permᴰ
use mathlib.Core.List.{Permᴰ}
use native.Mathlib.Decide.{dec_lt}
use lib.ListN.{get_or-eq_default}
use Rattle.std.proofs.lemmas.Bool.{both_ways}
use Rattle.std.proofs.lemmas.Bool.Decides.{nat_tests}
use Rattle.std.proofs.lemmas.Option.{none-some, same_Some}
use Rattle.layout.specs.Arrangement.{Piece}
use Rattle.layout.specs.Sound.{Each}
use Rattle.layout.proofs.Hits.{here, here_no}
use Rattle.layout.proofs.Order.{Tile, idle, size, used, useds}
use Rattle.ledger.specs.Trees.{sum}
use Rattle.judge.specs.Marks.{Down}

abbrev pub clears : List Piece → List Bool → Option (List Bool)
clears [] ms = Some ms
clears (p ∷ ps) ms = cond (get_or ms p.start false) (clears ps (set ms p.start false)) None

pub clears-++ : (xs ys : List Piece) (ms : List Bool) → clears (xs ++ ys) ms ≡ option_and_then (clears ys) (clears xs ms)
clears-++ [] ys ms = refl
clears-++ (x ∷ xs) ys ms = go (clears-++ xs ys (set ms x.start false)) (get_or ms x.start false)
  where
    go : clears (xs ++ ys) (set ms x.start false) ≡ option_and_then (clears ys) (clears xs (set ms x.start false))
        → (b : Bool) → cond b (clears (xs ++ ys) (set ms x.start false)) None ≡ option_and_then (clears ys) (cond b (clears xs (set ms x.start false)) None)
    go r true = r
    go r false = refl

-- ── How often a start occurs ──────────────────────────────────────────

abbrev pub starts : ℕ → List Piece → ℕ
starts s [] = 0
starts s (p ∷ ps) = here s p.start + starts s ps

abbrev pub flag : Bool → ℕ
flag b = cond b 1 0

-- the marks are those of the pieces, each start once
abbrev pub Marked : List Piece → List Bool → Type 0
Marked ps ms = (s : ℕ) → starts s ps ≡ flag (get_or ms s false)

pub here_at : (s a : ℕ) → a ≡ s → here s a ≡ 1
here_at s a e = grind (arith, nat_tests)

flag_one : (b : Bool) → 1 ≤ flag b → b ≡ true
flag_one true h = refl
flag_one false h = absurd (omega arith)

flag_none : (b : Bool) → flag b ≡ 0 → b ≡ false
flag_none true h = absurd (omega arith)
flag_none false h = refl

in_range : (ms : List Bool) (s : ℕ) → get_or ms s false ≡ true → s < length ms
in_range ms s h = elim (dec_lt s (length ms)) [ yes l ↦ l | no l ↦ absurd (both_ways (get_or ms s false) (get_or-eq_default ms false (omega arith)) h) ]

cleared : (us vs : List Piece) (ms : List Bool) (s : ℕ) → Marked us ms → get_or ms s false ≡ true
    → ((t : ℕ) → starts t us ≡ here t s + starts t vs) → Marked vs (set ms s false)
cleared us vs ms s m h e t =
    elim (dec_lt s t) [
      | yes l ↦ other (omega arith)
      | no l ↦ elim (dec_lt t s) [
        | yes k ↦ other (omega arith)
        | no k ↦ same (omega arith)
      ]
    ]
  where
    other : (t ≡ s → ⊥) → starts t vs ≡ flag (get_or (set ms s false) t false)
    other n =
        let a : starts t us ≡ flag (get_or ms t false) = m t in
        let b : starts t us ≡ here t s + starts t vs = e t in
        let z : here t s ≡ 0 = here_no t s (λ (q : s ≡ t). n (sym q)) in
        let p : starts t vs ≡ flag (get_or ms t false) = omega (arith, a, b, z) in
        p ∙ ap flag (sym (get_or-set_other ms s t false false n))

    same : t ≡ s → starts t vs ≡ flag (get_or (set ms s false) t false)
    same q =
        let a : starts t us ≡ flag (get_or ms t false) = m t in
        let b : starts t us ≡ here t s + starts t vs = e t in
        let z : here t s ≡ 1 = here_at t s (sym q) in
        let w : flag (get_or ms t false) ≡ 1 = ap flag (ap (λ (k : ℕ). get_or ms k false) q ∙ h) in
        let p : starts t vs ≡ 0 = omega (arith, a, b, z, w) in
        p ∙ ap flag (sym (ap (λ (k : ℕ). get_or (set ms s false) k false) q ∙ get_or-set_same ms s false false (in_range ms s h)))

pub clears_all : (ps : List Piece) (ms : List Bool) → Marked ps ms
    → (ms' : List Bool) × (clears ps ms ≡ Some ms') × Down ms'
clears_all [] ms m = (ms, refl, λ s. flag_none (get_or ms s false) (sym (m s)))
clears_all (p ∷ ps) ms m =
    let b : get_or ms p.start false ≡ true =
    flag_one (get_or ms p.start false) (omega (arith, m p.start, here_at p.start p.start refl)) in
    let r = clears_all ps (set ms p.start false) (cleared (p ∷ ps) ps ms p.start m b (λ t. refl)) in
    (r.0, ap (λ (q : Bool). cond q (clears ps (set ms p.start false)) None) b ∙ r.1, r.2)

pub starts_perm : (s : ℕ) {xs ys : List Piece} → Permᴰ xs ys → starts s xs ≡ starts s ys
starts_perm s Permᴰ.nil = refl
starts_perm s (Permᴰ.cons e p) = omega (arith, starts_perm s p, ap (λ (q : Piece). here s q.start) e)
starts_perm s (Permᴰ.swap e f) = omega (arith, ap (λ (q : Piece). here s q.start) e, ap (λ (q : Piece). here s q.start) f)
starts_perm s (Permᴰ.trans p q) = starts_perm s p ∙ starts_perm s q

-- ── The size of a piece hangs on its start ────────────────────────────

module _ (f : ℕ → ℕ) where
  abbrev pub Sized : Piece → Type 0
  Sized p = p.size ≡ f p.start

  same_piece : (p q : Piece) → Sized p → Sized q → p.start ≡ q.start → p ≡ q
  same_piece p q h k e =
      let z : p.size ≡ q.size = h ∙ ap f e ∙ sym k in
      λ i. record { start = e i; size = z i }

  pull : (p : Piece) → Sized p → (us : List Piece) → Each Sized us → 1 ≤ starts p.start us
      → (vs : List Piece) × Permᴰ us (p ∷ vs) × Each Sized vs × ((t : ℕ) → starts t us ≡ here t p.start + starts t vs)
  pull p h [] e l = absurd (omega arith)
  pull p h (u ∷ us) e l =
      elim (dec_lt u.start p.start) [
        | yes k ↦ more (λ l'. pull p h us e.1 l') (omega arith)
        | no k ↦ elim (dec_lt p.start u.start) [
          | yes j ↦ more (λ l'. pull p h us e.1 l') (omega arith)
          | no j ↦
              let q : u.start ≡ p.start = omega arith in
              (us, Permᴰ.cons (same_piece u p e.0 h q) (Permᴰ.refl us), e.1, λ t. ap (λ (k : ℕ). here t k + starts t us) q)
        ]
      ]
    where
      more : (1 ≤ starts p.start us → (vs : List Piece) × Permᴰ us (p ∷ vs) × Each Sized vs × ((t : ℕ) → starts t us ≡ here t p.start + starts t vs))
          → (u.start ≡ p.start → ⊥)
          → (vs : List Piece) × Permᴰ (u ∷ us) (p ∷ vs) × Each Sized vs × ((t : ℕ) → starts t (u ∷ us) ≡ here t p.start + starts t vs)
      more rec n =
          let r = rec (omega (arith, here_no p.start u.start n)) in (
            u ∷ r.0,
            Permᴰ.trans (Permᴰ.cons refl r.1) (Permᴰ.swap refl refl),
            (e.0, r.2),
            λ t. omega (arith, r.3 t),
          )

  pub clears_perm : (ps us : List Piece) (ms ms' : List Bool) → Marked us ms → Each Sized us → Each Sized ps → clears ps ms ≡ Some ms'
      → Down ms' → Permᴰ us ps
  clears_perm [] [] ms ms' m e k c z = Permᴰ.nil
  clears_perm [] (u ∷ us) ms ms' m e k c z =
      let b : get_or ms u.start false ≡ false = ap (λ (x : List Bool). get_or x u.start false) (same_Some ms ms' c) ∙ z u.start in
      absurd (omega (arith, m u.start, here_at u.start u.start refl, ap flag b))
  clears_perm (p ∷ ps) us ms ms' m e k c z =
      go (λ vs n f d. clears_perm ps vs (set ms p.start false) ms' n f k.1 d z) (get_or ms p.start false) refl
    where
      go : ((vs : List Piece) → Marked vs (set ms p.start false) → Each Sized vs → clears ps (set ms p.start false) ≡ Some ms' → Permᴰ vs ps)
          → (b : Bool) → get_or ms p.start false ≡ b → Permᴰ us (p ∷ ps)
      go rec true q =
          let r = pull p k.0 us e (omega (arith, m p.start, ap flag q)) in
          let c' : clears ps (set ms p.start false) ≡ Some ms' = sym (ap (λ (x : Bool). cond x (clears ps (set ms p.start false)) None) q) ∙ c in
          Permᴰ.trans r.1
          (Permᴰ.cons refl (rec r.0 (cleared us r.0 ms p.start m q r.3) r.2 c'))
      go rec false q = absurd (none-some ms' (sym (ap (λ (x : Bool). cond x (clears ps (set ms p.start false)) None) q) ∙ c))

-- ── Marks set along the tiles ─────────────────────────────────────────

abbrev pub mark_all : List Piece → List Bool → List Bool
mark_all [] ms = ms
mark_all (p ∷ ps) ms = mark_all ps (set ms p.start true)

marks_made : (x : ℕ) (ts : List Tile) (ms : List Bool) → Each (λ t. 1 ≤ size t) ts → x + sum (map size ts) ≤ length ms
    → ((s : ℕ) → x ≤ s → get_or ms s false ≡ false)
    → (s : ℕ) → flag (get_or (mark_all (useds x ts) ms) s false) ≡ starts s (useds x ts) + flag (get_or ms s false)
marks_made x [] ms n l d s = omega arith
marks_made x (idle k ∷ ts) ms n l d s = marks_made (x + k) ts ms n.1 (omega arith) (λ j h. d j (omega arith)) s
marks_made x (used k ∷ ts) ms n l d s =
    let one : 1 ≤ k = n.0 in
    let p : length (set ms x true) ≡ length ms = lib.ListN.length-set ms x true in
    let d' : (j : ℕ) → x + k ≤ j → get_or (set ms x true) j false ≡ false =
    λ j h. get_or-set_other ms x j true false (λ (q : j ≡ x). omega (arith, q, h, one)) ∙ d j (omega arith) in
    let r = marks_made (x + k) ts (set ms x true) n.1 (omega (arith, p, l)) d' s in
    elim (dec_lt x s) [
      | yes a ↦ other r (omega arith)
      | no a ↦ elim (dec_lt s x) [ yes b ↦ other r (omega arith) | no b ↦ same r (omega arith) ]
    ]
  where
    other : flag (get_or (mark_all (useds (x + k) ts) (set ms x true)) s false) ≡ starts s (useds (x + k) ts) + flag (get_or (set ms x true) s false) → (s ≡ x → ⊥)
        → flag (get_or (mark_all (useds (x + k) ts) (set ms x true)) s false) ≡ here s x + starts s (useds (x + k) ts) + flag (get_or ms s false)
    other r q = omega (arith, r, here_no s x (λ (e : x ≡ s). q (sym e)), ap flag (get_or-set_other ms x s true false q))

    same : flag (get_or (mark_all (useds (x + k) ts) (set ms x true)) s false) ≡ starts s (useds (x + k) ts) + flag (get_or (set ms x true) s false) → s ≡ x
        → flag (get_or (mark_all (useds (x + k) ts) (set ms x true)) s false) ≡ here s x + starts s (useds (x + k) ts) + flag (get_or ms s false)
    same r q =
        let low : x < length ms = omega (arith, l, n.0) in
        omega (
          arith,
          r,
          here_at s x (sym q),
          ap flag (ap (λ (j : ℕ). get_or (set ms x true) j false) q ∙ get_or-set_same ms x true false low),
          ap flag (d s (omega arith)),
        )

pub all_marked : (x : ℕ) (ts : List Tile) (ms : List Bool) → Each (λ t. 1 ≤ size t) ts → x + sum (map size ts) ≤ length ms
    → Down ms → Marked (useds x ts) (mark_all (useds x ts) ms)
all_marked x ts ms n l d s = omega (arith, marks_made x ts ms n l (λ j h. d j) s, ap flag (d s))
