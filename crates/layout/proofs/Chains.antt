-- Chains: their parts, what is read at a gap, and what a change elsewhere leaves of them.
use Rattle.std.proofs.Common.{◌≡◌, ℕ, zero, suc, ◌+◌, ◌*◌, ◌^◌, ◌<◌, ◌≤◌, ◌≢◌, ◌⊎◌, List, [], ◌∷◌, ◌++◌, length, get_or, set, sym, refl, ap, ◌∙◌, inl, inr, arith}
use Rattle.std.proofs.lemmas.List.{get_or-set_same, get_or-set_other}
use Rattle.layout.specs.Arrangement.{Piece}
use Rattle.layout.specs.Chains.{Chained, Rising, last_of, next_at, size_at}
use Rattle.codeword.specs.Heads.{head_word}
use Rattle.layout.specs.Gaps.{a_gap}
use Rattle.layout.specs.Holds.{Chain}
use Rattle.layout.specs.Sound.{Each, covered}
use Rattle.layout.specs.Words.{first_of, total}
use Rattle.layout.proofs.Cover.{lies, below, among, above, each_imp}

-- ── Gaps that rise ─────────────────────────────────────────────────────

pub rising_le : (a : ℕ) (gs : List Piece) (e : ℕ) → Rising a gs e → a ≤ e
rising_le a [] e r = r
rising_le a (g ∷ gs) e r = omega (arith, r.0, r.1, rising_le (g.start + g.size) gs e r.2)

pub rising_total : (a : ℕ) (gs : List Piece) (e : ℕ) → Rising a gs e → a + total gs ≤ e
rising_total a [] e r = omega arith
rising_total a (g ∷ gs) e r = omega (arith, r.0, rising_total (g.start + g.size) gs e r.2)

pub rising_first : (a : ℕ) (gs : List Piece) (e : ℕ) → 1 ≤ e → Rising a gs e → first_of gs < e
rising_first a [] e h r = omega arith
rising_first a (g ∷ gs) e h r = omega (arith, r.1, rising_le (g.start + g.size) gs e r.2)

pub rising_more : (a b : ℕ) (gs : List Piece) (e : ℕ) → a ≤ b → Rising b gs e → Rising a gs e
rising_more a b [] e h r = omega arith
rising_more a b (g ∷ gs) e h r = (omega (arith, r.0), r.1, r.2)

pub rising_right : (z a : ℕ) → z < a → (xs ys : List Piece) (e : ℕ) → Rising a (xs ++ ys) e → (b : ℕ) × (a ≤ b) × (last_of z xs < b) × Rising b ys e
rising_right z a h [] ys e r = (a, omega arith, h, r)
rising_right z a h (x ∷ xs) ys e r =
    let q = rising_right x.start (x.start + x.size) (omega (arith, r.1)) xs ys e r.2 in
    (q.0, omega (arith, r.0, q.1), q.2, q.3)

pub rising_upto : (a : ℕ) (xs : List Piece) (g : Piece) (ys : List Piece) (e : ℕ) → Rising a (xs ++ g ∷ ys) e → Rising a xs g.start
rising_upto a [] g ys e r = r.0
rising_upto a (x ∷ xs) g ys e r = (r.0, r.1, rising_upto (x.start + x.size) xs g ys e r.2)

pub rising_below : (a : ℕ) (gs : List Piece) (e : ℕ) → Rising a gs e → Each (λ g. g.start ≤ e) gs
rising_below a [] e r = tt
rising_below a (g ∷ gs) e r = (omega (arith, rising_le (g.start + g.size) gs e r.2), rising_below (g.start + g.size) gs e r.2)

-- other gaps behind the first ones
pub rising_swap : (a : ℕ) (xs ys zs : List Piece) (e : ℕ) → Rising a (xs ++ ys) e → ((b : ℕ) → Rising b ys e → Rising b zs e) → Rising a (xs ++ zs) e
rising_swap a [] ys zs e r f = f a r
rising_swap a (x ∷ xs) ys zs e r f = (r.0, r.1, rising_swap (x.start + x.size) xs ys zs e r.2 f)

pub last_far : (z a : ℕ) (xs : List Piece) (e : ℕ) → Rising a xs e → (last_of z xs ≡ z) ⊎ (a ≤ last_of z xs)
last_far z a [] e r = inl refl
last_far z a (x ∷ xs) e r =
    elim (last_far x.start (x.start + x.size) xs e r.2) [ inl k ↦ inr (omega (arith, r.0)) | inr k ↦ inr (omega (arith, r.0)) ]

pub last-++ : (z : ℕ) (xs : List Piece) (g : Piece) → last_of z (xs ++ g ∷ []) ≡ g.start
last-++ z [] g = refl
last-++ z (x ∷ xs) g = last-++ x.start xs g

pub gap_some : (s n : ℕ) → 1 ≤ n → a_gap s n ≡ record { start = s; size = n } ∷ []
gap_some s zero h = absurd (omega arith)
gap_some s (suc n) h = refl

-- ── Addresses in no gap ────────────────────────────────────────────────

abbrev pub Outside : ℕ → List Piece → Type 0
Outside y gs = Each (λ g. (y < g.start) ⊎ (g.start + g.size ≤ y)) gs

pub outside : (y : ℕ) (gs : List Piece) → covered y gs ≡ 0 → Outside y gs
outside y [] h = tt
outside y (g ∷ gs) h = (
  elim (lies y g.start g.size) [ below l e ↦ inl l | among l k e ↦ absurd (omega arith) | above l e ↦ inr l ],
  outside y gs (omega arith),
)

pub outside_right : (y : ℕ) (xs ys : List Piece) → Outside y (xs ++ ys) → Outside y ys
outside_right y [] ys o = o
outside_right y (x ∷ xs) ys o = outside_right y xs ys o.1

pub outside_swap : (y : ℕ) (xs ys zs : List Piece) → (Outside y ys → Outside y zs) → Outside y (xs ++ ys) → Outside y (xs ++ zs)
outside_swap y [] ys zs f o = f o
outside_swap y (x ∷ xs) ys zs f o = (o.0, outside_swap y xs ys zs f o.1)

pub outside_last : (y z a : ℕ) (xs ys : List Piece) (e : ℕ) → Rising a (xs ++ ys) e → y ≢ z → Outside y (xs ++ ys) → y ≢ last_of z xs
outside_last y z a [] ys e r ne o = ne
outside_last y z a (x ∷ xs) ys e r ne o =
    outside_last y x.start (x.start + x.size) xs ys e r.2
    (λ q. elim o.0 [ inl h ↦ omega arith | inr h ↦ omega (arith, r.1) ]) o.1

-- no address of the gap lies outside of all
abbrev Within : List Piece → Piece → Type 0
Within gs g = (1 ≤ g.size) × ((y : ℕ) → g.start ≤ y → y < g.start + g.size → Outside y gs → ⊥)

gaps_full : (a : ℕ) (gs : List Piece) (e : ℕ) → Rising a gs e → Each (Within gs) gs
gaps_full a [] e r = tt
gaps_full a (g ∷ gs) e r = (
  (r.1, λ y lo hi o. elim o.0 [ inl h ↦ omega arith | inr h ↦ omega arith ]),
  each_imp (Within gs) (Within (g ∷ gs)) (λ p h. (h.0, λ y lo hi o. h.1 y lo hi o.1)) gs (gaps_full (g.start + g.size) gs e r.2),
)

-- ── A chain up to an address ───────────────────────────────────────────

abbrev pub first_or : List Piece → ℕ → ℕ
first_or [] n = n
first_or (g ∷ gs) n = g.start

-- the gaps are shown, and the last links to n
abbrev pub Seg : List ℕ → List Piece → ℕ → Type 0
Seg ws [] n = Unit {0}
Seg ws (g ∷ gs) n =
    (get_or ws g.start 0 ≡ g.size + 2 ^ 18 * first_or gs n)
    × ((k : ℕ) → 1 ≤ k → k < g.size → get_or ws (g.start + k) 0 ≡ 0)
    × Seg ws gs n

pub first-++ : (xs ys : List Piece) → first_of (xs ++ ys) ≡ first_or xs (first_of ys)
first-++ [] ys = refl
first-++ (x ∷ xs) ys = refl

module _ (ws : List ℕ) where
  pub chain_split : (xs ys : List Piece) → Chain ws (xs ++ ys) → Seg ws xs (first_of ys) × Chain ws ys
  chain_split [] ys c = (tt, c)
  chain_split (x ∷ xs) ys c =
      let r = chain_split xs ys c.2 in
      ((c.0 ∙ ap (λ (k : ℕ). x.size + 2 ^ 18 * k) (first-++ xs ys), c.1, r.0), r.1)

  pub chain_join : (xs ys : List Piece) → Seg ws xs (first_of ys) → Chain ws ys → Chain ws (xs ++ ys)
  chain_join [] ys s c = c
  chain_join (x ∷ xs) ys s c = (s.0 ∙ ap (λ (k : ℕ). x.size + 2 ^ 18 * k) (sym (first-++ xs ys)), s.1, chain_join xs ys s.2 c)

module _ (ws us : List ℕ) where
  -- words before a and from e on may differ
  abbrev pub Agree : ℕ → ℕ → Type 0
  Agree a e = (y : ℕ) → a ≤ y → y < e → get_or us y 0 ≡ get_or ws y 0

  pub chain_keep : (a : ℕ) (gs : List Piece) (e : ℕ) → Rising a gs e → Agree a e → Chain ws gs → Chain us gs
  chain_keep a [] e r h c = tt
  chain_keep a (g ∷ gs) e r h c =
      let l = rising_le (g.start + g.size) gs e r.2 in (
        h g.start r.0 (omega (arith, r.1)) ∙ c.0,
        (λ k lo hi. h (g.start + k) (omega (arith, r.0)) (omega arith) ∙ c.1 k lo hi),
        chain_keep (g.start + g.size) gs e r.2 (λ y lo hi. h y (omega (arith, r.0)) hi) c.2,
      )

  pub seg_keep : (a : ℕ) (gs : List Piece) (n e : ℕ) → Rising a gs e → Agree a e → Seg ws gs n → Seg us gs n
  seg_keep a [] n e r h c = tt
  seg_keep a (g ∷ gs) n e r h c =
      let l = rising_le (g.start + g.size) gs e r.2 in (
        h g.start r.0 (omega (arith, r.1)) ∙ c.0,
        (λ k lo hi. h (g.start + k) (omega (arith, r.0)) (omega arith) ∙ c.1 k lo hi),
        seg_keep (g.start + g.size) gs n e r.2 (λ y lo hi. h y (omega (arith, r.0)) hi) c.2,
      )

  chain_within : (all gs : List Piece) → ((y : ℕ) → (Outside y all → ⊥) → get_or us y 0 ≡ get_or ws y 0) → Each (Within all) gs → Chain ws gs → Chain us gs
  chain_within all [] h e c = tt
  chain_within all (g ∷ gs) h e c = (
    h g.start (e.0.1 g.start (omega arith) (omega (arith, e.0.0))) ∙ c.0,
    (λ k lo hi. h (g.start + k) (e.0.1 (g.start + k) (omega arith) (omega arith)) ∙ c.1 k lo hi),
    chain_within all gs h e.1 c.2,
  )

  -- the words of the gaps are as they were
  pub chain_same : (a : ℕ) (gs : List Piece) (e : ℕ) → Rising a gs e → ((y : ℕ) → (Outside y gs → ⊥) → get_or us y 0 ≡ get_or ws y 0) → Chain ws gs → Chain us gs
  chain_same a gs e r h c = chain_within gs gs h (gaps_full a gs e r) c

-- the last of the gaps, or the word before them, links to another address
pub relink : (ws : List ℕ) (z s : ℕ) (xs : List Piece) (n n' a e : ℕ) → z < a → s < 2 ^ 18 → n' < 2 ^ 18 → e ≤ 2 ^ 18 → Rising a xs e
    → last_of z xs < length ws → get_or ws z 0 ≡ s + 2 ^ 18 * first_or xs n → Seg ws xs n
    → (get_or (set ws (last_of z xs) (head_word (size_at ws (last_of z xs)) n')) z 0 ≡ s + 2 ^ 18 * first_or xs n')
    × Seg (set ws (last_of z xs) (head_word (size_at ws (last_of z xs)) n')) xs n'
relink ws z s [] n n' a e h small near few r lt w c =
    let v : head_word (size_at ws z) n' ≡ s + 2 ^ 18 * n' = omega arith in
    (get_or-set_same ws z _ 0 lt ∙ v, tt)
relink ws z s (x ∷ xs) n n' a e h small near few r lt w c =
    let far = last_far x.start (x.start + x.size) xs e r.2 in
    let fit : x.size < 2 ^ 18 = omega (arith, r.0, rising_le (x.start + x.size) xs e r.2) in
    let q = relink ws x.start x.size xs n n' (x.start + x.size) e (omega (arith, r.1)) fit near few r.2 lt c.0 c.2 in (
      get_or-set_other ws (last_of x.start xs) z _ 0 (λ k. elim far [ inl u ↦ omega (arith, r.0) | inr u ↦ omega (arith, r.0) ]) ∙ w,
      (
        q.0,
        (λ k lo hi. get_or-set_other ws (last_of x.start xs) (x.start + k) _ 0 (λ j. elim far [ inl u ↦ omega arith | inr u ↦ omega arith ]) ∙ c.1 k lo hi),
        q.1,
      ),
    )

-- ── What is read ───────────────────────────────────────────────────────

-- at one gap of a chain
pub record Here (ws : List ℕ) (before : List Piece) (g : Piece) (after : List Piece) : Type 0 where
  pub size_is : size_at ws g.start ≡ g.size
  pub next_is : next_at ws g.start ≡ first_of after
  pub beyond : last_of 0 before < g.start
  pub high : 65 ≤ g.start
  pub inside : g.start + g.size ≤ length ws

pub here_is : (ws : List ℕ) (before : List Piece) (g : Piece) (after : List Piece) → Chained ws (before ++ g ∷ after) → Here ws before g after
here_is ws before g after G =
    let few = G.few in
    let r = rising_right 0 65 (omega arith) before (g ∷ after) (length ws) G.rising in
    let R = r.3 in
    let c = (chain_split ws before (g ∷ after) G.chain).1.0 in
    let l = rising_le (g.start + g.size) after (length ws) R.2 in
    let f = rising_first (g.start + g.size) after (length ws) (omega (arith, R.0, r.1)) R.2 in
    let b = R.0 in
    record {
      size_is = omega arith;
      next_is = omega arith;
      beyond = omega (arith, r.2);
      high = omega (arith, r.1);
      inside = l;
    }

-- at the header
pub first_at : (ws : List ℕ) (gs : List Piece) → Chained ws gs → next_at ws 0 ≡ first_of gs
first_at ws gs G =
    let few = G.few in
    let h = G.header in
    let t = rising_total 65 gs (length ws) G.rising in
    let f = rising_first 65 gs (length ws) (omega (arith, rising_le 65 gs (length ws) G.rising)) G.rising in
    omega arith
