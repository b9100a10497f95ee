-- Adjacent gaps combine, one after another.
use Rattle.std.proofs.Common.{◌≡◌, ℕ, ◌+◌, ◌-◌, ◌*◌, ◌^◌, ◌<◌, ◌≤◌, cond, ◌≢◌, ◌⊎◌, List, [], ◌∷◌, ◌++◌, length, get_or, set, sym, refl, ap, ◌∙◌, subst, inl, inr, append_assoc, arith}
use Rattle.std.proofs.lemmas.List.{get_or-set_same, get_or-set_other, length-set}
use Rattle.std.proofs.lemmas.Bool.{cases_Bool, cases_eq, cases_lt, cond_both, cond-true, cond-false, eq-eqb, eqb-false, eqb-true, ne_eqb}
use Rattle.layout.specs.Arrangement.{Piece}
use Rattle.layout.specs.Chains.{Chained, Relinked, Rising, next_at, size_at}
use Rattle.codeword.specs.Heads.{head_word}
use Rattle.layout.specs.Gaps.{combined, join}
use Rattle.layout.specs.Sound.{covered}
use Rattle.layout.specs.Words.{first_of, total}
use Rattle.layout.proofs.Chains.{Here, Outside, chain_join, chain_keep, chain_split, first-++, first_at, here_is, outside, outside_right, outside_swap, rising_first, rising_right, rising_swap, rising_upto, seg_keep}
use Rattle.layout.proofs.FreeWords.{total-++}
use Rattle.placement.specs.Gaps.{joined, touch}

-- ── Joining gap by gap ─────────────────────────────────────────────────

abbrev merged : Piece → Piece → Piece
merged c g = record { start = c.start; size = c.size + g.size }

join_merge : (c g : Piece) (X : List Piece) → c.start + c.size ≡ g.start → join c (join g X) ≡ join (merged c g) X
join_merge c g [] e = cond-true _ _ _ (eq-eqb _ _ e)
join_merge c g (h ∷ hs) e =
    elim (cases_eq (g.start + g.size) h.start) [
      | inl q ↦
          ap (join c) (cond-true _ _ _ (eq-eqb (g.start + g.size) h.start q))
          ∙ cond-true _ _ _ (eq-eqb (c.start + c.size) g.start e)
          ∙ ap (λ (k : ℕ). record { start = c.start; size = k } ∷ hs) (let v : c.size + (g.size + h.size) ≡ c.size + g.size + h.size = omega arith in v)
          ∙ sym (cond-true _ _ _ (eq-eqb (c.start + (c.size + g.size)) h.start (omega arith)))
      | inr q ↦
          ap (join c) (cond-false _ _ _ (ne_eqb (g.start + g.size) h.start q))
          ∙ cond-true _ _ _ (eq-eqb (c.start + c.size) g.start e)
          ∙ sym (cond-false _ _ _ (ne_eqb (c.start + (c.size + g.size)) h.start (λ k. q (omega arith))))
    ]

-- joined or not, the first gap begins where it did
joins_at : (g : Piece) (X : List Piece) → (k : ℕ) × (hs : List Piece) × (join g X ≡ record { start = g.start; size = k } ∷ hs)
joins_at g [] = (g.size, [], refl)
joins_at g (h ∷ hs) =
    elim (cases_eq (g.start + g.size) h.start) [
      | inl q ↦ (g.size + h.size, hs, cond-true _ _ _ (eq-eqb (g.start + g.size) h.start q))
      | inr q ↦ (g.size, h ∷ hs, cond-false _ _ _ (ne_eqb (g.start + g.size) h.start q))
    ]

join_apart : (c g : Piece) (X : List Piece) → (c.start + c.size ≡ g.start → ⊥) → join c (join g X) ≡ c ∷ join g X
join_apart c g X ne =
    let j = joins_at g X in
    ap (join c) j.2 ∙ cond-false _ _ _ (ne_eqb (c.start + c.size) g.start ne) ∙ ap (λ (z : List Piece). c ∷ z) (sym j.2)

-- ── Where the walk stands ──────────────────────────────────────────────

-- the gaps up to the one at `at` are combined, and the next begins at `next`
record Merging (ws us : List ℕ) (gs : List Piece) (at next : ℕ) : Type 0 where
  done : List Piece
  cur : Piece
  rest : List Piece
  relinked : Relinked ws us gs (done ++ cur ∷ rest)
  outer : (y : ℕ) → covered y gs ≡ 0 → Outside y (done ++ cur ∷ rest)
  at_is : at ≡ cur.start
  next_is : next ≡ first_of rest
  same : combined gs ≡ done ++ combined (cur ∷ rest)

pub Merges : List ℕ → List ℕ → List Piece → ℕ → ℕ → Type 0
Merges ws us gs at next = Merging ws us gs at next ⊎ ((gs ≡ []) × (us ≡ ws) × (next ≡ 0))

pub merge_start : (ws : List ℕ) (gs : List Piece) → Chained ws gs → Merges ws ws gs (next_at ws 0) (next_at ws (next_at ws 0))
unfolding Merges
merge_start ws [] G =
    let z = first_at ws [] G in
    inr (refl, refl, ap (next_at ws) z ∙ z)
merge_start ws (g ∷ gs) G =
    let H = here_is ws [] g gs G in
    let a = first_at ws (g ∷ gs) G in
    inl record {
      done = [];
      cur = g;
      rest = gs;
      relinked = record { long = refl; chained = G; kept = λ y h o. refl };
      outer = λ y o. outside y (g ∷ gs) o;
      at_is = a;
      next_is = ap (next_at ws) a ∙ H.next_is;
      same = refl;
    }

module _ (ws us : List ℕ) (gs : List Piece) (at next : ℕ) where
  finish_go : (M : Merging ws us gs at next) (rest : List Piece) → M.rest ≡ rest → next < M.cur.start + M.cur.size → Relinked ws us gs (combined gs)
  finish_go M [] e h =
      subst (Relinked ws us gs)
      (ap (λ (zs : List Piece). M.done ++ M.cur ∷ zs) e ∙ ap (λ (zs : List Piece). M.done ++ combined (M.cur ∷ zs)) (sym e) ∙ sym M.same)
      M.relinked
  finish_go M (g ∷ rest) e h =
      let G = subst (λ (zs : List Piece). Chained us (M.done ++ M.cur ∷ zs)) e M.relinked.chained in
      let r = (rising_right 0 65 (omega arith) M.done (M.cur ∷ g ∷ rest) (length us) G.rising).3 in
      let n : next ≡ g.start = M.next_is ∙ ap first_of e in
      absurd (omega (arith, r.2.0))

  finish : (M : Merging ws us gs at next) → next < M.cur.start + M.cur.size → Relinked ws us gs (combined gs)
  finish M h = finish_go M M.rest refl h

  pub merge_end : Chained ws gs → Merges ws us gs at next → next ≤ at → Relinked ws us gs (combined gs)
  unfolding Merges
  merge_end G (inl M) h =
      let r = (rising_right 0 65 (omega arith) M.done (M.cur ∷ M.rest) (length us) M.relinked.chained.rising).3 in
      finish M (omega (arith, M.at_is, r.1))
  merge_end G (inr z) h =
      subst (λ (vs : List ℕ). Relinked ws vs gs (combined gs)) (sym z.1)
      (subst (λ (hs : List Piece). Relinked ws ws hs (combined hs)) (sym z.0)
      record { long = refl; chained = subst (Chained ws) z.0 G; kept = λ y k o. refl })

-- ── One turn ───────────────────────────────────────────────────────────

module _ (ws us : List ℕ) (gs : List Piece) (D : List Piece) (c g : Piece) (rest : List Piece)
    (R : Relinked ws us gs (D ++ c ∷ g ∷ rest)) (outer : (y : ℕ) → covered y gs ≡ 0 → Outside y (D ++ c ∷ g ∷ rest))
    (same : combined gs ≡ D ++ combined (c ∷ g ∷ rest)) where
  abbrev Next : List ℕ → ℕ → Type 0
  Next vs at = (M : Merging ws vs gs at (next_at us g.start)) × (g.start < M.cur.start + M.cur.size)

  rising_here : Rising c.start (c ∷ g ∷ rest) (length us)
  rising_here =
      let r = rising_right 0 65 (omega arith) D (c ∷ g ∷ rest) (length us) R.chained.rising in
      (omega arith, r.3.1, r.3.2)

  second : Here us (D ++ c ∷ []) g rest
  second = here_is us (D ++ c ∷ []) g rest (subst (Chained us) (sym (append_assoc D (c ∷ []) (g ∷ rest))) R.chained)

  advance : (c.start + c.size ≡ g.start → ⊥) → Next us g.start
  advance ne =
      let e = sym (append_assoc D (c ∷ []) (g ∷ rest)) in (
        record {
          done = D ++ c ∷ [];
          cur = g;
          rest = rest;
          relinked = subst (Relinked ws us gs) e R;
          outer = λ y o. subst (Outside y) e (outer y o);
          at_is = refl;
          next_is = second.next_is;
          same = same ∙ ap (λ (zs : List Piece). D ++ zs) (join_apart c g (combined rest) ne) ∙ sym (append_assoc D (c ∷ []) (combined (g ∷ rest)));
        },
        omega (arith, rising_here.2.1),
      )

  merge : c.start + c.size ≡ g.start → Next (joined c.start g.start us) c.start
  merge adj =
      let G = R.chained in
      let r = rising_here in
      let H1 = here_is us D c (g ∷ rest) G in
      let H2 = second in
      let few = G.few in
      let cs = r.1 in
      let gz = r.2.1 in
      let z1 = H1.size_is in
      let z2 = H2.size_is in
      let n2 = H2.next_is in
      let hi = H1.high in
      let ins = H2.inside in
      let far = rising_first (g.start + g.size) rest (length us) (omega arith) r.2.2 in
      let m = merged c g in
      let w = head_word (size_at us c.start + size_at us g.start) (next_at us g.start) in
      let ts = set us c.start w in
      let vs = set ts g.start 0 in
      let lt : length ts ≡ length us = length-set us c.start w in
      let lv : length vs ≡ length us = length-set ts g.start 0 ∙ lt in
      let other : (y : ℕ) → y ≢ c.start → y ≢ g.start → get_or vs y 0 ≡ get_or us y 0 =
      λ y p q. get_or-set_other ts g.start y 0 0 q ∙ get_or-set_other us c.start y w 0 p in
      let C = chain_split us D (c ∷ g ∷ rest) G.chain in
      let up = rising_upto 65 D c (g ∷ rest) (length us) G.rising in
      let end : c.start + (c.size + g.size) ≡ g.start + g.size = omega arith in
      let t1 = total-++ D (c ∷ g ∷ rest) in
      let t2 = total-++ D (m ∷ rest) in
      let sum_same : total (D ++ c ∷ g ∷ rest) ≡ total (D ++ m ∷ rest) = omega arith in (
        record {
          done = D;
          cur = m;
          rest = rest;
          relinked = record {
            long = lv ∙ R.long;
            chained = record {
              few = omega arith;
              rising = rw lv (rising_swap 65 D (c ∷ g ∷ rest) (m ∷ rest) (length us) G.rising (λ b q. (q.0, omega arith, rw end q.2.2)));
              header = other 0 (λ q. omega arith) (λ q. omega arith) ∙ G.header
                  ∙ ap (λ (k : ℕ). total (D ++ c ∷ g ∷ rest) + 2 ^ 18 * k) (first-++ D (c ∷ g ∷ rest) ∙ sym (first-++ D (m ∷ rest)))
                  ∙ ap (λ (k : ℕ). k + 2 ^ 18 * first_of (D ++ m ∷ rest)) sum_same;
              chain = chain_join vs D (m ∷ rest)
                  (seg_keep us vs 65 D c.start c.start up (λ y lo k. other y (λ q. omega arith) (λ q. omega arith)) C.0) (
                    get_or-set_other ts g.start c.start 0 0 (λ q. omega arith)
                        ∙ get_or-set_same us c.start w 0 (omega arith)
                        ∙ (let v : w ≡ (c.size + g.size) + 2 ^ 18 * first_of rest = omega arith in v),
                    (λ k lo top.
                        elim (cases_lt k c.size) [
                          | inl d ↦ other (c.start + k) (λ q. omega arith) (λ q. omega arith) ∙ C.1.1 k lo d
                          | inr d ↦ elim (cases_eq k c.size) [
                            | inl q ↦
                                ap (λ (j : ℕ). get_or vs j 0) (let v : c.start + k ≡ g.start = omega arith in v) ∙ get_or-set_same ts g.start 0 0 (omega arith)
                            | inr q ↦
                                let q' : k ≢ c.size = q in
                                other (c.start + k) (λ u. omega arith) (λ u. omega arith)
                                ∙ ap (λ (j : ℕ). get_or us j 0) (let v : c.start + k ≡ g.start + (k - c.size) = omega arith in v)
                                ∙ C.1.2.1 (k - c.size) (omega arith) (omega arith)
                          ]
                        ]),
                    chain_keep us vs (g.start + g.size) rest (length us) r.2.2 (λ y lo k. other y (λ q. omega arith) (λ q. omega arith)) C.1.2.2,
                  );
            };
            kept = λ y h o.
                let p = outside_right y D (c ∷ g ∷ rest) (outer y o) in
                other y (λ q. elim p.0 [ inl d ↦ omega arith | inr d ↦ omega arith ]) (λ q. elim p.1.0 [ inl d ↦ omega arith | inr d ↦ omega arith ])
                ∙ R.kept y h o;
          };
          outer = λ y o.
              outside_swap y D (c ∷ g ∷ rest) (m ∷ rest)
              (λ p. (
                elim p.0 [
                  | inl d ↦ inl d
                  | inr d ↦ elim p.1.0 [ inl k ↦ absurd (omega arith) | inr k ↦ inr (omega arith) ]
                ],
                p.1.1,
              ))
              (outer y o);
          at_is = refl;
          next_is = n2;
          same = same ∙ ap (λ (zs : List Piece). D ++ zs) (join_merge c g (combined rest) adj);
        },
        omega arith,
      )

module _ (ws us : List ℕ) (gs : List Piece) (at next : ℕ) (more : at < next) where
  Then : List ℕ → ℕ → Type 0
  Then vs at' = (M : Merging ws vs gs at' (next_at us next)) × (next < M.cur.start + M.cur.size)

  step_go : (M : Merging ws us gs at next) (rest : List Piece) → M.rest ≡ rest
      → (at + size_at us at ≡ next → Then (joined at next us) at) × ((at + size_at us at ≡ next → ⊥) → Then us next)
  unfolding Then
  step_go M [] e = absurd (omega (arith, M.next_is, ap first_of e))
  step_go M (g ∷ rest) e =
      let R = subst (λ (zs : List Piece). Relinked ws us gs (M.done ++ M.cur ∷ zs)) e M.relinked in
      let O : (y : ℕ) → covered y gs ≡ 0 → Outside y (M.done ++ M.cur ∷ g ∷ rest) =
      λ y o. subst (λ (zs : List Piece). Outside y (M.done ++ M.cur ∷ zs)) e (M.outer y o) in
      let S = subst (λ (zs : List Piece). combined gs ≡ M.done ++ combined (M.cur ∷ zs)) e M.same in
      let a = M.at_is in
      let n : next ≡ g.start = M.next_is ∙ ap first_of e in
      let z : size_at us at ≡ M.cur.size = ap (size_at us) a ∙ (here_is us M.done M.cur (g ∷ rest) R.chained).size_is in (
        (λ h.
            subst (λ (k : ℕ). (M : Merging ws (joined k next us) gs k (next_at us next)) × (next < M.cur.start + M.cur.size)) (sym a)
            (subst (λ (k : ℕ). (M' : Merging ws (joined M.cur.start k us) gs M.cur.start (next_at us k)) × (k < M'.cur.start + M'.cur.size)) (sym n)
            (merge ws us gs M.done M.cur g rest R O S (omega arith)))),
        λ h.
            subst (λ (k : ℕ). (M' : Merging ws us gs k (next_at us k)) × (k < M'.cur.start + M'.cur.size)) (sym n)
            (advance ws us gs M.done M.cur g rest R O S (λ q. h (omega arith))),
      )

  none_more : (gs ≡ []) × (us ≡ ws) × (next ≡ 0) → ⊥
  none_more z = omega (arith, z.2)

  abbrev After : List ℕ → ℕ → Type 0
  After vs at' = Merges ws vs gs at' (next_at us next) × (next_at us next ≤ next → Relinked ws vs gs (combined gs))

  merge_turn : Merges ws us gs at next → at + size_at us at ≡ next → After (joined at next us) at
  unfolding Merges Then
  merge_turn (inl M) h =
      let S = (step_go M M.rest refl).0 h in
      (inl S.0, λ k. finish ws (joined at next us) gs at (next_at us next) S.0 (omega (arith, S.1)))
  merge_turn (inr z) h = absurd (none_more z)

  skip_turn : Merges ws us gs at next → (at + size_at us at ≡ next → ⊥) → After us next
  unfolding Merges Then
  skip_turn (inl M) h =
      let S = (step_go M M.rest refl).1 h in
      (inl S.0, λ k. finish ws us gs next (next_at us next) S.0 (omega (arith, S.1)))
  skip_turn (inr z) h = absurd (none_more z)

-- the words after a turn, and the gap that then comes last
abbrev pub turned : List ℕ → ℕ → ℕ → List ℕ
turned us at next = cond (touch at next us) (joined at next us) us

abbrev pub last : List ℕ → ℕ → ℕ → ℕ
last us at next = cond (touch at next us) at next

pub turned_long : (us : List ℕ) (at next : ℕ) → length (turned us at next) ≡ length us
turned_long us at next =
    cond_both (touch at next us) (joined at next us) us (λ vs. length vs ≡ length us) (λ _. length-set _ next 0 ∙ length-set us at _) (λ _. refl)

pub last_small : (us : List ℕ) (at next e : ℕ) → at < e → next < e → last us at next < e
last_small us at next e h k = cond_both (touch at next us) at next (λ z. z < e) (λ _. h) (λ _. k)

-- a turn: the walk goes on, and is at its end if no later gap follows
pub turn : (ws us : List ℕ) (gs : List Piece) (at next : ℕ) → at < next → Merges ws us gs at next
    → Merges ws (turned us at next) gs (last us at next) (next_at us next)
    × (next_at us next ≤ next → Relinked ws (turned us at next) gs (combined gs))
turn ws us gs at next more M =
    elim (cases_Bool (touch at next us)) [
      | inl e ↦ rw e (merge_turn ws us gs at next more M (eqb-true _ _ e))
      | inr e ↦ rw e (skip_turn ws us gs at next more M (eqb-false _ _ e))
    ]

pub turn_ends : (ws us : List ℕ) (gs : List Piece) (at next after : ℕ) → at < next → after ≡ next_at us next → after ≤ next → Merges ws us gs at next
    → Relinked ws (turned us at next) gs (combined gs)
turn_ends ws us gs at next after more e h M = (turn ws us gs at next more M).1 (rw (← e) h)
