-- The search along the chain, and the front of a gap taken out of it.
use Rattle.std.proofs.Common.{◌≡◌, ℕ, ◌+◌, ◌-◌, ◌*◌, ◌^◌, ◌<◌, ◌≤◌, true, false, leb, ◌≢◌, List, [], ◌∷◌, ◌++◌, length, get_or, set, sym, refl, ap, ◌∙◌, subst, inl, inr, append_assoc, arith}
use Rattle.std.proofs.lemmas.List.{get_or-set_same, get_or-set_other, length-set}
use Rattle.std.proofs.lemmas.Bool.{cases_lt, cond-true, cond-false, lt-ltb, le-ltb, le-leb, leb-false, leb-true, lt-leb}
use Rattle.layout.specs.Arrangement.{Piece}
use Rattle.layout.specs.Chains.{Chained, Relinked, Rising, last_of, next_at, size_at}
use Rattle.codeword.specs.Heads.{head_word}
use Rattle.layout.specs.Gaps.{GapFound, a_gap, first_fit_of, gap_at, keep, no_gap}
use Rattle.layout.specs.Holds.{Chain}
use Rattle.layout.specs.Sound.{Each}
use Rattle.layout.specs.Words.{first_of, total}
use Rattle.layout.proofs.Cover.{each-++, each_right}
use Rattle.layout.proofs.Chains.{chain_join, chain_keep, chain_split, first-++, first_at, first_or, gap_some, here_is, last-++, outside, outside_last, outside_right, relink, rising_first, rising_more, rising_right, rising_swap, rising_total, rising_upto, seg_keep}
use Rattle.layout.proofs.FreeWords.{total-++}
use Rattle.placement.specs.Gaps.{Finds, Fits, PlacedIn, Spotted, closed, cut}

-- ── Where the walk stands ──────────────────────────────────────────────

pub record Passed (n : ℕ) (gs : List Piece) (link at : ℕ) : Type 0 where
  pub before : List Piece
  pub after : List Piece
  pub split : gs ≡ before ++ after
  pub link_is : link ≡ last_of 0 before
  pub at_is : at ≡ first_of after
  pub small : Each (λ g. g.size < n) before

module _ (ws : List ℕ) (n : ℕ) where
  abbrev pub Passes : ℕ → ℕ → Type 0
  Passes link at = (gs : List Piece) → Chained ws gs → Passed n gs link at

  pub pass_start : Passes 0 (next_at ws 0)
  pass_start gs G = record { before = []; after = gs; split = refl; link_is = refl; at_is = first_at ws gs G; small = tt }

  module _ (link at : ℕ) where
    go_on : (gs before after : List Piece) → Chained ws gs → gs ≡ before ++ after → at ≡ first_of after → link < at
        → Each (λ g. g.size < n) before → size_at ws at < n → Passed n gs at (next_at ws at)
    go_on gs before [] G e a lt s no_fit = absurd (omega arith)
    go_on gs before (g ∷ after) G e a lt s no_fit =
        let H = here_is ws before g after (subst (Chained ws) e G) in
        let z : size_at ws at ≡ g.size = ap (size_at ws) a ∙ H.size_is in
        record {
          before = before ++ g ∷ [];
          after = after;
          split = e ∙ sym (append_assoc before (g ∷ []) after);
          link_is = a ∙ sym (last-++ 0 before g);
          at_is = ap (next_at ws) a ∙ H.next_is;
          small = each-++ (λ h. h.size < n) before (g ∷ []) s (omega arith, tt);
        }

    pub pass_on : Passes link at → link < at → false ≡ leb n (size_at ws at) → Passes at (next_at ws at)
    pass_on P lt no_fit gs G =
        let p = P gs G in
        go_on gs p.before p.after G p.split p.at_is lt p.small (leb-false n (size_at ws at) (sym no_fit))

    found : (gs before after : List Piece) → Chained ws gs → gs ≡ before ++ after → at ≡ first_of after → n ≤ size_at ws at → Fits n after
    found gs before [] G e a h = tt
    found gs before (g ∷ after) G e a h =
        omega (arith, h, ap (size_at ws) a, (here_is ws before g after (subst (Chained ws) e G)).size_is)

    pub spot_found : Passes link at → true ≡ leb n (size_at ws at) → (gs : List Piece) → Chained ws gs → Spotted n gs link at
    spot_found P h gs G =
        let p = P gs G in
        record {
          before = p.before;
          after = p.after;
          split = p.split;
          link_is = p.link_is;
          at_is = p.at_is;
          small = p.small;
          fits = found gs p.before p.after G p.split p.at_is (leb-true n (size_at ws at) (sym h));
        }

    ended : (gs before after : List Piece) → Chained ws gs → gs ≡ before ++ after → link ≡ last_of 0 before → at ≡ first_of after → at ≤ link
        → Each (λ g. g.size < n) before → Spotted n gs link 0
    ended gs before [] G e l a le s = record { before = before; after = []; split = e; link_is = l; at_is = refl; small = s; fits = tt }
    ended gs before (g ∷ after) G e l a le s = absurd (omega (arith, (here_is ws before g after (subst (Chained ws) e G)).beyond))

    pub spot_none : Passes link at → at ≤ link → (gs : List Piece) → Chained ws gs → Spotted n gs link 0
    spot_none P le gs G = let p = P gs G in ended gs p.before p.after G p.split p.link_is p.at_is le p.small

-- ── The front of a gap leaves the chain ────────────────────────────────

closed_else : (us : List ℕ) (link n next y : ℕ) → 1 ≤ y → y ≢ link → get_or (closed link n next us) y 0 ≡ get_or us y 0
closed_else us link n next y h ne = get_or-set_other _ 0 y _ 0 (λ z. omega arith) ∙ get_or-set_other us link y _ 0 ne

closed_long : (us : List ℕ) (link n next : ℕ) → length (closed link n next us) ≡ length us
closed_long us link n next = length-set _ 0 _ ∙ length-set us link _

module _ (ws : List ℕ) (n : ℕ) (before : List Piece) (g : Piece) (after : List Piece) (G : Chained ws (before ++ g ∷ after))
    (fit : n ≤ g.size) (some : 1 ≤ n) where
  module _ (us : List ℕ) (R : List Piece) (long : length us ≡ length ws) (same : (y : ℕ) → y < g.start → get_or us y 0 ≡ get_or ws y 0)
      (chain : Chain us R) (rising : Rising (g.start + 1) R (length ws)) (less : total R + n ≡ total (g ∷ after)) where
    closed_chained : Chained (closed (last_of 0 before) n (first_of R) us) (before ++ R)
    closed_chained =
        let few = G.few in
        let H = here_is ws before g after G in
        let z = last_of 0 before in
        let lt = H.beyond in
        let ins = H.inside in
        let hi = H.high in
        let T = total (before ++ g ∷ after) in
        let t = rising_total 65 (before ++ g ∷ after) (length ws) G.rising in
        let up = rising_upto 65 before g after (length ws) G.rising in
        let f = first_of R in
        let near = rising_first (g.start + 1) R (length ws) (omega arith) rising in
        let rise = rising_swap 65 before (g ∷ after) R (length ws) G.rising (λ b r. rising_more b (g.start + 1) R (length ws) (omega (arith, r.0)) rising) in
        let first = rising_first 65 (before ++ R) (length ws) (omega arith) rise in
        let head : get_or us 0 0 ≡ T + 2 ^ 18 * first_or before g.start =
        same 0 (omega arith) ∙ G.header ∙ ap (λ (k : ℕ). T + 2 ^ 18 * k) (first-++ before (g ∷ after)) in
        let L = relink us 0 T before g.start f 65 g.start (omega arith) (omega arith) (omega arith) (omega arith) up (omega arith) head
        (seg_keep ws us 65 before g.start g.start up (λ y lo hi. same y hi) (chain_split ws before (g ∷ after) G.chain).0) in
        let vs = set us z (head_word (size_at us z) f) in
        let w = head_word (size_at vs 0 - n) (next_at vs 0) in
        let xs = set vs 0 w in
        let lv : length vs ≡ length ws = length-set us z _ ∙ long in
        let lx : length xs ≡ length ws = length-set vs 0 _ ∙ lv in
        let off : (y : ℕ) → 1 ≤ y → get_or xs y 0 ≡ get_or vs y 0 = λ y k. get_or-set_other vs 0 y _ 0 (λ q. omega arith) in
        let both = total-++ before R in
        let both' = total-++ before (g ∷ after) in
        let e = first-++ before R in
        record {
          few = omega arith;
          rising = rw lx rise;
          header = get_or-set_same vs 0 w 0 (omega arith)
              ∙ (let v : w ≡ total (before ++ R) + 2 ^ 18 * first_or before f = omega (arith, L.0) in v)
              ∙ ap (λ (k : ℕ). total (before ++ R) + 2 ^ 18 * k) (sym e);
          chain = chain_join xs before R
              (seg_keep vs xs 65 before f g.start up (λ y lo hi. off y (omega arith)) L.1)
              (chain_keep us xs (g.start + 1) R (length ws) rising
              (λ y lo hi. off y (omega arith) ∙ get_or-set_other us z y _ 0 (λ q. omega arith)) chain);
        }

  module _ (vs : List ℕ) (R : List Piece) where
    abbrev Done : Type 0
    Done = Relinked ws vs (before ++ g ∷ after) (before ++ R) × ((k : ℕ) → 1 ≤ k → k < n → get_or vs (g.start + k) 0 ≡ 0)

  cuts : Done (cut (last_of 0 before) g.start n ws) (a_gap (g.start + n) (g.size - n) ++ after)
  cuts =
      let H = here_is ws before g after G in
      let z = last_of 0 before in
      let lt = H.beyond in
      let hi = H.high in
      let ins = H.inside in
      let few = G.few in
      let r = (rising_right 0 65 (omega arith) before (g ∷ after) (length ws) G.rising).3 in
      let c = (chain_split ws before (g ∷ after) G.chain).1 in
      let size = H.size_is in
      let next = H.next_is in
      let far = rising_first (g.start + g.size) after (length ws) (omega arith) r.2 in
      elim (cases_lt n g.size) [
        | inl l ↦
            let p : Piece = record { start = g.start + n; size = g.size - n } in
            let R : List Piece = p ∷ after in
            let e : a_gap (g.start + n) (g.size - n) ++ after ≡ R = ap (λ (ps : List Piece). ps ++ after) (gap_some (g.start + n) (g.size - n) (omega arith)) in
            let w = head_word (size_at ws g.start - n) (next_at ws g.start) in
            let us = set ws (g.start + n) w in
            let other : (y : ℕ) → y ≢ g.start + n → get_or us y 0 ≡ get_or ws y 0 = λ y ne. get_or-set_other ws (g.start + n) y w 0 ne in
            let is : cut z g.start n ws ≡ closed z n (g.start + n) us = cond-true _ _ _ (lt-ltb n (size_at ws g.start) (omega arith)) in
            let len : length us ≡ length ws = length-set ws (g.start + n) w in
            let end : g.start + n + (g.size - n) ≡ g.start + g.size = omega arith in
            let ch : Chain us R = (
              get_or-set_same ws (g.start + n) w 0 (omega arith) ∙ (let v : w ≡ (g.size - n) + 2 ^ 18 * first_of after = omega arith in v),
              (λ k lo hi.
                  other (g.start + n + k) (λ q. omega arith)
                  ∙ ap (λ (j : ℕ). get_or ws j 0) (let v : g.start + n + k ≡ g.start + (n + k) = omega arith in v)
                  ∙ c.1 (n + k) (omega arith) (omega arith)),
              chain_keep ws us (g.start + g.size) after (length ws) r.2 (λ y lo hi. other y (λ q. omega arith)) c.2,
            ) in
            let ri : Rising (g.start + 1) R (length ws) = (omega arith, omega arith, rw end r.2) in
            subst (Done (cut z g.start n ws)) (sym e)
            (subst (λ (vs : List ℕ). Done vs R) (sym is) (
              record {
                long = closed_long us z n (g.start + n) ∙ len;
                chained = closed_chained us R len (λ y h. other y (λ q. omega arith)) ch ri (omega arith);
                kept = λ y h o.
                    let p = outside y (before ++ g ∷ after) o in
                    closed_else us z n (g.start + n) y h (outside_last y 0 65 before (g ∷ after) (length ws) G.rising (λ q. omega arith) p)
                    ∙ other y (λ q. elim (outside_right y before (g ∷ after) p).0 [ inl k ↦ omega arith | inr k ↦ omega arith ]);
              },
              λ k lo hi.
                  closed_else us z n (g.start + n) (g.start + k) (omega arith) (λ q. omega arith)
                  ∙ other (g.start + k) (λ q. omega arith) ∙ c.1 k lo (omega arith),
            ))
        | inr l ↦
            let f : g.size - n ≡ 0 = omega arith in
            let e : a_gap (g.start + n) (g.size - n) ++ after ≡ after = ap (λ (k : ℕ). a_gap (g.start + n) k ++ after) f in
            let is : cut z g.start n ws ≡ closed z n (first_of after) ws =
            cond-false _ _ _ (le-ltb n (size_at ws g.start) (omega arith)) ∙ ap (λ (k : ℕ). closed z n k ws) next in
            let ri : Rising (g.start + 1) after (length ws) = rising_more (g.start + 1) (g.start + g.size) after (length ws) (omega arith) r.2 in
            subst (Done (cut z g.start n ws)) (sym e)
            (subst (λ (vs : List ℕ). Done vs after) (sym is) (
              record {
                long = closed_long ws z n (first_of after);
                chained = closed_chained ws after refl (λ y h. refl) c.2 ri (omega arith);
                kept = λ y h o.
                    closed_else ws z n (first_of after) y h
                    (outside_last y 0 65 before (g ∷ after) (length ws) G.rising (λ q. omega arith) (outside y (before ++ g ∷ after) o));
              },
              λ k lo hi. closed_else ws z n (first_of after) (g.start + k) (omega arith) (λ q. omega arith) ∙ c.1 k lo (omega arith),
            ))
      ]

-- ── What is answered ───────────────────────────────────────────────────

-- smaller gaps before it are passed over
abbrev past : List Piece → GapFound → GapFound
past [] f = f
past (g ∷ gs) f = keep g (past gs f)

past_small : (n : ℕ) (before after : List Piece) → Each (λ g. g.size < n) before → first_fit_of n (before ++ after) ≡ past before (first_fit_of n after)
past_small n [] after e = refl
past_small n (g ∷ before) after e =
    cond-false _ _ _ (lt-leb n g.size e.0) ∙ ap (keep g) (past_small n before after e.1)

past_none : (xs : List Piece) → past xs no_gap ≡ no_gap
past_none [] = refl
past_none (x ∷ xs) = ap (keep x) (past_none xs)

past_at : (xs : List Piece) (x : ℕ) (ls : List Piece) → past xs (gap_at x ls) ≡ gap_at x (xs ++ ls)
past_at [] x ls = refl
past_at (y ∷ xs) x ls = ap (keep y) (past_at xs x ls)

module _ (ws : List ℕ) (n : ℕ) (gs : List Piece) (G : Chained ws gs) where
  finds_go : (link at : ℕ) (before after : List Piece) → gs ≡ before ++ after → at ≡ first_of after → Each (λ g. g.size < n) before → Fits n after → Finds n gs at
  finds_go link at before [] e a s f =
      let all : Each (λ g. g.size < n) gs = subst (Each (λ g. g.size < n)) (sym e) (each-++ (λ g. g.size < n) before [] s tt) in
      record { none = (λ z. all, λ k. a); first = λ h. absurd (omega arith) }
  finds_go link at before (g ∷ after) e a s f =
      let hi = (here_is ws before g after (subst (Chained ws) e G)).high in
      record {
        none = (
          λ z. absurd (omega arith),
          λ k. absurd (let m = (each_right (λ h. h.size < n) before (g ∷ after) (subst (Each (λ h. h.size < n)) e k)).0 in omega arith),
        );
        first = λ h. (before, g, after, e, s, f, a);
      }

  pub finds : (link at : ℕ) → Spotted n gs link at → Finds n gs at
  finds link at S = finds_go link at S.before S.after S.split S.at_is S.small S.fits

  module _ (some : 1 ≤ n) where
    abbrev Answered : ℕ → ℕ → Type 0
    Answered link at =
        (at ≤ 0 → PlacedIn n ws gs at ws (first_fit_of n gs)) × (0 < at → PlacedIn n ws gs at (cut link at n ws) (first_fit_of n gs))

    fit_go : (before after : List Piece) → gs ≡ before ++ after → Each (λ g. g.size < n) before → Fits n after → Answered (last_of 0 before) (first_of after)
    fit_go before [] e s f = (
      λ z. subst (PlacedIn n ws gs 0 ws) (sym (ap (first_fit_of n) e ∙ past_small n before [] s ∙ past_none before)) (refl, refl),
      λ h. absurd (omega arith),
    )
    fit_go before (g ∷ after) e s f =
        let G' = subst (Chained ws) e G in
        let H = here_is ws before g after G' in
        let hi = H.high in
        let ins = H.inside in
        let D = cuts ws n before g after G' f some in
        let R = a_gap (g.start + n) (g.size - n) ++ after in
        let is : first_fit_of n gs ≡ gap_at g.start (before ++ R) =
        ap (first_fit_of n) e ∙ past_small n before (g ∷ after) s ∙ ap (past before) (cond-true _ _ _ (le-leb n g.size f)) ∙ past_at before g.start R in (
          λ z. absurd (omega arith),
          λ h. subst (PlacedIn n ws gs g.start (cut (last_of 0 before) g.start n ws)) (sym is) (
            refl,
            subst (λ (hs : List Piece). Relinked ws (cut (last_of 0 before) g.start n ws) hs (before ++ R)) (sym e) D.0,
            hi,
            omega arith,
            D.1,
          ),
        )

    pub fit_done : (link at : ℕ) → Spotted n gs link at → Answered link at
    fit_done link at S =
        subst (λ (k : ℕ). Answered k at) (sym S.link_is)
        (subst (Answered (last_of 0 S.before)) (sym S.at_is) (fit_go S.before S.after S.split S.small S.fits))
