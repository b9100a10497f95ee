-- A piece is linked into the chain.
use Rattle.std.proofs.Common.{◌≡◌, ℕ, ◌+◌, ◌-◌, ◌*◌, ◌^◌, ◌<◌, ◌≤◌, min, ◌≢◌, List, [], ◌∷◌, ◌++◌, length, get_or, set, sym, refl, ap, ◌∙◌, subst, inl, inr, append_assoc, arith}
use Rattle.std.proofs.lemmas.List.{get_or-set_same, get_or-set_other, length-set}
use Rattle.std.proofs.lemmas.Bool.{cases_lt, cond-true, cond-false, lt-ltb, le-ltb}
use Rattle.layout.specs.Arrangement.{Piece}
use Rattle.layout.specs.Chains.{Begins, Chained, InChain, Loose, Relinked, Rising, last_of, next_at, size_at}
use Rattle.codeword.specs.Heads.{head_word}
use Rattle.layout.specs.Gaps.{link}
use Rattle.layout.specs.Sound.{Each, covered}
use Rattle.layout.specs.Words.{first_of, total}
use Rattle.layout.proofs.Cover.{covers_yes, each-++, each_imp}
use Rattle.layout.proofs.Chains.{Outside, chain_join, chain_keep, chain_same, chain_split, first-++, first_at, first_or, here_is, last-++, outside, outside_last, relink, rising_first, rising_right, rising_total, rising_below, rising_upto, seg_keep}
use Rattle.layout.proofs.FreeWords.{total-++}
use Rattle.placement.specs.Links.{Ahead, Sought, spliced}
use Rattle.store.specs.Edits.{zeroed}
use Rattle.store.proofs.Zeroed.{zeroed_above, zeroed_at, zeroed_below, length_zeroed}

-- ── Where the walk stands ──────────────────────────────────────────────

pub record Seeking (at : ℕ) (gs : List Piece) (link next : ℕ) : Type 0 where
  pub before : List Piece
  pub after : List Piece
  pub split : gs ≡ before ++ after
  pub link_is : link ≡ last_of 0 before
  pub next_is : next ≡ first_of after
  pub behind : Each (λ g. g.start ≤ at) before

-- the gap that begins at an address, among the others
record Begun (a : ℕ) (gs : List Piece) : Type 0 where
  before : List Piece
  gap : Piece
  after : List Piece
  split : gs ≡ before ++ gap ∷ after
  is : gap.start ≡ a

begun : (a : ℕ) (gs : List Piece) → Begins a gs → Begun a gs
begun a [] b = absurd b
begun a (g ∷ gs) (inl e) = record { before = []; gap = g; after = gs; split = refl; is = e }
begun a (g ∷ gs) (inr b) =
    let s = begun a gs b in
    record { before = g ∷ s.before; gap = s.gap; after = s.after; split = ap (λ (zs : List Piece). g ∷ zs) s.split; is = s.is }

module _ (ws : List ℕ) (from at : ℕ) where
  abbrev pub Seeks : ℕ → ℕ → Type 0
  Seeks link next = (gs : List Piece) → Chained ws gs → InChain from gs → Seeking at gs link next

  from_header : (gs : List Piece) → Chained ws gs → Seeking at gs 0 (next_at ws 0)
  from_header gs G = record { before = []; after = gs; split = refl; link_is = refl; next_is = first_at ws gs G; behind = tt }

  pub seek_start : (link : ℕ) → link ≡ 0 → Seeks link (next_at ws link)
  seek_start link z gs G k = subst (λ (y : ℕ). Seeking at gs y (next_at ws y)) (sym z) (from_header gs G)

  from_gap : (gs before : List Piece) (g : Piece) (after : List Piece) → Chained ws gs → gs ≡ before ++ g ∷ after → g.start ≤ at → Seeking at gs g.start (next_at ws g.start)
  from_gap gs before g after G e le =
      let C = subst (Chained ws) e G in
      record {
        before = before ++ g ∷ [];
        after = after;
        split = e ∙ sym (append_assoc before (g ∷ []) after);
        link_is = sym (last-++ 0 before g);
        next_is = (here_is ws before g after C).next_is;
        behind = each-++ (λ h. h.start ≤ at) before (g ∷ [])
            (each_imp (λ h. h.start ≤ g.start) (λ h. h.start ≤ at) (λ h l. omega arith) before (rising_below 65 before g.start (rising_upto 65 before g after (length ws) C.rising)))
            (le, tt);
      }

  pub seek_from : (link : ℕ) → link ≡ from → from < at → Seeks link (next_at ws link)
  seek_from link e lt gs G (inl z) = seek_start link (e ∙ z) gs G (inl z)
  seek_from link e lt gs G (inr b) =
      let s = begun from gs b in
      subst (λ (y : ℕ). Seeking at gs y (next_at ws y)) (s.is ∙ sym e) (from_gap gs s.before s.gap s.after G s.split (omega (arith, s.is)))

  module _ (link next : ℕ) where
    go_on : (gs before after : List Piece) → Chained ws gs → gs ≡ before ++ after → next ≡ first_of after → link < next → next ≤ at
        → Each (λ g. g.start ≤ at) before → Seeking at gs next (next_at ws next)
    go_on gs before [] G e n lt le b = absurd (omega arith)
    go_on gs before (g ∷ after) G e n lt le b =
        let H = here_is ws before g after (subst (Chained ws) e G) in
        record {
          before = before ++ g ∷ [];
          after = after;
          split = e ∙ sym (append_assoc before (g ∷ []) after);
          link_is = n ∙ sym (last-++ 0 before g);
          next_is = ap (next_at ws) n ∙ H.next_is;
          behind = each-++ (λ h. h.start ≤ at) before (g ∷ []) b (omega arith, tt);
        }

    pub seek_on : Seeks link next → link < next → next ≤ at → Seeks next (next_at ws next)
    seek_on P lt le gs G k = let p = P gs G k in go_on gs p.before p.after G p.split p.next_is lt le p.behind

    near : (after : List Piece) → next ≡ first_of after → at < next → Ahead at after
    near [] n lt = tt
    near (g ∷ after) n lt = omega arith

    pub seek_stop : Seeks link next → at < next → (gs : List Piece) → Chained ws gs → InChain from gs → Sought at gs link next
    seek_stop P lt gs G k =
        let p = P gs G k in
        record {
          before = p.before;
          after = p.after;
          split = p.split;
          link_is = p.link_is;
          next_is = p.next_is;
          behind = p.behind;
          ahead = near p.after p.next_is lt;
        }

    end : (gs before after : List Piece) → Chained ws gs → gs ≡ before ++ after → link ≡ last_of 0 before → next ≡ first_of after → next ≤ link
        → Each (λ g. g.start ≤ at) before → Sought at gs link 0
    end gs before [] G e l n le b = record { before = before; after = []; split = e; link_is = l; next_is = refl; behind = b; ahead = tt }
    end gs before (g ∷ after) G e l n le b = absurd (omega (arith, (here_is ws before g after (subst (Chained ws) e G)).beyond))

    pub seek_end : Seeks link next → next ≤ link → (gs : List Piece) → Chained ws gs → InChain from gs → Sought at gs link 0
    seek_end P le gs G k = let p = P gs G k in end gs p.before p.after G p.split p.link_is p.next_is le p.behind

link_between : (p : Piece) (before after : List Piece) → Each (λ g. g.start ≤ p.start) before → Ahead p.start after
    → link p (before ++ after) ≡ before ++ p ∷ after
link_between p [] [] b a = refl
link_between p [] (g ∷ after) b a = cond-true _ _ _ (lt-ltb p.start g.start a)
link_between p (x ∷ before) after b a =
    cond-false _ _ _ (le-ltb p.start x.start b.0) ∙ ap (λ (zs : List Piece). x ∷ zs) (link_between p before after b.1 a)

last_behind : (z at : ℕ) (xs : List Piece) → z ≤ at → Each (λ g. g.start ≤ at) xs → last_of z xs ≤ at
last_behind z at [] h e = h
last_behind z at (x ∷ xs) h e = last_behind x.start at xs e.0 e.1

-- ── The splice ─────────────────────────────────────────────────────────

pub spliced_long : (link next at size : ℕ) (ws : List ℕ) → length (spliced link next at size ws) ≡ length ws
spliced_long link next at size ws = length-set _ 0 _ ∙ length-set _ link _ ∙ length-set ws at _

module _ (p : Piece) (e : ℕ) (some : 1 ≤ p.size) (inside : p.start + p.size ≤ e) where
  insert : (a : ℕ) (xs ys : List Piece) → Rising a (xs ++ ys) e → a ≤ p.start → Each (λ g. g.start ≤ p.start) xs
      → ((k : ℕ) → k < p.size → Outside (p.start + k) (xs ++ ys)) → Ahead p.start ys → Rising a (xs ++ p ∷ ys) e
  insert a [] [] r lo b o f = (lo, some, inside)
  insert a [] (y ∷ ys) r lo b o f =
      let clear : p.start + p.size ≤ y.start =
      elim (cases_lt y.start (p.start + p.size)) [
        | inl h ↦ absurd (elim (o (y.start - p.start) (omega arith)).0 [ inl k ↦ omega arith | inr k ↦ omega (arith, r.1) ])
        | inr h ↦ h
      ] in
      (lo, some, (clear, r.1, r.2))
  insert a (x ∷ xs) ys r lo b o f =
      let past : x.start + x.size ≤ p.start = elim (o 0 (omega arith)).0 [ inl k ↦ absurd (omega (arith, b.0)) | inr k ↦ omega arith ] in
      (r.0, r.1, insert (x.start + x.size) xs ys r.2 past b.1 (λ k h. (o k h).1) f)

-- no word of a loose piece lies in a gap
loose_outside : (p : Piece) (gs : List Piece) (e : ℕ) → Loose p gs e → (k : ℕ) → k < p.size → Outside (p.start + k) gs
loose_outside p gs e L k h =
    outside (p.start + k) gs (omega (arith, L.apart (p.start + k), covers_yes (p.start + k) p.start p.size (omega arith) (omega arith)))

module _ (ws : List ℕ) (B F : List Piece) (p : Piece) (G : Chained ws (B ++ F)) (L : Loose p (B ++ F) (length ws))
    (blank : (k : ℕ) → 1 ≤ k → k < p.size → get_or ws (p.start + k) 0 ≡ 0)
    (behind : Each (λ g. g.start ≤ p.start) B) (ahead : Ahead p.start F) where
  splices : Relinked ws (spliced (last_of 0 B) (first_of F) p.start p.size ws) (p ∷ B ++ F) (B ++ p ∷ F)
  splices =
      let few = G.few in
      let some = L.some in
      let hi = L.high in
      let ins = L.inside in
      let apart = loose_outside p (B ++ F) (length ws) L in
      let R = insert p (length ws) some ins 65 B F G.rising hi behind apart ahead in
      let up = rising_upto 65 B p F (length ws) R in
      let at = p.start in
      let z = last_of 0 B in
      let self : Outside at (B ++ F) = subst (λ (k : ℕ). Outside k (B ++ F)) (let v : at + 0 ≡ at = omega arith in v) (apart 0 (omega arith)) in
      let ne : at ≢ z = outside_last at 0 65 B F (length ws) G.rising (λ q. omega arith) self in
      let lt : z < at = omega (arith, last_behind 0 at B (omega arith) behind) in
      let r = (rising_right 0 65 (omega arith) B (p ∷ F) (length ws) R).3 in
      let far = rising_first (at + p.size) F (length ws) (omega arith) r.2 in
      let first = rising_first 65 (B ++ p ∷ F) (length ws) (omega arith) R in
      let c = chain_split ws B F G.chain in
      let T = total (B ++ F) in
      let w = head_word p.size (first_of F) in
      let us = set ws at w in
      let lu : length us ≡ length ws = length-set ws at w in
      let new = rising_total 65 (B ++ p ∷ F) (length ws) R in
      let t1 = total-++ B F in
      let t2 = total-++ B (p ∷ F) in
      let f2 = first-++ B (p ∷ F) in
      let head : get_or us 0 0 ≡ T + 2 ^ 18 * first_or B (first_of F) =
      get_or-set_other ws at 0 w 0 (λ q. omega arith) ∙ G.header ∙ ap (λ (k : ℕ). T + 2 ^ 18 * k) (first-++ B F) in
      let K = relink us 0 T B (first_of F) at 65 at (omega arith) (omega arith) (omega arith) (omega arith) up (omega arith) head
      (seg_keep ws us 65 B (first_of F) at up (λ y lo k. get_or-set_other ws at y w 0 (λ q. omega arith)) c.0) in
      let vs = set us z (head_word (size_at us z) at) in
      let lv : length vs ≡ length ws = length-set us z _ ∙ lu in
      let h = head_word (min (size_at vs 0 + p.size) (2 ^ 64 - 1)) (next_at vs 0) in
      let xs = set vs 0 h in
      let lx : length xs ≡ length ws = length-set vs 0 h ∙ lv in
      let off : (y : ℕ) → 1 ≤ y → get_or xs y 0 ≡ get_or vs y 0 = λ y k. get_or-set_other vs 0 y h 0 (λ q. omega arith) in
      let other : (y : ℕ) → 1 ≤ y → y ≢ z → y ≢ at → get_or xs y 0 ≡ get_or ws y 0 =
      λ y k q m. off y k ∙ get_or-set_other us z y _ 0 q ∙ get_or-set_other ws at y w 0 m in
      record {
        long = lx;
        chained = record {
          few = omega arith;
          rising = rw lx R;
          header = get_or-set_same vs 0 h 0 (omega arith)
              ∙ (let v : h ≡ total (B ++ p ∷ F) + 2 ^ 18 * first_or B at = omega (arith, K.0) in v)
              ∙ ap (λ (k : ℕ). total (B ++ p ∷ F) + 2 ^ 18 * k) (sym f2);
          chain = chain_join xs B (p ∷ F)
              (seg_keep vs xs 65 B at at up (λ y lo k. off y (omega arith)) K.1) (
                off at (omega arith) ∙ get_or-set_other us z at _ 0 ne ∙ get_or-set_same ws at w 0 (omega arith)
                    ∙ (let v : w ≡ p.size + 2 ^ 18 * first_of F = omega arith in v),
                (λ k lo k'. other (at + k) (omega arith) (λ q. omega arith) (λ q. omega arith) ∙ blank k lo k'),
                chain_keep ws xs (at + p.size) F (length ws) r.2 (λ y lo k. other y (omega arith) (λ q. omega arith) (λ q. omega arith)) c.1,
              );
        };
        kept = λ y k o.
            let v = outside y (p ∷ B ++ F) o in
            other y k (outside_last y 0 65 B F (length ws) G.rising (λ q. omega arith) v.1)
            (λ q. elim v.0 [ inl d ↦ omega arith | inr d ↦ omega arith ]);
      }

-- words of a loose piece made 0: the chain stays
blanked : (ws : List ℕ) (gs : List Piece) (p : Piece) → Chained ws gs → Loose p gs (length ws) → Chained (zeroed ws p.start p.size) gs
blanked ws gs p G L =
    let us = zeroed ws p.start p.size in
    let long = length_zeroed ws p.start p.size in
    let hi = L.high in
    record {
      few = rw long G.few;
      rising = rw long G.rising;
      header = zeroed_below ws p.start p.size 0 (omega arith) ∙ G.header;
      chain = chain_same ws us 65 gs (length ws) G.rising
          (λ y h.
          elim (cases_lt y p.start) [
            | inl k ↦ zeroed_below ws p.start p.size y k
            | inr k ↦ elim (cases_lt y (p.start + p.size)) [
              | inl m ↦
                  absurd (h (subst (λ (j : ℕ). Outside j gs) (let v : p.start + (y - p.start) ≡ y = omega arith in v)
                  (loose_outside p gs (length ws) L (y - p.start) (omega arith))))
              | inr m ↦ zeroed_above ws p.start p.size y m
            ]
          ])
          G.chain;
    }

pub linked : (ws : List ℕ) (gs : List Piece) (p : Piece) (from here next : ℕ) → Chained ws gs → Loose p gs (length ws) → InChain from gs
    → ((hs : List Piece) → Chained (zeroed ws p.start p.size) hs → InChain from hs → Sought p.start hs here next)
    → Relinked ws (spliced here next p.start p.size (zeroed ws p.start p.size)) (p ∷ gs) (link p gs)
linked ws gs p from here next G L k seek =
    let us = zeroed ws p.start p.size in
    let long = length_zeroed ws p.start p.size in
    let G' = blanked ws gs p G L in
    let S = seek gs G' k in
    let B = S.before in
    let F = S.after in
    let L' : Loose p gs (length us) = rw long L in
    let D = splices us B F p (subst (Chained us) S.split G') (subst (λ (hs : List Piece). Loose p hs (length us)) S.split L')
    (λ k lo hi. zeroed_at ws p.start p.size (p.start + k) (omega arith) (omega arith)) S.behind S.ahead in
    let is : spliced (last_of 0 B) (first_of F) p.start p.size us ≡ spliced here next p.start p.size us =
    ap (λ (k : ℕ). spliced k (first_of F) p.start p.size us) (sym S.link_is)
    ∙ ap (λ (k : ℕ). spliced here k p.start p.size us) (sym S.next_is) in
    let same : link p gs ≡ B ++ p ∷ F = ap (link p) S.split ∙ link_between p B F S.behind S.ahead in
    subst (λ (vs : List ℕ). Relinked ws vs (p ∷ gs) (link p gs)) is record {
      long = D.long ∙ long;
      chained = subst (Chained (spliced (last_of 0 B) (first_of F) p.start p.size us)) (sym same) D.chained;
      kept = λ y h o.
          D.kept y h (subst (λ (hs : List Piece). covered y (p ∷ hs) ≡ 0) S.split o)
          ∙ elim (outside y (p ∷ gs) o).0 [ inl k ↦ zeroed_below ws p.start p.size y k | inr k ↦ zeroed_above ws p.start p.size y k ];
    }
