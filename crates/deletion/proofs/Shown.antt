-- Words that display the deletion: the elements behind those that leave went down, and the block's last words are linked.
use Rattle.std.proofs.Common.{◌≡◌, ℕ, suc, ◌+◌, ◌-◌, ◌^◌, ◌≤◌, Bool, true, false, cond, List, [], ◌∷◌, ◌++◌, map, length, get_or, take, drop, set, ℤ, sym, refl, ap, ◌∙◌, subst, inl, inr, arith, length-drop, length-take}
use Rattle.std.proofs.lemmas.Bool.{cases_lt}
use Rattle.booking.specs.Bookings.{Delete}
use Rattle.booking.specs.declared.trace.Trace.{Trace}
use Rattle.codeword.specs.Codeword.{packed}
use Rattle.ledger.specs.Doors.{element}
use Rattle.ledger.specs.Lists.{delete_at}
use Rattle.layout.specs.Arrangement.{Arrangement, Codes, Data, Piece, Placed, Spot, concat, pieces}
use Rattle.layout.specs.Chains.{Chained}
use Rattle.layout.specs.Gaps.{link_all}
use Rattle.layout.specs.Holds.{Along, Displays, Shows}
use Rattle.layout.specs.Placement.{with_gaps}
use Rattle.layout.specs.Places.{at_trace}
use Rattle.layout.specs.Rearranged.{given_up, rearranged, shrunk}
use Rattle.layout.specs.Released.{Cleared, Clears, run, under}
use Rattle.layout.specs.Sound.{Each, Sound, covered, covers}
use Rattle.layout.specs.Words.{Cell, cells, cells_along, datum_at, label, labelling, word}
use Rattle.layout.proofs.Bridge.{Fits}
use Rattle.layout.proofs.Cells.{Shown, cells→shows, from_cells, shows→cells, to_cells}
use Rattle.layout.proofs.Cover.{covered-++}
use Rattle.layout.proofs.Doors.{Legal}
use Rattle.layout.proofs.Emptied.{own_loose}
use Rattle.layout.proofs.Freed.{once, rooted}
use Rattle.layout.proofs.Hits.{here, here_yes, hits, hits-++, hits_cells, no_cover}
use Rattle.layout.proofs.GivenUp.{all_covered, delete_length, each_drop, given_leaves, given_some}
use Rattle.layout.proofs.Place.{Stands}
use Rattle.layout.proofs.Releases.{Links, elements}
use Rattle.layout.proofs.Releasing.{along_drop, along_take, row_part}
use Rattle.layout.proofs.Relink.{chained}
use Rattle.layout.proofs.Rewritten.{each_kept, live_shown}
use Rattle.store.proofs.Moved.{length_copied}
use Rattle.store.specs.Edits.{copied}
use Rattle.placement.proofs.Moves.{length_renewed}
use Rattle.placement.specs.Moves.{renewed}
use Rattle.deletion.proofs.Behind.{apart, closed, run_both}
use Rattle.deletion.proofs.Moved.{codes_kept, codes_shown, copied_kept, data_shown}
use Rattle.deletion.specs.Closing.{elements_closed_up, shut}

-- ── The last words are linked ──────────────────────────────────────────

module _ (ws : List ℕ) (A : Arrangement) (o : Sound A) (sh : Displays ws A) (t : Trace) (at d : ℕ) (i : ℤ) (n : ℕ) where
  module _ (spot : Spot (Placed d)) (st : Stands ws A t at d spot) (legal : Legal (Delete i n) d spot) (p : Piece) (below : List Piece)
      (gives : given_up i n d spot ≡ p ∷ below) where
    abbrev whole : List Cell
    whole = st.before ++ (cells (suc d) at (shrunk i n d spot) ++ st.after)

    sizes : (y : ℕ) → covered y (pieces (suc d) (shrunk i n d spot)) + covered y (p ∷ below) ≡ covered y (pieces (suc d) spot)
    sizes y = ap (λ (gs : List Piece). covered y (pieces (suc d) (shrunk i n d spot)) + covered y gs) (sym gives) ∙ given_leaves i n y d spot legal

    whole_hits : (y : ℕ) → hits y whole ≡ hits y st.before + (here y at + covered y (pieces (suc d) (shrunk i n d spot)) + hits y st.after)
    whole_hits y =
        let C = cells (suc d) at (shrunk i n d spot) in
        omega (arith, hits-++ y st.before (C ++ st.after), hits-++ y C st.after, hits_cells y (suc d) at (shrunk i n d spot))

    linked_shown : (zs us : List ℕ) → length zs ≡ length ws → Chained zs (link_all below A.gaps) → Each (Shown zs) whole → Links zs p.start p.size us
        → Displays us (rearranged t (Delete i n) A)
    linked_shown zs us long G all L =
        let some : 1 ≤ p.size = (subst (Each (λ q. 1 ≤ q.size)) gives (given_some i n d spot legal)).0 in
        let R = rooted ws A t at d spot o sh st in
        let loose =
        own_loose p below A.gaps (length zs)
        (λ y. subst (λ (m : ℕ). covered y (p ∷ below) + covered y A.gaps ≤ covers y (run 65 (m - 65))) (sym long) (omega (arith, R.apart y, sizes y))) some in
        let T = L p (link_all below A.gaps) refl refl G loose in
        let shown : Each (Shown us) whole =
        each_kept zs us whole
        (λ y h. let x = once ws A t at d spot o sh st y in
        T.kept y
        (elim (cases_lt 0 y) [
          | inl l ↦ l
          | inr l ↦ absurd (omega (arith, x, sizes y, whole_hits y, here_yes y, ap (here y) (let q : y ≡ 0 = omega arith in q)))
        ])
        (omega (arith, x, sizes y, whole_hits y, all_covered y below A.gaps))) all in
        let ns : List (Placed 4) = (at_trace (shrunk i n) t A).names in
        subst (λ (gs : List Piece). Displays us (at_trace (shrunk i n) t (with_gaps A (link_all gs A.gaps)))) (sym (st.looked (given_up i n) ∙ gives))
        (record {
          count = T.long ∙ long ∙ sh.count;
          header = T.chained.header;
          names = from_cells (Shown us) (Shows 4 us) (cells 4) (cells→shows us 4) 1 ns (subst (Each (Shown us)) (sym (st.there (shrunk i n))) shown);
          chain = T.chained.chain;
        })

  -- ── The words once the elements behind went down ─────────────────────

  -- closing up goes by as many elements as are behind
  count_is : (q : Bool) (s N k c : ℕ) (b : ℤ) (ty : ℕ) (us : List ℕ) → c ≡ N - (k + n)
      → elements_closed_up (labelling (s + 1) N b q ty) (s + 1 + k) (s + 1 + N) n us
      ≡ cond q (renewed c (s + 1 + k) (copied c (s + 1 + k + n) (s + 1 + k) us)) (copied c (s + 1 + k + n) (s + 1 + k) us)
  count_is q s N k c b ty us e =
      let one : s + 1 + N - (s + 1 + k + n) ≡ c = omega arith in
      let two : s + 1 + N - n - (s + 1 + k) ≡ c = omega arith in
      rw (one, two) refl

  -- the words before the last ones are linked, with the label of as many elements as are left
  shut_is : {X : Type 0} (q : Bool) (s k : ℕ) (b : ℤ) (ty : ℕ) (xs : List X) (us : List ℕ) → k + n ≤ length xs
      → shut at (labelling (s + 1) (length xs) b q ty) k n us
      ≡ set (cond q (renewed (length (drop (k + n) xs)) (s + 1 + k) (copied (length (drop (k + n) xs)) (s + 1 + k + n) (s + 1 + k) us))
      (copied (length (drop (k + n) xs)) (s + 1 + k + n) (s + 1 + k) us)) at (word (label s (length (delete_at k n xs)) b q ty))
  shut_is q s k b ty xs us h =
      let N : ℕ = length xs in
      ap (λ (m : ℕ). set (elements_closed_up (labelling (s + 1) N b q ty) (s + 1 + k) (s + 1 + N) n us) at (packed (labelling (s + 1) m b q ty))) (sym (delete_length k n xs h))
      ∙ ap (λ (zs : List ℕ). set zs at (word (label s (length (delete_at k n xs)) b q ty))) (count_is q s N k (length (drop (k + n) xs)) b ty us (length-drop (k + n) xs))

  -- ── A row ────────────────────────────────────────────────────────────

  module _ (s : ℕ) (b : ℤ) (ty : ℕ) (vs : List ℕ) (st : Stands ws A t at d (Data s b ty vs)) (legal : Legal (Delete i n) d (Data s b ty vs)) where
    abbrev k : ℕ
    k = element b i

    abbrev a : ℕ
    a = s + 1 + k

    abbrev behind : List ℕ
    behind = drop (k + n) vs

    -- no block lies below words
    abbrev none : ℕ → List Piece
    none v = []

    abbrev down : List ℕ
    down = copied (length behind) (a + n) a ws

    row_once : (z : ℕ)
        → here z 0 + covered z A.gaps + hits z st.before + (here z at + (covers z (run s (length vs + 1)) + covered z (concat (map none vs)))) + hits z st.after ≤ 1
    row_once z = omega (arith, once ws A t at d (Data s b ty vs) o sh st z, no_cover z vs)

    abbrev Reads : ℕ → ℕ → Type 0
    Reads y v = get_or ws y 0 ≡ v

    words_shown : (y : ℕ) (us : List ℕ) → Along Reads y us → Each (Shown ws) (cells_along datum_at y us)
    words_shown = to_cells (Shown ws) Reads datum_at (λ y v e. (e, tt))

    row_stays : (z : ℕ) → covers z (run a (n + (length vs - (k + n)))) ≡ 0 → get_or down z 0 ≡ get_or ws z 0
    row_stays z p = copied_kept ws a n (length behind) z (subst (λ (m : ℕ). covers z (run a (n + m)) ≡ 0) (sym (length-drop (k + n) vs)) p)

    pub row_deleted : (us : List ℕ) → Links (shut at (labelling (s + 1) (length vs) b false ty) k n ws) (s + 1 + length vs - n) n us
        → Displays us (rearranged t (Delete i n) A)
    row_deleted us L =
        let r =
        closed datum_at none (λ y a v. refl) st.before st.after at s k n vs A.gaps A.gaps legal.1 row_once (λ z. omega (arith, no_cover z (take n (drop k vs))))
        ws ws down (label s (length vs) b false ty) (label s (length (delete_at k n vs)) b false ty) refl (length_copied (length behind) (a + n) a ws) st.inside
        (λ z lo h. refl) (chained A o ws sh) (subst (Each (Shown ws)) st.here (live_shown ws A sh))
        (words_shown (s + 1) (take k vs) (along_take Reads (s + 1) k vs st.shows.2))
        (words_shown (a + n) behind
        (subst (λ (m : ℕ). Along Reads m behind) (let e : s + 1 + (k + n) ≡ a + n = omega arith in e) (along_drop Reads (s + 1) (k + n) vs legal.1 st.shows.2)))
        (data_shown ws a n behind) (λ e z p q. row_stays z p) _ (shut_is false s k b ty vs ws legal.1) in
        linked_shown (Data s b ty vs) st legal (run (s + 1 + length vs - n) n) [] refl _ us r.2 r.0 r.1 L

  -- ── A table, once what lay below the elements that leave is in the gaps ─

  module _ (s : ℕ) (b : ℤ) (ps : List (Placed d)) (st : Stands ws A t at d (Codes s b ps)) (legal : Legal (Delete i n) d (Codes s b ps)) (us : List ℕ)
      (C : Clears d ws (s + 1 + element b i) n us) where
    abbrev first : ℕ
    first = element b i

    abbrev from : ℕ
    from = s + 1 + first

    abbrev leaving : List (Placed d)
    leaving = take n (drop first ps)

    abbrev others : List (Placed d)
    others = drop (first + n) ps

    abbrev gaps : List Piece
    gaps = link_all (under d leaving) A.gaps

    few_leave : length leaving ≡ n
    few_leave = omega (arith, length-take n (drop first ps), length-drop first ps, legal.1)

    cleared : Cleared d ws us from leaving A.gaps
    cleared =
        C leaving A.gaps few_leave
        (row_part d ws (s + 1) ps A.gaps first n legal.1 (elements d ws at s b ps A.gaps (rooted ws A t at d (Codes s b ps) o sh st)))

    freed : (z : ℕ) → 1 ≤ z → covers z (run from n) + covered z (under d leaving) + covered z A.gaps ≡ 0 → get_or us z 0 ≡ get_or ws z 0
    freed z lo h =
        cleared.relinked.kept z lo
        (subst (λ (m : ℕ). covered z (run from m ∷ under d leaving ++ A.gaps) ≡ 0) (sym few_leave) (omega (arith, covered-++ z (under d leaving) A.gaps)))

    table_once : (z : ℕ)
        → here z 0 + covered z A.gaps + hits z st.before + (here z at + (covers z (run s (length ps + 1)) + covered z (under d ps))) + hits z st.after ≤ 1
    table_once z = once ws A t at d (Codes s b ps) o sh st z

    linked : (z : ℕ) → covered z gaps ≡ covered z (under d leaving) + covered z A.gaps
    linked z = all_covered z (under d leaving) A.gaps

    -- those that go down, and the blocks below them, do not overlap
    others_once : (z : ℕ) → covers z (run from (n + length others)) + covered z (under d others) ≤ 1
    others_once z =
        omega (
          arith,
          apart (cells d) (pieces d) (λ y. hits_cells y d) st.before st.after at s first n ps A.gaps gaps legal.1 table_once linked z,
          run_both (cells d) (pieces d) (λ y. hits_cells y d) st.before st.after at s first n ps A.gaps gaps legal.1 table_once linked z,
          ap (λ (m : ℕ). covers z (run from (n + m))) (length-drop (first + n) ps),
        )

    abbrev moved : List ℕ
    moved = copied (length others) (from + n) from us

    abbrev renamed : List ℕ
    renamed = renewed (length others) from moved

    small : length us ≤ 2 ^ 18
    small = omega (arith, cleared.relinked.long, (chained A o ws sh).few)

    others_fit : Each (Fits (length us) d) others
    others_fit = subst (λ (m : ℕ). Each (Fits m d) others) (sym cleared.relinked.long) (each_drop (Fits (length ws) d) (first + n) ps st.fits_in.4)

    elements_shown : (y : ℕ) (qs : List (Placed d)) → Along (Shows d ws) y qs → Each (Shown ws) (cells_along (cells d) y qs)
    elements_shown = to_cells (Shown ws) (Shows d ws) (cells d) (shows→cells ws d)

    pub table_deleted : (xs : List ℕ) → Links (shut at (labelling (s + 1) (length ps) b true 0) first n us) (s + 1 + length ps - n) n xs
        → Displays xs (rearranged t (Delete i n) A)
    table_deleted xs L =
        let r =
        closed (cells d) (pieces d) (λ y. hits_cells y d) st.before st.after at s first n ps A.gaps gaps legal.1 table_once linked
        ws us renamed (label s (length ps) b true 0) (label s (length (delete_at first n ps)) b true 0) cleared.relinked.long
        (length_renewed (length others) from moved ∙ length_copied (length others) (from + n) from us) st.inside
        freed cleared.relinked.chained (subst (Each (Shown ws)) st.here (live_shown ws A sh))
        (elements_shown (s + 1) (take first ps) (along_take (Shows d ws) (s + 1) first ps st.shows.2))
        (elements_shown (from + n) others
        (subst (λ (m : ℕ). Along (Shows d ws) m others) (let e : s + 1 + (first + n) ≡ from + n = omega arith in e)
        (along_drop (Shows d ws) (s + 1) (first + n) ps legal.1 st.shows.2)))
        (codes_shown d us small from n others others_fit others_once)
        (λ e z p q. codes_kept d us small from n others others_fit others_once e z
        (subst (λ (m : ℕ). covers z (run from (n + m)) ≡ 0) (sym (length-drop (first + n) ps)) p) q)
        _ (shut_is true s first b 0 ps us legal.1) in
        linked_shown (Codes s b ps) st legal (run (s + 1 + length ps - n) n) (under d leaving) refl _ xs r.2 r.0 r.1 L
