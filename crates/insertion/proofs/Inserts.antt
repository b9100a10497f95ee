-- The call that inserts: its doors, and the words that it leaves.
use Rattle.std.proofs.Common.{◌≡◌, ℕ, suc, ◌+◌, ◌-◌, ◌^◌, ◌<◌, ◌≤◌, Bool, true, false, List, ◌++◌, length, get_or, ℤ, Ok, Err, Result, sym, refl, ap, ◌∙◌, subst, arith}
use Rattle.std.proofs.lemmas.Bool.{cond-false, cond-true, le-leb, lt-leb}
use Rattle.booking.specs.Bookings.{Done, Insert, Reply, granted, on, refused}
use Rattle.booking.specs.Traces.{subscripts}
use Rattle.booking.specs.declared.refusal.Refusal.{Refusal}
use Rattle.booking.specs.declared.refusal.Refusal.TheVariants.{BadLength, NoRoom}
use Rattle.booking.specs.declared.trace.Trace.{Trace}
use Rattle.codeword.specs.Codeword.{InWidth}
use Rattle.codeword.specs.declared.Codeword.{Codeword}
use Rattle.ledger.specs.Doors.{element, off}
use Rattle.ledger.specs.Ledger.{book}
use Rattle.ledger.specs.Lists.{insert_at}
use Rattle.ledger.specs.Trees.{Trees, free}
use Rattle.layout.specs.Arrangement.{Arrangement, Codes, Data, Placed, Spot, trees, vacant}
use Rattle.layout.specs.Booked.{Booked}
use Rattle.layout.specs.Chains.{size_at}
use Rattle.layout.specs.Gaps.{a_gap}
use Rattle.layout.specs.Held.{held_trees}
use Rattle.layout.specs.Holds.{Displays, Holds}
use Rattle.layout.specs.Keeping.{tidied}
use Rattle.layout.specs.Placement.{closed_up}
use Rattle.layout.specs.Places.{at_trace}
use Rattle.layout.specs.Rearranged.{grown, if_granted, raised, rearranged}
use Rattle.layout.specs.Sound.{Each, Sound}
use Rattle.layout.specs.Walks.{walked}
use Rattle.layout.specs.Words.{Cell, cells, gap_cells, labelling, total, words_of}
use Rattle.layout.proofs.Cells.{Shown}
use Rattle.layout.proofs.Cover.{covers_yes}
use Rattle.layout.proofs.Decode.{trees_told}
use Rattle.layout.proofs.Frame.{live}
use Rattle.layout.proofs.Frees.{not_granted}
use Rattle.layout.proofs.Grown.{gap_total, insert_length}
use Rattle.layout.proofs.Hits.{hits, hits-++, hits_cells, hits_within}
use Rattle.layout.proofs.Kept.{closed_up_sound}
use Rattle.layout.proofs.Laws.{gaps_are_free, lawful, stored_sound, tidy_left}
use Rattle.layout.proofs.Owed.{granted_owes, place_owes}
use Rattle.layout.proofs.Place.{Stands, booked, came, fitting, reached, subscripts_count}
use Rattle.layout.proofs.Refine.{tidy_leaves_trees}
use Rattle.layout.proofs.Written.{words_shown}
use Rattle.ledger.proofs.Signs.{element_lt}
use Rattle.placement.specs.Moves.{renewed}
use Rattle.placement.proofs.Moves.{length_renewed}
use Rattle.insertion.specs.Openings.{grown_words, longer, opened}
use Rattle.insertion.specs.Raises.{Raises}
use Rattle.insertion.proofs.Again.{begins, besides, high, opens_again}
use Rattle.insertion.proofs.GivesWay.{gave_way, once}
use Rattle.insertion.proofs.OpenedUp.{length_opened, opened_is}
use Rattle.insertion.proofs.RowGrown.{data_away, data_kept, data_shown}
use Rattle.insertion.proofs.TableApart.{codes_away}
use Rattle.insertion.proofs.TableGrown.{codes_kept, codes_shown}
use Rattle.insertion.proofs.Opened.{Open, Opens, Shape, none_refused, opened_so, row, some_asks_room, table}

-- ── The block grows ────────────────────────────────────────────────────

-- the label fits a word, and the words that growing leaves display the longer block
abbrev Grows : List ℕ → Arrangement → Trace → ℤ → ℕ → Codeword → ℕ → Type 0
Grows vs C t i n c k = InWidth (longer n c) × ((us : List ℕ) → us ≡ grown_words c k n vs → Displays us (at_trace (grown i n) t C))

module _ (vs : List ℕ) (C : Arrangement) (shown : Displays vs C) (t : Trace) (i : ℤ) (n : ℕ) (o : Sound (at_trace (grown i n) t C)) (few : length vs ≤ 2 ^ 18) where
  abbrev T : Arrangement
  T = at_trace (grown i n) t C

  module _ (at depth : ℕ) (spot : Spot (Placed depth)) (st : Stands vs C t at depth spot) where
    abbrev D : List Cell
    D = cells (suc depth) at (grown i n depth spot)

    abbrev O : List Cell
    O = cells (suc depth) at spot

    one : (y : ℕ) → hits y D ≤ 1
    one y = omega (arith, once vs vs C shown T.names o st.before O D st.after st.here (st.there (grown i n)) y)

    in_store : (y : ℕ) → 1 ≤ hits y D → y < length vs
    in_store y h =
        omega (
          arith,
          shown.count,
          hits_within T o y
              (omega (
                arith,
                hits-++ y (gap_cells C.gaps) (live T.names),
                ap (hits y) (st.there (grown i n)),
                hits-++ y st.before (D ++ st.after),
                hits-++ y D st.after,
              )),
        )

    displayed : (us : List ℕ) → length us ≡ length vs → ((y : ℕ) → hits y D ≡ 0 → get_or us y 0 ≡ get_or vs y 0)
        → Each (Shown us) D → Displays us T
    displayed us = gave_way vs us C shown T.names o st.before O D st.after st.here (st.there (grown i n))

  grows : (at depth : ℕ) (spot : Spot (Placed depth)) → Stands vs C t at depth spot → (s N : ℕ) (b : ℤ) (q : Bool) (ty : ℕ) → Shape depth spot s N b q ty
      → off b (N + 1) i ≡ false → Grows vs C t i n (labelling (s + 1) N b q ty) (element b i)
  grows at depth _ st _ _ _ _ _ (row s b ty ws) e =
      let k = element b i in
      let le : k ≤ length ws = omega (arith, element_lt b i (length ws + 1) e) in
      let spot : Spot (Placed depth) = Data s b ty ws in
      let m = insert_length k n 0 ws in
      let y = s + length ws + n in
      let fit : s + 1 + length ws + n ≤ length vs =
      omega (
        arith,
        in_store at depth spot st y
            (omega (arith, hits_cells y (suc depth) at (Data s b ty (insert_at k n 0 ws)), covers_yes y s (length (insert_at k n 0 ws) + 1) (omega arith) (omega (arith, m)))),
      ) in
      let one_each = one at depth spot st in
      let away = data_away vs depth s at k n b ty ws le st.shows st.inside fit one_each in
      let g = st.fits_in in (
        (omega arith, omega arith, omega (arith, g.4)),
        λ us is.
            subst (λ (zs : List ℕ). Displays zs T) (sym (is ∙ opened_is s (length ws) k n at b false ty vs le st.shows.1 st.inside fit away))
            (displayed at depth spot st _ (length_opened s (length ws) k n at b false ty vs le st.shows.1 st.inside fit away)
            (data_kept vs depth s at k n b ty ws le st.shows st.inside fit one_each)
            (data_shown vs depth s at k n b ty ws le st.shows st.inside fit one_each)),
      )
  grows at depth _ st _ _ _ _ _ (table s b ps) e =
      let k = element b i in
      let le : k ≤ length ps = omega (arith, element_lt b i (length ps + 1) e) in
      let spot : Spot (Placed depth) = Codes s b ps in
      let ps' = insert_at k n (vacant depth) ps in
      let m = insert_length k n (vacant depth) ps in
      let y = s + length ps + n in
      let fit : s + 1 + length ps + n ≤ length vs =
      omega (
        arith,
        in_store at depth spot st y
            (omega (arith, hits_cells y (suc depth) at (Codes s b ps'), covers_yes y s (length ps' + 1) (omega arith) (omega (arith, m)))),
      ) in
      let one_each = one at depth spot st in
      let away = codes_away depth s at k n b ps one_each in
      let g = st.fits_in in (
        (omega arith, omega arith, omega arith),
        λ us is.
            subst (λ (zs : List ℕ). Displays zs T)
            (sym (is ∙ ap (renewed (length ps - k) (s + 1 + k + n)) (opened_is s (length ps) k n at b true 0 vs le st.shows.1 st.inside fit away)))
            (displayed at depth spot st _
            (length_renewed (length ps - k) (s + 1 + k + n) _ ∙ length_opened s (length ps) k n at b true 0 vs le st.shows.1 st.inside fit away)
            (codes_kept vs few depth s at k n b ps le st.shows st.fits_in st.inside fit one_each)
            (codes_shown vs few depth s at k n b ps le st.shows st.fits_in st.inside fit one_each)),
      )

  grows_so : (c : Codeword) (k : ℕ) → Open vs C t i c k → Grows vs C t i n c k
  grows_so c k op =
      subst (λ (z : Codeword). Grows vs C t i n z k) (sym op.label)
      (subst (Grows vs C t i n (labelling (op.start + 1) op.size op.base op.sort op.type)) (sym op.is)
      (grows op.at op.depth op.spot op.stands op.start op.size op.base op.sort op.type op.shape op.on))

-- ── The doors ──────────────────────────────────────────────────────────

module _ (ws : List ℕ) (h : Holds ws) (t : Trace) (i z : ℤ) (q : z ≡ i) where
  abbrev A : Arrangement
  A = h.arrangement

  few_words : length ws ≤ 2 ^ 18
  few_words = omega (arith, h.shown.count, h.sound.most)

  at_first : (r : Result (Codeword × ℕ) Refusal) → r ≡ opened ws t z → Opens ws A t i r
  at_first = opened_so ws A t i few_words (came ws h t (walked ws 1 t.name (subscripts t)) refl) z q

  pub opening_owes : (n : ℕ) (r : Refusal) → Err r ≡ opened ws t z → Booked ws (on t (Insert i n)) (refused r) ws
  opening_owes n r e = place_owes ws h t (Insert i n) r (at_first (Err r) e n)

  module _ (c : Codeword) (k : ℕ) (e : Ok (c, k) ≡ opened ws t z) (n : ℕ) where
    pub none_owes : n ≡ 0 → Booked ws (on t (Insert i n)) (refused BadLength) ws
    none_owes zero = place_owes ws h t (Insert i n) BadLength (none_refused ws A t i c k (at_first (Ok (c, k)) e) n zero)

    module _ (some : n ≡ 0 → ⊥) (F : ℕ) (header : F ≡ size_at ws 0) where
      F_is : F ≡ free A.count (trees A)
      F_is =
          header ∙ lawful.total_is_free ws h ∙ ap (λ (k : ℕ). free k (held_trees ws)) h.shown.count ∙ ap (free A.count) (trees_told ws A h.sound h.shown)

      pub no_room_owes : F < n → Booked ws (on t (Insert i n)) (refused NoRoom) ws
      no_room_owes less =
          place_owes ws h t (Insert i n) NoRoom
          (some_asks_room ws A t i c k (at_first (Ok (c, k)) e) n some ∙ cond-false _ _ _ (lt-leb n (free A.count (trees A) + 0) (omega (arith, F_is))))

      -- ── Once closed up ───────────────────────────────────────────────

      module _ (enough : n ≤ F) (us : List ℕ) (tidy : us ≡ tidied ws) where
        abbrev B : Arrangement
        B = closed_up A

        granted_first : booked A t (Insert i n) ≡ granted Done
        granted_first =
            some_asks_room ws A t i c k (at_first (Ok (c, k)) e) n some ∙ cond-true _ _ _ (le-leb n (free A.count (trees A) + 0) (omega (arith, F_is)))

        granted_again : booked B t (Insert i n) ≡ granted Done
        granted_again = ap (λ (ts : Trees). (book A.count ts (on t (Insert i n))).0) (tidy_leaves_trees A) ∙ granted_first

        sound : Sound B
        sound = closed_up_sound A h.sound

        shown : Displays us B
        shown =
            let s = words_shown B sound in
            subst (λ (xs : List ℕ). Displays xs B) (tidy_left ws (words_of B) A h.sound h.shown s ∙ sym tidy) s

        few_again : length us ≤ 2 ^ 18
        few_again = omega (arith, shown.count, h.sound.most)

        at_second : (r : Result (Codeword × ℕ) Refusal) → r ≡ opened us t z → Opens us B t i r
        at_second = opened_so us B t i few_again (reached us B (fitting B sound) shown t (omega (arith, subscripts_count t, t.lawful.2))) z q

        pub never_lost : (r : Refusal) → Err r ≡ opened us t z → ⊥
        never_lost r f = not_granted r Done (sym (at_second (Err r) f n) ∙ granted_again)

        all_gaps : total B.gaps ≡ total A.gaps
        all_gaps = gap_total (A.count - total A.gaps) (total A.gaps)

        one_gap : B.gaps ≡ a_gap (B.count - total B.gaps) (total B.gaps)
        one_gap = ap (λ (m : ℕ). a_gap (A.count - m) m) (sym all_gaps)

        room : n ≤ total B.gaps
        room = omega (arith, all_gaps, gaps_are_free A h.sound, F_is)

        module _ (l : Codeword) (j : ℕ) (f : Ok (l, j) ≡ opened us t z) where
          op : Open us B t i l j
          op = at_second (Ok (l, j)) f

          abbrev C : Arrangement
          C = raised op.start n B

          left : rearranged t (Insert i n) A ≡ at_trace (grown i n) t C
          left = ap (λ (s : ℕ). at_trace (grown i n) t (raised s n B)) (begins us B sound one_gap t i l j op)

          sound_left : Sound (at_trace (grown i n) t C)
          sound_left =
              subst Sound (ap (λ (r : Reply). if_granted r (rearranged t (Insert i n) A) A) granted_first ∙ left) (stored_sound A h.sound (on t (Insert i n)))

          module _ (vs : List ℕ) (raise : Raises (l.first + l.length) n us vs) where
            raised_shown : Displays vs C
            raised_shown =
                let point : l.first + l.length ≡ op.start + 1 + op.size = ap (λ (c : Codeword). c.first + c.length) op.label in
                subst (λ (p : ℕ). Raises p n us vs) point raise op.start B sound shown one_gap (high us B sound one_gap t i l j op) (omega arith)
                (besides us B sound one_gap t i l j op) (omega (arith, some)) room

            growing : Grows vs C t i n l j
            growing =
                grows_so vs C raised_shown t i n sound_left (omega (arith, raised_shown.count, h.sound.most)) l j
                (opens_again us B sound one_gap t i l j op n room vs raised_shown Done n granted_again)

            pub insert_done : (xs : List ℕ) → (InWidth (longer n l) → xs ≡ grown_words l j n vs) → Booked ws (on t (Insert i n)) (granted Done) xs
            insert_done xs grow =
                granted_owes ws h t (Insert i n) Done xs granted_first
                (subst (Displays xs) (sym left) (growing.1 xs (grow growing.0)))
