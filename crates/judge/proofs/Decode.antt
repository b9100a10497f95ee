-- A codeword passes exactly when it shows a placed tree whose blocks lie in S, and then the marks of the tree's pieces are taken down.
use Rattle.std.proofs.Common.{◌≡◌, ℕ, zero, suc, ◌+◌, ◌-◌, ◌^◌, ◌<◌, ◌≤◌, Bool, true, false, cond, List, [], ◌∷◌, map, length, get_or, set, ℤ, Some, None, Option, option_and_then, sym, refl, ap, ◌∙◌, subst, inl, inr, arith}
use Rattle.std.proofs.lemmas.Bool.{cases_eq}
use Rattle.std.proofs.lemmas.Option.{none-some}
use native.Mathlib.Decide.{dec_le}
use lib.Signed.{mag}
use Rattle.codeword.specs.Codeword.{packed, unpacked}
use Rattle.codeword.specs.declared.Codeword.{Codeword}
use Rattle.layout.specs.Arrangement.{Codes, Data, Piece, Placed, Vacant, concat, pieces}
use Rattle.layout.specs.Holds.{Along, Shows}
use Rattle.layout.specs.Sound.{Each}
use Rattle.layout.specs.Words.{labelling}
use Rattle.layout.proofs.Bridge.{Fits}
use Rattle.layout.proofs.Cover.{each-++}
use Rattle.judge.specs.Arrays.{coded, count, first, is_label, in_turn, visit, visit_block}
use Rattle.judge.specs.Tiles.{tile_size}
use Rattle.judge.proofs.Labels.{Label, label_fields, label_yes}
use Rattle.judge.proofs.Starts.{Sized, clears, clears-++}
use Rattle.judge.proofs.Steps.{block_codes, block_data, block_unlabelled, block_unmarked, block_unnamed, visit_none, visit_nothing, visit_some}

-- ── Runs ──────────────────────────────────────────────────────────────

same_then : {X Y : Type 0} (o : Option X) (f g : X → Option Y) → ((x : X) → f x ≡ g x) → option_and_then f o ≡ option_and_then g o
same_then None f g h = refl
same_then (Some x) f g h = h x

module _ {X : Type 0} (f : ℕ → List Bool → Option (List Bool)) (h : X → List Piece) (P : ℕ → X → Type 0) (Q : X → Type 0) where
  pub in_turn_clears : ((a : ℕ) (x : X) (ms : List Bool) → P a x → Q x → f a ms ≡ clears (h x) ms)
      → (a : ℕ) (xs : List X) (ms : List Bool) → Along P a xs → Each Q xs → in_turn f a (length xs) ms ≡ clears (concat (map h xs)) ms
  unfolding in_turn
  in_turn_clears one a [] ms p q = refl
  in_turn_clears one a (x ∷ xs) ms p q =
      ap (λ (o : Option (List Bool)). option_and_then (in_turn f (a + 1) (length xs)) o) (one a x ms p.0 q.0)
      ∙ same_then (clears (h x) ms) (in_turn f (a + 1) (length xs)) (clears (concat (map h xs))) (λ ns. in_turn_clears one (a + 1) xs ns p.1 q.1)
      ∙ sym (clears-++ (h x) (concat (map h xs)) ms)

  then_some : {X Y : Type 0} (o : Option X) (g : X → Option Y) (y : Y) → option_and_then g o ≡ Some y → (x : X) × (o ≡ Some x) × (g x ≡ Some y)
  then_some None g y e = absurd (none-some y e)
  then_some (Some x) g y e = (x, refl, e)

  pub run_reads : ((a : ℕ) (ms ms' : List Bool) → f a ms ≡ Some ms' → (x : X) × P a x × Q x)
      → (n a : ℕ) (ms ms' : List Bool) → in_turn f a n ms ≡ Some ms' → (xs : List X) × (length xs ≡ n) × Along P a xs × Each Q xs
  unfolding in_turn
  run_reads one zero a ms ms' e = ([], refl, tt, tt)
  run_reads one (suc n) a ms ms' e =
      let t = then_some (f a ms) (in_turn f (a + 1) n) ms' e in
      let x = one a ms t.0 t.1 in
      let r = run_reads one n (a + 1) t.0 ms' t.2 in
      (x.0 ∷ r.0, ap suc r.1, (x.1, r.2), (x.2, r.3))

-- n words from an address on
abbrev span : List ℕ → ℕ → ℕ → List ℕ
span ws a zero = []
span ws a (suc n) = get_or ws a 0 ∷ span ws (a + 1) n

length_span : (ws : List ℕ) (a n : ℕ) → length (span ws a n) ≡ n
length_span ws a zero = refl
length_span ws a (suc n) = ap suc (length_span ws (a + 1) n)

along_span : (ws : List ℕ) (a n : ℕ) → Along (λ y v. get_or ws y 0 ≡ v) a (span ws a n)
along_span ws a zero = tt
along_span ws a (suc n) = (refl, along_span ws (a + 1) n)

-- ── A shown tree passes ────────────────────────────────────────────────

module _ (ws : List ℕ) (few : length ws ≤ 2 ^ 18) where
  -- the word at a labels n words behind s
  record Labels (a s n : ℕ) (q : Bool) : Type 0 where
    lawful : is_label (length ws) (get_or ws a 0) ≡ true
    some_word : get_or ws a 0 ≡ 0 → ⊥
    starts : first (get_or ws a 0) ≡ s + 1
    counts : count (get_or ws a 0) ≡ n
    codes : coded (get_or ws a 0) ≡ q

  labelled : (a s n : ℕ) (b : ℤ) (q : Bool) (t : ℕ) → 1 ≤ n → 65 ≤ s → s + 1 + n ≤ length ws → mag b < 2 ^ 15 → t ≤ 2 → (q ≡ true → t ≡ 0)
      → get_or ws a 0 ≡ packed (labelling (s + 1) n b q t) → Labels a s n q
  labelled a s n b q t hn hs hi hb ht hq e =
      let y = label_yes (length ws) (get_or ws a 0) s n b q t few hn hs hi hb ht hq e in
      let f : first (get_or ws a 0) ≡ s + 1 = ap (λ (c : Codeword). c.first) y.1 in
      record {
        lawful = y.0;
        some_word = λ (z : get_or ws a 0 ≡ 0). omega (arith, f, ap first z);
        starts = f;
        counts = ap (λ (c : Codeword). c.length) y.1;
        codes = ap (λ (c : Codeword). c.r) y.1;
      }

  start_is : (a s n : ℕ) (q : Bool) → Labels a s n q → first (get_or ws a 0) - 1 ≡ s
  start_is a s n q L = let f : first (get_or ws a 0) ≡ s + 1 = L.starts in omega arith

  data_cleared : (d a s n : ℕ) (ms : List Bool) → Labels a s n false → get_or ws s 0 ≡ a
      → visit (suc d) ws a ms ≡ cond (get_or ms s false) (Some (set ms s false)) None
  data_cleared d a s n ms L b = visit_some (suc d) ws a ms (omega arith) L.some_word ∙ go (get_or ms s false) refl
    where
      at : first (get_or ws a 0) - 1 ≡ s
      at = start_is a s n false L

      go : (q : Bool) → get_or ms s false ≡ q → visit_block (visit (suc d - 1) ws) ws a ms ≡ cond q (Some (set ms s false)) None
      go true q =
          block_data (visit (suc d - 1) ws) ws a ms L.lawful (ap (λ (k : ℕ). get_or ms k false) at ∙ q) (ap (λ (k : ℕ). get_or ws k 0) at ∙ b) L.codes
          ∙ ap (λ (k : ℕ). Some (set ms k false)) at
      go false q = block_unmarked (visit (suc d - 1) ws) ws a ms (ap (λ (k : ℕ). get_or ms k false) at ∙ q)

  codes_cleared : (d a s n : ℕ) (ms : List Bool) (r : Option (List Bool)) → Labels a s n true → get_or ws s 0 ≡ a
      → in_turn (visit d ws) (s + 1) n (set ms s false) ≡ r
      → visit (suc d) ws a ms ≡ cond (get_or ms s false) r None
  codes_cleared d a s n ms r L b e = visit_some (suc d) ws a ms (omega arith) L.some_word ∙ go (get_or ms s false) refl
    where
      at : first (get_or ws a 0) - 1 ≡ s
      at = start_is a s n true L

      go : (q : Bool) → get_or ms s false ≡ q → visit_block (visit (suc d - 1) ws) ws a ms ≡ cond q r None
      go true q =
          let k : suc d - 1 ≡ d = omega arith in
          block_codes (visit (suc d - 1) ws) ws a ms L.lawful (ap (λ (j : ℕ). get_or ms j false) at ∙ q) (ap (λ (j : ℕ). get_or ws j 0) at ∙ b) L.codes
          ∙ ap (λ (j : ℕ). in_turn (visit (suc d - 1) ws) (first (get_or ws a 0)) (count (get_or ws a 0)) (set ms j false)) at
          ∙ ap (λ (j : ℕ). in_turn (visit (suc d - 1) ws) j (count (get_or ws a 0)) (set ms s false)) L.starts
          ∙ ap (λ (j : ℕ). in_turn (visit (suc d - 1) ws) (s + 1) j (set ms s false)) L.counts
          ∙ ap (λ (j : ℕ). in_turn (visit j ws) (s + 1) n (set ms s false)) k
          ∙ e
      go false q = block_unmarked (visit (suc d - 1) ws) ws a ms (ap (λ (k : ℕ). get_or ms k false) at ∙ q)

  data_label : (a x : ℕ) (b : ℤ) (t n : ℕ) → (1 ≤ n) × (65 ≤ x) × (x + 1 + n ≤ length ws) × (mag b < 2 ^ 15) × (t ≤ 2)
      → get_or ws a 0 ≡ packed (labelling (x + 1) n b false t) → Labels a x n false
  data_label a x b t n g e = labelled a x n b false t g.0 g.1 g.2 g.3 g.4 (λ (z : false ≡ true). absurd (let o : ◌≡◌ {A = ℕ} 0 1 = cc in omega arith)) e

  codes_label : (a x : ℕ) (b : ℤ) (n : ℕ) → 1 ≤ n → 65 ≤ x → x + 1 + n ≤ length ws → mag b < 2 ^ 15
      → get_or ws a 0 ≡ packed (labelling (x + 1) n b true 0) → Labels a x n true
  codes_label a x b n hn hx hi hb e = labelled a x n b true 0 hn hx hi hb (omega arith) (λ z. refl) e

  -- a shown tree passes, if its pieces are marked
  pub shown_clears : (d a : ℕ) (p : Placed d) (ms : List Bool) → Shows d ws a p → Fits (length ws) d p → visit d ws a ms ≡ clears (pieces d p) ms
  shown_clears zero a p ms s g = visit_nothing zero ws a ms s
  shown_clears (suc d) a Vacant ms s g = visit_nothing (suc d) ws a ms s
  shown_clears (suc d) a (Data x b t vs) ms s g =
      data_cleared d a x (length vs) ms (data_label a x b t (length vs) (g.0, g.1, g.2, g.3, g.4) s.0) s.1
  shown_clears (suc d) a (Codes x b ps) ms s g =
      codes_cleared d a x (length ps) ms (clears (concat (map (pieces d) ps)) (set ms x false))
      (codes_label a x b (length ps) g.0 g.1 g.2 g.3 s.0) s.1
      (in_turn_clears (visit d ws) (pieces d) (Shows d ws) (Fits (length ws) d) (λ y q ns h k. shown_clears d y q ns h k) (x + 1) ps (set ms x false) s.2 g.4)

  -- each piece of a shown tree has the size that its back-reference leads to
  pub each_concat : {X : Type 0} (P : Piece → Type 0) (S : ℕ → X → Type 0) (G : X → Type 0) (f : X → List Piece)
      → ((y : ℕ) (x : X) → S y x → G x → Each P (f x))
      → (a : ℕ) (xs : List X) → Along S a xs → Each G xs → Each P (concat (map f xs))
  each_concat P S G f h a [] q g = tt
  each_concat P S G f h a (x ∷ xs) q g = each-++ P (f x) (concat (map f xs)) (h a x q.0 g.0) (each_concat P S G f h (a + 1) xs q.1 g.1)

  size_is : (a s n : ℕ) (q : Bool) → Labels a s n q → get_or ws s 0 ≡ a → n + 1 ≡ tile_size ws s
  unfolding tile_size
  size_is a s n q L b = omega (arith, ap (λ (k : ℕ). count (get_or ws k 0)) b, L.counts)

  pub shown_sized : (d a : ℕ) (p : Placed d) → Shows d ws a p → Fits (length ws) d p → Each (Sized (tile_size ws)) (pieces d p)
  shown_sized zero a p s g = tt
  shown_sized (suc d) a Vacant s g = tt
  shown_sized (suc d) a (Data x b t vs) s g =
      (size_is a x (length vs) false (data_label a x b t (length vs) (g.0, g.1, g.2, g.3, g.4) s.0) s.1, tt)
  shown_sized (suc d) a (Codes x b ps) s g = (
    size_is a x (length ps) true (codes_label a x b (length ps) g.0 g.1 g.2 g.3 s.0) s.1,
    each_concat (Sized (tile_size ws)) (Shows d ws) (Fits (length ws) d) (pieces d) (λ y q h k. shown_sized d y q h k) (x + 1) ps s.2 g.4,
  )

  -- ── What passes shows a tree ──────────────────────────────────────────

  unfoldable pub Read : (d a : ℕ) → Type 0
  Read d a = (p : Placed d) × Shows d ws a p × Fits (length ws) d p

  -- the trees of the codewords in a block
  abbrev Rows : (d from n : ℕ) → Type 0
  Rows d from n = (ps : List (Placed d)) × (length ps ≡ n) × Along (Shows d ws) from ps × Each (Fits (length ws) d) ps

  whole : (a : ℕ) (q : Bool) → Label (length ws) (get_or ws a 0) → coded (get_or ws a 0) ≡ q → (t : ℕ) → (unpacked (get_or ws a 0)).kind ≡ t
      → (n : ℕ) → n ≡ count (get_or ws a 0)
      → get_or ws a 0 ≡ packed (labelling (first (get_or ws a 0) - 1 + 1) n (unpacked (get_or ws a 0)).base q t)
  whole a q L r t k n e =
      let w = get_or ws a 0 in
      let one : first (get_or ws a 0) ≡ first (get_or ws a 0) - 1 + 1 = omega (arith, L.from_65) in
      L.whole
      ∙ ap (λ (f : ℕ). packed (labelling f (count w) (unpacked w).base (coded w) (unpacked w).kind)) one
      ∙ ap (λ (m : ℕ). packed (labelling (first w - 1 + 1) m (unpacked w).base (coded w) (unpacked w).kind)) (sym e)
      ∙ ap (λ (z : Bool). packed (labelling (first w - 1 + 1) n (unpacked w).base z (unpacked w).kind)) r
      ∙ ap (λ (z : ℕ). packed (labelling (first w - 1 + 1) n (unpacked w).base q z)) k

  read_data : (d a : ℕ) → is_label (length ws) (get_or ws a 0) ≡ true → get_or ws (first (get_or ws a 0) - 1) 0 ≡ a → coded (get_or ws a 0) ≡ false → Read (suc d) a
  unfolding Read
  read_data d a h b r =
      let w = get_or ws a 0 in
      let s = first (get_or ws a 0) - 1 in
      let n = count (get_or ws a 0) in
      let L = label_fields (length ws) (get_or ws a 0) h in
      let ln : length (span ws (s + 1) n) ≡ n = length_span ws (s + 1) n in (
        Data s (unpacked w).base (unpacked w).kind (span ws (s + 1) n),
        (whole a false L r (unpacked w).kind refl (length (span ws (s + 1) n)) ln, b, along_span ws (s + 1) n),
        (omega (arith, ln, L.some_words), omega (arith, L.from_65), omega (arith, ln, L.from_65, L.within), L.base, L.type_2),
      )

  read_codes : (d a : ℕ) → is_label (length ws) (get_or ws a 0) ≡ true → get_or ws (first (get_or ws a 0) - 1) 0 ≡ a → coded (get_or ws a 0) ≡ true
      → Rows d (first (get_or ws a 0)) (count (get_or ws a 0)) → Read (suc d) a
  unfolding Read
  read_codes d a h b r ps =
      let w = get_or ws a 0 in
      let s = first (get_or ws a 0) - 1 in
      let L = label_fields (length ws) (get_or ws a 0) h in
      let ln : length ps.0 ≡ count (get_or ws a 0) = ps.1 in
      let one : first (get_or ws a 0) ≡ s + 1 = omega (arith, L.from_65) in (
        Codes s (unpacked w).base ps.0,
        (whole a true L r 0 (L.plain r) (length ps.0) ln, b, subst (λ (k : ℕ). Along (Shows d ws) k ps.0) one ps.2),
        (omega (arith, ln, L.some_words), omega (arith, L.from_65), omega (arith, ln, L.from_65, L.within), L.base, ps.3),
      )

  pub visit_reads : (d a : ℕ) (ms ms' : List Bool) → visit d ws a ms ≡ Some ms' → Read d a
  unfolding Read
  visit_reads zero a ms ms' e =
      elim (dec_le (get_or ws a 0) 0) [
        | yes z ↦ (tt, omega arith, tt)
        | no z ↦ absurd (none-some ms' (sym (visit_none zero ws a ms refl (λ (q : get_or ws a 0 ≡ 0). omega arith)) ∙ e))
      ]
  visit_reads (suc d) a ms ms' e =
      let rec : (ns : List Bool) → in_turn (visit (suc d - 1) ws) (first (get_or ws a 0)) (count (get_or ws a 0)) ns ≡ Some ms'
      → Rows d (first (get_or ws a 0)) (count (get_or ws a 0)) =
      λ ns r.
      let k : d ≡ suc d - 1 = omega arith in
      run_reads (visit d ws) (pieces d) (Shows d ws) (Fits (length ws) d) (λ y xs xs' h. visit_reads d y xs xs' h)
      (count (get_or ws a 0)) (first (get_or ws a 0)) ns ms' (ap (λ (j : ℕ). in_turn (visit j ws) (first (get_or ws a 0)) (count (get_or ws a 0)) ns) k ∙ r) in
      elim (dec_le (get_or ws a 0) 0) [
        | yes z ↦ (Vacant, omega arith, tt)
        | no z ↦ go rec (λ (q : get_or ws a 0 ≡ 0). omega arith) (is_label (length ws) (get_or ws a 0)) refl (get_or ms (first (get_or ws a 0) - 1) false) refl
            (coded (get_or ws a 0)) refl
      ]
    where
      go : ((ns : List Bool) → in_turn (visit (suc d - 1) ws) (first (get_or ws a 0)) (count (get_or ws a 0)) ns ≡ Some ms' → Rows d (first (get_or ws a 0)) (count (get_or ws a 0)))
          → (get_or ws a 0 ≡ 0 → ⊥) → (l : Bool) → is_label (length ws) (get_or ws a 0) ≡ l → (m : Bool) → get_or ms (first (get_or ws a 0) - 1) false ≡ m
          → (r : Bool) → coded (get_or ws a 0) ≡ r → Read (suc d) a
      go rec nz false l m q r c =
          absurd (none-some ms' (sym (visit_some (suc d) ws a ms (omega arith) nz ∙ block_unlabelled (visit (suc d - 1) ws) ws a ms l) ∙ e))
      go rec nz true l false q r c =
          absurd (none-some ms' (sym (visit_some (suc d) ws a ms (omega arith) nz ∙ block_unmarked (visit (suc d - 1) ws) ws a ms q) ∙ e))
      go rec nz true l true q false c =
          elim (cases_eq (get_or ws (first (get_or ws a 0) - 1) 0) a) [
            | inr n ↦ absurd (none-some ms' (sym (visit_some (suc d) ws a ms (omega arith) nz ∙ block_unnamed (visit (suc d - 1) ws) ws a ms n) ∙ e))
            | inl b ↦ read_data d a l b c
          ]
      go rec nz true l true q true c =
          elim (cases_eq (get_or ws (first (get_or ws a 0) - 1) 0) a) [
            | inr n ↦ absurd (none-some ms' (sym (visit_some (suc d) ws a ms (omega arith) nz ∙ block_unnamed (visit (suc d - 1) ws) ws a ms n) ∙ e))
            | inl b ↦ read_codes d a l b c
                (rec (set ms (first (get_or ws a 0) - 1) false)
                (sym (visit_some (suc d) ws a ms (omega arith) nz ∙ block_codes (visit (suc d - 1) ws) ws a ms l q b c) ∙ e))
          ]
