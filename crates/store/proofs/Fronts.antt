-- The counted words of a list and of two lists in a row, and the words past them.
use Rattle.std.proofs.Common.{◌≡◌, ℕ, zero, suc, ◌+◌, ◌-◌, ◌^◌, ◌<◌, ◌≤◌, List, [], ◌∷◌, ◌++◌, map, length, get_or, take, set, drop, sym, refl, ap, ◌∙◌, arith, length-drop}
use Rattle.std.proofs.lemmas.List.{drop-set-lt, get_or_append_left, get_or-append_right, get_or-drop, get_or-map, get_or-take, length-take, map-set, set-append_left, set-append_right}
use Rattle.store.proofs.Calls.{alike}
use Rattle.store.proofs.Items.{drop_laid, map_laid, read_all, take_laid, wrapped_all}
use Rattle.store.specs.Edits.{laid, part}
use Rattle.store.specs.Members.{length_lent, length_row}
use Rattle.store.specs.Parts.{First, Second}
use Rattle.store.specs.Words.{most, front, beyond, Fit, wrapped, lent_words, joined_words, joined_beyond}

-- the front of a list after a write
take_set : (n : ℕ) (ws : List ℕ) (at w : ℕ) → take n (set ws at w) ≡ set (take n ws) at w
take_set zero ws at w = refl
take_set (suc n) [] at w = refl
take_set (suc n) (x ∷ ws) zero w = refl
take_set (suc n) (x ∷ ws) (suc at) w = ap (λ l. x ∷ l) (take_set n ws at w)

-- a lent list: a word of it, and a write
pub lent_word : (ws : List ℕ) (at : ℕ) → at < length (lent_words ws) → get_or ws at 0 < 2 ^ 64 → get_or ws at 0 ≡ get_or (lent_words ws) at 0
unfolding lent_words
lent_word ws at h f =
    let e : get_or ws at 0 ≡ wrapped (get_or ws at 0) = omega arith in
    let n = length_lent ws in
    e ∙ ap wrapped (sym (get_or-take most ws at 0 (omega arith))) ∙ sym (get_or-map wrapped (front ws) at 0 0 (omega (arith, length-take most ws)))

pub lent_set : (ws : List ℕ) (at w : ℕ) → w < 2 ^ 64 → lent_words (set ws at w) ≡ set (lent_words ws) at w
unfolding lent_words
lent_set ws at w f =
    let e : wrapped w ≡ w = omega arith in
    ap (map wrapped) (take_set most ws at w) ∙ map-set wrapped (front ws) at w ∙ ap (set (map wrapped (front ws)) at) e

pub beyond_set : (ws : List ℕ) (at w : ℕ) → at < most → beyond (set ws at w) ≡ beyond ws
beyond_set ws at w h = drop-set-lt most ws at w h

-- many words of a lent list read, and written
pub lent_part : (ws : List ℕ) (from n : ℕ) → Fit ws → from + n ≤ length (lent_words ws) → part from n ws ≡ part from n (lent_words ws)
lent_part ws from n fit h =
    let l = length_lent ws in
    read_all (lent_words ws) (part from n ws) from n (length-take n (drop from ws) ∙ omega (arith, length-drop from ws)) h
    (λ m b. get_or-take n (drop from ws) m 0 b ∙ get_or-drop from ws m 0 ∙ lent_word ws (from + m) (omega arith) (fit (from + m)))

pub lent_laid : (xs ws : List ℕ) (from : ℕ) → Fit xs → from + length xs ≤ length (lent_words ws) → lent_words (laid xs from ws) ≡ laid xs from (lent_words ws)
unfolding lent_words
lent_laid xs ws from fit h =
    let l = length_lent ws in
    ap (map wrapped) (take_laid most from xs ws (omega arith) (omega arith))
    ∙ map_laid wrapped xs from (front ws) ∙ ap (λ ys. laid ys from (lent_words ws)) (wrapped_all xs fit)

pub beyond_laid : (xs ws : List ℕ) (from : ℕ) → from + length xs ≤ length (lent_words ws) → beyond (laid xs from ws) ≡ beyond ws
beyond_laid xs ws from h =
    let l = length_lent ws in
    drop_laid most from xs ws (omega arith) (omega arith)

-- two lists in a row: each part of both
module _ (xs ys : List ℕ) (at : ℕ) (h : at < length (joined_words xs ys)) where
  word : get_or (xs ++ ys) at 0 ≡ get_or (front (xs ++ ys)) at 0
  word = sym (get_or-take most (xs ++ ys) at 0 (omega (arith, length_row xs ys)))

  pub in_first : at < length xs → First xs ys at
  unfolding joined_words joined_beyond
  in_first b =
      let l = length_row xs ys in
      record {
        gets = alike xs (front (xs ++ ys)) at at _ _ b h (sym (get_or_append_left xs ys 0 at b) ∙ word);
        sets = alike xs (front (xs ++ ys)) at at tt tt b h refl;
        after = λ w. rw (← set-append_left xs ys at w b) (take_set most (xs ++ ys) at w);
        rest = λ w. rw (← set-append_left xs ys at w b) (beyond_set (xs ++ ys) at w (omega arith));
      }

  pub in_second : (n : ℕ) → n ≡ length xs → n ≤ at → Second xs ys (at - n) at
  unfolding joined_words joined_beyond
  in_second n p b =
      let l = length_row xs ys in
      let k : at - n < length ys = omega arith in
      record {
        gets = alike ys (front (xs ++ ys)) (at - n) at _ _ k h (sym (get_or-append_right xs ys n at 0 (sym p) b) ∙ word);
        sets = alike ys (front (xs ++ ys)) (at - n) at tt tt k h refl;
        after = λ w. rw (← set-append_right xs ys n at w (sym p) b) (take_set most (xs ++ ys) at w);
        rest = λ w. rw (← set-append_right xs ys n at w (sym p) b) (beyond_set (xs ++ ys) at w (omega arith));
      }
