-- Items read from words and written over them: one more, and all.
use Rattle.std.proofs.Common.{◌≡◌, ℕ, suc, ◌+◌, ◌^◌, ◌<◌, ◌≤◌, ◌≢◌, List, [], ◌∷◌, ◌++◌, map, refl, ap₂, length, get_or, set, take, drop, ap, sym, ◌∙◌, arith, get_or-set_other, get_or-set_same, below_more, length-take, length-drop, ext_get_or, rules}
use borrow.Rule.Slice.PartMut.{put_mid}
use lib.ListN.{length-map}
use lib.Seq.{paste}
use Rattle.std.proofs.lemmas.List.{drop-map, map-append, map-set, get_or-drop, get_or-take, places, same_lists, take-map}
use Rattle.std.proofs.lemmas.List.Edits.{paste_all}
use Rattle.std.proofs.lemmas.Slice.{put_mid-paste}
use Rattle.store.specs.Edits.{laid, part}
use Rattle.store.specs.Words.{Fit, wrapped}

module _ {X : Type 0} (f : X → ℕ) (xs : List X) (k : ℕ) (x : X) (h : k < length xs) where
  pub read_more : (ws : List ℕ) (at : ℕ) → f x ≡ get_or ws (at + k) 0 → ((m : ℕ) → m < k → get_or (map f xs) m 0 ≡ get_or ws (at + m) 0)
      → (m : ℕ) → m < k + 1 → get_or (map f (set xs k x)) m 0 ≡ get_or ws (at + m) 0
  read_more ws at e before =
      let long : k < length (map f xs) = omega (arith, length-map xs f) in
      let way : (m : ℕ) → get_or (map f (set xs k x)) m 0 ≡ get_or (set (map f xs) k (f x)) m 0 = λ m. ap (λ (l : List ℕ). get_or l m 0) (map-set f xs k x) in
      below_more _ _
      (λ m l. let ne : m ≢ k = omega arith in way m ∙ get_or-set_other (map f xs) k m (f x) 0 ne ∙ before m l)
      (way k ∙ get_or-set_same (map f xs) k (f x) 0 long ∙ e)

pub read_all : (ws us : List ℕ) (at n : ℕ) → length us ≡ n → at + n ≤ length ws → ((m : ℕ) → m < n → get_or us m 0 ≡ get_or ws (at + m) 0) → us ≡ part at n ws
read_all ws us at n e h same =
    let l : length (part at n ws) ≡ n = length-take n (drop at ws) ∙ omega (arith, length-drop at ws) in
    ext_get_or 0 us (part at n ws) (e ∙ sym l)
    (λ m b. let c : m < n = omega arith in same m c ∙ sym (get_or-take n (drop at ws) m 0 c ∙ get_or-drop at ws m 0))

-- all of a list written from a place on
pub written_all : (ws us xs : List ℕ) (at k : ℕ) → us ≡ paste ws at xs k → k ≡ length xs → us ≡ laid xs at ws
written_all ws us xs at k e h = e ∙ paste_all ws at xs k h ∙ ap (λ n. take at ws ++ (xs ++ drop (at + n) ws)) h

-- the words of items that the words mean
pub words_again : {X : Type 0} (f : X → ℕ) (g : ℕ → X) (back : (n : ℕ) → n < 2 ^ 64 → f (g n) ≡ n) (ws : List ℕ) → Fit ws → map f (map g ws) ≡ ws
words_again f g back [] fit = refl
words_again f g back (w ∷ ws) fit = ap₂ (λ n ns. n ∷ ns) (back w (fit 0)) (words_again f g back ws (λ k. fit (suc k)))

pub wrapped_all : (ws : List ℕ) → Fit ws → map wrapped ws ≡ ws
wrapped_all [] fit = refl
wrapped_all (w ∷ ws) fit =
    let h : wrapped w ≡ w = omega (arith, fit 0) in
    ap₂ (λ n ns. n ∷ ns) h (wrapped_all ws (λ k. fit (suc k)))

pub part_fit : (from n : ℕ) (ws : List ℕ) → Fit ws → Fit (part from n ws)
part_fit from n ws fit k = let h = fit (from + k) in grind (arith, places)

-- a list laid over another, each of whose words is turned
pub map_laid : (f : ℕ → ℕ) (xs : List ℕ) (from : ℕ) (ws : List ℕ) → map f (laid xs from ws) ≡ laid (map f xs) from (map f ws)
map_laid f xs from ws = simp (map-append, take-map, drop-map, length-map)

-- a list laid over another by a write to a part of it
pub put_laid : (ws us xs : List ℕ) (from n : ℕ) → us ≡ xs → n ≡ length xs → put_mid from n ws us ≡ laid xs from ws
put_laid ws us xs from n e h = written_all ws _ xs from n (put_mid-paste from n ws us xs n e refl h) h

-- a list laid over another within its first m words: those words, the words past them, and its own
module _ (m from : ℕ) (xs ws : List ℕ) (h : from + length xs ≤ m) (l : from + length xs ≤ length ws) where
  pub take_laid : take m (laid xs from ws) ≡ laid xs from (take m ws)
  take_laid = same_lists _ _ (search (rules, places)) (λ i d b. grind (arith, places))

  pub drop_laid : drop m (laid xs from ws) ≡ drop m ws
  drop_laid = same_lists _ _ (search (rules, places)) (λ i d b. grind (arith, places))

pub laid_fit : (xs ws : List ℕ) (from : ℕ) → from ≤ length ws → Fit (laid xs from ws) → Fit xs
laid_fit xs ws from l fit k = let h = fit (from + k) in grind (arith, places)
