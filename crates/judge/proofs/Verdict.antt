-- What each way out of the judge tells of the list.
use Rattle.std.proofs.Common.{◌≡◌, ℕ, zero, suc, ◌^◌, ◌≤◌, Bool, false, List, length, get_or, replicate, Some, None, Decides, Option, sym, refl, ap, ◌∙◌, arith}
use Rattle.std.proofs.lemmas.Option.{none-some, same_Some}
use lib.ListN.{length-replicate}
use Rattle.layout.specs.Holds.{Holds}
use Rattle.judge.specs.Arrays.{in_turn, visit}
use Rattle.judge.specs.Marks.{Down, flags}
use Rattle.judge.specs.Tiles.{high, low, tiled_from}
use Rattle.codeword.specs.declared.head.Head.{Head}
use Rattle.judge.proofs.Bits.{length_flags}
use Rattle.judge.proofs.Heads.{Says}
use Rattle.judge.proofs.Whole.{Passes, holds_passes, passes_holds}

all_down : (n : ℕ) → Down (replicate n false)
all_down zero zero = refl
all_down zero (suc s) = refl
all_down (suc n) zero = refl
all_down (suc n) (suc s) = all_down n s

pub wide_header : (ws : List ℕ) → 2 ^ 36 ≤ get_or ws 0 0 → Holds ws → ⊥
wide_header ws l H =
    let n : length ws ≡ length (replicate (length ws) false) = sym (length-replicate (length ws) false) in
    let p = holds_passes ws (replicate (length ws) false) (omega (arith, n)) (all_down (length ws)) H in
    omega (arith, p.header)

module _ (ws : List ℕ) (bits : List ℕ) (most : length ws ≤ 2 ^ 18) (room : length bits ≡ 4096) (down : Down (flags bits)) (h : Head) (says : Says h (get_or ws 0 0)) where
  enough : length ws ≤ length (flags bits)
  enough = omega (arith, length_flags bits)

  passes : Holds ws → Passes ws (flags bits) enough down
  passes H = holds_passes ws (flags bits) enough down H

  abbrev scanned : Option (List Bool)
  scanned = tiled_from (suc (length ws)) ws 65 h.next h.size (flags bits)

  same_scan : scanned ≡ tiled_from (suc (length ws)) ws 65 (high (get_or ws 0 0)) (low (get_or ws 0 0)) (flags bits)
  same_scan =
      ap (λ (k : ℕ). tiled_from (suc (length ws)) ws 65 k h.size (flags bits)) says.next
      ∙ ap (λ (k : ℕ). tiled_from (suc (length ws)) ws 65 (high (get_or ws 0 0)) k (flags bits)) says.size

  pub not_tiled : None ≡ scanned → Holds ws → ⊥
  not_tiled e H = let p = passes H in none-some p.marked (e ∙ same_scan ∙ p.scanned)

  module _ (ms₁ : List Bool) (e : Some ms₁ ≡ scanned) where
    marked_is : (H : Holds ws) → ms₁ ≡ (passes H).marked
    marked_is H = same_Some ms₁ (passes H).marked (e ∙ same_scan ∙ (passes H).scanned)

    pub not_sound : None ≡ in_turn (visit 4 ws) 1 64 ms₁ → Holds ws → ⊥
    not_sound f H = let p = passes H in none-some p.left (f ∙ ap (in_turn (visit 4 ws) 1 64) (marked_is H) ∙ p.visited)

    pub decided : (ms₂ : List Bool) → Some ms₂ ≡ in_turn (visit 4 ws) 1 64 ms₁ → 67 ≤ length ws → (r : Bool) → Decides r (Down ms₂) → Decides r (Holds ws)
    decided ms₂ f least r d = (
      (λ t. passes_holds ws (flags bits) enough down least most ms₁ ms₂ (sym (e ∙ same_scan)) (sym f) (d.0 t)),
      (λ H.
          let p = passes H in
          let same : ms₂ ≡ p.left = same_Some ms₂ p.left (f ∙ ap (in_turn (visit 4 ws) 1 64) (marked_is H) ∙ p.visited) in
          d.1 (λ s. ap (λ (ms : List Bool). get_or ms s false) same ∙ p.spent s)),
    )
