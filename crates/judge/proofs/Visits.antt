-- A codeword that passes: what going down from it comes to.
use Rattle.std.proofs.Common.{◌≡◌, ℕ, ◌+◌, ◌-◌, ◌<◌, ◌≤◌, Bool, true, false, List, length, get_or, set, Some, sym, ◌∙◌, subst}
use Rattle.codeword.specs.Codeword.{unpacked}
use Rattle.codeword.specs.Lawful.{lawful}
use Rattle.codeword.specs.declared.Codeword.{Codeword}
use Rattle.judge.specs.Arrays.{coded, in_turn, visit}
use Rattle.judge.proofs.Labels.{is_label_yes}
use Rattle.judge.proofs.Steps.{block_codes, block_data, visit_some}

-- the block of a codeword at a lies in S, begins at a mark and names a
pub record Passed (ws : List ℕ) (a : ℕ) (ms : List Bool) (c : Codeword) : Type 0 where
  pub from : 66 ≤ c.first
  pub within : c.first + c.length ≤ length ws
  pub marked : get_or ms (c.first - 1) false ≡ true
  pub named : get_or ws (c.first - 1) 0 ≡ a

module _ (d : ℕ) (ws : List ℕ) (a : ℕ) (ms : List Bool) (some_levels : 0 < d) (some_word : get_or ws a 0 ≡ 0 → ⊥) (law : lawful (get_or ws a 0) ≡ true) where
  label_data : Passed ws a ms (unpacked (get_or ws a 0)) → coded (get_or ws a 0) ≡ false → visit d ws a ms ≡ Some (set ms ((unpacked (get_or ws a 0)).first - 1) false)
  label_data p r =
      visit_some d ws a ms some_levels some_word
      ∙ block_data (visit (d - 1) ws) ws a ms (is_label_yes (length ws) (get_or ws a 0) law p.from p.within) p.marked p.named r

  label_codes : Passed ws a ms (unpacked (get_or ws a 0)) → coded (get_or ws a 0) ≡ true
      → visit d ws a ms
      ≡ in_turn (visit (d - 1) ws) (unpacked (get_or ws a 0)).first (unpacked (get_or ws a 0)).length (set ms ((unpacked (get_or ws a 0)).first - 1) false)
  label_codes p r =
      visit_some d ws a ms some_levels some_word
      ∙ block_codes (visit (d - 1) ws) ws a ms (is_label_yes (length ws) (get_or ws a 0) law p.from p.within) p.marked p.named r

  pub passed_data : (c : Codeword) → c ≡ unpacked (get_or ws a 0) → Passed ws a ms c → c.r ≡ false → visit d ws a ms ≡ Some (set ms (c.first - 1) false)
  passed_data c e =
      subst (λ (k : Codeword). Passed ws a ms k → k.r ≡ false → visit d ws a ms ≡ Some (set ms (k.first - 1) false)) (sym e) label_data

  pub passed_codes : (c : Codeword) → c ≡ unpacked (get_or ws a 0) → Passed ws a ms c → c.r ≡ true
      → visit d ws a ms ≡ in_turn (visit (d - 1) ws) c.first c.length (set ms (c.first - 1) false)
  passed_codes c e =
      subst (λ (k : Codeword). Passed ws a ms k → k.r ≡ true
      → visit d ws a ms ≡ in_turn (visit (d - 1) ws) k.first k.length (set ms (k.first - 1) false)) (sym e) label_codes
