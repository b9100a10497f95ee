-- The tree that a name holds, read off the words.
use Rattle.std.specs.Prelude.{ℕ, zero, suc, cond, List, map, take, drop, ◌==◌}
use Rattle.codeword.specs.Codeword.{unpacked}
use Rattle.codeword.specs.declared.Codeword.{Codeword}
use Rattle.ledger.specs.Trees.{Node, Nothing, Row, Table, Tree, Trees}

-- what a codeword that is not 0 holds
abbrev pub holds_block : {A : Type 0} → (ℕ → A) → List ℕ → Codeword → Node A
holds_block f ws c =
    let block : List ℕ = take c.length (drop c.first ws) in
    cond c.r (Table c.base (map f block)) (Row c.base c.kind block)

-- the tree that a codeword holds
abbrev pub held : (d : ℕ) → List ℕ → ℕ → Tree d
held zero ws w = tt
held (suc d) ws w = cond (w == 0) Nothing (holds_block (held d ws) ws (unpacked w))

-- the trees of all names
abbrev pub held_trees : List ℕ → Trees
held_trees ws = map (held 4 ws) (take 64 (drop 1 ws))
