-- What playing a list to a keeper whose store holds together leaves.
use Rattle.std.specs.Prelude.{◌≡◌, ℕ, ◌⊎◌, List, map, length, take, drop}
use Rattle.agreement.specs.Runs.{RowNext, replies_after, words_after}
use Rattle.agreement.specs.declared.settlement.Played.{Played}
use Rattle.entries.specs.Readings.{reply_of}
use Rattle.entries.specs.declared.entry.Entry.{Entry}

-- the list was played to its end, or up to a row that was to be read
abbrev pub Ended : List Entry → Played → List ℕ → Type 0
Ended es p us = (p.entries ≡ length es) ⊎ RowNext us (drop p.entries es)

-- the replies to the entries that were played, and every word after them
pub record Plays (ws : List ℕ) (es : List Entry) (p : Played) (us : List ℕ) : Type 0 where
  pub replies_are : map reply_of p.replies.items ≡ replies_after ws (take p.entries es)
  pub words_are : us ≡ words_after ws (take p.entries es)
  pub ended : Ended es p us
