-- What closing a month comes to. Nothing is left to be supposed of what is handed on.
use Rattle.std.specs.Prelude.{ℕ, ◌≤◌, List, length}
use Rattle.agreement.specs.Law.{Agree}
use Rattle.agreement.specs.Outcomes.{account}
use Rattle.clerk.specs.declared.closing.Closed.{Closed}
use Rattle.entries.specs.declared.entry.Entry.{Entry}

-- Where treasury's store has at least as many words, the two keepers agree. Receivables' store had the words ws and has the words ws' now,
-- and its keeper got the list es; treasury's store had vs and has vs', and its keeper got what was handed on.
abbrev pub Closes : (ws : List ℕ) (es : List Entry) (ws' vs vs' : List ℕ) → Closed → Type 0
Closes ws es ws' vs vs' c =
    length ws ≤ length vs → Agree (account ws es c.settlement.receivables ws') (account vs c.handed_on.items c.settlement.treasury vs')
