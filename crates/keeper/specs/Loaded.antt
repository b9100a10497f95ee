-- Loading takes a list of just the store's length, that holds together, as the store's words.
use Rattle.std.specs.Prelude.{◌≡◌, ℕ, List, length, Ok, Err, Result, ◌≢◌}
use Rattle.booking.specs.declared.refusal.Refusal.{Refusal}
use Rattle.booking.specs.declared.refusal.Refusal.TheVariants.{Inconsistent, WrongCount}
use Rattle.keeper.specs.Saved.{saved}
use Rattle.layout.specs.Holds.{Holds}

-- What loading a list does to a store of the words ws: the reply, and the words then. One of the three is so, and no two can be.
pub data Loads (ws list : List ℕ) (reply : Result (Unit {0}) Refusal) (us : List ℕ) : Type 0 where
  -- the list has another length
  other_length : (length list ≢ length ws) → reply ≡ Err WrongCount → us ≡ ws → Loads ws list reply us
  -- it does not hold together
  apart : length list ≡ length ws → (Holds list → ⊥) → reply ≡ Err Inconsistent → us ≡ ws → Loads ws list reply us
  -- it holds together
  together : length list ≡ length ws → Holds list → reply ≡ Ok tt → us ≡ list → Loads ws list reply us

-- What is loaded does not hang on what the store held: over two stores of one count the replies are the same, and granted, the words.
abbrev pub LoadsComeOutAlike : Type 0
LoadsComeOutAlike =
    (ws vs list ws' vs' : List ℕ) (r s : Result (Unit {0}) Refusal) → length ws ≡ length vs → Loads ws list r ws' → Loads vs list s vs'
    → (r ≡ s) × (r ≡ Ok tt → ws' ≡ vs')

-- What one store saved, where its words hold together, another of the same count takes: then it has the same words.
abbrev pub SavedIsCarriedOver : Type 0
SavedIsCarriedOver =
    (ws vs list vs' : List ℕ) (r : Result (Unit {0}) Refusal) → Holds ws → length vs ≡ length ws → length list ≡ length ws
    → Loads vs (saved ws list) r vs' → (r ≡ Ok tt) × (vs' ≡ ws)
