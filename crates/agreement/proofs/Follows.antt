-- A list played to a keeper whose store holds together: replies and trees are the plain ledger's.
use Rattle.std.proofs.Common.{◌≡◌, ℕ, List, [], ◌∷◌, length, refl, ap, ◌∙◌}
use Rattle.agreement.specs.Runs.{replies_after, words_after}
use Rattle.booking.specs.Bookings.{Booking, Reply}
use Rattle.entries.specs.Readings.{booking_of, bookings}
use Rattle.entries.specs.declared.entry.Entry.{Entry}
use Rattle.entries.specs.declared.entry.Entry.TheVariants.{Book, Tidy}
use Rattle.layout.specs.Held.{held_trees}
use Rattle.layout.specs.Holds.{Holds}
use Rattle.layout.specs.Keeping.{called, tidied}
use Rattle.layout.proofs.Laws.{lawful}
use Rattle.ledger.specs.Ledger.{book}
use Rattle.ledger.specs.Runs.{replies, trees_after}
use Rattle.ledger.specs.Trees.{Trees}

-- words that hold together, of a count, and the trees that they hold
pub record At (n : ℕ) (ts : Trees) (ws : List ℕ) : Type 0 where
  pub holds : Holds ws
  pub count : length ws ≡ n
  pub trees : held_trees ws ≡ ts

-- All that is asked of placement: a booking replies and changes the trees as the plain ledger does, and a tidy leaves them.
module _ (n : ℕ) (ts : Trees) (ws : List ℕ) (a : At n ts ws) where
  pub booked_reply : (b : Booking) → (called ws b).0 ≡ (book n ts b).0
  booked_reply b = lawful.call_reply ws b a.holds ∙ ap (λ (k : ℕ). (book k (held_trees ws) b).0) a.count ∙ ap (λ x. (book n x b).0) a.trees

  pub booked_at : (b : Booking) → At n (book n ts b).1 (called ws b).1
  booked_at b = record {
    holds = lawful.call_holds ws b a.holds;
    count = lawful.call_count ws b a.holds ∙ a.count;
    trees = lawful.call_trees ws b a.holds ∙ ap (λ (k : ℕ). (book k (held_trees ws) b).1) a.count ∙ ap (λ x. (book n x b).1) a.trees;
  }

  pub tidied_at : At n ts (tidied ws)
  tidied_at = record {
    holds = lawful.tidy_holds ws a.holds;
    count = lawful.tidy_count ws a.holds ∙ a.count;
    trees = lawful.tidy_trees ws a.holds ∙ a.trees;
  }

pub record Follows (n : ℕ) (ts : Trees) (ws : List ℕ) (es : List Entry) : Type 0 where
  pub at : At n (trees_after n ts (bookings es)) (words_after ws es)
  pub replies_are : replies_after ws es ≡ replies n ts (bookings es)

pub follows : (n : ℕ) (ts : Trees) (ws : List ℕ) (es : List Entry) → At n ts ws → Follows n ts ws es
follows n ts ws [] a = record { at = a; replies_are = refl }
follows n ts ws (Book b ∷ es) a =
    let x = booking_of b in
    let f = follows n (book n ts x).1 (called ws x).1 es (booked_at n ts ws a x) in
    record {
      at = f.at;
      replies_are = ap (λ (r : Reply). r ∷ replies_after (called ws x).1 es) (booked_reply n ts ws a x)
          ∙ ap (λ rs. (book n ts x).0 ∷ rs) f.replies_are;
    }
follows n ts ws (Tidy ∷ es) a =
    let f = follows n ts (tidied ws) es (tidied_at n ts ws a) in
    record { at = f.at; replies_are = f.replies_are }
