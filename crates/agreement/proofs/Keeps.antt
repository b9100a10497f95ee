-- One keeper from its making on is true to the plain ledger.
use Rattle.std.proofs.Common.{◌≡◌, ℕ, ◌≤◌, List, [], ◌∷◌, map, length, take, ap, ◌∙◌, sym, subst}
use Rattle.std.proofs.Math.Seq.{take-length}
use Rattle.agreement.specs.Accounts.{EachRoomRefused, RoomRefused, TrueToLedger}
use Rattle.agreement.specs.Outcomes.{account, account_so_far}
use Rattle.agreement.specs.Playing.{Plays}
use Rattle.agreement.specs.Runs.{ledger_trees, replies_after, words_after}
use Rattle.agreement.specs.declared.settlement.Played.{Played}
use Rattle.agreement.proofs.Follows.{At, follows}
use Rattle.booking.specs.Bookings.{Booking, Reply}
use Rattle.entries.specs.Readings.{bookings, reply_of}
use Rattle.entries.specs.declared.entry.Entry.{Entry}
use Rattle.layout.specs.Booked.{Booked}
use Rattle.layout.specs.Held.{held_trees}
use Rattle.layout.specs.Holds.{Holds}
use Rattle.layout.specs.Keeping.{made}
use Rattle.layout.proofs.Laws.{lawful}
use Rattle.layout.proofs.Made.{made_so}
use Rattle.ledger.specs.Ledger.{book}
use Rattle.ledger.specs.Runs.{replies}
use Rattle.ledger.specs.Trees.{Trees, no_trees}
use Rattle.ledger.proofs.Room.{room_is_exact}

-- as it was made, it holds no tree
pub made_at : (ws : List ℕ) → 67 ≤ length ws → length ws ≤ 262_144 → At (length ws) no_trees (made ws).1
made_at ws lo hi =
    let e = ap (λ x. x.0) (made_so ws lo hi) in
    record { holds = lawful.make_holds ws hi e; count = lawful.make_count ws hi e; trees = lawful.make_trees ws hi e }

each_room : (n : ℕ) (ts : Trees) (bs : List Booking) → EachRoomRefused n ts bs (replies n ts bs)
each_room n ts [] = tt
each_room n ts (b ∷ bs) = (room_is_exact n ts b, each_room n (book n ts b).1 bs)

-- the booking that comes next, over words of a count that hold these trees
module _ (n : ℕ) (ts : Trees) (ws : List ℕ) (a : At n ts ws) (b : Booking) (r : Reply) (us : List ℕ) (k : Booked ws b r us) where
  pub next_reply : r ≡ (book n ts b).0
  next_reply = k.reply ∙ ap (λ (m : ℕ). (book m (held_trees ws) b).0) a.count ∙ ap (λ x. (book n x b).0) a.trees

  pub next_trees : held_trees us ≡ (book n ts b).1
  next_trees =
      ap held_trees k.words ∙ lawful.call_trees ws b a.holds ∙ ap (λ (m : ℕ). (book m (held_trees ws) b).1) a.count ∙ ap (λ x. (book n x b).1) a.trees

  pub next_room : RoomRefused n ts b r
  next_room = subst (RoomRefused n ts b) (sym next_reply) (room_is_exact n ts b)

pub true_to_ledger : (ws : List ℕ) → 67 ≤ length ws → length ws ≤ 262_144 → (es : List Entry) (rs : List Reply) (us : List ℕ)
    → rs ≡ replies_after (made ws).1 es → us ≡ words_after (made ws).1 es → TrueToLedger (record { before = ws; list = es; gave = rs; after = us })
true_to_ledger ws lo hi es rs us p q =
    let n = length ws in
    let f = follows n no_trees (made ws).1 es (made_at ws lo hi) in
    let a : At n (ledger_trees n es) us = subst (At n (ledger_trees n es)) (sym q) f.at in
    let e = p ∙ f.replies_are in
    record {
      made_over = lo;
      same_count = a.count;
      holds = a.holds;
      each_word = q;
      replies_are = e;
      trees_are = a.trees;
      room = subst (EachRoomRefused n no_trees (bookings es)) (sym e) (each_room n no_trees (bookings es));
      next = λ b r vs k. record {
        reply = next_reply n (ledger_trees n es) us a b r vs k;
        trees = next_trees n (ledger_trees n es) us a b r vs k;
        room = next_room n (ledger_trees n es) us a b r vs k;
      };
    }

-- a keeper to which a list was played from its making on
module _ (ws : List ℕ) (lo : 67 ≤ length ws) (hi : length ws ≤ 262_144) (es : List Entry) (p : Played) (us : List ℕ)
    (plays : Plays (made ws).1 es p us) where
  pub so_far : TrueToLedger (account_so_far ws es p us)
  so_far = true_to_ledger ws lo hi (take p.entries es) (map reply_of p.replies.items) us plays.replies_are plays.words_are

  pub whole : p.entries ≡ length es → TrueToLedger (account ws es p us)
  whole e = subst (λ fs. TrueToLedger (account ws fs p us)) (ap (λ (k : ℕ). take k es) e ∙ take-length es) so_far

-- what was played over the words that making left
pub from_made : (ws : List ℕ) → 67 ≤ length ws → length ws ≤ 262_144 → (us : List ℕ) → us ≡ (made ws).1 → (es : List Entry) (p : Played) (vs : List ℕ)
    → (Holds us → Plays us es p vs) → Plays (made ws).1 es p vs
from_made ws lo hi us e es p vs h = subst (λ xs. Plays xs es p vs) e (h (subst Holds (sym e) (made_at ws lo hi).holds))
