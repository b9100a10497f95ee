-- What the keeper on words does: each call keeps the words together, and replies and changes the trees as the plain ledger.
use Rattle.std.proofs.Common.{◌≡◌, ℕ, ◌+◌, ◌*◌, ◌^◌, ◌<◌, ◌≤◌, Bool, true, false, cond, not, T, ltb, ◌↔◌, List, length, get_or, sym, refl, ap, ◌∙◌, subst, arith, ltb→lt, nltb→le}
use Rattle.booking.specs.Bookings.{Answer, Booking, Deed, Delete, Done, Exchange, Free, Insert, Read, Rebase, Reply, RowRead, RowWrite, Span, Take, Write, granted, refused}
use Rattle.booking.specs.Traces.{subscripts}
use Rattle.booking.specs.declared.refusal.Refusal.{Refusal}
use Rattle.booking.specs.declared.refusal.Refusal.TheVariants.{WrongCount}
use Rattle.booking.specs.declared.trace.Trace.{Trace}
use Rattle.layout.specs.Arrangement.{Arrangement, trees}
use Rattle.layout.specs.Gaps.{GapFound, combined, first_fit_of, gap_at, no_gap}
use Rattle.layout.specs.Held.{held_trees}
use Rattle.layout.specs.Holds.{Displays, Holds}
use Rattle.layout.specs.Keeping.{arrangement_of, called, made, tidied}
use Rattle.layout.specs.Determined.{Determined}
use Rattle.layout.specs.Lawful.{Lawful}
use Rattle.layout.specs.Refines.{Refines}
use Rattle.layout.specs.Placement.{Found, closed_up, found_or}
use Rattle.layout.specs.Rearranged.{as_made, freed, if_granted, rearranged, stored}
use Rattle.layout.specs.Sound.{Sound}
use Rattle.layout.specs.Words.{first_of, total, words_of}
use Rattle.codeword.specs.Codeword.{field}
use Rattle.ledger.specs.Ledger.{book}
use Rattle.ledger.specs.Needs.{needs, released, releases, weight_at}
use Rattle.ledger.specs.Trees.{Trees, free, no_trees, tree_of}
use Rattle.layout.proofs.Unique.{unique}
use Rattle.ledger.proofs.Asked.{ask_asks}
use Rattle.layout.proofs.FreeWords.{total_is_free}
use Rattle.layout.proofs.Refine.{refines, tidy_leaves_trees}
use Rattle.layout.proofs.Order.{ordered}
use Rattle.layout.proofs.Written.{words_shown}
use Rattle.layout.proofs.Decode.{told, total_within, trees_told}
use Rattle.layout.proofs.Change.{AtTrace}
use Rattle.layout.proofs.Doors.{Legal, ask_past, granted_past}
use Rattle.layout.proofs.Kept.{made_sound, closed_up_sound, write_sound, row_write_sound, rebase_sound, exchange_sound}
use Rattle.layout.proofs.GivenUp.{freed_sound, delete_sound}
use Rattle.layout.proofs.Taken.{take_sound}
use Rattle.layout.proofs.Grown.{insert_sound}

-- ── On arrangements ────────────────────────────────────────────────────

kept : (t : Trace) (a : Deed) (A : Arrangement) → Sound A → AtTrace (Legal a) t A
    → needs a ≤ free A.count (trees A) + released a (weight_at 4 (subscripts t) (tree_of (trees A) t.name))
    → Sound (rearranged t a A)
kept t (Take n b c ty) A o l r = take_sound n b c ty t A o l r
kept t Free A o l r = freed_sound (Legal Free) t A o l
kept t (Read kind i) A o l r = o
kept t (Write kind i w) A o l r = write_sound kind i w t A o l
kept t (RowRead kind i n) A o l r = o
kept t (RowWrite kind i vs) A o l r = row_write_sound kind i vs t A o l
kept t Span A o l r = o
kept t (Insert i n) A o l r = insert_sound i n t A o l (omega (arith, total_is_free A (ordered A o.least o.tiled)))
kept t (Delete i n) A o l r = delete_sound i n t A o l
kept t (Rebase c) A o l r = rebase_sound c t A o l
kept t (Exchange h i) A o l r = exchange_sound h i t A o l

granted_sound : (A : Arrangement) → Sound A → (b : Booking) (c : Answer) → (book A.count (trees A) b).0 ≡ granted c
    → Sound (rearranged b.trace b.deed A)
unfolding releases
granted_sound A o b c e =
    let g = granted_past A.count (trees A) (ask_asks (trees A) b) c e in
    kept b.trace b.deed A o (ask_past A b g.0) g.1

pub stored_sound : (A : Arrangement) → Sound A → (b : Booking) → Sound (stored A b).1
stored_sound A o b = pick (book A.count (trees A) b).0 (granted_sound A o b)
  where
    pick : (r : Reply) → ((c : Answer) → r ≡ granted c → Sound (rearranged b.trace b.deed A))
        → Sound (if_granted r (rearranged b.trace b.deed A) A)
    pick (granted c) h = h c refl
    pick (refused x) h = o

found_count : (n : ℕ) (B : Arrangement) (fit : GapFound) (other : Found) → B.count ≡ n → other.arrangement.count ≡ n → (found_or B fit other).arrangement.count ≡ n
found_count n B no_gap other e f = f
found_count n B (gap_at x gs) other e f = e

rearranged_count : (t : Trace) (a : Deed) (A : Arrangement) → (rearranged t a A).count ≡ A.count
rearranged_count t (Take n b c ty) A =
    let F = freed t A in
    found_count A.count F (first_fit_of (n + 1) F.gaps) _ refl
    (found_count A.count F (first_fit_of (n + 1) (combined F.gaps)) _ refl
    (found_count A.count (closed_up F) (first_fit_of (n + 1) (closed_up F).gaps) _ refl refl))
rearranged_count t Free A = refl
rearranged_count t (Read kind i) A = refl
rearranged_count t (Write kind i w) A = refl
rearranged_count t (RowRead kind i n) A = refl
rearranged_count t (RowWrite kind i vs) A = refl
rearranged_count t Span A = refl
rearranged_count t (Insert i n) A = refl
rearranged_count t (Delete i n) A = refl
rearranged_count t (Rebase c) A = refl
rearranged_count t (Exchange h i) A = refl

granted_count : (r : Reply) (A B : Arrangement) → B.count ≡ A.count → (if_granted r B A).count ≡ A.count
granted_count (granted c) A B e = e
granted_count (refused x) A B e = refl

-- ── On words ───────────────────────────────────────────────────────────

-- words that show a sound arrangement of a count and trees
pub record Keeps (ws : List ℕ) (n : ℕ) (ts : Trees) : Type 0 where
  pub holds : Holds ws
  pub count : length ws ≡ n
  pub trees_are : held_trees ws ≡ ts

laid : (A : Arrangement) → Sound A → Keeps (words_of A) A.count (trees A)
laid A o =
    let s = words_shown A o in
    record { holds = record { arrangement = A; sound = o; shown = s }; count = s.count; trees_are = trees_told (words_of A) A o s }

pub call_keeps : (ws : List ℕ) (b : Booking) → Holds ws → Keeps (called ws b).1 (length ws) (book (length ws) (held_trees ws) b).1
unfolding called
call_keeps ws b h =
    let A = h.arrangement in
    let o = h.sound in
    let s = h.shown in
    let B = (stored A b).1 in
    let k = laid B (stored_sound A o b) in
    let same : words_of (stored (arrangement_of ws) b).1 ≡ words_of B = ap (λ (X : Arrangement). words_of (stored X b).1) (told ws A o s) in
    let n : B.count ≡ length ws =
    granted_count (book A.count (trees A) b).0 A (rearranged b.trace b.deed A) (rearranged_count b.trace b.deed A) ∙ sym s.count in
    record {
      holds = subst Holds (sym same) k.holds;
      count = ap length same ∙ k.count ∙ n;
      trees_are = ap held_trees same ∙ k.trees_are ∙ refines A b
          ∙ ap (λ (m : ℕ). (book m (trees A) b).1) (sym s.count) ∙ ap (λ (ts : Trees). (book (length ws) ts b).1) (sym (trees_told ws A o s));
    }

pub call_reply : (ws : List ℕ) (b : Booking) → Holds ws → (called ws b).0 ≡ (book (length ws) (held_trees ws) b).0
unfolding called
call_reply ws b h =
    let A = h.arrangement in
    ap (λ (X : Arrangement). (book X.count (trees X) b).0) (told ws A h.sound h.shown)
    ∙ ap (λ (m : ℕ). (book m (trees A) b).0) (sym h.shown.count)
    ∙ ap (λ (ts : Trees). (book (length ws) ts b).0) (sym (trees_told ws A h.sound h.shown))

pub tidy_keeps : (ws : List ℕ) → Holds ws → Keeps (tidied ws) (length ws) (held_trees ws)
unfolding tidied
tidy_keeps ws h =
    let A = h.arrangement in
    let k = laid (closed_up A) (closed_up_sound A h.sound) in
    let same : words_of (closed_up (arrangement_of ws)) ≡ words_of (closed_up A) =
    ap (λ (X : Arrangement). words_of (closed_up X)) (told ws A h.sound h.shown) in
    record {
      holds = subst Holds (sym same) k.holds;
      count = ap length same ∙ k.count ∙ sym h.shown.count;
      trees_are = ap held_trees same ∙ k.trees_are ∙ tidy_leaves_trees A ∙ sym (trees_told ws A h.sound h.shown);
    }

-- made without refusal
pub make_keeps : (ws : List ℕ) → length ws ≤ 2 ^ 18 → (made ws).0 ≡ granted Done → Keeps (made ws).1 (length ws) no_trees
unfolding made
make_keeps ws hi = pick (ltb (length ws) 67) (nltb→le (length ws) 67)
  where
    pick : (q : Bool) → (T (not q) → 67 ≤ length ws)
        → (cond {A = Reply × List ℕ} q (refused WrongCount, ws) (granted Done, words_of (as_made (length ws)))).0 ≡ granted Done
        → Keeps (cond {A = Reply × List ℕ} q (refused WrongCount, ws) (granted Done, words_of (as_made (length ws)))).1 (length ws) no_trees
    pick true h e = let z : ◌≡◌ {A = ℕ} 0 1 = cc in absurd (omega arith)
    pick false h e = laid (as_made (length ws)) (made_sound (length ws) (h tt) hi)

-- ── Together ───────────────────────────────────────────────────────────

make_refused : (ws : List ℕ) → ((made ws).0 ≡ refused WrongCount) ↔ (length ws < 67)
unfolding made
make_refused ws = pick (ltb (length ws) 67) (ltb→lt (length ws) 67) (nltb→le (length ws) 67)
  where
    pick : (q : Bool) → (T q → length ws < 67) → (T (not q) → 67 ≤ length ws)
        → ((cond {A = Reply × List ℕ} q (refused WrongCount, ws) (granted Done, words_of (as_made (length ws)))).0 ≡ refused WrongCount) ↔ (length ws < 67)
    pick true h k = (λ e. h tt, λ l. refl)
    pick false h k = (λ e. let z : ◌≡◌ {A = ℕ} 0 1 = cc in absurd (omega arith), λ l. absurd (omega (arith, k tt)))

one_list : (A : Arrangement) → Sound A → (ws : List ℕ) → Displays ws A → ws ≡ words_of A
one_list A o ws s = unique ws (words_of A) A o s (words_shown A o)

left_alone : (r : Reply) (x : Refusal) (A B : Arrangement) → r ≡ refused x → if_granted r B A ≡ A
left_alone (granted c) x A B e = let z : ◌≡◌ {A = ℕ} 0 1 = cc in absurd (omega arith)
left_alone (refused y) x A B e = refl

call_refused : (ws : List ℕ) (b : Booking) (r : Refusal) → Holds ws → (called ws b).0 ≡ refused r → (called ws b).1 ≡ ws
unfolding called
call_refused ws b r h e =
    let A = h.arrangement in
    let same = told ws A h.sound h.shown in
    let said : (book A.count (trees A) b).0 ≡ refused r = ap (λ (X : Arrangement). (stored X b).0) (sym same) ∙ e in
    ap (λ (X : Arrangement). words_of (stored X b).1) same
    ∙ ap words_of (left_alone (book A.count (trees A) b).0 r A (rearranged b.trace b.deed A) said)
    ∙ sym (one_list A h.sound ws h.shown)

low_field : (w t f : ℕ) → w ≡ t + 2 ^ 18 * f → t < 2 ^ 18 → field 0 18 w ≡ t
low_field w t f e h = omega arith

header_is_free : (ws : List ℕ) → Holds ws → field 0 18 (get_or ws 0 0) ≡ free (length ws) (held_trees ws)
header_is_free ws h =
    let A = h.arrangement in
    low_field (get_or ws 0 0) (total A.gaps) (first_of A.gaps) h.shown.header (omega (arith, total_within A h.sound, h.sound.most))
    ∙ sym (total_is_free A (ordered A h.sound.least h.sound.tiled))
    ∙ ap (λ (n : ℕ). free n (trees A)) (sym h.shown.count)
    ∙ ap (free (length ws)) (sym (trees_told ws A h.sound h.shown))

pub lawful : Lawful
lawful = record {
  make_refused = make_refused;
  make_holds = λ ws h e. (make_keeps ws h e).holds;
  make_count = λ ws h e. (make_keeps ws h e).count;
  make_trees = λ ws h e. (make_keeps ws h e).trees_are;
  call_holds = λ ws b h. (call_keeps ws b h).holds;
  call_count = λ ws b h. (call_keeps ws b h).count;
  call_reply = call_reply;
  call_trees = λ ws b h. (call_keeps ws b h).trees_are;
  call_refused = call_refused;
  tidy_holds = λ ws h. (tidy_keeps ws h).holds;
  tidy_count = λ ws h. (tidy_keeps ws h).count;
  tidy_trees = λ ws h. (tidy_keeps ws h).trees_are;
  total_is_free = header_is_free;
}

-- a call has left the words asked for when they display the arrangement asked for
pub call_left : (ws us : List ℕ) (A : Arrangement) (b : Booking) → Sound A → Displays ws A → Displays us (stored A b).1 → us ≡ (called ws b).1
unfolding called
call_left ws us A b o s u =
    one_list (stored A b).1 (stored_sound A o b) us u ∙ ap (λ (X : Arrangement). words_of (stored X b).1) (sym (told ws A o s))

pub tidy_left : (ws us : List ℕ) (A : Arrangement) → Sound A → Displays ws A → Displays us (closed_up A) → us ≡ tidied ws
unfolding tidied
tidy_left ws us A o s u =
    one_list (closed_up A) (closed_up_sound A o) us u ∙ ap (λ (X : Arrangement). words_of (closed_up X)) (sym (told ws A o s))

pub determined : Determined
determined = record { shown = words_shown; one_list = one_list; one_arrangement = told }

pub gaps_are_free : (A : Arrangement) → Sound A → total A.gaps ≡ free A.count (trees A)
gaps_are_free A o = sym (total_is_free A (ordered A o.least o.tiled))

pub refined : Refines
refined = record {
  reply = λ A b. refl;
  step = refines;
  step_sound = stored_sound;
  tidy = tidy_leaves_trees;
  tidy_sound = closed_up_sound;
  total_is_free = gaps_are_free;
}
