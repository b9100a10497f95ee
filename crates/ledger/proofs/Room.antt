-- The count enters at the last door alone.
use Rattle.std.proofs.Common.{◌≡◌, ℕ, ◌+◌, ◌<◌, ◌≤◌, Bool, true, false, not, T, leb, ◌⊎◌, ◌↔◌, List, [], ◌∷◌, sym, refl, ap, ◌∙◌, inl, inr, arith, le→leb, leb→le}
use lib.Dec.{nleb→lt}
use lib.Arith.{lt→nleb}
use Rattle.booking.specs.Bookings.{Answer, Booking, Reply, granted, refused}
use Rattle.booking.specs.declared.refusal.Refusal.{Refusal}
use Rattle.booking.specs.declared.refusal.Refusal.TheVariants.{NoRoom}
use Rattle.ledger.specs.Doors.{Outcome, Past, passed, turned}
use Rattle.ledger.specs.Ledger.{ask, book, room, if_room}
use Rattle.ledger.specs.Needs.{needs, releases}
use Rattle.ledger.specs.Runs.{granted_of, grants, replies, trees_after}
use Rattle.ledger.specs.Trees.{Trees, free}
use Rattle.ledger.specs.Laws.{LargerGrantsAlike, RoomIsExact}
use Rattle.ledger.proofs.Asked.{Asks, ask_asks, asked, away}

-- ── The count enters at room alone, and more of it grants no less ──────

free_mono : (m n : ℕ) (ts : Trees) → m ≤ n → free m ts ≤ free n ts
unfolding free
free_mono m n ts h = omega arith

-- a booking that the smaller count grants, the larger grants alike; a refused one changes no tree
GrantsAlike : Trees → Reply × Trees → Reply × Trees → Type 0
GrantsAlike ts x y =
    ((a : Answer) × (x.0 ≡ granted a) × (y.0 ≡ granted a) × (y.1 ≡ x.1))
    ⊎ ((r : Refusal) × (x.0 ≡ refused r) × (x.1 ≡ ts))

settle_alike : (p q : Bool) (a : Answer) (ts' ts : Trees) → (T p → T q) → GrantsAlike ts (if_room p a ts' ts) (if_room q a ts' ts)
unfolding GrantsAlike
settle_alike true true a ts' ts h = inl (a, refl, refl, refl)
settle_alike true false a ts' ts h = absurd (h tt)
settle_alike false q a ts' ts h = inr (NoRoom, refl, refl)

room_alike : (m n : ℕ) (ts : Trees) (o : Outcome Trees) → m ≤ n → GrantsAlike ts (room m ts o) (room n ts o)
room_alike m n ts (turned r) h = unfold GrantsAlike in inr (r, refl, refl)
room_alike m n ts (passed needs releases a ts') h =
    settle_alike (leb needs (free m ts + releases)) (leb needs (free n ts + releases)) a ts' ts
    (λ t. le→leb _ _ (omega (arith, free_mono m n ts h, leb→le needs (free m ts + releases) t)))

-- ── The granted ones, fed to the ledger of a count as large ────────────

module _ (m n : ℕ) (h : m ≤ n) where
  Fed : Trees → List Booking → Type 0
  Fed ts bs =
      (replies n ts (granted_of bs (replies m ts bs)) ≡ grants (replies m ts bs))
      × (trees_after n ts (granted_of bs (replies m ts bs)) ≡ trees_after m ts bs)

  fed_more : (ts : Trees) (b : Booking) (bs : List Booking) → GrantsAlike ts (book m ts b) (book n ts b)
      → Fed (book m ts b).1 bs → Fed ts (b ∷ bs)
  unfolding GrantsAlike Fed
  fed_more ts b bs (inl g) f =
      let after = (book m ts b).1 in
      let gs = granted_of bs (replies m after bs) in (
        rw (g.1, g.2, g.3) (ap (λ (rs : List Reply). granted g.0 ∷ rs) f.0),
        ap (λ (r : Reply). trees_after n ts (granted_of (b ∷ bs) (r ∷ replies m after bs))) g.1
            ∙ ap (λ (z : Trees). trees_after n z gs) g.3
            ∙ f.1,
      )
  fed_more ts b bs (inr g) f =
      let after = (book m ts b).1 in
      let gs = granted_of bs (replies m after bs) in (
        ap (λ (r : Reply). replies n ts (granted_of (b ∷ bs) (r ∷ replies m after bs))) g.1
            ∙ ap (λ (z : Trees). replies n z gs) (sym g.2)
            ∙ f.0
            ∙ ap (λ (r : Reply). grants (r ∷ replies m after bs)) (sym g.1),
        ap (λ (r : Reply). trees_after n ts (granted_of (b ∷ bs) (r ∷ replies m after bs))) g.1
            ∙ ap (λ (z : Trees). trees_after n z gs) (sym g.2)
            ∙ f.1,
      )

  fed : (ts : Trees) (bs : List Booking) → Fed ts bs
  unfolding Fed
  fed ts [] = (refl, refl)
  fed ts (b ∷ bs) = fed_more ts b bs (room_alike m n ts (ask ts b) h) (fed (book m ts b).1 bs)

-- the last door
settle_room : (p : Bool) (a : Answer) (ts' ts : Trees) → ((if_room p a ts' ts).0 ≡ refused NoRoom) ↔ T (not p)
settle_room true a ts' ts = (λ e. let z : ◌≡◌ {A = ℕ} 0 1 = cc in omega arith, λ t. absurd t)
settle_room false a ts' ts = (λ e. tt, λ t. refl)

last_door : (count : ℕ) (ts : Trees) {o : Outcome Trees} {n m : ℕ} → Asks o n m → Past o
    → (r : Reply) → r ≡ (room count ts o).0 → (r ≡ refused NoRoom) ↔ (free count ts + m < n)
last_door count ts away past reply q = absurd past
last_door count ts (asked {n = n} {m = m} {a = a} {x = ts'}) past reply q =
    let p : Bool = leb n (free count ts + m) in (
      λ h. nleb→lt n (free count ts + m) ((settle_room p a ts' ts).0 (sym q ∙ h)),
      λ h. q ∙ (settle_room p a ts' ts).1 (lt→nleb n (free count ts + m) h),
    )

pub room_is_exact : RoomIsExact
room_is_exact count ts b past = last_door count ts (ask_asks ts b) past (book count ts b).0 refl

pub larger_grants_alike : LargerGrantsAlike
unfolding Fed
larger_grants_alike m n h ts bs = fed m n h ts bs
