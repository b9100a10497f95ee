-- Where the walk leads: the spot at its end, its cells among all, and what the plain ledger says there.
use Rattle.std.proofs.Common.{◌≡◌, ℕ, suc, ◌+◌, ◌-◌, ◌^◌, ◌<◌, ◌≤◌, Bool, true, false, cond, leb, List, [], ◌++◌, length, get_or, set, Ok, Err, Result, sym, refl, ap, ◌∙◌, subst, arith, length-take, get_or-set_same}
use lib.ListN.{get_or-map}
use Rattle.std.proofs.lemmas.List.{set-get_or}
use Rattle.booking.specs.Bookings.{Deed, Reply, granted, on, refused}
use Rattle.booking.specs.Traces.{subscripts}
use Rattle.booking.specs.declared.refusal.Refusal.{Refusal}
use Rattle.booking.specs.declared.refusal.Refusal.TheVariants.{NoRoom}
use Rattle.booking.specs.declared.trace.Trace.{Trace}
use Rattle.ledger.specs.Deeds.{done_at}
use Rattle.ledger.specs.Doors.{Outcome, passed, turned}
use Rattle.ledger.specs.Ledger.{ask, book, room, if_room, walk}
use Rattle.ledger.specs.Trees.{Tree, Trees, W, bare, free}
use Rattle.layout.specs.Arrangement.{Arrangement, Placed, Spot, Vacant, bared, tree, trees}
use Rattle.layout.specs.Held.{held_trees}
use Rattle.layout.specs.Holds.{Displays, Holds, Shows}
use Rattle.layout.specs.Places.{at_trace, change, seen}
use Rattle.layout.specs.Sound.{Each, Sound}
use Rattle.layout.specs.Walks.{walked}
use Rattle.layout.specs.Words.{Cell, cells, cells_along}
use Rattle.layout.proofs.Bridge.{Fits}
use Rattle.layout.proofs.Change.{AtTrace, each_get, name_in}
use Rattle.layout.proofs.Decode.{fits, trees_told}
use Rattle.layout.proofs.WalkEnd.{Arrived, SpotEdit, SpotPieces, along_get, arrive, regroup, reply, reply_put, spread_at}

-- ── In a whole arrangement ─────────────────────────────────────────────

abbrev pub booked : Arrangement → Trace → Deed → Reply
booked A t a = (book A.count (trees A) (on t a)).0

-- the walk of a trace leads to the codeword at `at`, which shows the spot
pub record Stands (ws : List ℕ) (A : Arrangement) (t : Trace) (at depth : ℕ) (spot : Spot (Placed depth)) : Type 0 where
  pub shows : Shows (suc depth) ws at spot
  pub fits_in : Fits (length ws) (suc depth) spot
  pub inside : at < length ws
  pub before : List Cell
  pub after : List Cell
  pub here : cells_along (cells 4) 1 A.names ≡ before ++ (cells (suc depth) at spot ++ after)
  pub there : (f : SpotEdit) → cells_along (cells 4) 1 (at_trace f t A).names ≡ before ++ (cells (suc depth) at (f depth spot) ++ after)
  pub leads : AtTrace (λ e q. Unit {0}) t A
  pub level : suc depth + length (subscripts t) ≡ 4
  pub looked : (f : SpotPieces) → seen [] f t A ≡ f depth spot
  pub asked_there : (f : SpotEdit) (a : Deed)
      → booked (at_trace f t A) t a ≡ reply (free A.count (trees (at_trace f t A))) (done_at (bare depth) (W depth) (1 + length (subscripts t)) a (bared (tree depth) (f depth spot)))
  pub asked : (a : Deed) → booked A t a ≡ reply (free A.count (trees A)) (done_at (bare depth) (W depth) (1 + length (subscripts t)) a (bared (tree depth) spot))

abbrev pub Reached : List ℕ → Arrangement → Trace → Result ℕ Refusal → Type 0
Reached ws A t (Err r) = (a : Deed) → booked A t a ≡ refused r
Reached ws A t (Ok at) = (depth : ℕ) × (spot : Spot (Placed depth)) × Stands ws A t at depth spot

room_reply : (count : ℕ) (ts : Trees) (o : Outcome Trees) → (room count ts o).0 ≡ reply (free count ts) o
room_reply count ts (turned r) = refl
room_reply count ts (passed n m a x) = pick (leb n (free count ts + m))
  where
    pick : (q : Bool) → (if_room q a x ts).0 ≡ cond q (granted a) (refused NoRoom)
    pick true = refl
    pick false = refl

booked_is : (A : Arrangement) (t : Trace) (a : Deed)
    → booked A t a ≡ reply (free A.count (trees A)) (walk 4 1 (subscripts t) a (tree 4 (get_or A.names (t.name - 1) Vacant)))
unfolding ask
booked_is A t a =
    let k = free A.count (trees A) in
    room_reply A.count (trees A) _ ∙ reply_put k _ _
    ∙ ap (λ (x : Tree 4). reply k (walk 4 1 (subscripts t) a x)) (get_or-map (tree 4) A.names (t.name - 1) Vacant)

-- what the walk asks of an arrangement: its blocks lie inside, whether or not they and the gaps tile
pub record Fitting (A : Arrangement) : Type 0 where
  pub names_64 : length A.names ≡ 64
  pub least : 67 ≤ A.count
  pub most : A.count ≤ 2 ^ 18
  pub fit : Each (Fits A.count 4) A.names

pub fitting : (A : Arrangement) → Sound A → Fitting A
fitting A o = record { names_64 = o.names_64; least = o.least; most = o.most; fit = fits A o }

module _ (ws : List ℕ) (A : Arrangement) (o : Fitting A) (s : Displays ws A) (t : Trace) where
  whole : (x : Result ℕ Refusal) → Arrived ws 4 (1 + (t.name - 1)) (get_or A.names (t.name - 1) Vacant) (subscripts t) 1 x → Reached ws A t x
  whole (Err r) h = λ a. booked_is A t a ∙ h _ a
  whole (Ok at) (depth, spot, q) =
      let e = t.name - 1 in
      let ns = A.names in
      let r = spread_at (cells 4) 1 e ns (name_in t (length ns) o.names_64) in
      let way : (y : Placed 4) (c : List Cell) → cells 4 (1 + e) y ≡ q.before ++ (c ++ q.after)
      → cells_along (cells 4) 1 (set ns e y) ≡ (r.pre ++ q.before) ++ (c ++ (q.after ++ r.post)) =
      λ y c z. r.spread y ∙ ap (λ (cs : List Cell). r.pre ++ (cs ++ r.post)) z ∙ regroup r.pre q.before c q.after r.post in (
        depth,
        spot,
        record {
          shows = q.shows;
          fits_in = q.fits_in;
          inside = q.inside;
          before = r.pre ++ q.before;
          after = q.after ++ r.post;
          here = ap (cells_along (cells 4) 1) (sym (set-get_or ns e Vacant)) ∙ way (get_or ns e Vacant) (cells (suc depth) at spot) q.here;
          there = λ f. way (change f 4 (subscripts t) (get_or ns e Vacant)) (cells (suc depth) at (f depth spot)) (q.there f);
          leads = q.leads;
          level = q.level;
          looked = q.looked;
          asked_there = λ f a.
              let z = change f 4 (subscripts t) (get_or ns e Vacant) in
              let k = free A.count (trees (at_trace f t A)) in
              booked_is (at_trace f t A) t a
              ∙ ap (λ (x : Placed 4). reply k (walk 4 1 (subscripts t) a (tree 4 x))) (get_or-set_same ns e z Vacant (name_in t (length ns) o.names_64))
              ∙ q.asked_there f k a;
          asked = λ a. booked_is A t a ∙ q.asked _ a;
        },
      )

  pub reached : length (subscripts t) ≤ 3 → Reached ws A t (walked ws 1 t.name (subscripts t))
  reached few =
      let e = t.name - 1 in
      let lt = name_in t (length A.names) o.names_64 in
      let big : length ws ≡ A.count = s.count in
      let same : 1 + e ≡ t.name = omega (arith, t.lawful.0) in
      subst (λ (a : ℕ). Reached ws A t (walked ws 1 a (subscripts t))) same
      (whole _ (arrive ws (omega (arith, o.most)) 4 1 (subscripts t) (1 + e) (get_or A.names e Vacant) (omega arith) (omega (arith, o.least, o.names_64))
      (along_get (Shows 4 ws) 1 A.names Vacant e lt s.names)
      (subst (λ (n : ℕ). Fits n 4 (get_or A.names e Vacant)) (sym big) (each_get (Fits A.count 4) Vacant A.names e lt o.fit))))

-- ── Over words that hold together ──────────────────────────────────────

pub subscripts_count : (t : Trace) → length (subscripts t) ≡ t.depth
subscripts_count t = simp length-take (omega (arith, t.lawful.2, t.lawful.3))

module _ (ws : List ℕ) (h : Holds ws) (t : Trace) where
  -- the walk comes to the spot at the trace, or stops where the ledger stops
  pub came : (x : Result ℕ Refusal) → x ≡ walked ws 1 t.name (subscripts t) → Reached ws h.arrangement t x
  came x e =
      subst (Reached ws h.arrangement t) (sym e)
      (reached ws h.arrangement (fitting h.arrangement h.sound) h.shown t (omega (arith, subscripts_count t, t.lawful.2)))

  -- the ledger's reply, by the words
  pub replied : (a : Deed) → booked h.arrangement t a ≡ (book (length ws) (held_trees ws) (on t a)).0
  replied a =
      let A = h.arrangement in
      ap (λ (n : ℕ). (book n (trees A) (on t a)).0) (sym h.shown.count)
      ∙ ap (λ (ts : Trees). (book (length ws) ts (on t a)).0) (sym (trees_told ws A h.sound h.shown))

  -- turned away on the walk, whatever is booked
  pub turned_away : (r : Refusal) → Err r ≡ walked ws 1 t.name (subscripts t) → (a : Deed) → refused r ≡ (book (length ws) (held_trees ws) (on t a)).0
  turned_away r e a = sym (came (Err r) e a) ∙ replied a
