-- What is handed on, one entry further.
use Rattle.std.proofs.Common.{◌≡◌, ℕ, ◌+◌, ◌<◌, ◌≤◌, Bool, true, false, cond, List, [], ◌∷◌, ◌++◌, map, length, get_or, drop, Ok, Err, Result, refl, ap, ◌∙◌, sym, subst, append-nil}
use Rattle.std.proofs.lemmas.List.{drop_all, drop_more}
use Rattle.agreement.specs.Handing.{handed_on, tidy_due}
use Rattle.booking.specs.declared.refusal.Refusal.{Refusal}
use Rattle.entries.specs.Readings.{booking_of, bookings, reply_of}
use Rattle.entries.specs.declared.answer.Answer.{Answer}
use Rattle.entries.specs.declared.entry.Booking as entry
use Rattle.entries.specs.declared.entry.Entry.{Entry}
use Rattle.entries.specs.declared.entry.Entry.TheVariants.{Book, Tidy}
use Rattle.ledger.specs.Runs.{granted_of}

-- its bookings are those that were granted
tidied : (q : Bool) (xs : List Entry) → bookings (cond q (Tidy ∷ []) [] ++ xs) ≡ bookings xs
tidied true xs = refl
tidied false xs = refl

pub granted_handed : (every n : ℕ) (es : List Entry) (rs : List (Result Answer Refusal)) → bookings (handed_on every n es rs) ≡ granted_of (bookings es) (map reply_of rs)
granted_handed every n [] rs = refl
granted_handed every n (Tidy ∷ es) rs = granted_handed every n es rs
granted_handed every n (Book b ∷ es) [] = refl
granted_handed every n (Book b ∷ es) (Err r ∷ rs) = granted_handed every n es rs
granted_handed every n (Book b ∷ es) (Ok a ∷ rs) =
    ap (λ bs. booking_of b ∷ bs) (tidied (tidy_due every (n + 1)) (handed_on every (n + 1) es rs) ∙ granted_handed every (n + 1) es rs)

-- these were handed on, and once the rest is, so are all of them
abbrev pub HandedOn : (every n : ℕ) (xs es : List Entry) → List (Result Answer Refusal) → List Entry → Type 0
HandedOn every n xs es rs all = xs ++ handed_on every n es rs ≡ all

module _ (every n : ℕ) (xs list : List Entry) (k : ℕ) (rs : List (Result Answer Refusal)) (all : List Entry)
    (h : HandedOn every n xs (drop k list) rs all) where
  pub all_handed : length list ≤ k → xs ≡ all
  all_handed l = sym (append-nil xs) ∙ subst (λ es. HandedOn every n xs es rs all) (drop_all k list l) h

  module _ (l : k < length list) (e : Entry) (at : e ≡ get_or list k e) where
    front : HandedOn every n xs (e ∷ drop (k + 1) list) rs all
    front = subst (λ es. HandedOn every n xs es rs all) (drop_more list k e l ∙ ap (λ x. x ∷ drop (k + 1) list) (sym at)) h

    module _ (b : entry.Booking) (is : e ≡ Book b) where
      here : HandedOn every n xs (Book b ∷ drop (k + 1) list) rs all
      here = subst (λ x. HandedOn every n xs (x ∷ drop (k + 1) list) rs all) is front

      -- there are no more replies
      pub none_left : rs ≡ [] → xs ≡ all
      none_left q = sym (append-nil xs) ∙ subst (λ r. HandedOn every n xs (Book b ∷ drop (k + 1) list) r all) q here
