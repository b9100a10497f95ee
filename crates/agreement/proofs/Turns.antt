-- The list one entry further.
use Rattle.std.proofs.Common.{◌≡◌, ℕ, ◌+◌, ◌<◌, List, [], ◌∷◌, ◌++◌, map, length, get_or, take, drop, Result, refl, ap, ◌∙◌, sym, subst, append-nil, inl, inr}
use Rattle.std.proofs.lemmas.List.{drop_more, map-append, take_more}
use Rattle.agreement.specs.Playing.{Plays}
use Rattle.agreement.specs.Runs.{RowNext, replies_after, words_after}
use Rattle.agreement.specs.declared.settlement.Played.{Played}
use Rattle.booking.specs.declared.refusal.Refusal.{Refusal}
use Rattle.entries.specs.Readings.{booking_of, reply_of}
use Rattle.entries.specs.declared.answer.Answer.{Answer}
use Rattle.entries.specs.declared.entry.Booking as entry
use Rattle.entries.specs.declared.entry.Entry.{Entry}
use Rattle.entries.specs.declared.entry.Entry.TheVariants.{Book, Tidy}
use Rattle.layout.specs.Booked.{Booked}
use Rattle.layout.specs.Held.{held_trees}
use Rattle.layout.specs.Holds.{Holds}
use Rattle.layout.specs.Keeping.{called, tidied}
use Rattle.layout.proofs.Laws.{lawful}
use Rattle.ledger.specs.Ledger.{book}
use Rattle.posting.specs.Posted.{GrantsRow}

words_on : (ws : List ℕ) (es fs : List Entry) → words_after ws (es ++ fs) ≡ words_after (words_after ws es) fs
words_on ws [] fs = refl
words_on ws (Book b ∷ es) fs = words_on (called ws (booking_of b)).1 es fs
words_on ws (Tidy ∷ es) fs = words_on (tidied ws) es fs

replies_on : (ws : List ℕ) (es fs : List Entry) → replies_after ws (es ++ fs) ≡ replies_after ws es ++ replies_after (words_after ws es) fs
replies_on ws [] fs = refl
replies_on ws (Book b ∷ es) fs = ap (λ rs. (called ws (booking_of b)).0 ∷ rs) (replies_on (called ws (booking_of b)).1 es fs)
replies_on ws (Tidy ∷ es) fs = replies_on (tidied ws) es fs

-- after k entries of the list: the replies, and the words, which hold together
pub record SoFar (ws : List ℕ) (es : List Entry) (k : ℕ) (gave : List (Result Answer Refusal)) (us : List ℕ) : Type 0 where
  pub holds : Holds us
  pub replies_are : map reply_of gave ≡ replies_after ws (take k es)
  pub words_are : us ≡ words_after ws (take k es)

module _ (ws : List ℕ) (es : List Entry) where
  pub begun : Holds ws → SoFar ws es 0 [] ws
  begun h = record { holds = h; replies_are = refl; words_are = refl }

  module _ (k : ℕ) (gave : List (Result Answer Refusal)) (us : List ℕ) (s : SoFar ws es k gave us) (l : k < length es) (e : Entry) (at : e ≡ get_or es k e) where
    further : take (k + 1) es ≡ take k es ++ e ∷ []
    further = take_more es k e l ∙ ap (λ x. take k es ++ x ∷ []) (sym at)

    words_further : words_after ws (take (k + 1) es) ≡ words_after us (e ∷ [])
    words_further = ap (words_after ws) further ∙ words_on ws (take k es) (e ∷ []) ∙ ap (λ vs. words_after vs (e ∷ [])) (sym s.words_are)

    replies_further : replies_after ws (take (k + 1) es) ≡ replies_after ws (take k es) ++ replies_after us (e ∷ [])
    replies_further =
        ap (replies_after ws) further ∙ replies_on ws (take k es) (e ∷ [])
        ∙ ap (λ vs. replies_after ws (take k es) ++ replies_after vs (e ∷ [])) (sym s.words_are)

    pub booked : (b : entry.Booking) → e ≡ Book b → (r : Result Answer Refusal) (vs : List ℕ) → Booked us (booking_of b) (reply_of r) vs → (n : ℕ) → n ≡ k + 1
        → (now : List (Result Answer Refusal)) → now ≡ gave ++ r ∷ [] → SoFar ws es n now vs
    booked b is r vs o n more now got =
        let x = booking_of b in
        let reply : reply_of r ≡ (called us x).0 = o.reply ∙ sym (lawful.call_reply us x s.holds) in
        record {
          holds = subst Holds (sym o.words) (lawful.call_holds us x s.holds);
          replies_are =
              ap (map reply_of) got ∙ map-append reply_of gave (r ∷ []) ∙ ap (λ q. map reply_of gave ++ q ∷ []) reply ∙ ap (λ rs. rs ++ (called us x).0 ∷ []) s.replies_are
              ∙ ap (λ f. replies_after ws (take k es) ++ replies_after us (f ∷ [])) (sym is) ∙ sym replies_further ∙ ap (λ m. replies_after ws (take m es)) (sym more);
          words_are =
              o.words ∙ ap (λ f. words_after us (f ∷ [])) (sym is) ∙ sym words_further ∙ ap (λ m. words_after ws (take m es)) (sym more);
        }

    pub tidied_up : e ≡ Tidy → (vs : List ℕ) → (Holds us → vs ≡ tidied us) → (n : ℕ) → n ≡ k + 1 → SoFar ws es n gave vs
    tidied_up is vs o n more =
        record {
          holds = subst Holds (sym (o s.holds)) (lawful.tidy_holds us s.holds);
          replies_are =
              s.replies_are ∙ sym (append-nil (replies_after ws (take k es))) ∙ ap (λ f. replies_after ws (take k es) ++ replies_after us (f ∷ [])) (sym is)
              ∙ sym replies_further ∙ ap (λ m. replies_after ws (take m es)) (sym more);
          words_are = o s.holds ∙ ap (λ f. words_after us (f ∷ [])) (sym is) ∙ sym words_further ∙ ap (λ m. words_after ws (take m es)) (sym more);
        }

    -- a row is next, for which there is no memory
    pub stopped : (b : entry.Booking) → e ≡ Book b → GrantsRow (book (length us) (held_trees us) (booking_of b)).0 → (vs : List ℕ) → vs ≡ us → RowNext vs (drop k es)
    stopped b is g vs same =
        subst (λ us. RowNext us (drop k es)) (sym same)
        (subst (RowNext us) (sym (drop_more es k e l ∙ ap (λ f. f ∷ drop (k + 1) es) (sym at ∙ is))) g)

  -- the list was played to its end, or stopped at a row
  module _ (k : ℕ) (p : Played) (us : List ℕ) (s : SoFar ws es k p.replies.items us) (n : p.entries ≡ k) where
    pub played_whole : k ≡ length es → Plays ws es p us
    played_whole e = record {
      replies_are = s.replies_are ∙ ap (λ m. replies_after ws (take m es)) (sym n);
      words_are = s.words_are ∙ ap (λ m. words_after ws (take m es)) (sym n);
      ended = inl (n ∙ e);
    }

    pub stopped_there : (vs : List ℕ) → vs ≡ us → RowNext vs (drop k es) → Plays ws es p vs
    stopped_there vs same r = record {
      replies_are = s.replies_are ∙ ap (λ m. replies_after ws (take m es)) (sym n);
      words_are = same ∙ s.words_are ∙ ap (λ m. words_after ws (take m es)) (sym n);
      ended = inr (subst (λ m. RowNext vs (drop m es)) (sym n) r);
    }
