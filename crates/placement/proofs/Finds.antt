-- A search of the chain by `find`: over the links that were passed, to the one that was found.
use Rattle.std.proofs.Common.{◌≡◌, ℕ, Bool, true, false, ltb, leb, Option, Some, None, IfSome, MatchOption, unwrap_or, List, [], ◌∷◌, refl, sym, ◌∙◌, subst}
use Rattle.std.proofs.lemmas.Bool.{ltb-true, ltb-false}
use Rattle.std.specs.Fn.{CalledAt}
use Rattle.std.specs.Iterator.{YieldsThen}
use Rattle.std.specs.List.{FoldsTo}
use Rattle.layout.specs.Arrangement.{Piece}
use Rattle.layout.specs.Chains.{Chained, InChain, size_at}
use Rattle.placement.specs.Follows.{Follows}
use Rattle.placement.specs.Gaps.{Spotted}
use Rattle.placement.specs.declared.chain.Link.{Link}
use Rattle.placement.specs.Links.{Sought}
use Rattle.placement.proofs.Links.{Seeks, seek_on, seek_stop, seek_end}
use Rattle.placement.proofs.Search.{Passes, pass_on, spot_found, spot_none}
use denote.Param.Members.{Mut}
use denote.Ref.{Bor}

-- what holds where the search begins, and from one item on to the next, holds where it ends
module _ {S A F : Type 0} (steps : S → Option A → S → Type 0) (g : Mut F (Bor A × Unit {0}) Bool) (f : F) (I : S → Type 0) (D : Option A → S → Type 0)
    (on : (s : S) (x : A) (t : S) (q : F) → steps s (Some x) t → CalledAt g f x false q → I s → (q ≡ f) × I t)
    (hit : (s : S) (x : A) (t : S) (q : F) → steps s (Some x) t → CalledAt g f x true q → I s → D (Some x) t)
    (over : (s t : S) → steps s None t → I s → D None t) where
  ended : (r : Option A) (s u : S) → steps s r u → IfSome r (λ x. (h : F) × CalledAt g f x true h) → I s → D r u
  ended None s u e k i = over s u e i
  ended (Some x) s u e k i = hit s x u k.0 e k.1 i

  ends : (xs : List A) (s u : S) (p j : F) (r : Option A) → p ≡ f → YieldsThen steps s xs r u
      → FoldsTo (λ p x q. CalledAt g p x false q) p xs j → IfSome r (λ x. (h : F) × CalledAt g j x true h) → I s → D r u
  ends [] s u p j r e y l k i =
      ended r s u (subst (λ (t : S). steps t r u) (sym y.1) y.2) (subst (λ (z : F). IfSome r (λ x. (h : F) × CalledAt g z x true h)) (sym l ∙ e) k) i
  ends (x ∷ xs) s u p j r e y l k i =
      let w = on s x y.1.0 l.0 y.1.1 (subst (λ (z : F). CalledAt g z x false l.0) e l.1) i in
      ends xs y.1.0 u l.0 j r w.0 (y.0, y.1.2, y.2) l.2 k w.1

-- as `find` says what it ran
pub find_ends : {S A F : Type 0} (steps : S → Option A → S → Type 0) (g : Mut F (Bor A × Unit {0}) Bool) (f : F) (s u : S) (r : Option A)
    → (xs : List A) × (j : F) × YieldsThen steps s xs r u × FoldsTo (λ p x q. CalledAt g p x false q) f xs j × IfSome r (λ x. (h : F) × CalledAt g j x true h)
    → (I : S → Type 0) (D : Option A → S → Type 0)
    → ((s : S) (x : A) (t : S) (q : F) → steps s (Some x) t → CalledAt g f x false q → I s → (q ≡ f) × I t)
    → ((s : S) (x : A) (t : S) (q : F) → steps s (Some x) t → CalledAt g f x true q → I s → D (Some x) t)
    → ((s t : S) → steps s None t → I s → D None t) → I s → D r u
find_ends steps g f s u r ran I D on hit over i = ends steps g f I D on hit over ran.0 s u f ran.1 r refl ran.2 ran.3 ran.4 i

-- the link to the first gap of n words, or none
abbrev pub SpotAnswer : List ℕ → ℕ → Option Link → Type 0
SpotAnswer ws n found =
    (gs : List Piece) → Chained ws gs → MatchOption found ((at : ℕ) × Spotted n gs at 0) (λ link. Spotted n gs link.before link.next)

module _ (ws vs us : List ℕ) (n : ℕ) (same : vs ≡ ws) (link link' : Link) (P : Passes ws n link.before link.next) where
  pub spot_on : (found : Link) → (us ≡ vs) × Follows vs link (Some found) link' → false ≡ leb n (size_at ws found.next)
      → (us ≡ ws) × Passes ws n link'.before link'.next
  spot_on found e h =
      (e.0 ∙ same, rw (e.1.3, e.1.4, same) (pass_on ws n link.before link.next P e.1.0 (rw e.1.2 at h)))

  pub spot_hit : (found : Link) → (us ≡ vs) × Follows vs link (Some found) link' → true ≡ leb n (size_at ws found.next) → SpotAnswer ws n (Some found)
  spot_hit found e h = rw (e.1.1, e.1.2) (spot_found ws n link.before link.next P (rw e.1.2 at h))

  pub spot_over : (us ≡ vs) × Follows vs link None link' → SpotAnswer ws n None
  spot_over e = λ gs G. (link.before, spot_none ws n link.before link.next P e.1.0 gs G)

-- the link where a piece from an address on belongs, which is broken or ends the chain
abbrev pub SeekAnswer : List ℕ → ℕ → ℕ → Option Link → ℕ → Type 0
SeekAnswer ws from at found last =
    (gs : List Piece) → Chained ws gs → InChain from gs → MatchOption found (Sought at gs last 0) (λ link. Sought at gs link.before link.next)

pub sought : (at : ℕ) (gs : List Piece) (found : Option Link) (end : Link) → end.next ≡ 0
    → MatchOption found (Sought at gs end.before 0) (λ link. Sought at gs link.before link.next)
    → Sought at gs (unwrap_or found end).before (unwrap_or found end).next
sought at gs None end z s = subst (λ (k : ℕ). Sought at gs end.before k) (sym z) s
sought at gs (Some link) end z s = s

module _ (ws vs us : List ℕ) (from at : ℕ) (same : vs ≡ ws) (link link' : Link) (P : Seeks ws from at link.before link.next) where
  pub seek_goes_on : (found : Link) → (us ≡ vs) × Follows vs link (Some found) link' → false ≡ ltb at found.next
      → (us ≡ ws) × Seeks ws from at link'.before link'.next
  seek_goes_on found e h =
      (e.0 ∙ same, rw (e.1.3, e.1.4, same) (seek_on ws from at link.before link.next P e.1.0 (ltb-false at link.next (sym (rw e.1.2 at h)))))

  pub seek_hit : (found : Link) → (us ≡ vs) × Follows vs link (Some found) link' → true ≡ ltb at found.next → SeekAnswer ws from at (Some found) link'.before
  seek_hit found e h = rw (e.1.1, e.1.2) (seek_stop ws from at link.before link.next P (ltb-true at link.next (sym (rw e.1.2 at h))))

  pub seek_over : (us ≡ vs) × Follows vs link None link' → SeekAnswer ws from at None link'.before
  seek_over e = rw e.1.1 (seek_end ws from at link.before link.next P e.1.0)
