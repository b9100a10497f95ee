-- What stays where a booking is refused.
use Rattle.std.proofs.Common.{◌≡◌, ℕ, List, length, ap, subst, sym, ◌∙◌, length-set}
use Rattle.std.proofs.Math.Nat.{ℕ_set}
use Rattle.std.specs.Prelude.{Result, Ok, Err, slice_set}
use Rattle.std.specs.Vec.{with_item}
use Rattle.std.specs.Global.{Vec}
use Rattle.reckoner.specs.Refusals.{OnRefused}
use Rattle.reckoner.specs.declared.booking.Failure.{Failure}
use Rattle.reckoner.specs.declared.house.House.{House}
use Rattle.reckoner.specs.declared.tree.Tree.{Tree}
use Rattle.reckoner.specs.declared.booking.Failure.TheVariants.{Refused, NoMemory}

abbrev with_list : {X : Type 0} (v : Vec X) (ys : List X) → v.len ≡ length ys → Vec X
with_list v ys q = record { ptr = v.ptr; len = v.len; cap = v.cap; alloc = v.alloc; items = ys; ok = (q, v.ok.1); small = v.small }

same_list : {X : Type 0} (v : Vec X) (ys : List X) (q : v.len ≡ length ys) → ys ≡ v.items → with_list v ys q ≡ v
same_list v ys q e = subst (λ zs. (r : v.len ≡ length zs) → with_list v zs r ≡ v) (sym e) (λ r. ap (with_list v v.items) (ℕ_set _ _ r v.ok.0)) q

pub written_back : {X : Type 0} (v : Vec X) (i : ℕ) (x : X) → slice_set v.items i x ≡ v.items → with_item v i x ≡ v
written_back v i x e = same_list v (slice_set v.items i x) (v.ok.0 ∙ sym (length-set v.items i x)) e

pub on_refused : {A P Q : Type 0} (r : Result A Failure) → (P → Q) → OnRefused r P → OnRefused r Q
on_refused (Ok _) f h = tt
on_refused (Err (NoMemory _)) f h = tt
on_refused (Err (Refused _)) f h = f h

abbrev pub with_names : House → Vec Tree → House
with_names house names = record { count = house.count; names = names }
