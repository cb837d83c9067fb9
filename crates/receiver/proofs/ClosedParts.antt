-- The part that is open is completed.
use Rattle.std.specs.Prelude.{◌≡◌, ℕ, ◌+◌, List, [], ◌∷◌, ◌++◌, Option, None, Some}
use Rattle.std.proofs.Common.{inl, inr, refl, sym, ap, subst, append-nil}
use Rattle.sx_base.specs.Disk.{Pending, IsImage}
use Rattle.sx_base.specs.Crash.{LeavesOnly}
use Rattle.sx_base.proofs.DiskMoments.{begins, weakens}
use Rattle.send_model.specs.Store.{with_contents, completed}
use Rattle.store_model.specs.Image.{Header}
use Rattle.store_model.specs.Stored.{Group, Body}
use Rattle.store_model.specs.Written.{Begun, body_of, closed}
use Rattle.group_log.proofs.GatedGroups.{rests_has}
use Rattle.store_journal.specs.Shown.{StoreState, IsIdle}
use Rattle.store_journal.specs.Holding.{bodies_of, new_group, HasThese, HasOneMore, Holds}
use Rattle.receiver.specs.declared.opened.Opened.{Opened}
use Rattle.receiver.specs.Standing.{IsReady, IsClosedAs}
use Rattle.receiver.specs.Disks.{HasFront}
use Rattle.receiver.proofs.Unpacked.{IsBuilt, Keeps}

pub none_closed : (len : ℕ) (current : Option Opened) (store : StoreState) → None ≡ current → IsReady len current store → IsClosedAs len current store store
unfolding completed
none_closed len None store e ready = record { core = refl; idle = ready; gate = refl }
none_closed len (Some o) store e ready = cc

pub one_closed : (len : ℕ) (current : Option Opened) (o : Opened) (old new : StoreState) → Some o ≡ current → new.core ≡ with_contents o.part.key.uuid o.part.subvolume old.core → IsIdle len new → new.log.gate ≡ old.log.size + 4
    → IsClosedAs len current old new
unfolding completed
one_closed len current o old new e core idle gate = subst (λ (c : Option Opened). IsClosedAs len c old new) e (record { core = core; idle = idle; gate = gate })

-- ---- of a disk that tells

module _ (header : Header) (groups : List Group) where
  -- where no part is open
  pub none_held : (begun : Option Begun) (current : Option Opened) (store : StoreState) (seen : List ℕ) (pending : Pending) → None ≡ current → Keeps header groups begun current store seen pending
      → (begun ≡ None) × Holds header groups store seen pending
  none_held None None store seen pending e keeps = (refl, keeps)
  none_held (Some b) None store seen pending e keeps = absurd keeps
  none_held begun (Some o) store seen pending e keeps = cc

  -- and where one is
  pub one_built : (begun : Option Begun) (current : Option Opened) (o : Opened) (store : StoreState) (seen : List ℕ) (pending : Pending) → Some o ≡ current → Keeps header groups begun current store seen pending
      → (b : Begun) × (begun ≡ Some b) × IsBuilt header groups b o store seen pending
  one_built begun current o store seen pending e keeps = by_begun begun (subst (λ (c : Option Opened). Keeps header groups begun c store seen pending) (sym e) keeps)
    where
      by_begun : (x : Option Begun) → Keeps header groups x (Some o) store seen pending → (b : Begun) × (x ≡ Some b) × IsBuilt header groups b o store seen pending
      by_begun None k = absurd k
      by_begun (Some b) k = (b, refl, k)

  pub no_more : (image : List ℕ) → HasThese header groups image → HasFront header groups [] image
  no_more image has = record { first = []; more = []; all = refl; has = subst (λ (l : List Group). HasThese header l image) (sym (append-nil groups)) has }

  pub one_front : (group : Group) (image : List ℕ) → HasOneMore header groups group image → HasFront header groups (group ∷ []) image
  one_front group image (inl has) = record { first = []; more = group ∷ []; all = refl; has = subst (λ (l : List Group). HasThese header l image) (sym (append-nil groups)) has }
  one_front group image (inr has) = record { first = group ∷ []; more = []; all = refl; has = has }

  same_body : (b : Begun) (uuid : List ℕ) → b.uuid ≡ uuid → new_group (Body uuid b.version b.commands) ≡ body_of b
  same_body b uuid e = ap (λ (u : List ℕ). new_group (Body u b.version b.commands)) (sym e)

  -- before any call
  pub none_moments : {D : Type 0} {moment : D → ℕ} {left_since : D → ℕ → List ℕ → Type 0} {pending : Pending} (disk : D) (begun : Option Begun) (current : Option Opened) (store : StoreState) (seen : List ℕ) → None ≡ current
      → Keeps header groups begun current store seen pending → ((image : List ℕ) → left_since disk (moment disk) image → IsImage pending image)
      → LeavesOnly moment left_since disk disk (HasFront header groups (closed begun))
  none_moments {D} {moment} {left_since} {pending} disk begun current store seen e keeps only =
      let held = none_held begun current store seen pending e keeps in
      subst (λ (b : Option Begun). LeavesOnly moment left_since disk disk (HasFront header groups (closed b))) (sym held.0)
      (begins disk only (λ image is. no_more image (rests_has header (bodies_of groups) _ _ _ held.1.rests image is)))

  -- after the part is complete, or while it was to be
  pub one_moments : {D : Type 0} {moment : D → ℕ} {left_since : D → ℕ → List ℕ → Type 0} {old new : D} (b : Begun) (begun : Option Begun) (uuid : List ℕ) → begun ≡ Some b → b.uuid ≡ uuid
      → LeavesOnly moment left_since old new (HasOneMore header groups (new_group (Body uuid b.version b.commands)))
      → LeavesOnly moment left_since old new (HasFront header groups (closed begun))
  one_moments {D} {moment} {left_since} {old} {new} b begun uuid is same run =
      subst (λ (x : Option Begun). LeavesOnly moment left_since old new (HasFront header groups (closed x))) (sym is)
      (weakens run (λ image has. one_front (body_of b) image (subst (λ (g : Group). HasOneMore header groups g image) (same_body b uuid same) has)))

  pub one_held : (b : Begun) (begun : Option Begun) (uuid : List ℕ) (store : StoreState) (seen : List ℕ) (pending : Pending) → begun ≡ Some b → b.uuid ≡ uuid
      → Holds header (groups ++ new_group (Body uuid b.version b.commands) ∷ []) store seen pending → Holds header (groups ++ closed begun) store seen pending
  one_held b begun uuid store seen pending is same holds =
      subst (λ (x : Option Begun). Holds header (groups ++ closed x) store seen pending) (sym is)
      (subst (λ (g : Group). Holds header (groups ++ g ∷ []) store seen pending) (same_body b uuid same) holds)
