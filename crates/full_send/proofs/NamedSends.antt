-- The subvolume of a name that is written, and what is promised of that.
use Rattle.std.specs.Prelude.{◌≡◌, ℕ, ◌<◌, List, [], ◌++◌, length, Option, None, Some, Err, IsTrue, IfSome}
use Rattle.std.proofs.KnownBytes.{Appends-nil}
use Rattle.std.proofs.Common.{refl, sym, ap, subst, ◌∙◌, arith}
use Rattle.send_model.specs.Headline.{IsProperFrontOf}
use Rattle.send_model.specs.Path.{is_name}
use Rattle.send_model.specs.Spelling.{stream_header}
use Rattle.send_model.specs.Subvolume.{Subvolume}
use Rattle.send_model.specs.Store.{Key, Entry, Store, IsStore, find}
use Rattle.send_model.proofs.PathLaws.{is_name_length}
use Rattle.send_model.proofs.Sorts.{same_inside}
use Rattle.store_model.specs.Dues.{complete_named}
use Rattle.subvol_catalog.specs.Entries.{AreNamed, named}
use Rattle.snapshot_model.specs.HeldStores.{StandsHeld, Form, formed}
use Rattle.snapshot_model.specs.Restored.{restored_stream}
use Rattle.snapshot_model.specs.Sent.{sent_stream, sent_version}
use Rattle.snapshot_model.specs.SentLaws.{IsNew, FileIsReceivedAs}
use Rattle.snapshot_model.specs.StoredLaws.{StoredIsReceived}
use Rattle.snapshot_model.proofs.Holes.{image_is_one_held}
use Rattle.snapshot_model.proofs.StoredSent.{sent_of_stores, restored_of_stores}
use Rattle.inode_commands.specs.Spelled.{HasLength}
use Rattle.group_replay.specs.declared.place.Place.{Place}
use Rattle.group_replay.specs.Kept.{IsKept, AreKept}
use Rattle.store_commands.specs.declared.ends.StoreEnd.TheVariants as made
use Rattle.store_commands.proofs.FoundFiles.{IsFoundIn, all_found}
use Rattle.store_commands.proofs.Named.{named_holds}
use Rattle.sx_base.specs.Calls.{Wrote}
use Rattle.sx_base.specs.declared.outcome.Outcome.TheVariants as ended
use Rattle.full_send.specs.declared.entries.Order.{Order}
use Rattle.full_send.specs.declared.entries.Order.TheVariants as order
use Rattle.full_send.specs.Orders.{form_of, StreamEnds}
use Rattle.snapshot_model.specs.Promises.{OfNamed, IsReceivedAnew, IsUnfinished}

abbrev Found : Type 0
Found = Entry (Subvolume (Option ℕ)) × Subvolume (Option ℕ)

-- ---- the entry

module _ (core : Store (Option Place)) (name : List ℕ) (e : Entry (Subvolume (Option Place))) (there : named name core ≡ Some e) where
  pub name_short : AreNamed core → HasLength e.name
  name_short all = let l = is_name_length e.name (named_holds name (λ x. IsTrue (is_name x.name)) core e all there) in omega (arith, l.1)

  module _ (s : Subvolume (Option Place)) (holds : e.contents ≡ Some s) where
    pub found_by : IsStore core → find core e.key ≡ Some s
    found_by distinct = named_holds name (IsFoundIn core) core e (all_found core distinct) there s holds

    pub kept_by : (end : ℕ) → AreKept end core → IsKept end s
    kept_by end kept = subst (λ (o : Option (Subvolume (Option Place))). IfSome o (IsKept end)) holds (named_holds name (λ x. IfSome x.contents (IsKept end)) core e kept there)

-- ---- what is promised

module _ (image name : List ℕ) (s : Store (Option ℕ)) (stands : StandsHeld image s) (found : Found) (here : complete_named name s ≡ Some found) where
  -- There is no other one of the name.
  of_named : (P : Found → Type 0) → P found → OfNamed image name P
  of_named P p t other more is =
      let same : Some found ≡ Some more = sym here ∙ ap (complete_named name) (image_is_one_held image s t stands other) ∙ is in
      subst P (same_inside same) p

  received_by : (o : Order) (written : List ℕ) → StoredIsReceived (form_of o) → written ≡ formed (form_of o) (Some found) → IsReceivedAnew image name written
  received_by o written law is = of_named (λ found. (other : Store ℕ) → IsNew found.0.name found.0.key other → FileIsReceivedAs found.0.name found.0.key found.1 other written)
      (λ other new. subst (FileIsReceivedAs found.0.name found.0.key found.1 other) (sym is) (law image name s found other stands here new))

  -- All of it is written, and so it is received.
  pub is_received : (o : Order) (written : List ℕ) → written ≡ formed (form_of o) (Some found) → IsReceivedAnew image name written
  is_received order.Sent written is = received_by order.Sent written sent_of_stores is
  is_received order.Restored written is = received_by order.Restored written restored_of_stores is

  pub is_unfinished : (form : Form) (written : List ℕ) → IsProperFrontOf (formed form (Some found)) written → IsUnfinished form image name written
  is_unfinished form written p = of_named (λ found. IsProperFrontOf (formed form (Some found)) written) p

-- ---- where nothing is written

header_some : (version : ℕ) (rest : List ℕ) → 0 < length (stream_header version ++ rest)
unfolding stream_header
header_some version rest = omega arith

some_formed : (o : Order) (found : Found) → 0 < length (formed (form_of o) (Some found))
unfolding sent_stream restored_stream
some_formed order.Sent found = header_some (sent_version found.1) _
some_formed order.Restored found = header_some (sent_version found.1) _

-- Nothing is less than a whole stream.
pub nothing_unfinished : (o : Order) (image name : List ℕ) → IsUnfinished (form_of o) image name []
nothing_unfinished o image name store stands found here = record { count = 0; within = some_formed o found; written_is = refl }

-- There is no memory for the first of it.
pub nothing_stopped : (o : Order) (name : List ℕ) (key : Key) (s : Subvolume (Option ℕ)) (taken : Option (List ℕ)) → Wrote taken taken (StreamEnds (form_of o name key s) (Err (made.Ends ended.NoMemory)))
nothing_stopped o name key s taken = ([], Appends-nil taken, (record { count = 0; within = omega arith; written_is = refl }, record { count = 0; within = some_formed o (record { name = name; key = key; parent = None; contents = None }, s); written_is = refl }))
