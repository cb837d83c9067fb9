-- What a disk that tells has where receiving ends at an item.
use Rattle.std.specs.Prelude.{◌≡◌, ◌≤◌, ℕ, List, [], ◌∷◌, ◌++◌, Option, None, Some, Err}
use Rattle.std.proofs.Common.{inl, inr, refl, sym, ap, subst, ◌∙◌, append_assoc, append-nil}
use Rattle.sx_base.specs.declared.disk.Disk as keeping
use Rattle.sx_base.specs.Disk.{Pending, IsImage}
use Rattle.sx_base.specs.Crash.{LeavesOnly}
use Rattle.sx_base.proofs.DiskMoments.{leaves_now}
use Rattle.sx_base.specs.declared.outcome.Outcome.TheVariants as ended
use Rattle.send_model.specs.Refusal as meant
use Rattle.send_model.specs.Reading.{Item}
use Rattle.send_model.specs.Store.{Store, After}
use Rattle.send_model.specs.Guards.{Guard}
use Rattle.send_model.specs.Due.{Stop}
use Rattle.store_model.specs.Image.{Header}
use Rattle.store_model.specs.Stored.{Group}
use Rattle.store_model.specs.Dues as dues
use Rattle.store_model.specs.Dues.{first_full, item_pieces}
use Rattle.store_model.specs.Written.{Begun, begun_by, closed_by}
use Rattle.store_model.proofs.PassedStates.{IsOn}
use Rattle.auditor.specs.Following.{Followed, beside, follow}
use Rattle.store_journal.specs.Shown.{StoreState}
use Rattle.store_journal.specs.Holding.{HasThese}
use Rattle.receiver.specs.declared.opened.Opened.{Opened}
use Rattle.receiver.specs.declared.outcome.Received.{Received}
use Rattle.receiver.specs.declared.outcome.Received.TheVariants as how
use Rattle.receiver.specs.Standing.{line_due, behind_close, place_of, IsReady}
use Rattle.receiver.specs.Answers.{StepSays, PiecesSay}
use Rattle.receiver.specs.Steps.{blank_of, line_under, begun_if}
use Rattle.receiver.specs.Disks.{HasVersion, HasFront, work, HasNow, RunsOn, StopsOn, marked}
use Rattle.receiver.specs.Running.{byte_step, Spot, IsAt}
use Rattle.receiver.proofs.Unpacked.{KeepsSays, Keeps, EndHas, IsLeft}
use Rattle.receiver.proofs.PrintedLines.{PartLine}
use Rattle.receiver.proofs.Leading.{the_guards, the_place, the_line, the_step}
use Rattle.receiver.proofs.LeftItems.{brought}
use Rattle.receiver.proofs.LeftGroups.{some_left, closed_left, refused_left, full_left}
use Rattle.receiver.proofs.DiskRuns.{run_stopped}
use Rattle.receiver.proofs.ItemEnds.{WrittenAs}

module _ (limit : ℕ) (base : Store ℕ) (old : Spot) (item : Item) (guards : List Guard) (len : ℕ) (store : StoreState) (current : Option Opened) (at : IsAt old guards store current) (on : IsOn base old.watched.state.store old.watched.state.part) (ready : IsReady len current store)
    (next_guards : List Guard) (next : StoreState) (next_current : Option Opened) (header : Header) (there : List Group) (seen : List ℕ) (pending : Pending) where
  guards_are : old.watched.guards ≡ guards
  guards_are = the_guards limit base old item guards len store current at on ready

  refusals_are : (byte_step old.watched item).refusal ≡ (follow (beside guards (blank_of store current)) item).refusal
  refusals_are = ap (λ (a : After Followed). a.refusal) (the_step limit base old item guards len store current at on ready (follow (beside guards (blank_of store current)) item) refl)

  closes_are : closed_by old.watched.guards item.command old.begun ≡ closed_by guards item.command old.begun
  closes_are = ap (λ (gs : List Guard). closed_by gs item.command old.begun) guards_are

  begins_are : begun_if (byte_step old.watched item) item.command ≡ begun_if (follow (beside guards (blank_of store current)) item) item.command
  begins_are = ap (λ (o : Option meant.Refusal). elim o as (λ x. List Group) [ Some refusal ↦ [] | None ↦ begun_by item.command ]) refusals_are

  line_is : brought base old.watched item (line_due current) on (the_line limit base old item guards len store current at on ready) item ≡ line_under guards current item.command
  line_is = ap (λ (gs : List Guard). line_under gs current item.command) guards_are

  module _ (lines : List ℕ) (extra : List Item) (stop : Stop) where
    abbrev closes : List Group
    closes = closed_by guards item.command old.begun

    abbrev own : List Group
    own = closed_by old.watched.guards item.command old.begun

    abbrev line_there : PartLine old.watched.state.part old.watched.state.store (line_due current)
    line_there = the_line limit base old item guards len store current at on ready

    abbrev Kept : List Group → Type 0
    Kept first = (begun : Option Begun) × Keeps header (there ++ first) begun next_current next seen pending

    abbrev Had : List ℕ → List Group → Type 0
    Had image first = HasThese header (there ++ first) image

    whole_line : lines ≡ line_under guards current item.command → brought base old.watched item (line_due current) on line_there item ≡ lines ++ []
    whole_line is = line_is ∙ sym is ∙ sym (append-nil lines)

    behind_closed : (image : List ℕ) (f : HasFront header (there ++ closes) (begun_if (follow (beside guards (blank_of store current)) item) item.command) image) → Had image (own ++ f.first)
    behind_closed image f =
        subst (λ (l : List Group). Had image (l ++ f.first)) (sym closes_are) (subst (λ (l : List Group). HasThese header l image) (append_assoc there closes f.first) f.has)

    -- The disk has what the item says of it.
    pub item_left : (all : List Group) (after : Option Begun) (why : Received) → StepSays (Err why) item (beside next_guards (blank_of next next_current)) (follow (beside guards (blank_of store current)) item)
        → PiecesSay (Err why) limit (behind_close current item.command (place_of store current)) (place_of next next_current) item
        → WrittenAs why ((image : List ℕ) → IsImage pending image → HasFront header (there ++ closed_by guards item.command old.begun) (begun_if (follow (beside guards (blank_of store current)) item) item.command) image) (line_under guards current item.command) lines
        → KeepsSays (Err why) (λ groups begun. Keeps header groups begun next_current next seen pending) (λ groups. (image : List ℕ) → IsImage pending image → HasThese header groups image)
        (there ++ closed_by guards item.command old.begun) (there ++ (closed_by guards item.command old.begun ++ marked limit (behind_close current item.command (place_of store current)) item.command)) all after
        → ((image : List ℕ) → IsImage pending image → HasFront header there (closed_by guards item.command old.begun ++ begun_if (follow (beside guards (blank_of store current)) item) item.command) image)
        → EndHas why header there next_current next seen pending (λ H. IsLeft why limit base old (record { items = item ∷ extra; stop = stop }) lines H)
    item_left all after (how.Files (ended.Refused verdict)) says pieces written kept front =
        let refusal : (byte_step old.watched item).refusal ≡ Some says.refusal = refusals_are ∙ ap (λ (a : After Followed). a.refusal) says.after_is in
        subst (λ (ls : List ℕ). IsLeft (how.Files (ended.Refused verdict)) limit base old (record { items = item ∷ extra; stop = stop }) ls Kept) (line_is ∙ sym written)
        (refused_left limit base old item (line_due current) on line_there extra stop Kept (ended.Refused verdict) says.refusal refusal (subst Kept (sym closes_are) kept))
    item_left all after (how.Files ended.OutputFault) says pieces written kept front =
        closed_left limit base old item (line_due current) on line_there extra stop Kept (how.Files ended.OutputFault) [] (begun_if (byte_step old.watched item) item.command) lines written.0 (λ P. (tt, tt)) refl (line_is ∙ written.1)
        (subst Kept (sym (append-nil own)) (subst Kept (sym closes_are) kept))
    item_left all after (how.Files ended.NoMemory) says pieces written kept front = λ image is. let f = written.1 image is in
        closed_left limit base old item (line_due current) on line_there extra stop (Had image) (how.Files ended.NoMemory) f.first f.more lines [] (λ P. (tt, tt)) (begins_are ∙ f.all) (whole_line written.0) (behind_closed image f)
    item_left all after (how.Files ended.InputFault) says pieces written kept front = absurd says
    item_left all after (how.Files ended.Done) says pieces written kept front = absurd says
    item_left all after (how.Files (ended.InputTooLong file)) says pieces written kept front = absurd says
    item_left all after (how.Files (ended.TooMuch sum)) says pieces written kept front = absurd says
    item_left all after (how.Files (ended.InputChanged file place)) says pieces written kept front = absurd says
    item_left all after how.StoreFault says pieces (inl none) kept front = λ image is. let f = front image is in
        subst (λ (ls : List ℕ). IsLeft how.StoreFault limit base old (record { items = item ∷ extra; stop = stop }) ls (Had image)) (sym none)
        (some_left limit base old item (line_due current) on line_there extra stop (Had image) how.StoreFault f.first f.more (λ P. (tt, tt)) ((λ i. closes_are i ++ begins_are i) ∙ f.all) f.has)
    item_left all after how.StoreFault says pieces (inr sure) kept front = λ image is. let f = sure.1 image is in
        closed_left limit base old item (line_due current) on line_there extra stop (Had image) how.StoreFault f.first f.more lines [] (λ P. (tt, tt)) (begins_are ∙ f.all) (whole_line sure.0) (behind_closed image f)
    item_left all after (how.LogFull end wanted most) says pieces written kept front = λ image is.
        let place_is = the_place limit base old item guards len store current at on ready in
        subst (λ (ls : List ℕ). IsLeft (how.LogFull end wanted most) limit base old (record { items = item ∷ extra; stop = stop }) ls (Had image)) (line_is ∙ sym written)
        (full_left limit base old item (line_due current) on line_there extra stop (Had image) end wanted most (dues.LogFull end wanted most) (refusals_are ∙ says)
        (ap (λ (n : ℕ). first_full limit (item_pieces n item)) place_is ∙ pieces)
        (subst (Had image) (λ i. sym closes_are i ++ marked limit (sym place_is i) item.command) (kept image is)))

written_then : (why : Received) (Sure Sure_now : Type 0) (line lines : List ℕ) → (Sure → Sure_now) → WrittenAs why Sure line lines → WrittenAs why Sure_now line lines
written_then (how.Files (ended.Refused verdict)) Sure Sure_now line lines f w = w
written_then (how.Files ended.NoMemory) Sure Sure_now line lines f w = (w.0, f w.1)
written_then (how.Files ended.OutputFault) Sure Sure_now line lines f w = w
written_then (how.Files ended.InputFault) Sure Sure_now line lines f w = absurd w
written_then (how.Files ended.Done) Sure Sure_now line lines f w = absurd w
written_then (how.Files (ended.InputTooLong file)) Sure Sure_now line lines f w = absurd w
written_then (how.Files (ended.TooMuch sum)) Sure Sure_now line lines f w = absurd w
written_then (how.Files (ended.InputChanged file place)) Sure Sure_now line lines f w = absurd w
written_then how.StoreFault Sure Sure_now line lines f (inl none) = inl none
written_then how.StoreFault Sure Sure_now line lines f (inr sure) = inr (sure.0, f sure.1)
written_then (how.LogFull end wanted most) Sure Sure_now line lines f w = w

-- Behind the commands that were taken.
module _ {D : Type 0} (ghosts : keeping.Ghosts D) (old mid new : D) (counts : ghosts.tells → (image : List ℕ) → ghosts.moment mid ≤ ghosts.moment new → IsImage (ghosts.pending new) image → ghosts.left_since new (ghosts.moment mid) image)
    (limit : ℕ) (base : Store ℕ) (item : Item) (guards : List Guard) (len : ℕ) (was store : StoreState) (current : Option Opened) (ready : IsReady len current store) (next_guards : List Guard) (next : StoreState) (next_current : Option Opened) (most : store.log.limit ≡ limit) where
  pub run_left : (why : Received) (all : Option Begun → List Group → List Group) (after : Option Begun → Option Begun) → StepSays (Err why) item (beside next_guards (blank_of next next_current)) (follow (beside guards (blank_of store current)) item)
      → PiecesSay (Err why) limit (behind_close current item.command (place_of store current)) (place_of next next_current) item
      → (ghosts.tells → (header : Header) (groups : List Group) (begun : Option Begun) → HasVersion item.version begun → Keeps header groups begun current store (ghosts.seen mid) (ghosts.pending mid)
      → KeepsSays (Err why) (λ groups begun. Keeps header groups begun next_current next (ghosts.seen new) (ghosts.pending new)) (λ groups. (image : List ℕ) → IsImage (ghosts.pending new) image → HasThese header groups image)
      (groups ++ closed_by guards item.command begun) (groups ++ (closed_by guards item.command begun ++ marked store.log.limit (behind_close current item.command (place_of store current)) item.command)) (all begun groups) (after begun))
      → (ghosts.tells → (header : Header) (groups : List Group) (begun : Option Begun) → HasVersion item.version begun → Keeps header groups begun current store (ghosts.seen mid) (ghosts.pending mid)
      → LeavesOnly ghosts.moment ghosts.left_since mid new (HasFront header groups (closed_by guards item.command begun ++ begun_if (follow (beside guards (blank_of store current)) item) item.command)))
      → (spot : Spot) (lines : List ℕ) (extra : List Item) (stop : Stop) (groups : List Group) (V : (List Group → Type 0) → Type 0) → IsAt spot guards store current → IsOn base spot.watched.state.store spot.watched.state.part
      → WrittenAs why (HasNow ghosts (work mid store current) new item.version (closed_by guards item.command) (begun_if (follow (beside guards (blank_of store current)) item) item.command)) (line_under guards current item.command) lines
      → HasVersion item.version spot.begun → RunsOn ghosts (work old was None) (work mid store current) None groups spot.begun
      → ((H G : List Group → Type 0) → ((first : List Group) → H first → G (groups ++ first)) → IsLeft why limit base spot (record { items = item ∷ extra; stop = stop }) lines H → V G)
      → StopsOn ghosts (work old was None) (work new next next_current) why V
  run_left why all after stepped pieces keeps moments spot lines extra stop groups V at on written version run moved =
      let followed : After Followed = follow (beside guards (blank_of store current)) item in
      let place : ℕ = behind_close current item.command (place_of store current) in
      run_stopped ghosts old mid new was store next current next_current groups spot.begun why (λ H. IsLeft why limit base spot (record { items = item ∷ extra; stop = stop }) lines H) V run
      (λ told header there kept.
      item_left limit base spot item guards len store current at on ready next_guards next next_current header there (ghosts.seen new) (ghosts.pending new) lines extra stop (all spot.begun there) (after spot.begun) why stepped pieces
      (written_then why (HasNow ghosts (work mid store current) new item.version (closed_by guards item.command) (begun_if followed item.command))
      ((image : List ℕ) → IsImage (ghosts.pending new) image → HasFront header (there ++ closed_by guards item.command spot.begun) (begun_if followed item.command) image)
      (line_under guards current item.command) lines (λ now. now told header there spot.begun version kept) written)
      (subst (λ (n : ℕ). KeepsSays (Err why) (λ gs begun. Keeps header gs begun next_current next (ghosts.seen new) (ghosts.pending new)) (λ gs. (image : List ℕ) → IsImage (ghosts.pending new) image → HasThese header gs image)
      (there ++ closed_by guards item.command spot.begun) (there ++ (closed_by guards item.command spot.begun ++ marked n place item.command)) (all spot.begun there) (after spot.begun)) most (keeps told header there spot.begun version kept))
      (λ image is. leaves_now ghosts.pending (moments told header there spot.begun version kept) (counts told) image is))
      moved
