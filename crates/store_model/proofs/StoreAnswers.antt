-- One answer is due to a word over a store; and what is due to receiving is what is due to an
-- audit, unless there is no room.
use Rattle.std.specs.Prelude.{◌≡◌, ◌⊎◌, ℕ, ◌+◌, ◌<◌, Bool, true, false, List, [], ◌∷◌, length, map, Option, None, Some, nat_lt, if◌then◌else◌}
use Rattle.std.proofs.Common.{inl, inr, refl, sym, ap, subst, ◌∙◌}
use Rattle.std.proofs.lemmas.Bool.{ltb-true}
use Rattle.send_model.specs.Refusal.{Refusal}
use Rattle.send_model.specs.Reading.{Item, Verdict}
use Rattle.send_model.specs.Store.{Store, State, After, step}
use Rattle.send_model.specs.Receive.{run_by, then_run, verdict_of, byte_cells, start_of}
use Rattle.send_model.specs.Guards.{Guard, Watched, watched_step}
use Rattle.send_model.specs.Sources.{Sources, due_of}
use Rattle.send_model.specs.Words as streams
use Rattle.send_model.specs.Due as dues
use Rattle.send_model.specs.Due.{RefusedAt, Limited, stop_due}
use Rattle.store_model.specs.NamedFiles.{NamedFiles, read_of}
use Rattle.store_model.specs.Image.{limit_of, front_of, reserve}
use Rattle.store_model.specs.Stored.{body_bytes, StandsFor, StandsForNone}
use Rattle.store_model.specs.Dues.{Due, Ends, NotStore, Missing, LogFull, StoreThere, Damaged, OverStore, first_full, end_behind, item_pieces, place_after, or_due, receive_from, receive_due, list_due, show_due, cat_due, drop_due, IsReceiveDue, IsDropDue}
use Rattle.store_model.specs.Requests.{word_at, store_of, reads_store, base_over, IsStreamsDue, OfStreams, InitStore, DropEntry, ReceiveFiles, ListStore, ShowEntry, CatFile, ScrubStore, OneDue, ReceiveIsAudit}
use Rattle.send_model.proofs.Sorts.{same_inside}
use Rattle.store_model.proofs.OneJournal.{one_header, one_journal}
use Rattle.store_model.proofs.OneStore.{one_store, never_both, one_fault_group}
use Rattle.store_model.proofs.ScrubLaws.{one_scrub}

-- ---- over a store

-- what is due is that there is none, or what is due over the store
data View (image : List ℕ) (over : Store ℕ → Due → Type 0) (due : Due) : Type 0 where
  OfNone : (group : ℕ) → StandsForNone image group → due ≡ NotStore group → View image over due
  OfStore : (store : Store ℕ) → StandsFor image store → over store due → View image over due

view : (image : List ℕ) (over : Store ℕ → Due → Type 0) (due : Due) → OverStore image over due → View image over due
view image over (NotStore group) h = OfNone group h refl
view image over (Ends due) h = OfStore h.0 h.1 h.2
view image over (Missing what) h = OfStore h.0 h.1 h.2
view image over (LogFull end wanted limit) h = OfStore h.0 h.1 h.2
view image over (StoreThere size) h = absurd h
view image over (Damaged group stored computed) h = absurd h

over_one : (image : List ℕ) (over : Store ℕ → Due → Type 0) → ((store : Store ℕ) (d e : Due) → over store d → over store e → d ≡ e) → (d e : Due) → OverStore image over d → OverStore image over e → d ≡ e
over_one image over once d e x y = one (view image over d x) (view image over e y)
  where
    one : View image over d → View image over e → d ≡ e
    one (OfNone g none is) (OfNone h other as_is) = is ∙ ap NotStore (one_fault_group image g h none other) ∙ sym as_is
    one (OfNone g none is) (OfStore store stands due) = absurd (never_both image store g stands none)
    one (OfStore store stands due) (OfNone g none is) = absurd (never_both image store g stands none)
    one (OfStore store stands due) (OfStore other also more) =
        once other d e (subst (λ (s : Store ℕ). over s d) (one_store 0 (λ place bytes. bytes) image store other stands also) due) more

-- the place of the closed gate and the limit of an image
pub gate_one : (image : List ℕ) (store : Store ℕ) (a b : StandsFor image store) → (limit_of a.header ≡ limit_of b.header) × (length (front_of a.header (map body_bytes a.groups)) ≡ length (front_of b.header (map body_bytes b.groups)))
gate_one image store a b =
    let header : a.header ≡ b.header = one_header image a.header b.header (map body_bytes a.groups) (map body_bytes b.groups) a.has b.has in
    let bodies : map body_bytes a.groups ≡ map body_bytes b.groups = one_journal image a.header b.header (map body_bytes a.groups) (map body_bytes b.groups) a.has b.has in
    (ap limit_of header, λ i. length (front_of (header i) (bodies i)))

receive_one : (image : List ℕ) (guards : List Guard) (files : NamedFiles) (store : Store ℕ) (d e : Due) → IsReceiveDue image guards files store d → IsReceiveDue image guards files store e → d ≡ e
receive_one image guards files store d e x y =
    let same = gate_one image store x.0 y.0 in
    x.1 ∙ (λ i. receive_due (same.0 i) (same.1 i) store guards files) ∙ sym y.1

drop_one : (image name : List ℕ) (store : Store ℕ) (d e : Due) → IsDropDue image name store d → IsDropDue image name store e → d ≡ e
drop_one image name store d e x y =
    let same = gate_one image store x.0 y.0 in
    x.1 ∙ (λ i. drop_due (same.0 i) (same.1 i) name store) ∙ sym y.1

by_answer : (image : List ℕ) (answer : Store ℕ → Due) (d e : Due) → OverStore image (λ s due. due ≡ answer s) d → OverStore image (λ s due. due ≡ answer s) e → d ≡ e
by_answer image answer d e x y = over_one image (λ s due. due ≡ answer s) (λ s a b p q. p ∙ sym q) d e x y

streams_one : (reads : Bool) (request : streams.Request) (image : List ℕ) (read : Sources) (d e : Due) → IsStreamsDue reads request image read d → IsStreamsDue reads request image read e → d ≡ e
streams_one true request image read d e x y = by_answer image (λ s. Ends (due_of request (base_over request read s) read)) d e x y
streams_one false request image read d e x y = x ∙ sym y

pub one_due : OneDue
one_due (OfStreams request) words image files d e are x y = streams_one (reads_store words (store_of request)) request image (read_of files) d e x y
one_due (InitStore store) words image files d e are x y = x ∙ sym y
one_due (DropEntry store name) words image files d e are x y = over_one image (IsDropDue image _) (drop_one image _) d e x y
one_due (ReceiveFiles guards store at) words image files d e are x y = over_one image (IsReceiveDue image _ files) (receive_one image _ files) d e x y
one_due (ListStore store) words image files d e are x y = by_answer image list_due d e x y
one_due (ShowEntry store name) words image files d e are x y = by_answer image (show_due (word_at words name)) d e x y
one_due (CatFile store name path) words image files d e are x y = by_answer image (cat_due (word_at words name) (word_at words path)) d e x y
one_due (ScrubStore store) words image files d e are x y = (one_scrub image d e x.0 y.0 are x.1 y.1).0

-- ---- receiving and an audit

abbrev does : State ℕ → Item → After (State ℕ)
does s item = step 0 (byte_cells item) s item.command

-- the first piece without room
pub full_is : (limit : ℕ) (pieces : List (ℕ × ℕ)) (due : Due) → first_full limit pieces ≡ Some due → (end : ℕ) × (wanted : ℕ) × (due ≡ LogFull end wanted limit) × (limit < end + wanted + reserve)
unfolding first_full
full_is limit [] due is = cc
full_is limit (piece ∷ pieces) due is = one (nat_lt limit (piece.0 + piece.1 + reserve)) refl is (λ q. full_is limit pieces due q)
  where
    one : (b : Bool) → nat_lt limit (piece.0 + piece.1 + reserve) ≡ b → (if b then Some (LogFull piece.0 piece.1 limit) else first_full limit pieces) ≡ Some due
        → (first_full limit pieces ≡ Some due → (end : ℕ) × (wanted : ℕ) × (due ≡ LogFull end wanted limit) × (limit < end + wanted + reserve)) → (end : ℕ) × (wanted : ℕ) × (due ≡ LogFull end wanted limit) × (limit < end + wanted + reserve)
    one true e q more = (piece.0, piece.1, sym (same_inside q), ltb-true limit (piece.0 + piece.1 + reserve) e)
    one false e q more = more q

as_ended : Option Verdict → Option Due
as_ended None = None
as_ended (Some verdict) = Some (Ends (RefusedAt verdict))

-- What ends receiving is what a run refuses, or that there is no room.
abbrev Agrees : ℕ → Option Due → Option Verdict → Type 0
Agrees limit ended refused = (ended ≡ as_ended refused) ⊎ ((end : ℕ) × (wanted : ℕ) × (ended ≡ Some (LogFull end wanted limit)) × (limit < end + wanted + reserve))

agree : (limit place : ℕ) (w : Watched (State ℕ)) (items : List Item) → Agrees limit (receive_from limit place w items) (run_by (watched_step does) w items).refused
unfolding receive_from run_by as_ended
agree limit place w [] = inl refl
agree limit place w (item ∷ items) =
    let after : After (Watched (State ℕ)) = watched_step does w item in
    let at : ℕ = place_after w.state.part item.command place in
    let pieces : List (ℕ × ℕ) = item_pieces at item in
    one after.refusal after.state (first_full limit pieces) refl (end_behind at pieces) (agree limit (end_behind at pieces) after.state items)
  where
    one : (o : Option Refusal) (next : Watched (State ℕ)) (full : Option Due) → first_full limit (item_pieces (place_after w.state.part item.command place) item) ≡ full → (end : ℕ)
        → Agrees limit (receive_from limit end next items) (run_by (watched_step does) next items).refused
        → Agrees limit (elim o as (λ x. Option Due) [
          | Some refusal ↦ Some (Ends (RefusedAt (verdict_of item refusal)))
          | None ↦ elim full as (λ x. Option Due) [ Some due ↦ Some due | None ↦ receive_from limit end next items ]
        ]) (then_run item (record { state = next; refusal = o }) (run_by (watched_step does) next items)).refused
    one (Some refusal) next full e end more = inl refl
    one None next None e end more = more
    one None next (Some due) e end more =
        let f = full_is limit (item_pieces (place_after w.state.part item.command place) item) due e in
        inr (f.0, f.1, ap Some f.2, f.3)

pub receive_is_audit : ReceiveIsAudit
unfolding receive_due as_ended
receive_is_audit limit gate store guards files =
    let read : Limited = (read_of files).limited in
    let start : Watched (State ℕ) = record { guards = guards; state = start_of store } in
    one read (receive_from limit gate start read.items) (run_by (watched_step does) start read.items).refused (agree limit gate start read.items)
  where
    one : (read : Limited) (ended : Option Due) (refused : Option Verdict) → Agrees limit ended refused
        → (or_due ended (Ends (stop_due read.stop)) ≡ Ends (elim refused as (λ x. dues.Due) [ Some verdict ↦ RefusedAt verdict | None ↦ stop_due read.stop ]))
        ⊎ ((end : ℕ) × (wanted : ℕ) × (or_due ended (Ends (stop_due read.stop)) ≡ LogFull end wanted limit) × (limit < end + wanted + reserve))
    one read ended None (inl is) = inl (ap (λ (o : Option Due). or_due o (Ends (stop_due read.stop))) is)
    one read ended (Some verdict) (inl is) = inl (ap (λ (o : Option Due). or_due o (Ends (stop_due read.stop))) is)
    one read ended refused (inr full) = inr (full.0, full.1, ap (λ (o : Option Due). or_due o (Ends (stop_due read.stop))) full.2, full.3)
