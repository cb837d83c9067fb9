-- Where the edits of an entry are, on a disk that has them.
use Rattle.std.specs.Prelude.{◌≡◌, ℕ, List, map, Option, None}
use Rattle.std.proofs.Common.{refl, sym, subst, inl, inr}
use Rattle.store_model.specs.Image.{HasFault}
use Rattle.store_model.specs.Stored.{body_bytes}
use Rattle.store_model.proofs.OneJournal.{no_fault}
use Rattle.stream_model.specs.OwnStream.{Edits, last_edits}
use Rattle.group_log.specs.Stopping.{IsFaultOr}
use Rattle.group_log.specs.declared.stops.LogStop.{LogStop}
use Rattle.group_log.specs.declared.stops.LogStop.TheVariants.{DiskFault, NotStore, LogFull, StoreThere}
use Rattle.edits_copy.specs.declared.place.EditsPlace.{EditsPlace}
use Rattle.edits_copy.specs.Finding.{IsPlaceOf, FindsAll, FindStops, IsCausedStop}
use Rattle.store_commands.specs.declared.ends.StoreEnd.TheVariants as made
use Rattle.store_commands.specs.Ending.{end_at}
use Rattle.stream_back.specs.Writing.{Has, PlaceCaused}

-- Opening names no fault of a disk that has groups.
pub open_stops : (cause : Type 0) (image uuid : List ℕ) (why : LogStop) → Has image uuid → IsFaultOr cause (NotStore 0) why → (why ≡ NotStore 0 → HasFault image 0) → end_at why ≡ made.StoreFault
open_stops cause image uuid why has (inl is) fault = absurd (no_fault image has.header (map body_bytes has.groups) 0 has.has (fault is))
open_stops cause image uuid DiskFault has (inr failed) fault = refl
open_stops cause image uuid (NotStore group) has (inr failed) fault = absurd failed
open_stops cause image uuid (LogFull end wanted limit) has (inr failed) fault = absurd failed
open_stops cause image uuid (StoreThere size) has (inr failed) fault = absurd failed

-- Nor does the search.
pub find_stops : (cause : Type 0) (image uuid : List ℕ) (why : LogStop) → Has image uuid → IsCausedStop cause why → FindStops image why → end_at why ≡ made.StoreFault
find_stops cause image uuid DiskFault has caused says = refl
find_stops cause image uuid (NotStore group) has caused says = absurd (no_fault image has.header (map body_bytes has.groups) group has.has says)
find_stops cause image uuid (LogFull end wanted limit) has caused says = absurd caused
find_stops cause image uuid (StoreThere size) has caused says = absurd caused

-- And it finds them.
pub is_found : (image uuid : List ℕ) (place : Option EditsPlace) → Has image uuid → FindsAll image uuid place → place ≡ None → ⊥
is_found image uuid place has finds none =
    subst (λ (o : Option Edits). IsPlaceOf image o None) has.last (subst (λ (o : Option EditsPlace). IsPlaceOf image (last_edits uuid has.groups) o) none (finds has.header has.groups has.has has.lawful))

-- ---- causes

pub open_caused : (cause : Type 0) (why : LogStop) → IsFaultOr cause (NotStore 0) why → PlaceCaused cause (end_at why)
open_caused cause why (inl is) = subst (λ (w : LogStop). PlaceCaused cause (end_at w)) (sym is) tt
open_caused cause DiskFault (inr failed) = failed
open_caused cause (NotStore group) (inr failed) = absurd failed
open_caused cause (LogFull end wanted limit) (inr failed) = absurd failed
open_caused cause (StoreThere size) (inr failed) = absurd failed

pub find_caused : (cause : Type 0) (why : LogStop) → IsCausedStop cause why → PlaceCaused cause (end_at why)
find_caused cause DiskFault caused = caused
find_caused cause (NotStore group) caused = tt
find_caused cause (LogFull end wanted limit) caused = absurd caused
find_caused cause (StoreThere size) caused = absurd caused
