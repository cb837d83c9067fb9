-- A worked example of export over a store: a snapshot of a subvolume that the store has, whose part
-- gets another name. It meets all premises of the law, so what is exported of it keeps the promise.
use Rattle.std.specs.Prelude.{◌≡◌, ◌&&◌, ◌<◌, ℕ, Bool, true, false, nat_lt, List, [], ◌∷◌, None, Some, codes}
use Rattle.std.specs.List.{list_all}
use Rattle.std.proofs.Common.{refl, subst, lit<}
use Rattle.std.proofs.lemmas.Bool.{ltb-true, false≢true}
use Rattle.send_model.specs.Attribute.{IsBytes}
use Rattle.send_model.specs.Reading.{input}
use Rattle.send_model.specs.Store.{Store, completed}
use Rattle.send_model.specs.Receive.{run_by, run_items, receive_items, receive, start_of}
use Rattle.send_model.specs.Guards.{guard_refuses, guard_after, refused_from, looked}
use Rattle.send_model.specs.Lengths.{is_too_long}
use Rattle.send_model.specs.Due.{DoneWhole, limited_from, audit_due_of}
use Rattle.send_model.specs.Exported.{byte_step, exported_of, CanExportOver, AreSmallBy}
use Rattle.send_model.specs.Overridden.{Overrides, overridden, overridden_limited}
use Rattle.send_model.proofs.ExampleWords.{key, one_file, reading_words, composing_words}
use Rattle.send_model.proofs.ReadingExamples.{first_stream, second_stream}
use Rattle.send_model.proofs.Moments.{received_can_export}
use Rattle.send_model.proofs.ExportedStreams.{none_can}
use Rattle.send_model.specs.ExportPromises.{IsExportedOf}
use Rattle.send_model.proofs.ExportedReadings.{named_export_holds}

unfoldable export_words : Unit {0}
unfolding reading_words composing_words run_by run_items receive_items guard_refuses guard_after refused_from looked is_too_long limited_from first_stream second_stream
export_words = tt

small : (bytes : List ℕ) → list_all (λ b. nat_lt b 256) bytes ≡ true → IsBytes bytes
small [] e = tt
small (b ∷ bytes) e = one (nat_lt b 256) refl e (λ q. small bytes q)
  where
    one : (t : Bool) → nat_lt b 256 ≡ t → t && list_all (λ b. nat_lt b 256) bytes ≡ true → (list_all (λ b. nat_lt b 256) bytes ≡ true → IsBytes bytes) → (b < 256) × IsBytes bytes
    one true q f more = (ltb-true b 256 q, more f)
    one false q f more = absurd (false≢true f)

-- the store with the first subvolume, as its stream leaves it
abbrev with_a : Store ℕ
with_a = record { name = codes "a"; key = key 0x11 1; parent = None; contents = Some (one_file (codes "hi") (codes "x" ∷ [])) } ∷ []

a_received : completed (receive [] (first_stream ∷ [])).state ≡ with_a
unfolding export_words
a_received = refl

first_bytes : IsBytes first_stream
unfolding export_words
first_bytes = small first_stream refl

second_bytes : IsBytes second_stream
unfolding export_words
second_bytes = small second_stream refl

over_a : CanExportOver with_a
over_a = subst CanExportOver a_received (received_can_export [] (first_stream ∷ []) none_can (first_bytes, tt))

-- a name for the part
abbrev given : Overrides
given = record { name = Some (codes "copy"); parents = [] } ∷ []

second_taken : audit_due_of with_a [] (overridden_limited given (limited_from 1 (second_stream ∷ []))) ≡ DoneWhole
unfolding export_words
second_taken = refl

second_small : AreSmallBy byte_step (start_of with_a) (overridden given (input (second_stream ∷ []))).items
unfolding export_words AreSmallBy
second_small = (tt, (lit< tt, (lit< tt, tt)))

exported_over_a : IsExportedOf with_a (overridden given (input (second_stream ∷ []))) (exported_of with_a (overridden_limited given (limited_from 1 (second_stream ∷ []))).items)
exported_over_a = named_export_holds with_a given (second_stream ∷ []) (λ e. cc) over_a (second_bytes, tt) (record { name = record { bytes = small (codes "copy") refl; short = lit< tt }; parents = tt }, tt) second_taken second_small
