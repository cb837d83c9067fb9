-- The streams that are written of a stored snapshot make it anew; and requests that change no store
-- keep the image.
use Rattle.std.specs.Prelude.{◌≡◌, ℕ, List, [], Option}
use Rattle.std.proofs.Common.{sym, ap, subst, ◌∙◌}
use Rattle.send_model.specs.Store.{Entry, Store}
use Rattle.send_model.specs.Subvolume.{Subvolume}
use Rattle.send_model.specs.Due.{DoneWhole}
use Rattle.send_model.specs.Due as files_due
use Rattle.send_model.proofs.Sorts.{same_inside}
use Rattle.store_model.specs.Dues.{complete_named}
use Rattle.store_model.specs.Dues as dues
use Rattle.snapshot_model.specs.Sent.{sent_stream}
use Rattle.snapshot_model.specs.Restored.{restored_stream}
use Rattle.snapshot_model.specs.HeldStores.{Form, IsSendDue}
use Rattle.snapshot_model.specs.SentLaws.{FileIsReceivedAs}
use Rattle.snapshot_model.specs.StoredLaws.{StoredIsReceived}
use Rattle.snapshot_model.specs.Promises.{IsReceivedAnew}
use Rattle.archive_model.specs.Archive.{archived_form}
use Rattle.snapshot_model.proofs.Holes.{image_is_one_held}
use Rattle.snapshot_model.proofs.StoredSent.{sent_of_stores, restored_of_stores}
use Rattle.program_model.specs.Requests.{Base, Nothing, InStore, Compose, Audit, Dump, Text, Pack, Export, Squash, Gen, Trial, Init, Drop, Receive, ListAll, Show, Cat, Scrub, Send, Restore, Stream, Tar, Interleave}
use Rattle.program_model.specs.Profiles.{profile}
use Rattle.program_model.specs.Answers.{Answer, Done, Refused, Usage, InputFault, OutputFault, StoreFault, NoMemory, NoStore, IsMissing, IsFull, IsThere, IsDamaged, IsTooMuch, IsTooLong, InputChanged, Meaning, OfFiles, Says, of_files, of_store, of_base, read_again, packed_from, prints, scrubbed, sent_as, streamed}
use Rattle.program_model.specs.AnswerMeanings.{SentIsReceivedAnew, RestoredIsReceivedAnew, ReadersKeepTheImage}

abbrev Found : Type 0
Found = Entry (Subvolume (Option ℕ)) × Subvolume (Option ℕ)

-- What is due of a form makes the subvolume anew, where the form's streams are received.
due_anew : (form : Form) (image name written : List ℕ) → StoredIsReceived form → IsSendDue form image name (dues.Ends DoneWhole) written → IsReceivedAnew image name written
due_anew form image name written received due store stands found is other new =
    let there : Store (Option ℕ) = due.1.0 in
    let mine : Found = due.1.2.0 in
    let same_store : there ≡ store = image_is_one_held image there store due.1.1 stands in
    let same_found : mine ≡ found = same_inside (sym due.1.2.1 ∙ ap (λ (s : Store (Option ℕ)). complete_named name s) same_store ∙ is) in
    subst (λ (bytes : List ℕ). FileIsReceivedAs found.0.name found.0.key found.1 other bytes)
    (ap (λ (f : Found). form f.0.name f.0.key f.1) (sym same_found) ∙ sym due.1.2.2)
    (received image name store found other stands is new)

pub sent_is_received_anew : SentIsReceivedAnew
unfolding Says
sent_is_received_anew file name image bytes written left says = due_anew sent_stream image name written sent_of_stores says.1

pub restored_is_received_anew : RestoredIsReceivedAnew
unfolding Says
restored_is_received_anew file name image bytes written left says = due_anew restored_stream image name written restored_of_stores says.1

-- ---- stores that are only read

-- Whatever is answered, the image is as it was.
record Keeps (image : List ℕ) (meaning : Meaning) : Type 0 where
  due : (due : dues.Due) (written left : List ℕ) → meaning.due due written left → left ≡ image
  input : (written left : List ℕ) → meaning.input written left → left ≡ image
  changed : (written left : List ℕ) → meaning.changed written left → left ≡ image
  output : (written left : List ℕ) → meaning.output written left → left ≡ image
  memory : (written left : List ℕ) → meaning.memory written left → left ≡ image
  device : (written left : List ℕ) → meaning.device written left → left ≡ image

keeps_says : (image : List ℕ) (meaning : Meaning) → Keeps image meaning → (answer : Answer) (written left : List ℕ) → Says meaning answer written left → left ≡ image
unfolding Says
keeps_says image meaning k Done written left h = k.due (dues.Ends DoneWhole) written left h
keeps_says image meaning k (Refused verdict) written left h = k.due (dues.Ends (files_due.RefusedAt verdict)) written left h
keeps_says image meaning k Usage written left h = absurd h
keeps_says image meaning k InputFault written left h = k.input written left h
keeps_says image meaning k OutputFault written left h = k.output written left h
keeps_says image meaning k StoreFault written left h = k.device written left h
keeps_says image meaning k NoMemory written left h = k.memory written left h
keeps_says image meaning k (NoStore group) written left h = k.due (dues.NotStore group) written left h
keeps_says image meaning k (IsMissing what) written left h = k.due (dues.Missing what) written left h
keeps_says image meaning k (IsFull end wanted limit) written left h = k.due (dues.LogFull end wanted limit) written left h
keeps_says image meaning k (IsThere size) written left h = k.due (dues.StoreThere size) written left h
keeps_says image meaning k (IsDamaged group stored computed) written left h = k.due (dues.Damaged group stored computed) written left h
keeps_says image meaning k (IsTooMuch sum) written left h = k.due (dues.Ends (files_due.TooMuch sum)) written left h
keeps_says image meaning k (IsTooLong file) written left h = k.due (dues.Ends (files_due.TooLong file)) written left h
keeps_says image meaning k (InputChanged file place) written left h = k.changed written left h

module _ (image : List ℕ) where
  files_keep : (of : OfFiles) → Keeps image (of_files image of)
  files_keep of = record {
    due = λ due written left h. h.1.0;
    input = λ written left h. h.0;
    changed = λ written left h. absurd h;
    output = λ written left h. h.0;
    memory = λ written left h. h.0;
    device = λ written left h. absurd h;
  }

  store_keeps : (over : Store ℕ → OfFiles) → Keeps image (of_store image over)
  store_keeps over = record {
    due = λ due written left h. h.1.0;
    input = λ written left h. h.0;
    changed = λ written left h. absurd h;
    output = λ written left h. h.0;
    memory = λ written left h. h.0;
    device = λ written left h. h.0;
  }

  base_keeps : (base : Base) (over : Store ℕ → OfFiles) → Keeps image (of_base base image over)
  base_keeps Nothing over = files_keep (over [])
  base_keeps (InStore store) over = store_keeps over

  again_keeps : (meaning : Meaning) → Keeps image meaning → Keeps image (read_again meaning)
  again_keeps meaning k = record { due = k.due; input = k.input; changed = k.input; output = k.output; memory = k.memory; device = k.device }

  prints_keep : (due : Store ℕ → dues.Due) (whole : Store ℕ → List ℕ) → Keeps image (prints image due whole)
  prints_keep due whole = record {
    due = λ due written left h. h.1.0;
    input = λ written left h. absurd h;
    changed = λ written left h. absurd h;
    output = λ written left h. h.0;
    memory = λ written left h. h.0;
    device = λ written left h. h.0;
  }

  pack_keeps : (text : List ℕ) → Keeps image (packed_from image text)
  pack_keeps text = record {
    due = λ due written left h. h.0;
    input = λ written left h. h.0;
    changed = λ written left h. absurd h;
    output = λ written left h. h.0;
    memory = λ written left h. h.0;
    device = λ written left h. absurd h;
  }

  scrub_keeps : Keeps image (scrubbed image)
  scrub_keeps = record {
    due = λ due written left h. h.1.0;
    input = λ written left h. absurd h;
    changed = λ written left h. absurd h;
    output = λ written left h. h.0;
    memory = λ written left h. h.0;
    device = λ written left h. h.0;
  }

  sent_keeps : (form : Form) (name : List ℕ) → Keeps image (sent_as form image name)
  sent_keeps form name = record {
    due = λ due written left h. h.0;
    input = λ written left h. absurd h;
    changed = λ written left h. absurd h;
    output = λ written left h. h.0;
    memory = λ written left h. h.0;
    device = λ written left h. h.0;
  }

  streamed_keeps : (name : List ℕ) → Keeps image (streamed image name)
  streamed_keeps name = record {
    due = λ due written left h. h.0;
    input = λ written left h. absurd h;
    changed = λ written left h. absurd h;
    output = λ written left h. h.0;
    memory = λ written left h. h.0;
    device = λ written left h. h.0;
  }

pub readers_keep : ReadersKeepTheImage
unfolding profile
readers_keep (Compose base files) image bytes answer written left only = keeps_says image _ (again_keeps image _ (base_keeps image base _)) answer written left
readers_keep (Audit guards base files) image bytes answer written left only = keeps_says image _ (base_keeps image base _) answer written left
readers_keep (Export base files) image bytes answer written left only = keeps_says image _ (base_keeps image base _) answer written left
readers_keep (Squash base files) image bytes answer written left only = keeps_says image _ (base_keeps image base _) answer written left
readers_keep (Dump file) image bytes answer written left only = keeps_says image _ (files_keep image _) answer written left
readers_keep (Text file) image bytes answer written left only = keeps_says image _ (files_keep image _) answer written left
readers_keep (Pack file) image bytes answer written left only = keeps_says image _ (pack_keeps image _) answer written left
readers_keep (Gen count seed) image bytes answer written left only = keeps_says image _ (files_keep image _) answer written left
readers_keep (Trial count seed) image bytes answer written left only = keeps_says image _ (files_keep image _) answer written left
readers_keep (Init store) image bytes answer written left only = absurd only
readers_keep (Drop store name) image bytes answer written left only = absurd only
readers_keep (Receive guards store files) image bytes answer written left only = absurd only
readers_keep (ListAll store) image bytes answer written left only = keeps_says image _ (prints_keep image _ _) answer written left
readers_keep (Show store name) image bytes answer written left only = keeps_says image _ (prints_keep image _ _) answer written left
readers_keep (Cat store name path) image bytes answer written left only = keeps_says image _ (prints_keep image _ _) answer written left
readers_keep (Scrub store) image bytes answer written left only = keeps_says image _ (scrub_keeps image) answer written left
readers_keep (Send store name) image bytes answer written left only = keeps_says image _ (sent_keeps image sent_stream name) answer written left
readers_keep (Restore store name) image bytes answer written left only = keeps_says image _ (sent_keeps image restored_stream name) answer written left
readers_keep (Stream store name) image bytes answer written left only = keeps_says image _ (streamed_keeps image name) answer written left
readers_keep (Tar store name) image bytes answer written left only = keeps_says image _ (sent_keeps image archived_form name) answer written left
readers_keep (Interleave store schedule turns) image bytes answer written left only = absurd only
