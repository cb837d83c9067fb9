-- Where the image stands for no store, words that open one write nothing and change nothing. And
-- which words answer that an input failed.
use Rattle.std.specs.Prelude.{◌≡◌, ℕ, Bool, true, false, List, []}
use Rattle.std.proofs.Common.{inl, inr, refl, subst}
use Rattle.send_model.specs.Sources.{Sources}
use Rattle.send_model.specs.Due.{DoneWhole, RefusedAt, TooLong}
use Rattle.send_model.specs.Due as stream_dues
use Rattle.send_model.specs.Answer.{Done, Refused, Usage, InputFault, OutputFault, NoMemory, InputTooLong, TooMuch, InputChanged}
use Rattle.send_model.specs.Words as streams
use Rattle.store_model.specs.NamedFiles.{NamedFiles, read_of}
use Rattle.store_model.specs.Stored.{StandsForNone}
use Rattle.store_model.specs.Dues as dues
use Rattle.store_model.specs.Dues.{Due, Ends}
use Rattle.store_model.specs.Requests.{Request, OfStreams, InitStore, DropEntry, ReceiveFiles, ListStore, ShowEntry, CatFile, ScrubStore, store_of, reads_store, IsStreamsDue, StreamsSay, Says, at_entry}
use Rattle.store_model.specs.Answers.{Answer, OfAnyWord, StoreFault, NotStore, Missing, LogFull, StoreThere, Damaged, StreamsBefore, StreamsInput, StreamsCut, StreamsFault, StandsBefore, StandsInput, StandsCut, StandsFault, Answers}
use Rattle.store_model.specs.Meanings.{OpensStore, NoStoreIsNone, NothingIsDoneOverNone, NoInputFailsOverNone, InputsAreOfFiles, ChangesAreOfStreams}

-- ---- words on streams that read a store

module _ (request : streams.Request) (image : List ℕ) (read : Sources) (group : ℕ) (none : StandsForNone image group) (written : List ℕ) where
  says_nothing : (reads : Bool) (due : Due) → reads ≡ true → StreamsSay reads request image read due written → written ≡ []
  says_nothing true due e h = h.1 group none
  says_nothing false due e h = cc

  before_nothing : (reads : Bool) → reads ≡ true → StreamsBefore reads request image read written → written ≡ []
  before_nothing true e h = h.1 group none
  before_nothing false e h = cc

  input_never : (reads : Bool) → reads ≡ true → StreamsInput reads request image read written → ⊥
  input_never true e h = h.1 group none
  input_never false e h = cc

  cut_never : (reads : Bool) → reads ≡ true → StreamsCut reads request image read written → ⊥
  cut_never true e h = h.1 group none
  cut_never false e h = cc

  fault_nothing : (reads : Bool) → reads ≡ true → StreamsFault reads request image read written → written ≡ []
  fault_nothing true e h = h.1 group none
  fault_nothing false e h = absurd h

-- ---- each word

module _ (words : List (List ℕ)) (image : List ℕ) (files : NamedFiles) (group : ℕ) (none : StandsForNone image group) (written left : List ℕ) where
  says : (request : Request) (due : Due) → OpensStore request words → Says request (at_entry words image files) due written left → (written ≡ []) × (left ≡ image)
  says (OfStreams request) due opens h = (says_nothing request image (read_of files) group none written (reads_store words (store_of request)) due opens h.1, h.0)
  says (InitStore store) due opens h = absurd opens
  says (DropEntry store name) due opens h = (h.0, h.1.1 group none)
  says (ReceiveFiles guards store at) due opens h = h.1 group none
  says (ListStore store) due opens h = (h.1.1 group none, h.0)
  says (ShowEntry store name) due opens h = (h.1.1 group none, h.0)
  says (CatFile store name path) due opens h = (h.1.1 group none, h.0)
  says (ScrubStore store) due opens h = absurd opens

  before : (request : Request) → OpensStore request words → StandsBefore request words image files written left → (written ≡ []) × (left ≡ image)
  before (OfStreams request) opens h = (before_nothing request image (read_of files) group none written (reads_store words (store_of request)) opens h.1, h.0)
  before (InitStore store) opens h = absurd opens
  before (DropEntry store name) opens h = (h.0, h.1.1 group none)
  before (ReceiveFiles guards store at) opens h = h.1 group none
  before (ListStore store) opens h = (h.1.1 group none, h.0)
  before (ShowEntry store name) opens h = (h.1.1 group none, h.0)
  before (CatFile store name path) opens h = (h.1.1 group none, h.0)
  before (ScrubStore store) opens h = absurd opens

  input : (request : Request) → OpensStore request words → StandsInput request words image files written left → ⊥
  input (OfStreams request) opens h = input_never request image (read_of files) group none written (reads_store words (store_of request)) opens h.1
  input (InitStore store) opens h = h
  input (DropEntry store name) opens h = h
  input (ReceiveFiles guards store at) opens h = h.1 group none
  input (ListStore store) opens h = h
  input (ShowEntry store name) opens h = h
  input (CatFile store name path) opens h = h
  input (ScrubStore store) opens h = h

  cut : (request : Request) → OpensStore request words → StandsCut request words image files written left → ⊥
  cut (OfStreams request) opens h = cut_never request image (read_of files) group none written (reads_store words (store_of request)) opens h.1
  cut (InitStore store) opens h = h
  cut (DropEntry store name) opens h = h
  cut (ReceiveFiles guards store at) opens h = h.1 group none
  cut (ListStore store) opens h = h.1.1 group none
  cut (ShowEntry store name) opens h = h.1.1 group none
  cut (CatFile store name path) opens h = h.1.1 group none
  cut (ScrubStore store) opens h = opens

  fault : (request : Request) → OpensStore request words → StandsFault request words image files written left → (written ≡ []) × (left ≡ image)
  fault (OfStreams request) opens h = (fault_nothing request image (read_of files) group none written (reads_store words (store_of request)) opens h.1, h.0)
  fault (InitStore store) opens h = absurd opens
  fault (DropEntry store name) opens h = (h.0, h.1.1 group none)
  fault (ReceiveFiles guards store at) opens h = h.1 group none
  fault (ListStore store) opens h = (h.1.1 group none, h.0)
  fault (ShowEntry store name) opens h = (h.1.1 group none, h.0)
  fault (CatFile store name path) opens h = (h.1.1 group none, h.0)
  fault (ScrubStore store) opens h = absurd opens

  nothing : (request : Request) (answer : Answer) → OpensStore request words → Answers request (at_entry words image files) answer written left → (written ≡ []) × (left ≡ image)
  nothing request (OfAnyWord Done) opens h = says request (Ends DoneWhole) opens h.1
  nothing request (OfAnyWord (Refused verdict)) opens h = says request (Ends (RefusedAt verdict)) opens h.1
  nothing request (OfAnyWord (InputTooLong file)) opens h = says request (Ends (TooLong file)) opens h.1
  nothing request (OfAnyWord (TooMuch sum)) opens h = says request (Ends (stream_dues.TooMuch sum)) opens h.1
  nothing request (NotStore at) opens h = says request (dues.NotStore at) opens h.1
  nothing request (Missing what) opens h = says request (dues.Missing what) opens h.1
  nothing request (LogFull end wanted limit) opens h = says request (dues.LogFull end wanted limit) opens h.1
  nothing request (StoreThere size) opens h = says request (dues.StoreThere size) opens h.1
  nothing request (Damaged at stored computed) opens h = says request (dues.Damaged at stored computed) opens h.1
  nothing request (OfAnyWord InputFault) opens h = absurd (input request opens h.1)
  nothing request (OfAnyWord (InputChanged file place)) opens h = absurd (input request opens h.1)
  nothing request (OfAnyWord NoMemory) opens h = before request opens h
  nothing request (OfAnyWord OutputFault) opens h = absurd (cut request opens h)
  nothing request StoreFault opens h = fault request opens h
  nothing request (OfAnyWord Usage) opens h = absurd h

pub nothing_is_done_over_none : NothingIsDoneOverNone
nothing_is_done_over_none request words image files group answer written left opens none h =
    let is = nothing words image files group none written left request answer opens h in
    (is.0, is.1, λ e. cut words image files group none written left request opens (subst (λ (a : Answer). Answers request (at_entry words image files) a written left) e h))

pub no_input_fails_over_none : NoInputFailsOverNone
no_input_fails_over_none request words image files group written left opens none =
    (λ h. input words image files group none written left request opens h.1, λ file place h. input words image files group none written left request opens h.1)

-- ---- which words read files

pub inputs_are_of_files : InputsAreOfFiles
inputs_are_of_files (OfStreams request) words image files written left h = inl (request, refl)
inputs_are_of_files (ReceiveFiles guards store at) words image files written left h = inr (guards, store, at, refl)
inputs_are_of_files (InitStore store) words image files written left h = absurd h.0
inputs_are_of_files (DropEntry store name) words image files written left h = absurd h.0
inputs_are_of_files (ListStore store) words image files written left h = absurd h.0
inputs_are_of_files (ShowEntry store name) words image files written left h = absurd h.0
inputs_are_of_files (CatFile store name path) words image files written left h = absurd h.0
inputs_are_of_files (ScrubStore store) words image files written left h = absurd h.0

pub changes_are_of_streams : ChangesAreOfStreams
changes_are_of_streams (OfStreams request) words image files file place written left h = (request, refl)
changes_are_of_streams (ReceiveFiles guards store at) words image files file place written left h = absurd h.0
changes_are_of_streams (InitStore store) words image files file place written left h = absurd h.0
changes_are_of_streams (DropEntry store name) words image files file place written left h = absurd h.0
changes_are_of_streams (ListStore store) words image files file place written left h = absurd h.0
changes_are_of_streams (ShowEntry store name) words image files file place written left h = absurd h.0
changes_are_of_streams (CatFile store name path) words image files file place written left h = absurd h.0
changes_are_of_streams (ScrubStore store) words image files file place written left h = absurd h.0

-- ---- which image is no store

streams_none : (reads : Bool) (request : streams.Request) (image : List ℕ) (read : Sources) (group : ℕ) → reads ≡ true → IsStreamsDue reads request image read (dues.NotStore group) → StandsForNone image group
streams_none true request image read group e h = h
streams_none false request image read group e h = cc

pub no_store_is_none : NoStoreIsNone
no_store_is_none (OfStreams request) words image files group written left opens h = streams_none (reads_store words (store_of request)) request image (read_of files) group opens h.0
no_store_is_none (InitStore store) words image files group written left opens h = absurd opens
no_store_is_none (DropEntry store name) words image files group written left opens h = h.0
no_store_is_none (ReceiveFiles guards store at) words image files group written left opens h = h.0
no_store_is_none (ListStore store) words image files group written left opens h = h.0
no_store_is_none (ShowEntry store name) words image files group written left opens h = h.0
no_store_is_none (CatFile store name path) words image files group written left opens h = h.0
no_store_is_none (ScrubStore store) words image files group written left opens h = absurd opens
