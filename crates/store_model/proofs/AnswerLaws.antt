-- What is due is answered as it says, and one such answer is given; and where nothing was done,
-- nothing stands.
use Rattle.std.specs.Prelude.{◌≡◌, ℕ, Bool, true, false, List, [], ◌∷◌}
use Rattle.std.proofs.Common.{inl, inr, refl, sym, subst}
use Rattle.send_model.specs.Store.{Store}
use Rattle.send_model.specs.Headline.{IsFrontOf, IsProperFrontOf}
use Rattle.send_model.specs.Sources.{Sources, StandsBeforeOf}
use Rattle.send_model.specs.Words as streams
use Rattle.send_model.specs.Words.{Compose, Audit, Dump, Export, Gen, Trial, new_guards}
use Rattle.send_model.specs.Due as stream_dues
use Rattle.send_model.specs.Due.{DoneWhole, RefusedAt, TooLong}
use Rattle.send_model.specs.Answer as answers
use Rattle.send_model.specs.Answer.{Done, Refused, Usage, InputFault, OutputFault, NoMemory, InputTooLong, TooMuch, InputChanged}
use Rattle.store_model.specs.NamedFiles.{NamedFiles, read_of}
use Rattle.store_model.specs.Dues as dues
use Rattle.store_model.specs.Dues.{Due, Ends}
use Rattle.store_model.specs.Requests.{Request, OfStreams, InitStore, DropEntry, ReceiveFiles, ListStore, ShowEntry, CatFile, ScrubStore, store_of, reads_store, base_over, Says, at_entry}
use Rattle.store_model.specs.Answers.{status_of, OfAnyWord, StoreFault, NotStore, Missing, LogFull, StoreThere, Damaged, answer_of, DueSays, Answers, DueIsAnswered, OneIsAnswered, DoneAlone, InitFault, StreamsBefore, PrintsBefore, NothingStandsBefore, NothingStandsAtFault, StandsBefore, StandsInput, StandsCut, StandsFault, ReadsOnly, ReadersKeepTheImage, ReceiveIsOnTheWay, ReceiveIsCut, DropKeeps, PrintsInFront}
use Rattle.send_model.proofs.Fronts.{nothing_front}
use Rattle.send_model.proofs.Writing.{nothing_unfinished}
use Rattle.store_model.proofs.StoreAnswers.{one_due}
use Rattle.store_model.proofs.OnTheWay.{nothing_is_on_the_way}

pub due_is_answered : DueIsAnswered
due_is_answered request words image files (Ends DoneWhole) written left h = h
due_is_answered request words image files (Ends (RefusedAt verdict)) written left h = h
due_is_answered request words image files (Ends (TooLong file)) written left h = h
due_is_answered request words image files (Ends (stream_dues.TooMuch sum)) written left h = h
due_is_answered request words image files (dues.NotStore group) written left h = h
due_is_answered request words image files (dues.Missing what) written left h = h
due_is_answered request words image files (dues.LogFull end wanted limit) written left h = h
due_is_answered request words image files (dues.StoreThere size) written left h = h
due_is_answered request words image files (dues.Damaged group stored computed) written left h = h

-- and what is answered so is due
answered_is_due : (request : Request) (words : List (List ℕ)) (image : List ℕ) (files : NamedFiles) (due : Due) (written left : List ℕ)
    → Answers request (at_entry words image files) (answer_of due) written left → DueSays request (at_entry words image files) due written left
answered_is_due request words image files (Ends DoneWhole) written left h = h
answered_is_due request words image files (Ends (RefusedAt verdict)) written left h = h
answered_is_due request words image files (Ends (TooLong file)) written left h = h
answered_is_due request words image files (Ends (stream_dues.TooMuch sum)) written left h = h
answered_is_due request words image files (dues.NotStore group) written left h = h
answered_is_due request words image files (dues.Missing what) written left h = h
answered_is_due request words image files (dues.LogFull end wanted limit) written left h = h
answered_is_due request words image files (dues.StoreThere size) written left h = h
answered_is_due request words image files (dues.Damaged group stored computed) written left h = h

pub one_is_answered : OneIsAnswered
one_is_answered request words image files due other written left more_written more_left are x y =
    one_due request words image files due other are (answered_is_due request words image files due written left x).0
    (answered_is_due request words image files other more_written more_left y).0

pub done_alone : DoneAlone
unfolding status_of answers.status_of
done_alone (OfAnyWord Done) e = refl
done_alone (OfAnyWord (Refused verdict)) e = cc
done_alone (OfAnyWord Usage) e = cc
done_alone (OfAnyWord InputFault) e = cc
done_alone (OfAnyWord OutputFault) e = cc
done_alone (OfAnyWord NoMemory) e = cc
done_alone (OfAnyWord (InputTooLong file)) e = cc
done_alone (OfAnyWord (TooMuch sum)) e = cc
done_alone (OfAnyWord (InputChanged file place)) e = cc
done_alone StoreFault e = cc
done_alone (NotStore group) e = cc
done_alone (Missing what) e = cc
done_alone (LogFull end wanted limit) e = cc
done_alone (StoreThere size) e = cc
done_alone (Damaged group stored computed) e = cc

-- ---- where nothing was done

streams_nothing : (request : streams.Request) (base : Store ℕ) (read : Sources) → StandsBeforeOf request base read []
streams_nothing (Compose store at) base read = record { unfinished = nothing_unfinished 0; front = nothing_front _ 0 }
streams_nothing (Audit guards store at) base read = refl
streams_nothing (Dump at) base read = nothing_front _ 0
streams_nothing (Export store at) base read = nothing_front _ 0
streams_nothing (Gen count seed) base read = nothing_front _ 0
streams_nothing (Trial count seed) base read = nothing_front _ 0

over_nothing : (reads : Bool) (request : streams.Request) (image : List ℕ) (read : Sources) → StreamsBefore reads request image read []
over_nothing true request image read = (λ s stands. streams_nothing request (base_over request read s) read, λ group none. refl)
over_nothing false request image read = streams_nothing request [] read

prints_nothing : (image : List ℕ) (whole : Store ℕ → List ℕ) → PrintsBefore image whole [] image
prints_nothing image whole = (refl, (λ s stands. nothing_front (whole s) 0, λ group none. refl))

pub nothing_stands_before : NothingStandsBefore
nothing_stands_before (OfStreams request) words image files = inr (refl, over_nothing (reads_store words (store_of request)) request image (read_of files))
nothing_stands_before (InitStore store) words image files = inl (store, refl)
nothing_stands_before (DropEntry store name) words image files = inr (refl, (λ s stands. stands, λ group none. refl))
nothing_stands_before (ReceiveFiles guards store at) words image files =
    inr (λ s stands. nothing_is_on_the_way image (new_guards guards) files s stands, λ group none. (refl, refl))
nothing_stands_before (ListStore store) words image files = inr (prints_nothing image _)
nothing_stands_before (ShowEntry store name) words image files = inr (prints_nothing image _)
nothing_stands_before (CatFile store name path) words image files = inr (prints_nothing image _)
nothing_stands_before (ScrubStore store) words image files = inr (refl, refl)

init_nothing : (image : List ℕ) → InitFault image image
init_nothing [] = tt
init_nothing (byte ∷ more) = refl

pub nothing_stands_at_fault : NothingStandsAtFault
nothing_stands_at_fault (OfStreams request) words image files = inl (request, refl)
nothing_stands_at_fault (InitStore store) words image files = inr (refl, init_nothing image)
nothing_stands_at_fault (DropEntry store name) words image files = inr (refl, (λ s stands. inl stands, λ group none. refl))
nothing_stands_at_fault (ReceiveFiles guards store at) words image files =
    inr (λ s stands. nothing_is_on_the_way image (new_guards guards) files s stands, λ group none. (refl, refl))
nothing_stands_at_fault (ListStore store) words image files = inr (prints_nothing image _)
nothing_stands_at_fault (ShowEntry store name) words image files = inr (prints_nothing image _)
nothing_stands_at_fault (CatFile store name path) words image files = inr (prints_nothing image _)
nothing_stands_at_fault (ScrubStore store) words image files = inr (refl, refl)

-- ---- words that read

said_keeps : (request : Request) (words : List (List ℕ)) (image : List ℕ) (files : NamedFiles) (due : Due) (written left : List ℕ)
    → ReadsOnly request → Says request (at_entry words image files) due written left → left ≡ image
said_keeps (OfStreams request) words image files due written left reads h = h.0
said_keeps (ListStore store) words image files due written left reads h = h.0
said_keeps (ShowEntry store name) words image files due written left reads h = h.0
said_keeps (CatFile store name path) words image files due written left reads h = h.0
said_keeps (ScrubStore store) words image files due written left reads h = h.0
said_keeps (InitStore store) words image files due written left reads h = absurd reads
said_keeps (DropEntry store name) words image files due written left reads h = absurd reads
said_keeps (ReceiveFiles guards store at) words image files due written left reads h = absurd reads

before_keeps : (request : Request) (words : List (List ℕ)) (image : List ℕ) (files : NamedFiles) (written left : List ℕ)
    → ReadsOnly request → StandsBefore request words image files written left → left ≡ image
before_keeps (OfStreams request) words image files written left reads h = h.0
before_keeps (ListStore store) words image files written left reads h = h.0
before_keeps (ShowEntry store name) words image files written left reads h = h.0
before_keeps (CatFile store name path) words image files written left reads h = h.0
before_keeps (ScrubStore store) words image files written left reads h = h.0
before_keeps (InitStore store) words image files written left reads h = absurd reads
before_keeps (DropEntry store name) words image files written left reads h = absurd reads
before_keeps (ReceiveFiles guards store at) words image files written left reads h = absurd reads

input_keeps : (request : Request) (words : List (List ℕ)) (image : List ℕ) (files : NamedFiles) (written left : List ℕ)
    → ReadsOnly request → StandsInput request words image files written left → left ≡ image
input_keeps (OfStreams request) words image files written left reads h = h.0
input_keeps (ListStore store) words image files written left reads h = absurd h
input_keeps (ShowEntry store name) words image files written left reads h = absurd h
input_keeps (CatFile store name path) words image files written left reads h = absurd h
input_keeps (ScrubStore store) words image files written left reads h = absurd h
input_keeps (InitStore store) words image files written left reads h = absurd reads
input_keeps (DropEntry store name) words image files written left reads h = absurd reads
input_keeps (ReceiveFiles guards store at) words image files written left reads h = absurd reads

cut_keeps : (request : Request) (words : List (List ℕ)) (image : List ℕ) (files : NamedFiles) (written left : List ℕ)
    → ReadsOnly request → StandsCut request words image files written left → left ≡ image
cut_keeps (OfStreams request) words image files written left reads h = h.0
cut_keeps (ListStore store) words image files written left reads h = h.0
cut_keeps (ShowEntry store name) words image files written left reads h = h.0
cut_keeps (CatFile store name path) words image files written left reads h = h.0
cut_keeps (ScrubStore store) words image files written left reads h = h.0
cut_keeps (InitStore store) words image files written left reads h = absurd reads
cut_keeps (DropEntry store name) words image files written left reads h = absurd reads
cut_keeps (ReceiveFiles guards store at) words image files written left reads h = absurd reads

fault_keeps : (request : Request) (words : List (List ℕ)) (image : List ℕ) (files : NamedFiles) (written left : List ℕ)
    → ReadsOnly request → StandsFault request words image files written left → left ≡ image
fault_keeps (OfStreams request) words image files written left reads h = h.0
fault_keeps (ListStore store) words image files written left reads h = h.0
fault_keeps (ShowEntry store name) words image files written left reads h = h.0
fault_keeps (CatFile store name path) words image files written left reads h = h.0
fault_keeps (ScrubStore store) words image files written left reads h = h.0
fault_keeps (InitStore store) words image files written left reads h = absurd reads
fault_keeps (DropEntry store name) words image files written left reads h = absurd reads
fault_keeps (ReceiveFiles guards store at) words image files written left reads h = absurd reads

pub readers_keep_the_image : ReadersKeepTheImage
readers_keep_the_image request words image files (OfAnyWord Done) written left reads h = said_keeps request words image files (Ends DoneWhole) written left reads h.1
readers_keep_the_image request words image files (OfAnyWord (Refused verdict)) written left reads h = said_keeps request words image files (Ends (RefusedAt verdict)) written left reads h.1
readers_keep_the_image request words image files (OfAnyWord (InputTooLong file)) written left reads h = said_keeps request words image files (Ends (TooLong file)) written left reads h.1
readers_keep_the_image request words image files (OfAnyWord (TooMuch sum)) written left reads h = said_keeps request words image files (Ends (stream_dues.TooMuch sum)) written left reads h.1
readers_keep_the_image request words image files (NotStore group) written left reads h = said_keeps request words image files (dues.NotStore group) written left reads h.1
readers_keep_the_image request words image files (Missing what) written left reads h = said_keeps request words image files (dues.Missing what) written left reads h.1
readers_keep_the_image request words image files (LogFull end wanted limit) written left reads h = said_keeps request words image files (dues.LogFull end wanted limit) written left reads h.1
readers_keep_the_image request words image files (StoreThere size) written left reads h = said_keeps request words image files (dues.StoreThere size) written left reads h.1
readers_keep_the_image request words image files (Damaged group stored computed) written left reads h = said_keeps request words image files (dues.Damaged group stored computed) written left reads h.1
readers_keep_the_image request words image files (OfAnyWord InputFault) written left reads h = input_keeps request words image files written left reads h.1
readers_keep_the_image request words image files (OfAnyWord (InputChanged file place)) written left reads h = input_keeps request words image files written left reads h.1
readers_keep_the_image request words image files (OfAnyWord OutputFault) written left reads h = cut_keeps request words image files written left reads h
readers_keep_the_image request words image files (OfAnyWord NoMemory) written left reads h = before_keeps request words image files written left reads h
readers_keep_the_image request words image files StoreFault written left reads h = fault_keeps request words image files written left reads h
readers_keep_the_image request words image files (OfAnyWord Usage) written left reads h = absurd h

-- what is printed is a front part of all that is to be printed
front_of_all : {all whole written : List ℕ} → whole ≡ all → IsFrontOf all written → IsFrontOf whole written
front_of_all {written} is h = subst (λ (l : List ℕ). IsFrontOf l written) (sym is) h

cut_of_all : {all whole written : List ℕ} → whole ≡ all → IsProperFrontOf all written → IsProperFrontOf whole written
cut_of_all {written} is h = subst (λ (l : List ℕ). IsProperFrontOf l written) (sym is) h

pub prints_in_front : PrintsInFront
prints_in_front (ListStore place) words image files store whole written left stands is =
    (λ h. front_of_all is (h.1.0 store stands), λ h. front_of_all is (h.1.0 store stands), λ h. cut_of_all is (h.1.0 store stands))
prints_in_front (ShowEntry place name) words image files store whole written left stands is =
    (λ h. front_of_all is (h.1.0 store stands), λ h. front_of_all is (h.1.0 store stands), λ h. cut_of_all is (h.1.0 store stands))
prints_in_front (CatFile place name path) words image files store whole written left stands is =
    (λ h. front_of_all is (h.1.0 store stands), λ h. front_of_all is (h.1.0 store stands), λ h. cut_of_all is (h.1.0 store stands))
prints_in_front (OfStreams request) words image files store whole written left stands is = absurd is
prints_in_front (InitStore place) words image files store whole written left stands is = absurd is
prints_in_front (DropEntry place name) words image files store whole written left stands is = absurd is
prints_in_front (ReceiveFiles guards place at) words image files store whole written left stands is = absurd is
prints_in_front (ScrubStore place) words image files store whole written left stands is = absurd is

-- ---- words that write

pub receive_is_on_the_way : ReceiveIsOnTheWay
receive_is_on_the_way guards place at words image files store (OfAnyWord Done) written left stands h = inl (Ends DoneWhole, refl)
receive_is_on_the_way guards place at words image files store (OfAnyWord (Refused verdict)) written left stands h = inl (Ends (RefusedAt verdict), refl)
receive_is_on_the_way guards place at words image files store (OfAnyWord (InputTooLong file)) written left stands h = inl (Ends (TooLong file), refl)
receive_is_on_the_way guards place at words image files store (OfAnyWord (TooMuch sum)) written left stands h = inl (Ends (stream_dues.TooMuch sum), refl)
receive_is_on_the_way guards place at words image files store (NotStore group) written left stands h = inl (dues.NotStore group, refl)
receive_is_on_the_way guards place at words image files store (Missing what) written left stands h = inl (dues.Missing what, refl)
receive_is_on_the_way guards place at words image files store (LogFull end wanted limit) written left stands h = inl (dues.LogFull end wanted limit, refl)
receive_is_on_the_way guards place at words image files store (StoreThere size) written left stands h = inl (dues.StoreThere size, refl)
receive_is_on_the_way guards place at words image files store (Damaged group stored computed) written left stands h = inl (dues.Damaged group stored computed, refl)
receive_is_on_the_way guards place at words image files store (OfAnyWord InputFault) written left stands h = inr (h.1.0 store stands)
receive_is_on_the_way guards place at words image files store (OfAnyWord (InputChanged file k)) written left stands h = absurd h.0
receive_is_on_the_way guards place at words image files store (OfAnyWord OutputFault) written left stands h = inr (h.0 store stands).0
receive_is_on_the_way guards place at words image files store (OfAnyWord NoMemory) written left stands h = inr (h.0 store stands)
receive_is_on_the_way guards place at words image files store StoreFault written left stands h = inr (h.0 store stands)
receive_is_on_the_way guards place at words image files store (OfAnyWord Usage) written left stands h = absurd h

pub receive_is_cut : ReceiveIsCut
receive_is_cut guards place at words image files store written left stands h = (h.0 store stands).1

pub drop_keeps : DropKeeps
drop_keeps place name words image files store written left stands = (λ h. h.1.0 store stands, λ h. h.1.0 store stands)
