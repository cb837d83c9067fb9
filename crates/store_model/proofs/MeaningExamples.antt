-- Worked examples that begin with a promise and end in what it rules out: nothing is acknowledged
-- that is not complete, groups that are not written are not on the way, and words that only read
-- are those.
use Rattle.std.specs.Prelude.{◌≡◌, ℕ, [], ◌∷◌, ◌++◌, length, codes}
use Rattle.std.proofs.Common.{inl, inr, ap, arith, length-append}
use Rattle.send_model.specs.Store.{Store}
use Rattle.send_model.specs.Words.{Compose, Audit, Dump, Export, Gen, Trial}
use Rattle.store_model.specs.NamedFiles.{unnamed}
use Rattle.store_model.specs.Stored.{as_bytes}
use Rattle.store_model.specs.States.{HasBegun, as_begun}
use Rattle.store_model.specs.Stops.{IsOnTheWay}
use Rattle.store_model.specs.Requests.{OfStreams, InitStore, DropEntry, ReceiveFiles, ListStore, ShowEntry, CatFile, ScrubStore}
use Rattle.store_model.specs.Answers.{ReadsFiles, ReadsAgain, ReadsOnly}
use Rattle.send_model.proofs.ReadingExamples.{first_stream}
use Rattle.store_model.proofs.OneStore.{one_store}
use Rattle.store_model.proofs.StoredExamples.{new_image, new_stands}

-- nothing but what is complete may follow one whole line: the image of a new store does not
not_acknowledged : IsOnTheWay new_image [] (unnamed (first_stream ∷ [])) [] (codes "complete a 11111111-1111-1111-1111-111111111111 1" ++ 10 ∷ []) new_image → ⊥
not_acknowledged h =
    let now : h.now ≡ [] = one_store 0 as_bytes new_image h.now [] h.is new_stands in
    let most : length h.now ≡ 0 = ap length now in
    elim h.state.is [
      | inl all ↦ absurd (omega (arith, h.state.enough, ap length all, most))
      | inr begun ↦ none h.state.others begun
    ]
  where
    none : (others : Store ℕ) → HasBegun ([] ++ h.state.complete) others h.now → ⊥
    none [] b = b
    none (e ∷ others) b = absurd (omega (arith, ap length b, ap length (one_store 0 as_bytes new_image h.now [] h.is new_stands), length-append h.state.complete (as_begun e ∷ [])))

-- words that read files, and those that may read bytes of them again
file_words : ReadsFiles (OfStreams (Compose 1 2)) × ReadsFiles (OfStreams (Audit [] 1 2)) × ReadsFiles (OfStreams (Dump 1)) × ReadsFiles (OfStreams (Export 1 2)) × ReadsFiles (ReceiveFiles [] 1 2)
    × ReadsAgain (OfStreams (Compose 1 2))
file_words = (tt, tt, tt, tt, tt, tt)

-- and words that read none
no_file_words : (ReadsFiles (InitStore 1) → ⊥) × (ReadsFiles (DropEntry 1 2) → ⊥) × (ReadsFiles (ListStore 1) → ⊥) × (ReadsFiles (ShowEntry 1 2) → ⊥) × (ReadsFiles (CatFile 1 2 3) → ⊥) × (ReadsFiles (ScrubStore 1) → ⊥)
    × (ReadsAgain (ReceiveFiles [] 1 2) → ⊥)
no_file_words = (λ h. h, λ h. h, λ h. h, λ h. h, λ h. h, λ h. h, λ h. h)

-- words of which no answer changes the image
reading_words : ReadsOnly (OfStreams (Compose 1 2)) × ReadsOnly (OfStreams (Audit [] 1 2)) × ReadsOnly (OfStreams (Dump 1)) × ReadsOnly (OfStreams (Export 1 2)) × ReadsOnly (OfStreams (Gen 1 2)) × ReadsOnly (OfStreams (Trial 1 2))
    × ReadsOnly (ListStore 1) × ReadsOnly (ShowEntry 1 2) × ReadsOnly (CatFile 1 2 3) × ReadsOnly (ScrubStore 1)
reading_words = (tt, tt, tt, tt, tt, tt, tt, tt, tt, tt)

-- and words that change it
changing_words : (ReadsOnly (InitStore 1) → ⊥) × (ReadsOnly (DropEntry 1 2) → ⊥) × (ReadsOnly (ReceiveFiles [] 1 2) → ⊥)
changing_words = (λ h. h, λ h. h, λ h. h)
