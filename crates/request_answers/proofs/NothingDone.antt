-- Where there was no memory before anything was done: what is said of each request.
use Rattle.std.specs.Prelude.{◌≡◌, ℕ, true, List, [], ◌∷◌, codes}
use Rattle.std.proofs.Common.{refl, ⊎_elim, inl}
use Rattle.send_model.specs.Guards.{GuardSpec}
use Rattle.send_model.specs.Reading.{Verdict}
use Rattle.send_model.specs.Words as streams
use Rattle.send_model.specs.Words.{new_guards}
use Rattle.store_model.specs.NamedFiles.{NamedFiles, read_of, unnamed}
use Rattle.store_model.specs.Requests as stored
use Rattle.store_model.specs.Requests.{at_entry}
use Rattle.store_model.specs.Answers.{StandsBefore}
use Rattle.store_model.proofs.AnswerLaws.{nothing_stands_before}
use Rattle.snapshot_model.specs.Sent.{sent_stream}
use Rattle.snapshot_model.specs.Restored.{restored_stream}
use Rattle.archive_model.specs.Archive.{archived_form}
use Rattle.program_model.specs.FileWords.{GivenFiles}
use Rattle.program_model.specs.TurnWords.{TurnFiles}
use Rattle.program_model.specs.Requests.{Base, Nothing, InStore, Compose, Audit, Export, Squash, Drop, Receive, Show, Cat, Send, Restore, Stream, Tar, Interleave}
use Rattle.program_model.specs.Profiles.{profile}
use Rattle.program_model.specs.Answers.{Done, Refused, NoMemory, Says, meaning_of, as_said}
use Rattle.request_answers.specs.Objects.{Objects}
use Rattle.request_answers.specs.Promises.{Answers, is_one_of}
use Rattle.request_answers.proofs.Saying as saying
use Rattle.request_answers.proofs.Saying.{Covers, SameFiles, nothing_said, nothing_sent, sent_unfinished, restored_unfinished, nothing_streamed, streamed_unfinished, archived_unfinished}
use Rattle.turn_sessions.proofs.Answering.{unmoved}
use Rattle.request_answers.proofs.Still.{Still, bytes_any, nothing_done}

not_done : NoMemory ≡ Done → ⊥
not_done e = cc

not_refused : (verdict : Verdict) → NoMemory ≡ Refused verdict → ⊥
not_refused verdict e = cc

-- Over no store.
alone : (request : streams.Request) → ((store : ℕ) → stored.OfStreams request ≡ stored.InitStore store → ⊥)
    → (words : List (List ℕ)) (image : List ℕ) (files : NamedFiles) → StandsBefore (stored.OfStreams request) words image files [] image
alone request no_init words image files = ⊎_elim (λ other. absurd (no_init other.0 other.1)) (λ stands. stands)
    (nothing_stands_before (stored.OfStreams request) words image files)

abbrev none_words : List (List ℕ)
none_words = codes "none" ∷ []

module _ (image : List ℕ) (files : GivenFiles) (bytes : List (List ℕ)) where
  abbrev said : NamedFiles
  said = as_said files bytes

  compose_says : (base : Base) → Says (meaning_of (Compose base files) image bytes) NoMemory [] image
  unfolding Says
  compose_says Nothing = (refl, (saying.composed_same (read_of said)).before [] (alone (streams.Compose 0 0) (λ store e. cc) none_words image said).1)
  compose_says (InStore store) = (saying.compose_covers image said).memory [] image (alone (streams.Compose 0 0) (λ other e. cc) saying.a_store image said)

  audit_says : (guards : List GuardSpec) (base : Base) → Says (meaning_of (Audit guards base files) image bytes) NoMemory [] image
  unfolding Says
  audit_says guards Nothing = (refl, (saying.audited_same (read_of said) guards).before [] (alone (streams.Audit guards 0 0) (λ store e. cc) none_words image said).1)
  audit_says guards (InStore store) = (saying.audit_covers image said guards).memory [] image (alone (streams.Audit guards 0 0) (λ other e. cc) saying.a_store image said)

  export_says : (base : Base) → Says (meaning_of (Export base files) image bytes) NoMemory [] image
  unfolding Says
  export_says Nothing = (refl, (saying.exported_same (read_of said)).before [] (alone (streams.Export 0 0) (λ store e. cc) none_words image said).1)
  export_says (InStore store) = (saying.export_covers image said).memory [] image (alone (streams.Export 0 0) (λ other e. cc) saying.a_store image said)

  squash_says : (base : Base) → Says (meaning_of (Squash base files) image bytes) NoMemory [] image
  unfolding Says
  squash_says Nothing = (refl, inl refl)
  squash_says (InStore store) = (refl, (λ s stands. inl refl, λ group none. refl))

module _ where
  squash_row : (base : Base) (files : GivenFiles) → is_one_of 7 (profile (Squash base files)).statuses ≡ true
  unfolding profile is_one_of
  squash_row Nothing files = refl
  squash_row (InStore store) files = refl

  compose_row : (base : Base) (files : GivenFiles) → is_one_of 7 (profile (Compose base files)).statuses ≡ true
  unfolding profile is_one_of
  compose_row Nothing files = refl
  compose_row (InStore store) files = refl

  audit_row : (guards : List GuardSpec) (base : Base) (files : GivenFiles) → is_one_of 7 (profile (Audit guards base files)).statuses ≡ true
  unfolding profile is_one_of
  audit_row guards Nothing files = refl
  audit_row guards (InStore store) files = refl

  export_row : (base : Base) (files : GivenFiles) → is_one_of 7 (profile (Export base files)).statuses ≡ true
  unfolding profile is_one_of
  export_row Nothing files = refl
  export_row (InStore store) files = refl

module _ (o : Objects) (s : Still o) where
  pub compose_nothing : (base : Base) (files : GivenFiles) → Answers o (Compose base files) NoMemory
  compose_nothing base files = nothing_done o s (Compose base files) (compose_row base files) (λ bytes. bytes_any (profile (Compose base files)).store bytes _ (compose_says o.contents files bytes base))
      (record { whole = λ done. absurd (not_done done); front = λ verdict is. absurd (not_refused verdict is) })

  pub audit_nothing : (guards : List GuardSpec) (base : Base) (files : GivenFiles) → Answers o (Audit guards base files) NoMemory
  audit_nothing guards base files = nothing_done o s (Audit guards base files) (audit_row guards base files) (λ bytes. bytes_any (profile (Audit guards base files)).store bytes _ (audit_says o.contents files bytes guards base)) tt

  pub export_nothing : (base : Base) (files : GivenFiles) → Answers o (Export base files) NoMemory
  export_nothing base files = nothing_done o s (Export base files) (export_row base files) (λ bytes. bytes_any (profile (Export base files)).store bytes _ (export_says o.contents files bytes base))
      (λ done. absurd (not_done done))

  pub squash_nothing : (base : Base) (files : GivenFiles) → Answers o (Squash base files) NoMemory
  squash_nothing base files = nothing_done o s (Squash base files) (squash_row base files) (λ bytes. bytes_any (profile (Squash base files)).store bytes _ (squash_says o.contents files bytes base))
      (λ done. absurd (not_done done))

  stands_before : (request : stored.Request) → ((store : ℕ) → request ≡ stored.InitStore store → ⊥) → (words : List (List ℕ)) (files : NamedFiles) → StandsBefore request words o.contents files [] o.contents
  stands_before request no_init words files = ⊎_elim (λ other. absurd (no_init other.0 other.1)) (λ stands. stands) (nothing_stands_before request words o.contents files)

  pub show_nothing : (store name : List ℕ) → Answers o (Show store name) NoMemory
  unfolding profile is_one_of Says
  show_nothing store name = nothing_done o s (Show store name) refl
      (λ bytes. stands_before (stored.ShowEntry 0 0) (λ other e. cc) (name ∷ []) (unnamed [])) tt

  pub cat_nothing : (store name path : List ℕ) → Answers o (Cat store name path) NoMemory
  unfolding profile is_one_of Says
  cat_nothing store name path = nothing_done o s (Cat store name path) refl
      (λ bytes. stands_before (stored.CatFile 0 0 1) (λ other e. cc) (name ∷ path ∷ []) (unnamed [])) tt

  pub drop_nothing : (store name : List ℕ) → Answers o (Drop store name) NoMemory
  unfolding profile is_one_of Says
  drop_nothing store name = nothing_done o s (Drop store name) refl
      (λ bytes are. stands_before (stored.DropEntry 0 0) (λ other e. cc) (name ∷ []) (unnamed [])) tt

  pub send_nothing : (store name : List ℕ) → Answers o (Send store name) NoMemory
  unfolding profile is_one_of Says
  send_nothing store name = nothing_done o s (Send store name) refl (λ bytes. (refl, nothing_sent sent_stream o.contents name))
      (record { whole = λ done. absurd (not_done done); in_part = λ other faithful. ([], s.nothing, sent_unfinished o.contents name) })

  pub restore_nothing : (store name : List ℕ) → Answers o (Restore store name) NoMemory
  unfolding profile is_one_of Says
  restore_nothing store name = nothing_done o s (Restore store name) refl (λ bytes. (refl, nothing_sent restored_stream o.contents name))
      (record { whole = λ done. absurd (not_done done); in_part = λ other faithful. ([], s.nothing, restored_unfinished o.contents name) })

  pub stream_nothing : (store name : List ℕ) → Answers o (Stream store name) NoMemory
  unfolding profile is_one_of Says
  stream_nothing store name = nothing_done o s (Stream store name) refl (λ bytes. (refl, nothing_streamed o.contents name))
      (record { whole = λ done. absurd (not_done done); in_part = λ other faithful. ([], s.nothing, streamed_unfinished o.contents name) })

  pub tar_nothing : (store name : List ℕ) → Answers o (Tar store name) NoMemory
  unfolding profile is_one_of Says
  tar_nothing store name = nothing_done o s (Tar store name) refl (λ bytes. (refl, nothing_sent archived_form o.contents name))
      (record { whole = λ done. absurd (not_done done); in_part = λ other faithful. ([], s.nothing, archived_unfinished o.contents name) })

  pub receive_nothing : (guards : List GuardSpec) (store : List ℕ) (files : GivenFiles) → Answers o (Receive guards store files) NoMemory
  unfolding profile is_one_of Says
  receive_nothing guards store files = nothing_done o s (Receive guards store files) refl
      (λ bytes are. stands_before (stored.ReceiveFiles guards 0 0) (λ other e. cc) [] (as_said files bytes)) tt

  pub interleave_nothing : (store schedule : List ℕ) (turns : TurnFiles) → Answers o (Interleave store schedule turns) NoMemory
  unfolding profile is_one_of Says
  interleave_nothing store schedule turns = nothing_done o s (Interleave store schedule turns) refl
      (λ bytes are. unmoved schedule bytes (new_guards turns.guards) turns.shares o.contents are) tt
