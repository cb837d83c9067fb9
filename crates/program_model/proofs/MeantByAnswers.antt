-- What answers to requests mean.
use Rattle.std.specs.Prelude.{[], ◌∷◌}
use Rattle.std.proofs.Common.{inl, inr}
use Rattle.store_model.specs.NamedFiles.{NamedFiles}
use Rattle.store_model.proofs.WordMeanings.{show_is_done, show_misses, cat_is_done, cat_misses, drop_is_done, drop_misses}
use Rattle.store_model.proofs.MeantByTurns.{turns_are_done}
use Rattle.snapshot_model.specs.Sent.{sent_stream}
use Rattle.snapshot_model.specs.Restored.{restored_stream}
use Rattle.snapshot_model.proofs.MeantBySending.{send_is_done}
use Rattle.stream_model.proofs.TakenAgain.{due_is_taken}
use Rattle.program_model.specs.Answers.{Says, turns_of}
use Rattle.program_model.specs.AnswerMeanings.{ShowIsOfNamed, CatIsOfNamed, DropIsOfNamed, MissingIsNamed, SendIsOfNamed, RestoreIsOfNamed, StreamIsOfNamed, NoStreamIsNamed, TarIsOfNamed, NoTarIsNamed, NoFilesAreSent, TurnsAreDone}

-- No files.
abbrev no_named : NamedFiles
no_named = record { bytes = []; overrides = [] }

pub show_is_of_named : ShowIsOfNamed
unfolding Says
show_is_of_named file name image bytes store written left stands h =
    show_is_done 0 1 (file ∷ name ∷ []) image no_named store written left stands h

pub cat_is_of_named : CatIsOfNamed
unfolding Says
cat_is_of_named file name path image bytes store written left stands h =
    cat_is_done 0 1 2 (file ∷ name ∷ path ∷ []) image no_named store written left stands h

pub drop_is_of_named : DropIsOfNamed
unfolding Says
drop_is_of_named file name image bytes store written left stands h =
    drop_is_done 0 1 (file ∷ name ∷ []) image no_named store written left stands h

pub missing_is_named : MissingIsNamed
unfolding Says
missing_is_named file name path image bytes store what written left stands = (
  λ h. (show_misses 0 1 (file ∷ name ∷ []) image no_named store what written left stands h).0,
  λ h. (drop_misses 0 1 (file ∷ name ∷ []) image no_named store what written left stands h).0,
  λ h. elim (cat_misses 0 1 2 (file ∷ name ∷ path ∷ []) image no_named store what written left stands h).0 [
    | inl name_gone ↦ inl name_gone.0
    | inr path_gone ↦ inr path_gone.0
  ],
)

pub send_is_of_named : SendIsOfNamed
unfolding Says
send_is_of_named file name image bytes store written left stands h = send_is_done sent_stream image name store written left stands h

pub restore_is_of_named : RestoreIsOfNamed
unfolding Says
restore_is_of_named file name image bytes store written left stands h = send_is_done restored_stream image name store written left stands h

pub stream_is_of_named : StreamIsOfNamed
unfolding Says
stream_is_of_named file name image bytes written left h = (h.1.1, (due_is_taken image name written h.1.1, h.0))

pub no_stream_is_named : NoStreamIsNamed
unfolding Says
no_stream_is_named file name image bytes what written left h = (h.1.0, h.1.1)

pub tar_is_of_named : TarIsOfNamed
unfolding Says
tar_is_of_named file name image bytes written left h = (h.1.1, h.0)

pub no_tar_is_named : NoTarIsNamed
unfolding Says
no_tar_is_named file name image bytes what written left h = (h.1.0, h.1.1)

pub no_files_are_sent : NoFilesAreSent
unfolding Says
no_files_are_sent file name image bytes written left = (λ h. h, λ h. h, λ h. h, λ h. h)

pub turns_are_done_so : TurnsAreDone
unfolding Says
turns_are_done_so file schedule turns image bytes store written left are stands h =
    turns_are_done (turns_of schedule turns bytes) image store written left are stands h
