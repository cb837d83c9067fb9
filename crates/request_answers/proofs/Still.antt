-- Where there was no memory before anything was done.
use Rattle.std.specs.Prelude.{◌≡◌, ◌≢◌, ⊤, ℕ, true, List, [], ◌∷◌, map, Option, None, Some}
use Rattle.std.specs.List.{AllByRecursion}
use Rattle.std.proofs.Common.{refl, sym, subst, inl, arith}
use Rattle.std.specs.Io.KnownBytes.{Appends}
use Rattle.std.proofs.KnownBytes.{Appends-nil}
use Rattle.send_model.specs.Attribute.{IsBytes}
use Rattle.sx_base.specs.Asks.{Ask}
use Rattle.sx_base.proofs.Asking.{asked_nothing, once_none, turn_none}
use Rattle.sx_base.specs.Calls.{Wrote}
use Rattle.sx_base.specs.Crash.{LeavesOnly}
use Rattle.sx_base.specs.Disk.{Pending, IsImage}
use Rattle.sx_base.specs.declared.disk.Disk as keeping
use Rattle.sx_base.specs.declared.inputs.Inputs as reading
use Rattle.sx_base.specs.declared.sink.Sink as writing
use Rattle.turn_sessions.specs.Asked.{unread}
use Rattle.program_model.specs.Requests.{Request}
use Rattle.program_model.specs.Profiles.{profile, How, NoFiles, Once, Twice, InTurns, Access, Makes, Changes, Reads, StoreAccess}
use Rattle.program_model.specs.Answers.{Done, NoMemory, status_of, Says, meaning_of}
use Rattle.request_answers.specs.Objects.{Objects, objects_of}
use Rattle.request_answers.specs.Promises.{Answers, AreRead, AtAnyMoment, Acknowledges, IfBytes, IfFaithful, IfKnown, IsLeft, Promised, is_one_of}

-- Objects that are just as they were.
pub record Still (o : Objects) : Type 1 where
  pub known : o.known_after ≡ o.known_files
  pub asked : (P : List Ask → Type 0) → P [] → o.AskedInputs P
  pub inputs : o.InputsSame
  pub output : o.OutputSame
  pub disk : o.DiskSame
  pub nothing : Appends o.output o.output_after []
  pub contents : o.contents_after ≡ o.contents
  pub states : o.crash_states_after ≡ o.crash_states
  pub moment : o.IsFaithful → (P : List ℕ → Type 0)
      → ((image : List ℕ) → IsImage o.crash_states image → P image) → o.CrashesLeave P

-- A disk that stays as it is leaves what it could leave.
pub stays : {D : Type 0} (moment : D → ℕ) (left_since : D → ℕ → List ℕ → Type 0) (disk : D)
    (P : List ℕ → Type 0) → ((image : List ℕ) → left_since disk (moment disk) image → P image)
    → LeavesOnly moment left_since disk disk P
stays moment left_since disk P now = record { later = omega arith; each = now; earlier = λ t image before since. inl since }

module _ {I O D : Type 0} (inputs : reading.Ghosts I) (i : I) (out : writing.Ghosts O) (x : O) (disk : keeping.Ghosts D) (d : D)
    (now : disk.tells → (image : List ℕ) → disk.left_since d (disk.moment d) image → IsImage (disk.pending d) image) where
  pub still : Still (objects_of inputs i i out x x disk d d)
  still = record {
    known = refl;
    asked = λ P none. asked_nothing inputs i none;
    inputs = refl;
    output = refl;
    disk = refl;
    nothing = Appends-nil (out.taken x);
    contents = refl;
    states = refl;
    moment = λ faithful P more. stays disk.moment disk.left_since d P (λ image since. more image (now faithful image since));
  }

-- Of no call nothing is read.
pub read_none : (how : How) (known : Option (List (List ℕ × List ℕ))) (names : List (List ℕ)) → AreRead how known names []
read_none NoFiles known names = once_none []
read_none Once known names = once_none names
read_none Twice known names = ([], [], refl, once_none names, record { once = once_none names; ranges = tt })
read_none InTurns known names = (map unread names, turn_none (map unread names))

-- A fact about files that holds whatever they have.
pub known_any : (known : Option (List (List ℕ × List ℕ))) (names : List (List ℕ)) (P : List (List ℕ) → Type 0) → ((bytes : List (List ℕ)) → P bytes) → IfKnown known names P
known_any known [] P all = all []
known_any None (name ∷ names) P all = tt
known_any (Some table) (name ∷ names) P all = all _

faithful_any : (IsFaithful : Type 0) (store : Option StoreAccess) (P : Type 0) → P → IfFaithful IsFaithful store P
faithful_any IsFaithful None P p = p
faithful_any IsFaithful (Some store) P p = λ faithful. p

pub bytes_any : (store : Option StoreAccess) (bytes : List (List ℕ)) (P : Type 0) → P → IfBytes store bytes P
bytes_any None bytes P p = p
bytes_any (Some store) bytes P p = by_access store.access
  where
    by_access : (access : Access) → elim access as (λ a. Type 0) [ Makes ↦ P | Changes ↦ (AllByRecursion IsBytes bytes → P) | Reads ↦ P ]
    by_access Makes = p
    by_access Changes = λ are. p
    by_access Reads = p

module _ (o : Objects) (s : Still o) (request : Request) where
  moment_still : (store : Option StoreAccess) → o.IsFaithful → AtAnyMoment o request store
  moment_still None faithful = s.moment faithful (IsImage o.crash_states) (λ image is. is)
  moment_still (Some store) faithful = by_access store.access
    where
      by_access : (access : Access) → elim access as (λ a. Type 0) [
        | Makes ↦ (o.contents ≢ [] → o.CrashesLeave (IsImage o.crash_states))
        | Changes ↦ IfKnown o.known_files (profile request).files.files
            (λ bytes. AllByRecursion IsBytes bytes → o.CrashesLeave (IsLeft o request bytes []))
        | Reads ↦ o.CrashesLeave (IsImage o.crash_states)
      ]
      by_access Makes = λ some. s.moment faithful (IsImage o.crash_states) (λ image is. is)
      by_access Changes = known_any o.known_files (profile request).files.files
          (λ bytes. AllByRecursion IsBytes bytes → o.CrashesLeave (IsLeft o request bytes []))
          (λ bytes are. s.moment faithful (IsLeft o request bytes []) (λ image is. inl (is, refl)))
      by_access Reads = s.moment faithful (IsImage o.crash_states) (λ image is. is)

  abbrev Kept : List (List ℕ) → Type 0
  Kept bytes = AllByRecursion IsBytes bytes → Wrote o.output o.output_after
      (λ written. (image : List ℕ) → IsImage o.crash_states_after image → IsLeft o request bytes written image)

  lines_still : (store : Option StoreAccess) → Acknowledges o request store
  lines_still None = tt
  lines_still (Some store) = by_access store.access
    where
      by_access : (access : Access) → elim access as (λ a. Type 0) [ Makes ↦ ⊤ | Changes ↦ IfKnown o.known_files (profile request).files.files Kept | Reads ↦ ⊤ ]
      by_access Makes = tt
      by_access Changes = known_any o.known_files (profile request).files.files Kept
          (λ bytes are. ([], s.nothing, λ image is. inl (subst (λ (states : Pending). IsImage states image) s.states is, refl)))
      by_access Reads = tt

  -- Nothing is promised of what was not written but what is said of no memory.
  pub nothing_done : is_one_of 7 (profile request).statuses ≡ true
      → ((bytes : List (List ℕ)) → IfBytes (profile request).store bytes
      (Says (meaning_of request o.contents bytes) NoMemory [] o.contents))
      → Promised o request NoMemory → Answers o request NoMemory
  unfolding status_of
  nothing_done memory says promised = record {
    known = s.known;
    reads = s.asked (AreRead (profile request).how o.known_files (profile request).files.files)
        (read_none (profile request).how o.known_files (profile request).files.files);
    unread = λ none. s.inputs;
    unprinted = λ none. s.output;
    unused = λ none. s.disk;
    unharmed = λ faithful reads. s.contents;
    allowed = memory;
    caused = tt;
    says = faithful_any o.IsFaithful (profile request).store _ (known_any o.known_files (profile request).files.files _
        (λ bytes. (
          [],
          s.nothing,
          subst (λ (left : List ℕ). IfBytes (profile request).store bytes
              (Says (meaning_of request o.contents bytes) NoMemory [] left)) (sym s.contents) (says bytes),
        )));
    details = tt;
    promised = promised;
    any_moment = moment_still (profile request).store;
    durable = λ done. absurd (not_done done);
    acknowledged = λ faithful prints. lines_still (profile request).store;
  }
    where
      not_done : NoMemory ≡ Done → ⊥
      not_done e = cc
