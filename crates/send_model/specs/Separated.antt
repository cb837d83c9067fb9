-- Commands with separators: where the real `btrfs receive` would write to a file that the path does
-- not name any more, commands go before that leave the subvolume as it is and make the receiver
-- open another path. This program's own.
use Rattle.std.specs.Prelude.{◌≡◌, ℕ, zero, suc, ◌+◌, ◌<◌, ◌^◌, Bool, true, false, not, ◌&&◌, List, [], ◌∷◌, ◌++◌, length, Option, None, Some, Ok, Err, is_some, if◌then◌else◌, codes}
use Rattle.std.specs.Fmt.{decimal}
use Rattle.std.specs.Str.{bytes_eq}
use Rattle.send_model.specs.Attribute.{Time}
use Rattle.send_model.specs.Path.{path_names}
use Rattle.send_model.specs.Command.{Command, Write, Link, Unlink, Utimes}
use Rattle.send_model.specs.Subvolume.{Subvolume, IsSound, root, epoch, inode_at, named, is_file, walk}
use Rattle.send_model.specs.Store.{Part, State, step}
use Rattle.send_model.specs.Receive.{bytes_of}
use Rattle.send_model.specs.Counts.{literal, clones, streams}
use Rattle.send_model.specs.Order.{heads_of}
use Rattle.send_model.specs.Outside.{all_keys_named}
use Rattle.send_model.specs.Opened.{Opened, written_path, opened_after, is_astray, AreSteady, Receiver, receiver_step}

-- ---- a name that the root does not have

-- A name of this program's own with a number.
abbrev pub own_name : ℕ → List ℕ
own_name n = codes "btrsend." ++ decimal n

-- The first number from one on whose name the root does not have; the first number bounds how many
-- are tried.
unfoldable pub free_from : {C : Type 0} → ℕ → ℕ → Subvolume C → List ℕ
free_from zero n s = own_name n
free_from (suc k) n s =
    if is_some (named s root (own_name n)) then free_from k (n + 1) s else own_name n

-- The root has no more names than the subvolume has, so one of so many numbers and one more is
-- free.
unfoldable pub free_name : {C : Type 0} → Subvolume C → List ℕ
free_name s = free_from (length s.names) 0 s

-- ---- separators

abbrev pub mtime_of_root : {C : Type 0} → Subvolume C → Time
mtime_of_root s = elim (inode_at s root) [ None ↦ epoch | Some inode ↦ inode.mtime ]

abbrev pub atime_of_root : {C : Type 0} → Subvolume C → Time
atime_of_root s = elim (inode_at s root) [ None ↦ epoch | Some inode ↦ inode.atime ]

-- A WRITE of no bytes.
abbrev pub touch : List ℕ → Command
touch path = Write path 0 []

-- A name in the root for the file that a path names, a WRITE of no bytes to it, and the root as it
-- was.
unfoldable pub detour : {C : Type 0} → Subvolume C → List ℕ → List ℕ → List Command
detour s name path =
    Link name path ∷ touch name ∷ Unlink name ∷ Utimes (mtime_of_root s) (atime_of_root s) [] ∷ []

abbrev pub names_file : {C : Type 0} → Subvolume C → List ℕ → Bool
names_file s path = elim (walk s path) [ Err refusal ↦ false | Ok ino ↦ is_file s ino ]

-- A WRITE of no bytes to another file's path, where it names one now; else the detour.
unfoldable pub separator_in : {C : Type 0} → Subvolume C → List ℕ → List ℕ → List Command
separator_in s other path =
    if names_file s other && not (bytes_eq other path) then touch other
    ∷ [] else detour s (free_name s) path

-- What goes before a command: nothing where it does not go astray.
abbrev pub separator_for : {C : Type 0} → List ℕ → Option (Part C) → Option (List ℕ) → List Command
separator_for other None path = []
separator_for other (Some part) None = []
separator_for other (Some part) (Some path) = separator_in part.subvolume other path

unfoldable pub separator : {C : Type 0} → Option Opened → List ℕ → State C → Command → List Command
separator opened other state command =
    if is_astray opened state command then separator_for other state.part
    (written_path command) else []

-- The path that was open before the one that is: it is tried first.
abbrev pub other_path : List ℕ → Option Opened → Option (List ℕ) → List ℕ
other_path other opened None = other
other_path other None (Some path) = other
other_path other (Some opened) (Some path) =
    if bytes_eq opened.path path then other else opened.path

-- The file that is open after a command with its separator: the one that it names.
abbrev pub open_anew : {C : Type 0} → Option Opened → State C → Command → Option Opened
open_anew opened state command =
    opened_after (if is_astray opened state command then None else opened) state.part command

-- ---- commands with others in between

-- Commands are all taken, and lead from one state to another.
abbrev pub LeadTo : State ℕ → List Command → State ℕ → Type 0
LeadTo state [] end = state ≡ end
LeadTo state (c ∷ cs) end =
    ((step 0 (bytes_of c) state c).refusal ≡ None)
    × LeadTo (step 0 (bytes_of c) state c).state cs end

-- A command with those that go before it.
pub record Led : Type 0 where
  pub before : List Command
  pub command : Command

abbrev pub commands_led : List Led → List Command
commands_led [] = []
commands_led (l ∷ ls) = l.command ∷ commands_led ls

-- All of them in order.
abbrev pub with_all : List Led → List Command
with_all [] = []
with_all (l ∷ ls) = l.before ++ l.command ∷ with_all ls

-- Those that go before leave the state as it is.
abbrev pub AreNeutral : State ℕ → List Led → Type 0
AreNeutral state [] = Unit {0}
AreNeutral state (l ∷ ls) =
    LeadTo state l.before state × AreNeutral (step 0 (bytes_of l.command) state l.command).state ls

-- Neutral commands in between change nothing of where commands lead.
abbrev pub NeutralChangesNothing : Type 0
NeutralChangesNothing =
    (ls : List Led) (state end : State ℕ) → AreNeutral state ls → LeadTo state (commands_led ls) end
    → LeadTo state (with_all ls) end

-- Commands with their separators.
unfoldable pub led_from : Option Opened → List ℕ → State ℕ → List Command → List Led
led_from opened other state [] = []
led_from opened other state (command ∷ commands) =
    record { before = separator opened other state command; command = command }
    ∷ led_from (open_anew opened state command) (other_path other opened (written_path command))
    (step 0 (bytes_of command) state command).state commands

unfoldable pub separated : State ℕ → List Command → List Command
separated state commands = with_all (led_from None [] state commands)

-- A separator leaves the subvolume as it is, where this is sound and the path names a file.
abbrev pub TouchIsNeutral : Type 0
TouchIsNeutral =
    (state : State ℕ) (part : Part ℕ) (path : List ℕ) → state.part ≡ Some part
    → IsSound part.subvolume
    → names_file part.subvolume path ≡ true → LeadTo state (touch path ∷ []) state

abbrev pub DetourIsNeutral : Type 0
DetourIsNeutral =
    (state : State ℕ) (part : Part ℕ) (name path : List ℕ) → state.part ≡ Some part
    → IsSound part.subvolume
    → names_file part.subvolume path ≡ true → path_names name ≡ Some (name ∷ [])
    → named part.subvolume root name ≡ None
    → LeadTo state (detour part.subvolume name path) state

-- ---- the receiver

-- Commands are all taken by the real receiver.
abbrev pub ReceiverTakes : Receiver ℕ → List Command → State ℕ → Type 0
ReceiverTakes r [] end = r.state ≡ end
ReceiverTakes r (c ∷ cs) end =
    ((receiver_step 0 (bytes_of c) r c).refusal ≡ None)
    × ReceiverTakes (receiver_step 0 (bytes_of c) r c).state cs end

-- Where no command goes astray, the real receiver does what the plain run does.
abbrev pub SteadyIsPlain : Type 0
SteadyIsPlain =
    (opened : Option Opened) (state end : State ℕ) (commands : List Command)
    → AreSteady opened state commands
    → LeadTo state commands end
    → ReceiverTakes (record { state = state; opened = opened }) commands end

-- One of so many numbers is free: the root has not the name that a detour takes.
abbrev pub FreeNameIsFree : Type 0
FreeNameIsFree =
    (s : Subvolume ℕ) → IsSound s → length s.names < 2 ^ 64 → named s root (free_name s) ≡ None

-- ---- separated commands

-- Where separators can go: the subvolume is sound, and the name that a detour takes is one, and
-- free.
pub record CanSeparate (s : Subvolume ℕ) : Type 0 where
  pub sound : IsSound s
  pub split : path_names (free_name s) ≡ Some (free_name s ∷ [])
  pub free : named s root (free_name s) ≡ None

-- So it is in each sound subvolume with fewer than 2^64 names.
abbrev pub SoundCanSeparate : Type 0
SoundCanSeparate = (s : Subvolume ℕ) → IsSound s → length s.names < 2 ^ 64 → CanSeparate s

abbrev pub IsFit : Option (Part ℕ) → Type 0
IsFit None = Unit {0}
IsFit (Some part) = CanSeparate part.subvolume

-- So it is before each command of a plain run.
unfoldable pub AreFit : State ℕ → List Command → Type 0
AreFit state [] = Unit {0}
AreFit state (c ∷ cs) = IsFit state.part × AreFit (step 0 (bytes_of c) state c).state cs

-- A part has fewer than 2^64 names.
abbrev pub IsSmall : {C : Type 0} → Option (Part C) → Type 0
IsSmall None = Unit {0}
IsSmall (Some part) = length part.subvolume.names < 2 ^ 64

-- What a plain run of commands leads to, separated commands lead to, in a plain run and in the real
-- receiver, which has no file open.
pub record IsSeparated (state end : State ℕ) (commands : List Command) : Type 0 where
  pub plain : LeadTo state (separated state commands) end
  pub received : ReceiverTakes (record { state = state; opened = None })
      (separated state commands) end

abbrev pub SeparatedIsReceived : Type 0
SeparatedIsReceived =
    (state end : State ℕ) (commands : List Command) → AreFit state commands
    → LeadTo state commands end → IsSeparated state end commands

-- Separators have no bytes and no clones, name no key, and begin no part.
pub record CountsSame (state : State ℕ) (commands : List Command) : Type 0 where
  pub literal_bytes : literal (separated state commands) ≡ literal commands
  pub clone_count : clones (separated state commands) ≡ clones commands
  pub same_keys : all_keys_named (separated state commands) ≡ all_keys_named commands
  pub same_heads : heads_of (separated state commands) ≡ heads_of commands
  pub same_streams : streams (separated state commands) ≡ streams commands

abbrev pub SeparatedCountsSame : Type 0
SeparatedCountsSame = (state : State ℕ) (commands : List Command) → CountsSame state commands
