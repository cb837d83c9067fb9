-- What guards mean for receiving: they add refusals and nothing else; and that an audit is
-- receiving under them. This program's own.
use Rattle.std.specs.Prelude.{◌≡◌, ◌≤◌, ℕ, false, List, [], ◌∷◌, ◌++◌, map, length, take, None}
use Rattle.std.specs.List.{AllByRecursion}
use Rattle.std.specs.Option.{option_map}
use Rattle.send_model.specs.Command.{Command}
use Rattle.send_model.specs.Reading.{Reading, Whole, input}
use Rattle.send_model.specs.Lengths.{limit, too_long}
use Rattle.send_model.specs.Store.{Store}
use Rattle.send_model.specs.Receive.{Ran, byte_cells, receive_of, receive}
use Rattle.send_model.specs.Order.{commands_of}
use Rattle.send_model.specs.Counts.{literal}
use Rattle.send_model.specs.Guards.{GuardSpec, MostBytes, MostCommands, NoDevices, MostEnd, Guard, new_guard, seen, end_of, is_device, is_above, Watched, receive_watched, receive_under}
use Rattle.send_model.specs.Due.{RefusedAt, TooLong, refused_due, or_due, audit_due}
use Rattle.send_model.specs.LengthLaws.{IsFirstLong}

-- A run, with guards beside its state.
abbrev pub watched_run : {S : Type 0} → List Guard → Ran S → Ran (Watched S)
watched_run guards r =
    record { state = record { guards = guards; state = r.state }; refused = r.refused }

-- Receiving what was read without guards is receiving it; and so it is of files.
abbrev pub NoGuardsOnReadings : Type 0
NoGuardsOnReadings =
    (store : Store ℕ) (reading : Reading)
    → receive_watched 0 byte_cells store [] reading ≡ watched_run [] (receive_of store reading)

abbrev pub NoGuardsChangeNothing : Type 0
NoGuardsChangeNothing =
    (store : Store ℕ) (files : List (List ℕ))
    → receive_under store [] files ≡ watched_run [] (receive store files)

-- What is accepted under guards is accepted without them, and leads to the same state.
abbrev pub AllowedReadingIsAccepted : Type 0
AllowedReadingIsAccepted =
    (store : Store ℕ) (guards : List Guard) (reading : Reading)
    → (receive_watched 0 byte_cells store guards reading).refused ≡ None
    → receive_of store reading
    ≡ record {
      state = (receive_watched 0 byte_cells store guards reading).state.state;
      refused = None;
    }

abbrev pub AllowedIsAccepted : Type 0
AllowedIsAccepted =
    (store : Store ℕ) (guards : List Guard) (files : List (List ℕ))
    → (receive_under store guards files).refused ≡ None
    → receive store files
    ≡ record { state = (receive_under store guards files).state.state; refused = None }

-- What a guard that began with nothing counted says of commands that it allowed, one after the
-- other: so many bytes in WRITE commands at most, so many commands at most, no MKNOD, or no end of
-- a WRITE with data, a CLONE or a TRUNCATE above a place.
abbrev pub IsWithin : GuardSpec → List Command → Type 0
IsWithin (MostBytes most) commands = literal commands ≤ most
IsWithin (MostCommands most) commands = length commands ≤ most
IsWithin NoDevices commands = AllByRecursion (λ c. is_device (seen c) ≡ false) commands
IsWithin (MostEnd most) commands =
    AllByRecursion (λ c. is_above most (end_of (seen c)) ≡ false) commands

-- What is accepted under guards is within the limits of each.
abbrev pub AcceptedReadingIsWithin : Type 0
AcceptedReadingIsWithin =
    (store : Store ℕ) (specs : List GuardSpec) (reading : Reading)
    → (receive_watched 0 byte_cells store (map new_guard specs) reading).refused ≡ None
    → AllByRecursion (λ spec. IsWithin spec (commands_of reading.items)) specs

abbrev pub AcceptedIsWithin : Type 0
AcceptedIsWithin =
    (store : Store ℕ) (specs : List GuardSpec) (files : List (List ℕ))
    → (receive_under store (map new_guard specs) files).refused ≡ None
    → AllByRecursion (λ spec. IsWithin spec (commands_of (input files).items)) specs

-- The answer that is due to an audit is that of receiving under guards, where no file is too long.
abbrev pub AuditIsReceiving : Type 0
AuditIsReceiving =
    (store : Store ℕ) (guards : List Guard) (files : List (List ℕ)) → too_long files ≡ None
    → audit_due store guards files ≡ refused_due (receive_under store guards files).refused

-- Where one is too long, it is the first refusal of what stands before the limit of the first such
-- file; and else it names that file.
abbrev pub AuditStopsAtLimit : Type 0
AuditStopsAtLimit =
    (store : Store ℕ) (guards : List Guard) (files : List (List ℕ)) (n : ℕ)
    (first : IsFirstLong 1 n files)
    → let before = (input (first.before ++ take limit first.bytes ∷ [])).items in
    audit_due store guards files
    ≡ or_due (option_map RefusedAt
    (receive_watched 0 byte_cells store guards
    (record { items = before; end = Whole })).refused) (TooLong n)
