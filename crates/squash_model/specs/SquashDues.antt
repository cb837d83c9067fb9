-- The one answer that is due to squashing a file over a store, and what is written with it. The
-- order of answers is this program's own.
use Rattle.std.specs.Prelude.{◌≡◌, ◌⊎◌, ℕ, List, [], ◌∷◌, Option, None, Some}
use Rattle.send_model.specs.Reading.{Item, Verdict, Whole}
use Rattle.send_model.specs.Store.{Store}
use Rattle.send_model.specs.Receive.{start_of}
use Rattle.send_model.specs.Order.{heads, without_parts}
use Rattle.send_model.specs.Outside.{part_uuids, store_without, base_of}
use Rattle.send_model.specs.Headline.{IsProperFrontOf}
use Rattle.send_model.specs.Due.{Due, DoneWhole, RefusedAt, TooLong, Stop, AtEnd, AtFault, AtLimit, Limited, refused_due}
use Rattle.squash_model.specs.SquashedStreams.{squashed_output}
use Rattle.squash_model.specs.SquashJudge.{nothing_passed, judge_one, squash_judge}

-- What a stream is squashed over: the store without the subvolume of its first command, which the
-- store may have already.
abbrev pub own_uuids : List Item → List (List ℕ)
own_uuids [] = []
own_uuids (item ∷ items) = part_uuids (item ∷ [])

abbrev pub own_base : {C : Type 0} → Store C → List Item → Store C
own_base store items = store_without (own_uuids items) store

-- A verdict on commands is due; else what stopped the reading; else something other.
abbrev pub verdict_or : Option Verdict → Due → Due
verdict_or None other = other
verdict_or (Some verdict) other = RefusedAt verdict

abbrev pub stop_or : Stop → Due → Due
stop_or AtEnd other = other
stop_or (AtFault verdict) other = RefusedAt verdict
stop_or (AtLimit file) other = TooLong file

-- The answer that is due for what was read, over a base: the first command that its step refuses,
-- the head of a second part, or what comes behind END; else the fault that ended the reading, or
-- that the file is too long; else that there is no part.
abbrev pub squash_due : Store ℕ → Limited → Due
squash_due base read =
    verdict_or (judge_one (start_of base) nothing_passed read.items)
    (stop_or read.stop (refused_due (without_parts read.items (heads read.items))))

-- What was written where the output was not finished: nothing, or the file can be squashed and a
-- proper front part of the output was.
abbrev pub IsPartlySquashed : Store ℕ → Limited → List ℕ → Type 0
IsPartlySquashed base read written =
    (written ≡ [])
    ⊎ ((squash_due base read ≡ DoneWhole)
    × IsProperFrontOf (squashed_output base read.items) written)

-- ---- laws

-- Where all is done, the file was read to its end and has no verdict; and the base is the one over
-- which the file is composed.
abbrev pub DoneHasNoVerdict : Type 0
DoneHasNoVerdict =
    (base : Store ℕ) (read : Limited) → squash_due base read ≡ DoneWhole
    → (read.stop ≡ AtEnd)
    × (squash_judge base (record { items = read.items; end = Whole }) ≡ None)

abbrev pub DoneIsOverTheSameBase : Type 0
DoneIsOverTheSameBase =
    (store : Store ℕ) (read : Limited)
    → squash_due (own_base store read.items) read ≡ DoneWhole
    → own_base store read.items ≡ base_of store read.items
