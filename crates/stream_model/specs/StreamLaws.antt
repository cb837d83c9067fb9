-- What the own streams of subvolumes mean. This program's own.
use Rattle.std.specs.Prelude.{◌≡◌, ◌≢◌, ℕ, List, Some}
use Rattle.send_model.specs.Attribute.{IsBytes}
use Rattle.send_model.specs.Reading.{reads, Whole}
use Rattle.send_model.specs.Store.{Store}
use Rattle.send_model.specs.Headline.{IsProperFrontOf}
use Rattle.store_model.specs.Stored.{StandsFor}
use Rattle.store_model.specs.Dues.{Due, complete_named}
use Rattle.store_model.specs.Answers.{answer_of}
use Rattle.stream_model.specs.OwnStream.{Edits, last_edits, own_stream, IsBeforeEdits, IsTakenAgain}
use Rattle.stream_model.specs.StreamDues.{Found, IsStreamOf, IsStreamDue, StreamSays, IsStreamedBack}

-- Each complete entry of what an image stands for has edits in its groups, and its own stream is
-- taken again.
abbrev pub OwnStreamIsTaken : Type 0
OwnStreamIsTaken = (image name : List ℕ) (store : Store ℕ) (stands : StandsFor image store)
    (found : Found) → complete_named name store ≡ Some found
    → (edits : Edits) × (was : Store ℕ)
    × (last_edits found.0.key.uuid stands.groups ≡ Some edits)
    × IsBeforeEdits stands.groups found.0.key.uuid edits was
    × IsTakenAgain was found.0 edits (own_stream found.0 edits)

-- So what is due is taken again.
abbrev pub DueIsTaken : Type 0
DueIsTaken = (image name written : List ℕ) → IsStreamOf image name written
    → IsStreamedBack image name written

-- Less than a stream does not read whole.
abbrev pub CutIsNotWhole : Type 0
CutIsNotWhole = (image name whole written : List ℕ) → IsStreamOf image name whole
    → IsProperFrontOf whole written → (reads 1 written).end ≢ Whole

-- One answer is due, and one stream.
abbrev pub OneStreamDue : Type 0
OneStreamDue = (image name : List ℕ) (due other : Due) (written output : List ℕ)
    → IsStreamDue image name due written → IsStreamDue image name other output
    → (due ≡ other) × (written ≡ output)

-- And there is one for each image of bytes.
abbrev pub EachStreamIsDue : Type 0
EachStreamIsDue = (image name : List ℕ) → IsBytes image
    → (due : Due) × (written : List ℕ) × IsStreamDue image name due written

-- What is due is answered as it says.
abbrev pub StreamIsAnswered : Type 0
StreamIsAnswered = (image name : List ℕ) (due : Due) (written : List ℕ)
    → IsStreamDue image name due written → StreamSays image name (answer_of due) written
