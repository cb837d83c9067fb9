-- The words of contracts unpacked: what they speak of part by part, as the lemmas name it.
use Rattle.std.specs.Prelude.{ℕ, List, Option}
use Rattle.send_model.specs.Command.{Command}
use Rattle.send_model.specs.Store.{Part}
use Rattle.store_model.specs.Image.{Header}
use Rattle.store_model.specs.Stored.{Group}
use Rattle.sx_base.specs.Disk.{Pending}
use Rattle.group_replay.specs.declared.place.Place.{Place}
use Rattle.store_journal.specs.Shown.{StoreState}
use Rattle.store_journal.specs.Holding as holding

abbrev pub Builds : (header : Header) (groups : List Group) (version : ℕ) (commands : List Command) (part : Part (Option Place)) (store : StoreState) (seen : List ℕ) (pending : Pending) → Type 0
Builds header groups version commands part store seen pending = holding.Builds header groups (holding.in_progress version commands part) store seen pending
