-- Receiving files one after the other: what the loop over them keeps, and each of its ends.
use Rattle.std.specs.Prelude.{◌≡◌, ℕ, ◌+◌, ◌<◌, ◌≤◌, List, [], ◌∷◌, ◌++◌, map, length, drop, slice_index_or, String, Option, None, Some, Result, Ok, Err}
use Rattle.std.specs.String.{string_bytes}
use Rattle.std.specs.Io.KnownBytes.{Appends}
use Rattle.std.proofs.KnownBytes.{Appends-nil, Appends-trans}
use Rattle.std.proofs.Common.{refl, sym, ap, subst, ◌∙◌, append_assoc, append-nil, arith}
use Rattle.std.proofs.lemmas.List.{drop_all}
use Rattle.send_model.specs.Reading.{Item}
use Rattle.send_model.specs.Store.{Store}
use Rattle.send_model.specs.Guards.{Guard}
use Rattle.send_model.specs.Due.{Limited, limited_from}
use Rattle.send_model.specs.Overridden.{Override, Overrides, override_for, overridden_limited}
use Rattle.sx_base.specs.Outside.{file_at}
use Rattle.sx_base.specs.Calls.{contents, IfAllTold}
use Rattle.sx_base.proofs.NamedFiles.{file_there, count_of_files}
use Rattle.cmd_reader.specs.Places.{IfTold}
use Rattle.cmd_reader.proofs.Told.{told_next}
use Rattle.store_model.specs.Stored.{Group}
use Rattle.store_model.specs.Written.{Begun, groups_from}
use Rattle.store_model.proofs.PassedStates.{IsOn}
use Rattle.auditor.specs.Following.{then_read, file_read, read_whole}
use Rattle.store_journal.specs.Shown.{StoreState}
use Rattle.receiver.specs.declared.outcome.Received.{Received}
use Rattle.receiver.specs.Running.{Spot, IsAt}
use Rattle.receiver.specs.FileEnds.{read_with, then_others}
use Rattle.receiver.proofs.Unpacked.{Leads, Stops, IsLeft, FileEnds, AllEnds}
use Rattle.receiver.proofs.NamedReads.{split_with}
use Rattle.receiver.proofs.Leading.{leads_none, leads_on}
use Rattle.receiver.proofs.LeftGroups.{left_on}
use Rattle.receiver.proofs.Ends.{stops_from}

-- ---- what the loop keeps

pub record AllStand (overrides : Overrides) (number limit : ℕ) (base : Store ℕ) (spot : Spot) (guards : List Guard) (store : StoreState) (old new : Option (List ℕ)) (K : List Group → Option Begun → Type 0) (files : List (List ℕ)) : Type 0 where
  pub items : List Item
  pub read : overridden_limited overrides (limited_from 1 files) ≡ then_read items (overridden_limited overrides (limited_from (number + 1) (drop number files)))
  pub now : Spot
  pub at : IsAt now guards store None
  pub groups : List Group
  pub lines : List ℕ
  pub leads : Leads limit base spot now items groups lines
  pub wrote : Appends old new lines
  pub none : now.begun ≡ None
  pub disk : K groups None

pub all_start : (told : Option (List (List ℕ × List ℕ))) (overrides : Overrides) (names : List (List ℕ)) (limit : ℕ) (base : Store ℕ) (spot : Spot) (guards : List Guard) (store : StoreState) (out : Option (List ℕ)) (K : List Group → Option Begun → Type 0)
    → IsAt spot guards store None → IsOn base spot.watched.state.store spot.watched.state.part → spot.begun ≡ None → K [] None → IfAllTold told names (AllStand overrides 0 limit base spot guards store out out K)
all_start None overrides names limit base spot guards store out K at on none disk = tt
all_start (Some table) overrides names limit base spot guards store out K at on none disk = record {
  items = [];
  read = refl;
  now = spot;
  at = at;
  groups = [];
  lines = [];
  leads = leads_none limit base spot on;
  wrote = Appends-nil out;
  none = none;
  disk = disk;
}

then_then : (items more : List Item) (l : Limited) → then_read items (then_read more l) ≡ then_read (items ++ more) l
then_then items more l = ap (λ (is : List Item). record { items = is; stop = l.stop }) (sym (append_assoc items more l.items))

-- What is read of the next file, and of those behind it.
next_read : (overrides : Overrides) (number : ℕ) (bytes : List ℕ) (files : List (List ℕ)) (override : Override) → override ≡ override_for overrides (number + 1) → drop number files ≡ bytes ∷ drop (number + 1) files
    → overridden_limited overrides (limited_from (number + 1) (drop number files))
    ≡ then_others (read_with override (file_read (number + 1) bytes)) (overridden_limited overrides (limited_from (number + 1 + 1) (drop (number + 1) files)))
next_read overrides number bytes files override given here =
    let more : Limited = overridden_limited overrides (limited_from (number + 1 + 1) (drop (number + 1) files)) in
    ap (λ (fs : List (List ℕ)). overridden_limited overrides (limited_from (number + 1) fs)) here ∙ split_with overrides (number + 1) bytes (drop (number + 1) files)
    ∙ ap (λ (o : Override). then_others (read_with o (file_read (number + 1) bytes)) more) (sym given)

-- The next file, of those that are told.
pub all_next : {Z : Type 0} (told inputs : Option (List (List ℕ × List ℕ))) (overrides : Overrides) (names : List (String Z)) (number limit : ℕ) (base : Store ℕ) (spot : Spot) (guards guards_now : List Guard) (store store_now : StoreState) (out out_now out_next : Option (List ℕ)) (K K1 L : List Group → Option Begun → Type 0) (M : Spot → List Group → Type 0) (J : Received → ((List Group → Type 0) → Type 0) → Type 0) (name : String Z) (spelled : List ℕ) (override : Override) (r : Result (Unit {0}) Received) (u : Unit {0})
    → inputs ≡ told → number < length names → name ≡ slice_index_or names number name → spelled ≡ string_bytes name → override ≡ override_for overrides (number + 1) → r ≡ Ok u
    → ((now : Spot) → IsAt now guards store None → IsOn base now.watched.state.store now.watched.state.part → now.begun ≡ None → IfTold inputs spelled (FileEnds override (number + 1) limit base now guards_now store_now out_now out_next K1 (M now) J r))
    → ((groups more : List Group) → K groups None → K1 more None → L (groups ++ more) None)
    → IfAllTold told (map string_bytes names) (AllStand overrides number limit base spot guards store out out_now K) → IfAllTold told (map string_bytes names) (AllStand overrides (number + 1) limit base spot guards_now store_now out out_next L)
all_next None inputs overrides names number limit base spot guards guards_now store store_now out out_now out_next K K1 L M J name spelled override r u same less is spelling given was ends disk s = tt
all_next (Some table) inputs overrides names number limit base spot guards guards_now store store_now out out_now out_next K K1 L M J name spelled override r u same less is spelling given was ends disk s =
    let files : List (List ℕ) = contents table (map string_bytes names) in
    let bytes : List ℕ = file_at table (string_bytes name) in
    let said = told_next table inputs name spelled (FileEnds override (number + 1) limit base s.now guards_now store_now out_now out_next K1 (M s.now) J (Ok u)) same spelling
    (subst (λ (x : Result (Unit {0}) Received). IfTold inputs spelled (FileEnds override (number + 1) limit base s.now guards_now store_now out_now out_next K1 (M s.now) J x)) was (ends s.now s.at s.leads.on s.none)) in
    let here = file_there table names number name less is in
    let more : Limited = overridden_limited overrides (limited_from (number + 1 + 1) (drop (number + 1) files)) in
    record {
      items = s.items ++ said.items;
      read = s.read ∙ ap (then_read s.items) (next_read overrides number bytes files override given here ∙ ap (λ (l : Limited). then_others l more) said.read)
          ∙ then_then s.items said.items more;
      now = said.now;
      at = said.at;
      groups = s.groups ++ said.groups;
      lines = s.lines ++ said.lines;
      leads = leads_on limit base spot s.now said.now s.items said.items s.groups said.groups s.lines said.lines s.leads said.leads;
      wrote = Appends-trans out out_now out_next s.lines said.lines s.wrote said.wrote;
      none = said.none;
      disk = disk s.groups said.groups s.disk said.disk;
    }

-- The next file ends it.
pub all_stop : {Z : Type 0} (told inputs : Option (List (List ℕ × List ℕ))) (overrides : Overrides) (names : List (String Z)) (number limit : ℕ) (base : Store ℕ) (spot : Spot) (guards guards_now : List Guard) (store store_now : StoreState) (out out_now out_next : Option (List ℕ)) (K K1 L : List Group → Option Begun → Type 0) (M : Spot → List Group → Type 0) (N : List Group → Type 0) (I J : Received → ((List Group → Type 0) → Type 0) → Type 0) (name : String Z) (spelled : List ℕ) (override : Override) (r : Result (Unit {0}) Received) (why : Received)
    → inputs ≡ told → number < length names → name ≡ slice_index_or names number name → spelled ≡ string_bytes name → override ≡ override_for overrides (number + 1) → r ≡ Err why
    → ((now : Spot) → IsAt now guards store None → IsOn base now.watched.state.store now.watched.state.part → now.begun ≡ None → IfTold inputs spelled (FileEnds override (number + 1) limit base now guards_now store_now out_now out_next K1 (M now) I r))
    → ((now : Spot) (groups more : List Group) → K groups None → M now more → N (groups ++ more))
    → ((groups : List Group) (W V : (List Group → Type 0) → Type 0) → K groups None → ((H G : List Group → Type 0) → ((first : List Group) → H first → G (groups ++ first)) → W H → V G) → I why W → J why V)
    → IfAllTold told (map string_bytes names) (AllStand overrides number limit base spot guards store out out_now K) → IfAllTold told (map string_bytes names) (AllEnds overrides limit base spot guards_now store_now out out_next L N J (Err why))
all_stop None inputs overrides names number limit base spot guards guards_now store store_now out out_now out_next K K1 L M N I J name spelled override r why same less is spelling given was ends disk left s = tt
all_stop (Some table) inputs overrides names number limit base spot guards guards_now store store_now out out_now out_next K K1 L M N I J name spelled override r why same less is spelling given was ends disk left s =
    let files : List (List ℕ) = contents table (map string_bytes names) in
    let bytes : List ℕ = file_at table (string_bytes name) in
    let said = told_next table inputs name spelled (FileEnds override (number + 1) limit base s.now guards_now store_now out_now out_next K1 (M s.now) I (Err why)) same spelling
    (subst (λ (x : Result (Unit {0}) Received). IfTold inputs spelled (FileEnds override (number + 1) limit base s.now guards_now store_now out_now out_next K1 (M s.now) I x)) was (ends s.now s.at s.leads.on s.none)) in
    let here = file_there table names number name less is in
    let more : Limited = overridden_limited overrides (limited_from (number + 1 + 1) (drop (number + 1) files)) in
    let whole : Limited = then_others (read_with override (file_read (number + 1) bytes)) more in
    let read : overridden_limited overrides (limited_from 1 files) ≡ then_read s.items whole = s.read ∙ ap (then_read s.items) (next_read overrides number bytes files override given here) in
    record {
      lines = s.lines ++ said.lines;
      wrote = Appends-trans out out_now out_next s.lines said.lines s.wrote said.wrote;
      stops = subst (λ (l : Limited). Stops why limit base spot l (s.lines ++ said.lines) store_now.core) (sym read) (stops_from why limit base spot s.now s.items s.groups s.lines said.lines whole store_now.core s.leads (said.stops more));
      moments = subst (λ (l : Limited). N (groups_from spot.watched spot.begun l.items)) (sym read) (subst N (sym (s.leads.written whole.items)) (disk s.now s.groups (groups_from s.now.watched s.now.begun whole.items) s.disk (said.moments more)));
      disk = subst (λ (l : Limited). J why (λ H. IsLeft why limit base spot l (s.lines ++ said.lines) H)) (sym read)
          (left s.groups (λ H. IsLeft why limit base s.now whole said.lines H) (λ H. IsLeft why limit base spot (then_read s.items whole) (s.lines ++ said.lines) H) s.disk
          (λ H G moved l. left_on why limit base spot s.now s.items s.groups s.lines said.lines whole H G s.leads moved l) (said.disk more));
    }

-- After the last.
pub all_end : {Z : Type 0} (told : Option (List (List ℕ × List ℕ))) (overrides : Overrides) (names : List (String Z)) (number limit : ℕ) (base : Store ℕ) (spot : Spot) (guards : List Guard) (store : StoreState) (out out_now : Option (List ℕ)) (K : List Group → Option Begun → Type 0) (N : List Group → Type 0) (J : Received → ((List Group → Type 0) → Type 0) → Type 0) → length names ≤ number
    → IfAllTold told (map string_bytes names) (AllStand overrides number limit base spot guards store out out_now K) → IfAllTold told (map string_bytes names) (AllEnds overrides limit base spot guards store out out_now K N J (Ok tt))
unfolding limited_from
all_end None overrides names number limit base spot guards store out out_now K N J past s = tt
all_end (Some table) overrides names number limit base spot guards store out out_now K N J past s =
    let files : List (List ℕ) = contents table (map string_bytes names) in
    let over : length files ≤ number = omega (arith, count_of_files table names, past) in
    record {
      items = s.items;
      read = s.read ∙ ap (λ (fs : List (List ℕ)). then_read s.items (overridden_limited overrides (limited_from (number + 1) fs))) (drop_all number files over) ∙ ap read_whole (append-nil s.items);
      now = s.now;
      at = s.at;
      groups = s.groups;
      lines = s.lines;
      leads = s.leads;
      wrote = s.wrote;
      none = s.none;
      disk = s.disk;
    }
