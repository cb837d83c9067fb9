-- The ends of the loop over a file's commands.
use Rattle.std.specs.Prelude.{◌≡◌, ℕ, List, [], ◌∷◌, ◌++◌, map, take, Option, None, Some, Result, Ok, Err, OnOk}
use Rattle.std.specs.Io.KnownBytes.{Appends}
use Rattle.std.proofs.KnownBytes.{Appends-nil, Appends-trans}
use Rattle.std.proofs.Common.{refl, sym, ap, subst, ◌∙◌, append_assoc, append-nil}
use Rattle.send_model.specs.Reading.{Item, Whole, Faulty, Reading, CommandDue, HeaderDue, reads}
use Rattle.send_model.specs.Store.{Store, After}
use Rattle.send_model.specs.Guards.{Guard}
use Rattle.send_model.specs.Lengths.{limit as most, only_ends}
use Rattle.send_model.specs.Overridden.{Override, overridden_as}
use Rattle.send_model.specs.Due.{Limited, Stop, AtEnd, AtFault, AtLimit}
use Rattle.send_model.proofs.TooLong.{short_fits, fault_fits, long_is}
use Rattle.sx_base.specs.Refusals.{refusal_of, verdict_meant}
use Rattle.sx_base.specs.declared.outcome.Verdict.{Verdict}
use Rattle.sx_base.specs.declared.outcome.Outcome.{Outcome}
use Rattle.sx_base.specs.declared.outcome.Outcome.TheVariants as ended
use Rattle.cmd_reader.specs.declared.item.Item as read
use Rattle.cmd_reader.specs.declared.item.ReadStop.{ReadStop}
use Rattle.cmd_reader.specs.declared.item.ReadStop.TheVariants as stop
use Rattle.cmd_reader.specs.Places.{IfTold}
use Rattle.cmd_reader.specs.Fronts.{IsRefused, IsLongAt}
use Rattle.cmd_reader.specs.Left.{Reader, left}
use Rattle.cmd_reader.specs.Next.{item_of, HasEnded, IsFaulty, OnlyEnds, IsNext, NextSays}
use Rattle.cmd_reader.specs.Stopping.{outcome_at}
use Rattle.cmd_reader.proofs.Aheads.{next_item, next_end}
use Rattle.cmd_reader.proofs.Told.{Here, told_both, told_map, told_always, told_here, told_moved}
use Rattle.store_model.specs.Stored.{Group}
use Rattle.store_model.specs.Written.{Begun, closed_by, groups_from}
use Rattle.store_model.proofs.PassedStates.{IsOn}
use Rattle.auditor.specs.Following.{Followed, beside, follow, file_read}
use Rattle.group_replay.specs.declared.place.Place.{Place}
use Rattle.store_journal.specs.Shown.{StoreState}
use Rattle.receiver.specs.declared.opened.Opened.{Opened}
use Rattle.receiver.specs.declared.outcome.Received.{Received}
use Rattle.receiver.specs.declared.outcome.Received.TheVariants as how
use Rattle.receiver.specs.Standing.{behind_close, place_of, IsReady}
use Rattle.receiver.specs.Disks.{HasVersion}
use Rattle.receiver.specs.Answers.{StepSays, PiecesSay, ItemWrites}
use Rattle.receiver.specs.Steps.{blank_of, line_under, begun_if}
use Rattle.receiver.specs.Running.{Spot, IsAt}
use Rattle.receiver.specs.FileEnds.{read_with, then_others}
use Rattle.receiver.proofs.Unpacked.{Stops, IsLeft, FileTaken, FileStopped, FileEnds}
use Rattle.receiver.proofs.Spots.{groups_first}
use Rattle.receiver.proofs.Leading.{the_guards, the_step, leads_none}
use Rattle.receiver.proofs.Ends.{stops_from, no_items_due, no_items_left, no_items_core, whatever_front}
use Rattle.receiver.proofs.LeftGroups.{IsUndecided, left_then, left_on, left_here, left_all}
use Rattle.receiver.proofs.ItemEnds.{WrittenAs, item_stops}
use Rattle.receiver.proofs.NamedReads.{GivenFits, reading_with, whole_named, fault_named, long_named, either_named}
use Rattle.receiver.proofs.FileSteps.{and_then, VersionDue, Stands, fits_version, left_named}

-- ---- whatever follows a file

-- What holds of the items that are read and of all behind them holds of the file and those that
-- follow it.
others_of : (Q : Limited → Type 0) (read more : Limited) → ((extra : List Item) (stop : Stop) → Q (record { items = read.items ++ extra; stop = stop })) → Q (then_others read more)
others_of Q read more f = by_stop read.items read.stop f
  where
    by_stop : (items : List Item) (stop : Stop) → ((extra : List Item) (s : Stop) → Q (record { items = items ++ extra; stop = s })) → Q (then_others (record { items = items; stop = stop }) more)
    by_stop items AtEnd g = g more.items more.stop
    by_stop items (AtFault verdict) g = subst (λ (is : List Item). Q (record { items = is; stop = AtFault verdict })) (append-nil items) (g [] (AtFault verdict))
    by_stop items (AtLimit file) g = subst (λ (is : List Item). Q (record { items = is; stop = AtLimit file })) (append-nil items) (g [] (AtLimit file))

abbrev Behind : (Limited → Type 0) → List Item → Type 0
Behind Q items = (extra : List Item) (stop : Stop) → Q (record { items = items ++ extra; stop = stop })

-- ---- the file ends

no_begun : (reader : Reader) (begun : Option Begun) → reader.fed.due ≡ HeaderDue → VersionDue reader begun → begun ≡ None
no_begun reader None due version = refl
no_begun reader (Some b) due version = absurd (apart (sym due ∙ version))
  where
    apart : HeaderDue ≡ CommandDue b.version → ⊥
    apart e = cc

pub file_done : (told inputs : Option (List (List ℕ × List ℕ))) (override : Override) (file limit : ℕ) (name : List ℕ) (base : Store ℕ) (spot : Spot) (old new : Reader) (guards : List Guard) (store : StoreState) (current : Option Opened) (out out_now : Option (List ℕ)) (K : List Group → Option Begun → Type 0) (M : List Group → Type 0) (J : Received → ((List Group → Type 0) → Type 0) → Type 0) (f0 f1 : ℕ) (o : Option read.Item)
    → o ≡ None → inputs ≡ told → old.name ≡ name → NextSays inputs old new f0 f1 (Ok o) → current ≡ None → old.fed.due ≡ HeaderDue
    → IfTold told name (Stands override file limit base spot old guards store current out out_now K) → IfTold told name (FileEnds override file limit base spot guards store out out_now K M J (Ok tt))
file_done told inputs override file limit name base spot old new guards store current out out_now K M J f0 f1 o e same name_is says none due stands =
    told_both told name (HasEnded old) (Stands override file limit base spot old guards store current out out_now K) (FileEnds override file limit base spot guards store out out_now K M J (Ok tt)) step
    (next_end told inputs name old new f0 f1 o e same name_is says) stands
  where
    step : (bytes : List ℕ) → HasEnded old bytes → Stands override file limit base spot old guards store current out out_now K bytes → FileTaken override file limit base spot guards store out out_now K bytes
    step bytes (is, less) s =
        let closed : s.now.begun ≡ None = no_begun old s.now.begun due s.version in
        record {
          items = s.items;
          read = whole_named override file bytes s.items (short_fits file bytes less) (s.read ∙ ap (λ (r : Reading). and_then s.items (reading_with override r)) is ∙ ap (λ (xs : List Item). record { items = xs; end = Whole }) (append-nil s.items));
          now = s.now;
          at = subst (λ (c : Option Opened). IsAt s.now guards store c) none s.at;
          groups = s.groups;
          lines = s.lines;
          leads = s.leads;
          wrote = s.wrote;
          none = closed;
          disk = subst (λ (b : Option Begun). K s.groups b) closed s.disk;
        }

-- ---- nothing is read

pub file_unopened : (told : Option (List (List ℕ × List ℕ))) (override : Override) (file limit : ℕ) (name : List ℕ) (base : Store ℕ) (spot : Spot) (guards : List Guard) (store : StoreState) (out : Option (List ℕ)) (K : List Group → Option Begun → Type 0) (M : List Group → Type 0) (J : Received → ((List Group → Type 0) → Type 0) → Type 0)
    → IsOn base spot.watched.state.store spot.watched.state.part → ((due : List Group) → M due) → ((V : (List Group → Type 0) → Type 0) → ((G : List Group → Type 0) → G [] → V G) → J (how.Files ended.NoMemory) V)
    → IfTold told name (FileEnds override file limit base spot guards store out out K M J (Err (how.Files ended.NoMemory)))
file_unopened told override file limit name base spot guards store out K M J on moments rests = told_always told name (FileEnds override file limit base spot guards store out out K M J (Err (how.Files ended.NoMemory))) (λ bytes. record {
  lines = [];
  wrote = Appends-nil out;
  stops = λ more. whatever_front base spot (then_others (read_with override (file_read file bytes)) more) on;
  moments = λ more. moments (groups_from spot.watched spot.begun (then_others (read_with override (file_read file bytes)) more).items);
  disk = λ more. rests (λ H. IsLeft (how.Files ended.NoMemory) limit base spot (then_others (read_with override (file_read file bytes)) more) [] H)
      (λ G has. left_here (how.Files ended.NoMemory) limit base spot spot [] [] [] (then_others (read_with override (file_read file bytes)) more) G (leads_none limit base spot on) (λ P. (tt, tt)) has);
})

-- ---- an item ends it

pub file_item : (told inputs : Option (List (List ℕ × List ℕ))) (override : Override) (file limit len : ℕ) (name : List ℕ) (base : Store ℕ) (spot : Spot) (old new : Reader) (guards guards_now : List Guard) (store store_now : StoreState) (current current_now : Option Opened) (out out_now out_next : Option (List ℕ)) (K L : List Group → Option Begun → Type 0) (M : List Group → Type 0) (J : Received → ((List Group → Type 0) → Type 0) → Type 0) (Sure : Type 0) (f0 f1 : ℕ) (o : Option read.Item) (own item : read.Item) (why : Received)
    → o ≡ Some own → inputs ≡ told → old.name ≡ name → old.file ≡ file → NextSays inputs old new f0 f1 (Ok o) → item_of file item ≡ overridden_as override (item_of file own) → GivenFits old new item → IsReady len current store
    → StepSays (Err why) (item_of file item) (beside guards_now (blank_of store_now current_now)) (follow (beside guards (blank_of store current)) (item_of file item))
    → PiecesSay (Err why) limit (behind_close current (item_of file item).command (place_of store current)) (place_of store_now current_now) (item_of file item)
    → ItemWrites (Err why) Sure (line_under guards current (item_of file item).command) out_now out_next
    → ((groups more : List Group) (begun : Option Begun) → HasVersion item.version begun → K groups begun
    → M (groups ++ ((closed_by guards (item_of file item).command begun ++ begun_if (follow (beside guards (blank_of store current)) (item_of file item)) (item_of file item).command) ++ more)))
    → ((now : Spot) (lines : List ℕ) (extra : List Item) (stop : Stop) (groups : List Group) (V : (List Group → Type 0) → Type 0) → IsAt now guards store current → IsOn base now.watched.state.store now.watched.state.part
    → WrittenAs why Sure (line_under guards current (item_of file item).command) lines → HasVersion item.version now.begun → K groups now.begun
    → ((H G : List Group → Type 0) → ((first : List Group) → H first → G (groups ++ first)) → IsLeft why limit base now (record { items = item_of file item ∷ extra; stop = stop }) lines H → V G) → J why V)
    → IfTold told name (Stands override file limit base spot old guards store current out out_now K) → IfTold told name (FileEnds override file limit base spot guards_now store_now out out_next L M J (Err why))
file_item told inputs override file limit len name base spot old new guards guards_now store store_now current current_now out out_now out_next K L M J Sure f0 f1 o own item why e same name_is file_is says named fits ready stepped pieces writes disk left_at stands =
    told_both told name (Here (IsNext old new own)) (Here (Stands override file limit base spot old guards store current out out_now K)) (FileEnds override file limit base spot guards_now store_now out out_next L M J (Err why)) step
    (told_here told name (IsNext old new own) (next_item told inputs name old new f0 f1 o own e same name_is says))
    (told_here told name (Stands override file limit base spot old guards store current out out_now K) stands)
  where
    Stood : List ℕ → Type 0
    Stood = Stands override file limit base spot old guards store current out out_now K

    -- what is read of some bytes
    read_is : (bytes : List ℕ) → IsNext old new own bytes → (s : Stands override file limit base spot old guards store current out out_now K bytes)
        → (reading_with override (reads file bytes)).items ≡ s.items ++ item_of file item ∷ (reading_with override (left new bytes)).items
    read_is bytes n s = ap (λ (x : Reading). x.items) (s.read ∙ ap (and_then s.items) (left_named override file old new own item bytes file_is named n))

    Q : List ℕ → Limited → Type 0
    Q lines read = Stops why limit base spot read lines store_now.core × M (groups_from spot.watched spot.begun read.items) × J why (λ H. IsLeft why limit base spot read lines H)

    P : List Item → Type 0
    P items = (lines : List ℕ) × Appends out out_next lines × ((extra : List Item) (stop : Stop) → Q lines (record { items = items ++ extra; stop = stop }))

    from_stands : (bytes : List ℕ) → (s : Stands override file limit base spot old guards store current out out_now K bytes) → (rest : List Item) → P (s.items ++ item_of file item ∷ rest)
    from_stands bytes s rest =
        let i = item_stops limit base s.now (item_of file item) guards len store current s.at s.leads.on ready guards_now store_now current_now Sure why out_now out_next stepped pieces writes in
        let followed = follow (beside guards (blank_of store current)) (item_of file item) in
        let refusals = ap (λ (a : After Followed). a.refusal) (the_step limit base s.now (item_of file item) guards len store current s.at s.leads.on ready followed refl) in
        let gs = the_guards limit base s.now (item_of file item) guards len store current s.at s.leads.on ready in (
          s.lines ++ i.0,
          Appends-trans out out_now out_next s.lines i.0 s.wrote i.1,
          λ extra stop.
              let tail : List Item = rest ++ extra in
              let same : (s.items ++ item_of file item ∷ rest) ++ extra ≡ s.items ++ item_of file item ∷ tail = append_assoc s.items (item_of file item ∷ rest) extra in
              let first = groups_first s.now.watched (item_of file item) s.now.begun tail in
              let groups : groups_from spot.watched spot.begun (s.items ++ item_of file item ∷ tail)
              ≡ s.groups ++ ((closed_by guards (item_of file item).command s.now.begun ++ begun_if followed (item_of file item).command) ++ first.0) =
              s.leads.written (item_of file item ∷ tail) ∙ ap (λ (l : List Group). s.groups ++ l) (first.1
              ∙ (λ j. (closed_by (gs j) (item_of file item).command s.now.begun ++ begun_if (record { state = followed.state; refusal = refusals j }) (item_of file item).command) ++ first.0)) in
              let version = fits_version old item.version s.now.begun fits.same_stream s.version in
              let read : Limited = record { items = item_of file item ∷ tail; stop = stop } in
              subst (λ (is : List Item). Q (s.lines ++ i.0) (record { items = is; stop = stop })) (sym same) (
                stops_from why limit base spot s.now s.items s.groups s.lines i.0 read store_now.core s.leads (i.3 tail stop),
                subst M (sym groups) (disk s.groups first.0 s.now.begun version s.disk),
                left_at s.now i.0 tail stop s.groups (λ H. IsLeft why limit base spot (record { items = s.items ++ item_of file item ∷ tail; stop = stop }) (s.lines ++ i.0) H) s.at s.leads.on i.2 version s.disk
                    (λ H G moved l. left_on why limit base spot s.now s.items s.groups s.lines i.0 read H G s.leads moved l),
              ),
        )

    step : (bytes : List ℕ) → Here (IsNext old new own) bytes → Here (Stands override file limit base spot old guards store current out out_now K) bytes → FileStopped override file limit base spot store_now out out_next M (J why) why bytes
    step bytes (n, n_front) (s, s_front) =
        let front : List ℕ = take most bytes in
        let p = either_named override file bytes P (subst P (sym (read_is bytes n s)) (from_stands bytes s (reading_with override (left new bytes)).items)) (subst P (sym (read_is front n_front s_front)) (from_stands front s_front (reading_with override (left new front)).items)) in
        record {
          lines = p.0;
          wrote = p.1;
          stops = λ more. (others_of (Q p.0) (read_with override (file_read file bytes)) more p.2).0;
          moments = λ more. (others_of (Q p.0) (read_with override (file_read file bytes)) more p.2).1;
          disk = λ more. (others_of (Q p.0) (read_with override (file_read file bytes)) more p.2).2;
        }

-- ---- the reading ends it

pub file_read_stops : (told inputs : Option (List (List ℕ × List ℕ))) (override : Override) (file limit : ℕ) (name : List ℕ) (base : Store ℕ) (spot : Spot) (old new : Reader) (guards : List Guard) (store : StoreState) (current : Option Opened) (out out_now : Option (List ℕ)) (K L : List Group → Option Begun → Type 0) (M : List Group → Type 0) (J : Received → ((List Group → Type 0) → Type 0) → Type 0) (f0 f1 : ℕ) (why : ReadStop) (outcome : Outcome)
    → inputs ≡ told → old.name ≡ name → NextSays inputs old new f0 f1 (Err why) → outcome ≡ outcome_at file why
    → ((groups more : List Group) (begun : Option Begun) → K groups begun → M (groups ++ more))
    → ((groups : List Group) (begun : Option Begun) (x : Outcome) (V : (List Group → Type 0) → Type 0) → K groups begun → ((G : List Group → Type 0) → G groups → V G) → J (how.Files x) V)
    → IfTold told name (Stands override file limit base spot old guards store current out out_now K) → IfTold told name (FileEnds override file limit base spot guards store out out_now L M J (Err (how.Files outcome)))
file_read_stops told inputs override file limit name base spot old new guards store current out out_now K L M J f0 f1 why outcome same name_is says is disk rests stands =
    subst (λ (x : Outcome). IfTold told name (FileEnds override file limit base spot guards store out out_now L M J (Err (how.Files x)))) (sym is) (by_why why says)
  where
    Stood : List ℕ → Type 0
    Stood = Stands override file limit base spot old guards store current out out_now K

    -- all was read that there is
    ended_at : (bytes held : List ℕ) → (s : Stands override file limit base spot old guards store current out out_now K held) (stop : Stop) (x : Outcome) → read_with override (file_read file bytes) ≡ record { items = s.items; stop = stop }
        → ((more : Limited) → then_others (record { items = s.items; stop = stop }) more ≡ record { items = s.items; stop = stop })
        → Stops (how.Files x) limit base s.now (record { items = []; stop = stop }) [] store.core → FileStopped override file limit base spot store out out_now M (J (how.Files x)) (how.Files x) bytes
    ended_at bytes held s stop x read alone ends =
        let whole : Limited = record { items = s.items; stop = stop } in
        let moved : Stops (how.Files x) limit base spot (record { items = s.items; stop = stop }) s.lines store.core =
        subst (λ (l : List ℕ). Stops (how.Files x) limit base spot (record { items = s.items; stop = stop }) l store.core) (append-nil s.lines)
        (subst (λ (is : List Item). Stops (how.Files x) limit base spot (record { items = is; stop = stop }) (s.lines ++ []) store.core) (append-nil s.items)
        (stops_from (how.Files x) limit base spot s.now s.items s.groups s.lines [] (record { items = []; stop = stop }) store.core s.leads ends)) in
        let groups : M (groups_from spot.watched spot.begun s.items) = subst M (sym (ap (groups_from spot.watched spot.begun) (sym (append-nil s.items)) ∙ s.leads.written [])) (disk s.groups (groups_from s.now.watched s.now.begun []) s.now.begun s.disk) in
        record {
          lines = s.lines;
          wrote = s.wrote;
          stops = λ more. subst (λ (l : Limited). Stops (how.Files x) limit base spot l s.lines store.core) (sym (ap (λ (r : Limited). then_others r more) read ∙ alone more)) moved;
          moments = λ more. subst (λ (l : Limited). M (groups_from spot.watched spot.begun l.items)) (sym (ap (λ (r : Limited). then_others r more) read ∙ alone more)) groups;
          disk = λ more. subst (λ (l : Limited). J (how.Files x) (λ H. IsLeft (how.Files x) limit base spot l s.lines H)) (sym (ap (λ (r : Limited). then_others r more) read ∙ alone more))
              (rests s.groups s.now.begun x (λ H. IsLeft (how.Files x) limit base spot (record { items = s.items; stop = stop }) s.lines H) s.disk (λ G has. left_all x limit base spot s.now s.items s.groups s.lines stop G s.leads has));
        }

    faulty : (verdict : Verdict) (bytes : List ℕ) → IsFaulty old verdict bytes → (s : Stands override file limit base spot old guards store current out out_now K bytes) → reading_with override (reads file bytes) ≡ record { items = s.items; end = Faulty (verdict_meant verdict) }
    faulty verdict bytes broken s = s.read ∙ ap (λ (r : Reading). and_then s.items (reading_with override r)) broken ∙ ap (λ (is : List Item). record { items = is; end = Faulty (verdict_meant verdict) }) (append-nil s.items)

    refused : (verdict : Verdict) (bytes : List ℕ) → Here (IsRefused (λ _. IsFaulty old verdict) (refusal_of verdict.refusal)) bytes → Here (Stands override file limit base spot old guards store current out out_now K) bytes → FileStopped override file limit base spot store out out_now M (J (how.Files (ended.Refused verdict))) (how.Files (ended.Refused verdict)) bytes
    refused verdict bytes (broken, broken_front) (s, s_front) =
        let ends : (reads file (take most bytes)).end ≡ Faulty (verdict_meant verdict) = ap (λ (x : Reading). x.end) (faulty verdict (take most bytes) broken_front.0 s_front) in
        let fits = fault_fits file bytes (verdict_meant verdict) broken.1 ends in
        let stop : Stop = AtFault (verdict_meant verdict) in
        ended_at bytes bytes s stop (ended.Refused verdict) (fault_named override file bytes s.items (verdict_meant verdict) fits (faulty verdict bytes broken.0 s)) (λ more. refl)
        (no_items_due limit base s.now stop, no_items_left limit base s.now stop, no_items_core limit base s.now stop guards store current s.at)

    long : (bytes : List ℕ) → Here (Stands override file limit base spot old guards store current out out_now K) bytes → IsLongAt old.offset (OnlyEnds old) bytes → FileStopped override file limit base spot store out out_now M (J (how.Files (ended.InputTooLong file))) (how.Files (ended.InputTooLong file)) bytes
    long bytes (s, s_front) is_long =
        let l = is_long s.reached in
        let items_are : (reading_with override (reads file (take most bytes))).items ≡ s_front.items =
        ap (λ (x : Reading). x.items) s_front.read ∙ ap (λ (is : List Item). s_front.items ++ map (overridden_as override) is) l.1.0 ∙ append-nil s_front.items in
        let too_long = long_is file bytes l.0 (ap (λ (x : Reading). only_ends x.end) s_front.read ∙ l.1.1) in
        let stop : Stop = AtLimit file in
        let whole : FileStopped override file limit base spot store out out_now M (J (how.Files (ended.InputTooLong file))) (how.Files (ended.InputTooLong file)) bytes = ended_at bytes (take most bytes) s_front stop (ended.InputTooLong file) (long_named override file bytes s_front.items too_long items_are) (λ more. refl)
        (no_items_due limit base s_front.now stop, no_items_left limit base s_front.now stop, no_items_core limit base s_front.now stop guards store current s_front.at) in
        whole

    -- an object of the outside failed
    Q : Outcome → List ℕ → Limited → Type 0
    Q x lines read = Stops (how.Files x) limit base spot read lines store.core × M (groups_from spot.watched spot.begun read.items) × J (how.Files x) (λ H. IsLeft (how.Files x) limit base spot read lines H)

    P : Outcome → List Item → Type 0
    P x items = (lines : List ℕ) × Appends out out_now lines × ((extra : List Item) (stop : Stop) → Q x lines (record { items = items ++ extra; stop = stop }))

    failed_in : (x : Outcome) (bytes : List ℕ) (s : Stands override file limit base spot old guards store current out out_now K bytes) (rest : List Item) → IsUndecided (how.Files x) → ((read : Limited) → Stops (how.Files x) limit base s.now read [] store.core) → P x (s.items ++ rest)
    failed_in x bytes s rest nothing ends = (
      s.lines,
      s.wrote,
      λ extra stop.
          let tail : List Item = rest ++ extra in
          let same : (s.items ++ rest) ++ extra ≡ s.items ++ tail = append_assoc s.items rest extra in
          let read : Limited = record { items = tail; stop = stop } in
          subst (λ (is : List Item). Q x s.lines (record { items = is; stop = stop })) (sym same) (
            subst (λ (l : List ℕ). Stops (how.Files x) limit base spot (record { items = s.items ++ tail; stop = stop }) l store.core) (append-nil s.lines)
                (stops_from (how.Files x) limit base spot s.now s.items s.groups s.lines [] read store.core s.leads (ends read)),
            subst M (sym (s.leads.written tail)) (disk s.groups (groups_from s.now.watched s.now.begun tail) s.now.begun s.disk),
            rests s.groups s.now.begun x (λ H. IsLeft (how.Files x) limit base spot (record { items = s.items ++ tail; stop = stop }) s.lines H) s.disk
                (λ G has. left_here (how.Files x) limit base spot s.now s.items s.groups s.lines read G s.leads nothing has),
          ),
    )

    failed : (x : Outcome) → IsUndecided (how.Files x) → ((now : Spot) → IsOn base now.watched.state.store now.watched.state.part → (read : Limited) → Stops (how.Files x) limit base now read [] store.core) → (bytes : List ℕ) → Here (Stands override file limit base spot old guards store current out out_now K) bytes
        → FileStopped override file limit base spot store out out_now M (J (how.Files x)) (how.Files x) bytes
    failed x nothing ends bytes (s, s_front) =
        let front : List ℕ = take most bytes in
        let all : (reading_with override (reads file bytes)).items ≡ s.items ++ (reading_with override (left old bytes)).items = ap (λ (r : Reading). r.items) s.read in
        let all_front : (reading_with override (reads file front)).items ≡ s_front.items ++ (reading_with override (left old front)).items = ap (λ (r : Reading). r.items) s_front.read in
        let p = either_named override file bytes (P x) (subst (P x) (sym all) (failed_in x bytes s (reading_with override (left old bytes)).items nothing (ends s.now s.leads.on))) (subst (P x) (sym all_front) (failed_in x front s_front (reading_with override (left old front)).items nothing (ends s_front.now s_front.leads.on))) in
        record {
          lines = p.0;
          wrote = p.1;
          stops = λ more. (others_of (Q x p.0) (read_with override (file_read file bytes)) more p.2).0;
          moments = λ more. (others_of (Q x p.0) (read_with override (file_read file bytes)) more p.2).1;
          disk = λ more. (others_of (Q x p.0) (read_with override (file_read file bytes)) more p.2).2;
        }

    by_why : (x : ReadStop) → NextSays inputs old new f0 f1 (Err x) → IfTold told name (FileEnds override file limit base spot guards store out out_now L M J (Err (how.Files (outcome_at file x))))
    by_why (stop.Refused verdict) said =
        told_both told name (Here (IsRefused (λ _. IsFaulty old verdict) (refusal_of verdict.refusal))) (Here Stood) (FileEnds override file limit base spot guards store out out_now L M J (Err (how.Files (ended.Refused verdict)))) (refused verdict)
        (told_here told name (IsRefused (λ _. IsFaulty old verdict) (refusal_of verdict.refusal)) (told_moved told inputs name old.name (IsRefused (λ _. IsFaulty old verdict) (refusal_of verdict.refusal)) same name_is said))
        (told_here told name Stood stands)
    by_why stop.InputFault said = told_map told name (Here Stood) (FileEnds override file limit base spot guards store out out_now L M J (Err (how.Files ended.InputFault))) (failed ended.InputFault (λ P. (tt, tt)) (λ now on read. whatever_front base now read on)) (told_here told name Stood stands)
    by_why stop.InputTooLong said =
        told_both told name (Here Stood) (IsLongAt old.offset (OnlyEnds old)) (FileEnds override file limit base spot guards store out out_now L M J (Err (how.Files (ended.InputTooLong file)))) long
        (told_here told name Stood stands) (told_moved told inputs name old.name (IsLongAt old.offset (OnlyEnds old)) same name_is said)

-- A part that is open where the file ends early stays unfinished.
pub file_abandoned : (told : Option (List (List ℕ × List ℕ))) (override : Override) (file limit : ℕ) (name : List ℕ) (base : Store ℕ) (spot : Spot) (guards : List Guard) (was now : StoreState) (current : Option Opened) (o : Opened) (out out_now : Option (List ℕ)) (K L : List Group → Option Begun → Type 0) (M : List Group → Type 0) (I J : Received → ((List Group → Type 0) → Type 0) → Type 0) (r : Result (Unit {0}) Received)
    → current ≡ Some o → OnOk r (current ≡ None) → now.core ≡ was.core → ((why : Received) (W : (List Group → Type 0) → Type 0) → ((H G : List Group → Type 0) → ((first : List Group) → H first → G first) → W H → W G) → I why W → J why W)
    → IfTold told name (FileEnds override file limit base spot guards was out out_now K M I r) → IfTold told name (FileEnds override file limit base spot guards now out out_now L M J r)
file_abandoned told override file limit name base spot guards was now current o out out_now K L M I J (Ok u) e closed core abandons ends = absurd (apart (sym e ∙ closed))
  where
    apart : ◌≡◌ {A = Option Opened} (Some o) None → ⊥
    apart p = cc
file_abandoned told override file limit name base spot guards was now current o out out_now K L M I J (Err why) e closed core abandons ends =
    told_map told name (FileEnds override file limit base spot guards was out out_now K M I (Err why)) (FileEnds override file limit base spot guards now out out_now L M J (Err why)) (λ bytes s. record {
      lines = s.lines;
      wrote = s.wrote;
      stops = λ more. subst (λ (c : Store (Option Place)). Stops why limit base spot (then_others (read_with override (file_read file bytes)) more) s.lines c) (sym core) (s.stops more);
      moments = s.moments;
      disk = λ more. abandons why (λ H. IsLeft why limit base spot (then_others (read_with override (file_read file bytes)) more) s.lines H) (λ H G follows l. left_then why limit base spot (then_others (read_with override (file_read file bytes)) more) s.lines H G follows l) (s.disk more);
    }) ends
