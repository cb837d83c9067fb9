-- Groups of which one more was read, and where the last edits are then.
use Rattle.std.specs.Prelude.{◌≡◌, ℕ, suc, ◌+◌, ◌-◌, ◌≤◌, List, [], ◌∷◌, ◌++◌, length, map, take, drop, get_or, Option, None, Some, IfSome}
use Rattle.std.specs.List.{AllByRecursion}
use Rattle.std.specs.Int.{w64, to_le_bytes}
use Rattle.std.proofs.Common.{inl, inr, refl, sym, ap, subst, ◌∙◌, arith, length-append, append_assoc, drop-drop, length-take, length-drop}
use Rattle.std.proofs.lemmas.List.{drop_at, take_at, drop-take, take-take}
use Rattle.sx_base.specs.Disk.{Pending, IsImage}
use Rattle.sx_base.proofs.DiskImages.{only_settled}
use Rattle.store_model.specs.Image.{Header, HasGroups, HasFault, IsCutShort, front_of, group_of}
use Rattle.store_model.specs.Stored.{Group, IsGroup, body_bytes}
use Rattle.store_model.proofs.OneJournal.{one_header, one_journal}
use Rattle.stream_model.specs.OwnStream.{Edits, edits_in, last_edits}
use Rattle.stream_model.proofs.Edits.{or_before, one_more}
use Rattle.group_log.specs.State.{LogState}
use Rattle.group_log.specs.Journal.{Reads, Rests, IsNext, Finds, IsOpened}
use Rattle.group_log.specs.Stopping.{IsFault, IsFaultOr}
use Rattle.group_log.specs.declared.journal.GroupPlace.{GroupPlace}
use Rattle.group_log.specs.declared.stops.LogStop.{LogStop}
use Rattle.group_log.specs.declared.stops.LogStop.TheVariants.{DiskFault, NotStore, LogFull, StoreThere}
use Rattle.group_log.proofs.GatedGroups.{front_push, length-group}
use Rattle.edits_copy.specs.declared.place.EditsPlace.{EditsPlace}
use Rattle.edits_copy.specs.Finding.{IsPlaceOf, IsPlaceIn, IsWithin, FindsIn, FindsFirst, FindsAll, HasFound, later_place, FindStops}

-- ---- the last group

-- Groups of bodies of which one is the last.
record Parted (groups : List Group) (bodies : List (List ℕ)) (body : List ℕ) : Type 0 where
  before : List Group
  group : Group
  are : groups ≡ before ++ group ∷ []
  fronts : map body_bytes before ≡ bodies
  own : body_bytes group ≡ body

parted : (groups : List Group) (bodies : List (List ℕ)) (body : List ℕ) → map body_bytes groups ≡ bodies ++ body ∷ [] → Parted groups bodies body
parted [] [] body is = absurd (omega (arith, ap length is))
parted [] (x ∷ bodies) body is = absurd (omega (arith, ap length is))
parted (g ∷ []) [] body is = record { before = []; group = g; are = refl; fronts = refl; own = ap (λ (l : List (List ℕ)). get_or l 0 []) is }
parted (g ∷ h ∷ groups) [] body is = absurd (omega (arith, ap length is))
parted (g ∷ groups) (x ∷ bodies) body is =
    let rest = parted groups bodies body (ap (λ (l : List (List ℕ)). drop 1 l) is) in
    let first : body_bytes g ≡ x = ap (λ (l : List (List ℕ)). get_or l 0 []) is in
    record {
      before = g ∷ rest.before;
      group = rest.group;
      are = ap (λ (l : List Group). g ∷ l) rest.are;
      fronts = λ i. first i ∷ rest.fronts i;
      own = rest.own;
    }

parts_of : (format : ℕ) (xs : List Group) (g : Group) → AllByRecursion (IsGroup format) (xs ++ g ∷ []) → AllByRecursion (IsGroup format) xs × IsGroup format g
parts_of format [] g all = (tt, all.0)
parts_of format (x ∷ xs) g all = let r = parts_of format xs g all.1 in ((all.0, r.0), r.1)

-- ---- a body on the disk

pub taken_in : (at len from to : ℕ) (seen : List ℕ) → at ≤ from → from ≤ to → to ≤ at + len → take (to - from) (drop (from - at) (take len (drop at seen))) ≡ take (to - from) (drop from seen)
taken_in at len from to seen first order last =
    let k : ℕ = from - at in
    let m : ℕ = len - k in
    let size : len ≡ k + m = omega (arith, first, order, last) in
    ap (λ (n : ℕ). take (to - from) (drop k (take n (drop at seen)))) size
    ∙ ap (λ (l : List ℕ). take (to - from) l) (drop-take k m (drop at seen))
    ∙ take-take (to - from) m (drop k (drop at seen)) (omega (arith, first, order, last))
    ∙ ap (λ (l : List ℕ). take (to - from) l) (drop-drop k at seen ∙ ap (λ (n : ℕ). drop n seen) (let e : at + k ≡ from = omega (arith, first) in e))

-- What stands in a body stands on the disk.
in_body : (at len : ℕ) (seen : List ℕ) (edits : Option Edits) (place : Option EditsPlace) → IfSome place (IsWithin (at + len)) → IsPlaceIn at (take len (drop at seen)) edits place → IsPlaceOf seen edits place
in_body at len seen None None within h = tt
in_body at len seen None (Some place) within h = absurd h
in_body at len seen (Some edits) None within h = absurd h
in_body at len seen (Some edits) (Some place) within h = (h.0, sym (taken_in at len place.from place.to seen h.1 within.order within.ends) ∙ h.2)

later_of : (seen : List ℕ) (before last : Option Edits) (found here : Option EditsPlace) → IsPlaceOf seen before found → IsPlaceOf seen last here → IsPlaceOf seen (or_before before last) (later_place found here)
later_of seen before None found None f h = f
later_of seen before None found (Some place) f h = absurd h
later_of seen before (Some edits) found None f h = absurd h
later_of seen before (Some edits) found (Some place) f h = h

pub later_within : (end next : ℕ) (found here : Option EditsPlace) → end ≤ next → IfSome found (IsWithin next) → IfSome here (IsWithin end) → IfSome (later_place found here) (IsWithin next)
later_within end next found None less f h = f
later_within end next found (Some place) less f h = record { order = h.order; ends = omega (arith, h.ends, less); version = h.version }

-- ---- the search

nothing_last : (seen uuid : List ℕ) → IsPlaceOf seen (last_edits uuid []) None
unfolding last_edits
nothing_last seen uuid = tt

-- nothing was read yet
pub none_found : (uuid : List ℕ) (log : LogState) (seen : List ℕ) (pending : Pending) → IsOpened seen pending log → HasFound uuid log seen pending None
none_found uuid log seen pending opened = record { header = opened.header; bodies = []; reads = opened.reads; places = one }
  where
    one : FindsFirst opened.header.format uuid seen [] None
    one [] all is = nothing_last seen uuid
    one (g ∷ groups) all is = absurd (omega (arith, ap length is))

-- behind the groups so far one group more was read
module _ (uuid : List ℕ) (old log : LogState) (was : List ℕ) (known : Pending) (found : Option EditsPlace) (has : HasFound uuid old was known found) (seen : List ℕ) (pending : Pending) (place : GroupPlace)
    (next : IsNext has.header has.bodies log seen pending place) where
  -- its body stands at its place
  there : take place.len (drop place.at seen) ≡ next.body
  there =
      let body : List ℕ = next.body in
      let others : List ℕ = next.reads.rest in
      let rest_is : seen ≡ front_of has.header has.bodies ++ (group_of body ++ others) =
      next.reads.bytes ∙ ap (λ (l : List ℕ). l ++ next.reads.rest) (front_push has.header has.bodies body) ∙ append_assoc (front_of has.header has.bodies) (group_of body) next.reads.rest in
      let front : List ℕ = front_of has.header has.bodies ++ (1 ∷ to_le_bytes w64 (length body)) in
      let split : seen ≡ front ++ (body ++ others) =
      rest_is ∙ ap (λ (l : List ℕ). front_of has.header has.bodies ++ l) (append_assoc (1 ∷ to_le_bytes w64 (length body)) body others) ∙ sym (append_assoc (front_of has.header has.bodies) (1 ∷ to_le_bytes w64 (length body)) (body ++ others)) in
      let nine : length (1 ∷ to_le_bytes w64 (length body)) ≡ 9 = omega (arith, length-group body, length-append (1 ∷ to_le_bytes w64 (length body)) body) in
      let size : length front ≡ place.at = omega (arith, length-append (front_of has.header has.bodies) (1 ∷ to_le_bytes w64 (length body)), nine, next.at) in
      ap (λ (l : List ℕ). take place.len (drop place.at l)) split ∙ ap (λ (l : List ℕ). take place.len l) (drop_at front (body ++ others) place.at size) ∙ take_at body others place.len (sym next.len)

  pub next_found : (here : Option EditsPlace) (now : List ℕ) (left : Pending) → was ≡ seen → now ≡ seen → left ≡ pending → IfSome here (IsWithin (place.at + place.len)) → FindsIn uuid place.at (take place.len (drop place.at seen)) here
      → HasFound uuid log now left (later_place found here)
  next_found here now left before same kept within finds = record {
    header = has.header;
    bodies = has.bodies ++ next.body ∷ [];
    reads = subst (λ (l : List ℕ). Reads has.header (has.bodies ++ next.body ∷ []) log l left) (sym same) (subst (λ (p : Pending). Reads has.header (has.bodies ++ next.body ∷ []) log seen p) (sym kept) next.reads);
    places = subst (λ (l : List ℕ). FindsFirst has.header.format uuid l (has.bodies ++ next.body ∷ []) (later_place found here)) (sym same) places;
  }
    where
      places : FindsFirst has.header.format uuid seen (has.bodies ++ next.body ∷ []) (later_place found here)
      places groups all is =
          let p = parted groups has.bodies next.body is in
          let parts = parts_of has.header.format p.before p.group (subst (λ (gs : List Group). AllByRecursion (IsGroup has.header.format) gs) p.are all) in
          let first : IsPlaceOf seen (last_edits uuid p.before) found = subst (λ (l : List ℕ). IsPlaceOf l (last_edits uuid p.before) found) before (has.places p.before parts.0 p.fronts) in
          let last : IsPlaceOf seen (edits_in uuid p.group.content) here =
          in_body place.at place.len seen (edits_in uuid p.group.content) here within (finds has.header.format p.group parts.1 (p.own ∙ sym there)) in
          subst (λ (o : Option Edits). IsPlaceOf seen o (later_place found here)) (sym (ap (last_edits uuid) p.are ∙ one_more uuid p.before p.group)) (later_of seen (last_edits uuid p.before) (edits_in uuid p.group.content) found here first last)

-- there is no next group
pub at_rest : (header : Header) (bodies : List (List ℕ)) (log : LogState) (seen : List ℕ) (pending : Pending) (found : Option GroupPlace) → Finds header bodies log seen pending found → ((place : GroupPlace) → found ≡ Some place → ⊥) → Rests header bodies log seen pending
at_rest header bodies log seen pending None finds not_some = finds
at_rest header bodies log seen pending (Some place) finds not_some = absurd (not_some place refl)

-- all groups were read
pub all_found : (uuid : List ℕ) (old log : LogState) (was : List ℕ) (known : Pending) (found : Option EditsPlace) (has : HasFound uuid old was known found) (seen own : List ℕ) (pending : Pending) → Rests has.header has.bodies log seen pending
    → was ≡ own → seen ≡ own → FindsAll own uuid found
all_found uuid old log was known found has seen own pending rests before same header groups other all =
    let mine : HasGroups has.header has.bodies own =
    subst (λ (l : List ℕ). HasGroups has.header has.bodies l) same (record { gate = rests.gate; rest = rests.rest; closed = rests.closed; bytes = rests.bytes; lawful = rests.behind.lawful; lengths_fit = rests.behind.lengths_fit }) in
    let headers : header ≡ has.header = one_header own header has.header (map body_bytes groups) has.bodies other mine in
    let bodies : map body_bytes groups ≡ has.bodies = one_journal own header has.header (map body_bytes groups) has.bodies other mine in
    subst (λ (l : List ℕ). IsPlaceOf l (last_edits uuid groups) found) before (has.places groups (subst (λ (h : Header). AllByRecursion (IsGroup h.format) groups) headers all) bodies)

-- what a crash may leave while groups are read is what it might leave before
pub later_image : (before now : Pending) (seen own image : List ℕ) (log : LogState) (uuid : List ℕ) (found : Option EditsPlace) → HasFound uuid log seen now found → seen ≡ own → IsImage before own → IsImage now image → IsImage before image
later_image before now seen own image log uuid found has same was is =
    subst (λ (i : List ℕ). IsImage before i) (sym (only_settled seen image (subst (λ (p : Pending). IsImage p image) has.reads.stable is) ∙ same)) was

-- the next group is cut short
pub next_cut : (uuid : List ℕ) (old : LogState) (was own : List ℕ) (known : Pending) (found : Option EditsPlace) (has : HasFound uuid old was known found) → was ≡ own → (cause : Type 0) (why : LogStop) → IsFaultOr cause (NotStore (old.groups + 1)) why
    → (why ≡ NotStore (old.groups + 1) → IsCutShort has.reads.rest) → FindStops own why
next_cut uuid old was own known found has same cause why stops torn = subst (λ (l : List ℕ). FindStops l why) same (one why stops torn)
  where
    cut : IsCutShort has.reads.rest → HasFault was (suc (length has.bodies))
    cut short = record { header = has.header; bodies = has.bodies; rest = has.reads.rest; bytes = has.reads.bytes; count = refl; torn = short; lawful = has.reads.behind.lawful; lengths_fit = has.reads.behind.lengths_fit }

    one : (why : LogStop) → IsFaultOr cause (NotStore (old.groups + 1)) why → (why ≡ NotStore (old.groups + 1) → IsCutShort has.reads.rest) → FindStops was why
    one why (inl is) torn = subst (λ (w : LogStop). FindStops was w) (sym is) (subst (HasFault was) (let e : suc (length has.bodies) ≡ old.groups + 1 = omega (arith, has.reads.behind.count) in e) (cut (torn is)))
    one DiskFault (inr failed) torn = tt
    one (NotStore group) (inr failed) torn = absurd failed
    one (LogFull end wanted limit) (inr failed) torn = absurd failed
    one (StoreThere size) (inr failed) torn = absurd failed

-- a fault of the disk is one cause
pub caused_by_fault : (cause : Type 0) (seen : List ℕ) (why : LogStop) → IsFault cause why → FindStops seen why
caused_by_fault cause seen DiskFault h = tt
caused_by_fault cause seen (NotStore group) h = absurd h
caused_by_fault cause seen (LogFull end wanted limit) h = absurd h
caused_by_fault cause seen (StoreThere size) h = absurd h

-- what was read first of a body
pub head_of_body : (at len : ℕ) (seen head : List ℕ) → length head ≡ 18 → head ≡ take (length head) (drop at seen) → 18 ≤ len → take 18 (take len (drop at seen)) ≡ head
head_of_body at len seen head size is long = take-take 18 len (drop at seen) long ∙ ap (λ (n : ℕ). take n (drop at seen)) (sym size) ∙ sym is

pub body_len : (at len size : ℕ) (seen : List ℕ) → at + len ≤ size → size ≡ length seen → length (take len (drop at seen)) ≡ len
body_len at len size seen within is = omega (arith, within, is, length-take len (drop at seen), length-drop at seen)
