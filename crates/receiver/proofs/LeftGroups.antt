-- The groups that are left: from spot to spot, and at an item where receiving ends.
use Rattle.std.specs.Prelude.{◌≡◌, ℕ, ◌+◌, List, [], ◌∷◌, ◌++◌, length, Option, None, Some, is_some, if◌then◌else◌}
use Rattle.std.proofs.Common.{refl, sym, ap, subst, ◌∙◌, append_assoc, append-nil}
use Rattle.sx_base.specs.declared.outcome.Outcome.{Outcome}
use Rattle.sx_base.specs.declared.outcome.Outcome.TheVariants as ended
use Rattle.send_model.specs.Refusal as meant
use Rattle.send_model.specs.Spelling.{canonical}
use Rattle.send_model.specs.Reading.{Item}
use Rattle.send_model.specs.Store.{Head, Store, State, head_of, completed}
use Rattle.send_model.specs.Receive.{Ran, run_by}
use Rattle.send_model.specs.Guards.{Watched}
use Rattle.send_model.specs.Due.{Limited, Stop}
use Rattle.store_model.specs.Stored.{Group}
use Rattle.store_model.specs.States.{lines_behind}
use Rattle.store_model.specs.Dues.{Due, first_full, pieces_from, item_pieces, place_after, left_from}
use Rattle.store_model.specs.Written.{mark_of, closed_by, begun_by, begun_after, groups_from}
use Rattle.store_model.proofs.PassedStates.{IsOn}
use Rattle.receiver.specs.declared.outcome.Received.{Received}
use Rattle.receiver.specs.declared.outcome.Received.TheVariants as how
use Rattle.receiver.specs.Steps.{begun_if}
use Rattle.receiver.specs.Disks.{marked}
use Rattle.receiver.specs.Running.{byte_step, Spot, IfRead, IfAllRead, IfDecided}
use Rattle.receiver.proofs.Unpacked.{Leads, IsLeft}
use Rattle.receiver.proofs.Spots.{left_refused, left_where_full, groups_first}
use Rattle.receiver.proofs.PrintedLines.{PartLine}
use Rattle.receiver.proofs.LeftItems.{as_end, run_one, groups_one, groups_end, end_state, not_guarded, brought, printed, end_brings, closed_first, any_first}

-- ---- what is said of some ends alone

read_then : {P Q : Type 0} (outcome : Outcome) → (P → Q) → IfRead outcome P → IfRead outcome Q
read_then ended.Done f p = f p
read_then (ended.Refused verdict) f p = f p
read_then (ended.InputTooLong file) f p = f p
read_then ended.InputFault f p = tt
read_then ended.OutputFault f p = tt
read_then ended.NoMemory f p = tt
read_then (ended.TooMuch sum) f p = tt
read_then (ended.InputChanged file place) f p = tt

decided_then : {P Q : Type 0} (why : Received) → (P → Q) → IfDecided why P → IfDecided why Q
decided_then (how.Files outcome) f p = read_then outcome f p
decided_then how.StoreFault f p = tt
decided_then (how.LogFull end wanted limit) f p = f p

read_always : {P : Type 0} (outcome : Outcome) → P → IfRead outcome P
read_always ended.Done p = p
read_always (ended.Refused verdict) p = p
read_always (ended.InputTooLong file) p = p
read_always ended.InputFault p = tt
read_always ended.OutputFault p = tt
read_always ended.NoMemory p = tt
read_always (ended.TooMuch sum) p = tt
read_always (ended.InputChanged file place) p = tt

-- An end that decides nothing.
abbrev pub IsUndecided : Received → Type 1
IsUndecided why = (P : Type 0) → IfDecided why P × IfAllRead why P

-- ---- from spot to spot

-- What is left with H is left with what follows from it.
pub left_then : (why : Received) (limit : ℕ) (base : Store ℕ) (spot : Spot) (read : Limited) (lines : List ℕ) (H G : List Group → Type 0) → ((first : List Group) → H first → G first)
    → IsLeft why limit base spot read lines H → IsLeft why limit base spot read lines G
left_then why limit base spot read lines H G follows s = record {
  items = s.items;
  more = s.more;
  all = s.all;
  has = follows (groups_from spot.watched spot.begun s.items) s.has;
  unwritten = s.unwritten;
  printed = s.printed;
  left = s.left;
  whole = s.whole;
}

pub left_on : (why : Received) (limit : ℕ) (base : Store ℕ) (a b : Spot) (xs : List Item) (gs : List Group) (ls ms : List ℕ) (read : Limited) (H G : List Group → Type 0) → Leads limit base a b xs gs ls
    → ((first : List Group) → H first → G (gs ++ first)) → IsLeft why limit base b read ms H → IsLeft why limit base a (record { items = xs ++ read.items; stop = read.stop }) (ls ++ ms) G
left_on why limit base a b xs gs ls ms read H G leads moved s =
    let store : Ran (Watched (State ℕ)) → Store ℕ = λ r. r.state.state.store in
    let before : List ℕ = lines_behind base a.watched.state.store in
    record {
      items = xs ++ s.items;
      more = s.more;
      all = leads.written read.items ∙ ap (λ (l : List Group). gs ++ l) s.all ∙ sym (append_assoc gs (groups_from b.watched b.begun s.items) s.more)
          ∙ ap (λ (l : List Group). l ++ s.more) (sym (leads.written s.items));
      has = subst G (sym (leads.written s.items)) (moved (groups_from b.watched b.begun s.items) s.has);
      unwritten = s.unwritten;
      printed = ap (λ (r : Ran (Watched (State ℕ))). lines_behind base r.state.state.store) (leads.ran s.items) ∙ s.printed ∙ ap (λ (l : List ℕ). l ++ (ms ++ s.unwritten)) leads.printed
          ∙ append_assoc before ls (ms ++ s.unwritten) ∙ ap (λ (l : List ℕ). before ++ l) (sym (append_assoc ls ms s.unwritten));
      left = decided_then why (λ e. ap store (leads.ran s.items) ∙ e ∙ sym (leads.left read.items)) s.left;
      whole = s.whole;
    }

-- The groups so far are left, whatever else is read.
pub left_here : (why : Received) (limit : ℕ) (base : Store ℕ) (a b : Spot) (xs : List Item) (gs : List Group) (ls : List ℕ) (read : Limited) (G : List Group → Type 0) → Leads limit base a b xs gs ls → IsUndecided why
    → G gs → IsLeft why limit base a (record { items = xs ++ read.items; stop = read.stop }) ls G
unfolding groups_from run_by
left_here why limit base a b xs gs ls read G leads nothing has =
    subst (λ (l : List ℕ). IsLeft why limit base a (record { items = xs ++ read.items; stop = read.stop }) l G) (append-nil ls)
    (left_on why limit base a b xs gs ls [] read (λ first. G (gs ++ first)) G leads (λ first h. h) (record {
      items = [];
      more = groups_from b.watched b.begun read.items;
      all = refl;
      has = subst G (sym (append-nil gs)) has;
      unwritten = [];
      printed = sym (append-nil (lines_behind base b.watched.state.store));
      left = (nothing ((run_by byte_step b.watched []).state.state.store ≡ left_from limit b.place b.watched read.items)).0;
      whole = (nothing (groups_from b.watched b.begun read.items ≡ [])).1;
    }))

-- They are all groups, where all was read.
pub left_all : (outcome : Outcome) (limit : ℕ) (base : Store ℕ) (a b : Spot) (xs : List Item) (gs : List Group) (ls : List ℕ) (stop : Stop) (G : List Group → Type 0) → Leads limit base a b xs gs ls
    → G gs → IsLeft (how.Files outcome) limit base a (record { items = xs; stop = stop }) ls G
unfolding groups_from run_by left_from
left_all outcome limit base a b xs gs ls stop G leads has =
    let why : Received = how.Files outcome in
    subst (λ (is : List Item). IsLeft (how.Files outcome) limit base a (record { items = is; stop = stop }) ls G) (append-nil xs)
    (subst (λ (l : List ℕ). IsLeft (how.Files outcome) limit base a (record { items = xs ++ []; stop = stop }) l G) (append-nil ls)
    (left_on why limit base a b xs gs ls [] (record { items = []; stop = stop }) (λ first. G (gs ++ first)) G leads (λ first h. h) (record {
      items = [];
      more = [];
      all = refl;
      has = subst G (sym (append-nil gs)) has;
      unwritten = [];
      printed = sym (append-nil (lines_behind base b.watched.state.store));
      left = read_always outcome refl;
      whole = read_always outcome refl;
    })))

-- ---- at an item

module _ (limit : ℕ) (base : Store ℕ) (old : Spot) (item : Item) (line : List ℕ) (on : IsOn base old.watched.state.store old.watched.state.part) (l : PartLine old.watched.state.part old.watched.state.store line)
    (extra : List Item) (stop : Stop) (H : List Group → Type 0) where
  -- all groups that are due begin with them
  all_first : (first more : List Group) → closed_by old.watched.guards item.command old.begun ++ begun_if (byte_step old.watched item) item.command ≡ first ++ more
      → (others : List Group) × (groups_from old.watched old.begun (item ∷ extra) ≡ first ++ others)
  all_first first more is =
      let g = groups_first old.watched item old.begun extra in
      (more ++ g.0, g.1 ∙ ap (λ (l : List Group). l ++ g.0) is ∙ append_assoc first more g.0)

  -- Nothing is written of its line, and some of its groups may be there.
  pub some_left : (why : Received) (first more : List Group) → IsUndecided why → closed_by old.watched.guards item.command old.begun ++ begun_if (byte_step old.watched item) item.command ≡ first ++ more → H first
      → IsLeft why limit base old (record { items = item ∷ extra; stop = stop }) [] H
  some_left why first more nothing is has =
      let s = any_first base old.watched item line on l old.begun first more is in
      let a = all_first first more is in
      record {
        items = s.1.0;
        more = a.0;
        all = a.1 ∙ ap (λ (l : List Group). l ++ a.0) (sym s.1.1);
        has = subst H (sym s.1.1) has;
        unwritten = s.0;
        printed = s.1.2;
        left = (nothing ((run_by byte_step old.watched s.1.0).state.state.store ≡ left_from limit old.place old.watched (item ∷ extra))).0;
        whole = (nothing (a.0 ≡ [])).1;
      }

  -- The part that it closes is there, and some of its line was written.
  pub closed_left : (why : Received) (first more : List Group) (lines unwritten : List ℕ) → IsUndecided why → begun_if (byte_step old.watched item) item.command ≡ first ++ more
      → brought base old.watched item line on l item ≡ lines ++ unwritten → H (closed_by old.watched.guards item.command old.begun ++ first) → IsLeft why limit base old (record { items = item ∷ extra; stop = stop }) lines H
  closed_left why first more lines unwritten nothing is cut has =
      let s = closed_first base old.watched item line on l old.begun first more is in
      let a = all_first (closed_by old.watched.guards item.command old.begun ++ first) more
      (ap (λ (l : List Group). closed_by old.watched.guards item.command old.begun ++ l) is ∙ sym (append_assoc (closed_by old.watched.guards item.command old.begun) first more)) in
      record {
        items = s.0;
        more = a.0;
        all = a.1 ∙ ap (λ (l : List Group). l ++ a.0) (sym s.1);
        has = subst H (sym s.1) has;
        unwritten = unwritten;
        printed = s.2 ∙ ap (λ (l : List ℕ). lines_behind base old.watched.state.store ++ l) cut;
        left = (nothing ((run_by byte_step old.watched s.0).state.state.store ≡ left_from limit old.place old.watched (item ∷ extra))).0;
        whole = (nothing (a.0 ≡ [])).1;
      }

  -- It is refused.
  pub refused_left : (outcome : Outcome) (refusal : meant.Refusal) → (byte_step old.watched item).refusal ≡ Some refusal → H (closed_by old.watched.guards item.command old.begun)
      → IsLeft (how.Files outcome) limit base old (record { items = item ∷ extra; stop = stop }) (brought base old.watched item line on l item) H
  unfolding groups_from
  refused_left outcome refusal is has =
      let closes : List Group = closed_by old.watched.guards item.command old.begun in
      let none : begun_if (byte_step old.watched item) item.command ≡ [] = ap (λ (o : Option meant.Refusal). elim o as (λ x. List Group) [ Some r ↦ [] | None ↦ begun_by item.command ]) is in
      let own : groups_from old.watched old.begun (item ∷ []) ≡ closes = groups_one old.watched item old.begun ∙ ap (λ (l : List Group). closes ++ l) none ∙ append-nil closes in
      let all : groups_from old.watched old.begun (item ∷ extra) ≡ closes ++ [] =
      ap (λ (o : Option meant.Refusal). closes ++ (elim o as (λ x. List Group) [
        | Some r ↦ []
        | None ↦ begun_by item.command ++ groups_from (byte_step old.watched item).state (begun_after old.begun item) extra
      ])) is in
      record {
        items = item ∷ [];
        more = [];
        all = all ∙ ap (λ (l : List Group). l ++ []) (sym own);
        has = subst H (sym own) has;
        unwritten = [];
        printed = printed base old.watched item line on l item ∙ ap (λ (l : List ℕ). lines_behind base old.watched.state.store ++ l) (sym (append-nil (brought base old.watched item line on l item)));
        left = read_always outcome (ap (λ (w : Watched (State ℕ)). w.state.store) (run_one old.watched item) ∙ sym (left_refused limit old.place old.watched item extra refusal is));
        whole = read_always outcome refl;
      }

  -- There is no room for it.
  pub full_left : (end wanted most : ℕ) (full : Due) → (byte_step old.watched item).refusal ≡ None → first_full limit (item_pieces (place_after old.watched.state.part item.command old.place) item) ≡ Some full
      → H (closed_by old.watched.guards item.command old.begun ++ marked limit (place_after old.watched.state.part item.command old.place) item.command)
      → IsLeft (how.LogFull end wanted most) limit base old (record { items = item ∷ extra; stop = stop }) (brought base old.watched item line on l item) H
  full_left end wanted most full taken room has = one (head_of item.command) refl (first_full limit mark_pieces) refl
    where
      closes : List Group
      closes = closed_by old.watched.guards item.command old.begun

      place : ℕ
      place = place_after old.watched.state.part item.command old.place

      mark_pieces : List (ℕ × ℕ)
      mark_pieces = pieces_from (place_after old.watched.state.part item.command old.place) (9 ∷ (1 + length (canonical 1 item.command)) ∷ [])

      after : Store ℕ
      after = (byte_step old.watched item).state.state.store

      marks : Option Due → Option Head → List Group
      marks f o = elim f as (λ x. List Group) [ Some due ↦ [] | None ↦ elim o as (λ x. List Group) [ None ↦ [] | Some head ↦ mark_of item.command ∷ [] ] ]

      leaves : Option Head → Option Due → Store ℕ
      leaves o f = if is_some o then (elim f as (λ x. Store ℕ) [ Some due ↦ completed old.watched.state | None ↦ after ]) else after

      begins_by : (o : Option Head) → head_of item.command ≡ o → begun_if (byte_step old.watched item) item.command ≡ marks None o
      begins_by o is = λ i. elim (taken i) as (λ x. List Group) [ Some r ↦ [] | None ↦ elim (is i) as (λ x. List Group) [ None ↦ [] | Some head ↦ mark_of item.command ∷ [] ] ]

      left_is : (o : Option Head) → head_of item.command ≡ o → (f : Option Due) → first_full limit mark_pieces ≡ f → left_from limit old.place old.watched (item ∷ extra) ≡ leaves o f
      left_is o is f e = left_where_full limit old.place old.watched item extra full taken room ∙ (λ i. leaves (is i) (e i))

      brings : List ℕ
      brings = brought base old.watched item line on l item

      Made : List Item → List Group → Type 0
      Made items first = (groups_from old.watched old.begun items ≡ closes ++ first) × (lines_behind base (run_by byte_step old.watched items).state.state.store ≡ lines_behind base old.watched.state.store ++ brings)

      built : (items : List Item) (first more : List Group) → begun_if (byte_step old.watched item) item.command ≡ first ++ more → Made items first → H (closes ++ first)
          → (run_by byte_step old.watched items).state.state.store ≡ left_from limit old.place old.watched (item ∷ extra)
          → IsLeft (how.LogFull end wanted most) limit base old (record { items = item ∷ extra; stop = stop }) brings H
      built items first more is made had store =
          let a = all_first (closes ++ first) more (ap (λ (l : List Group). closes ++ l) is ∙ sym (append_assoc closes first more)) in
          record {
            items = items;
            more = a.0;
            all = a.1 ∙ ap (λ (l : List Group). l ++ a.0) (sym made.0);
            has = subst H (sym made.0) had;
            unwritten = [];
            printed = made.1 ∙ ap (λ (l : List ℕ). lines_behind base old.watched.state.store ++ l) (sym (append-nil brings));
            left = store;
            whole = tt;
          }

      itself : (first : List Group) → begun_if (byte_step old.watched item) item.command ≡ first → H (closes ++ first) → left_from limit old.place old.watched (item ∷ extra) ≡ after
          → IsLeft (how.LogFull end wanted most) limit base old (record { items = item ∷ extra; stop = stop }) brings H
      itself first is had store =
          built (item ∷ []) first [] (is ∙ sym (append-nil first)) (groups_one old.watched item old.begun ∙ ap (λ (l : List Group). closes ++ l) is, printed base old.watched item line on l item) had
          (ap (λ (w : Watched (State ℕ)). w.state.store) (run_one old.watched item) ∙ sym store)

      had_by : (o : Option Head) → head_of item.command ≡ o → (f : Option Due) → first_full limit mark_pieces ≡ f → H (closes ++ marks f o)
      had_by o is f e = subst (λ (l : List Group). H (closes ++ l)) (λ i. marks (e i) (is i)) has

      one : (o : Option Head) → head_of item.command ≡ o → (f : Option Due) → first_full limit mark_pieces ≡ f → IsLeft (how.LogFull end wanted most) limit base old (record { items = item ∷ extra; stop = stop }) brings H
      one None is None e = itself [] (begins_by None is) (had_by None is None e) (left_is None is None e)
      one None is (Some f) e = itself [] (begins_by None is) (had_by None is (Some f) e) (left_is None is (Some f) e)
      one (Some head) is None e = itself (mark_of item.command ∷ []) (begins_by (Some head) is) (had_by (Some head) is None e) (left_is (Some head) is None e)
      one (Some head) is (Some f) e =
          let free = not_guarded old.watched item taken in
          built (as_end item ∷ []) [] (mark_of item.command ∷ []) (begins_by (Some head) is)
          (groups_end old.watched item old.begun head is free ∙ sym (append-nil closes), printed base old.watched item line on l (as_end item) ∙ ap (λ (l : List ℕ). lines_behind base old.watched.state.store ++ l) (end_brings base old.watched item line on l head is))
          (had_by (Some head) is (Some f) e) (end_state old.watched item head is free ∙ sym (left_is (Some head) is (Some f) e))
