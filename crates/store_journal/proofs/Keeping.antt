-- What a store keeps of a disk, call by call, over plain values.
use Rattle.std.specs.Prelude.{◌≡◌, ◌⊎◌, ℕ, ◌+◌, Bool, true, not, List, [], ◌∷◌, ◌++◌, length, Option, None, Some, Ok, IfSome, IsTrue, is_some, if◌then◌else◌}
use Rattle.std.specs.Option.{option_map}
use Rattle.std.specs.List.{filter}
use Rattle.std.specs.Str.{bytes_eq}
use Rattle.std.proofs.Common.{inl, inr, refl, sym, ap, subst, ◌∙◌, arith, length-append, append_assoc}
use Rattle.std.proofs.lemmas.List.{append-nil}
use Rattle.sx_base.specs.Disk.{Pending}
use Rattle.send_model.specs.Command.{Command}
use Rattle.send_model.specs.Spelling.{canonical, canonical_all, attributes_of, IsSpellable}
use Rattle.send_model.specs.Reading.{is_version, data_place}
use Rattle.send_model.specs.Receive.{bytes_of}
use Rattle.send_model.specs.Store.{Key, Head, Store, Part, State, Stepped, has_name, head_of, with_contents, completed, edit_part, edited, step_edit}
use Rattle.store_model.specs.Image.{Header, HasGroups, sealed, front_of}
use Rattle.group_log.specs.State.{LogState}
use Rattle.group_log.specs.Journal.{Rests, Grows}
use Rattle.clone_resolve.specs.Heads.{Begins}
use Rattle.store_model.specs.Stored.{Content, Mark, Body, Drop, Group, body_bytes, IsEdit, IsContent, IsGroup, body_at, frames_at, taken, resumed, edits_made, dropped, made, Makes}
use Rattle.group_replay.specs.declared.place.Place.{Place}
use Rattle.store_journal.specs.Shown.{StoreState}
use Rattle.store_journal.specs.Holding.{bodies_of, new_group, edits_head, HasOneMore, Holds}
use Rattle.store_journal.proofs.Unpacked.{Builds}
use Rattle.group_replay.specs.Taking.{as_runs, open_state}
use Rattle.store_journal.proofs.Pushes.{bodies_push, all_push, canonical_push, makes_push, edits_push}
use Rattle.group_replay.specs.Kept.{IsKept, AreKept}
use Rattle.group_replay.proofs.Beginning.{begun_marks, begun_resumes}
use Rattle.group_replay.proofs.KeptParts.{begun_kept, unfinished_kept}

module _ (header : Header) (groups : List Group) where
  -- the bodies of one group more
  pub more_has : (g : Group) (body image : List ℕ) → body ≡ body_bytes g → HasGroups header (bodies_of groups) image ⊎ HasGroups header (bodies_of groups ++ body ∷ []) image → HasOneMore header groups g image
  more_has g body image same (inl has) = inl has
  more_has g body image same (inr has) =
      inr (subst (λ (l : List (List ℕ)). HasGroups header l image) (ap (λ (b : List ℕ). bodies_of groups ++ b ∷ []) same ∙ sym (bodies_push groups g)) has)

  pub more_rests : (g : Group) (body seen : List ℕ) (log : LogState) (pending : Pending) → body ≡ body_bytes g → Rests header (bodies_of groups ++ body ∷ []) log seen pending → Rests header (bodies_of (groups ++ g ∷ [])) log seen pending
  more_rests g body seen log pending same rests =
      subst (λ (l : List (List ℕ)). Rests header l log seen pending) (ap (λ (b : List ℕ). bodies_of groups ++ b ∷ []) same ∙ sym (bodies_push groups g)) rests

  pub more_grows : (g : Group) (body front seen : List ℕ) (log : LogState) (pending : Pending) → body ≡ body_bytes g → Grows header (bodies_of groups ++ body ∷ []) front log seen pending → Grows header (bodies_of (groups ++ g ∷ [])) front log seen pending
  more_grows g body front seen log pending same grows =
      subst (λ (l : List (List ℕ)). Grows header l front log seen pending) (ap (λ (b : List ℕ). bodies_of groups ++ b ∷ []) same ∙ sym (bodies_push groups g)) grows

-- what stands in a group of edits
pub edits_spelled : (uuid : List ℕ) (version : ℕ) (commands : List Command) → sealed (edits_head uuid version ++ canonical_all version commands) ≡ body_bytes (new_group (Body uuid version commands))
edits_spelled uuid version commands = ap (λ (l : List ℕ). sealed (5 ∷ l)) (append_assoc uuid (version ∷ []) (canonical_all version commands))

pub new_is : {format : ℕ} (content : Content) → IsContent content → IsGroup format (new_group content)
new_is content is = record { content = is; old = λ e. cc }

-- ---- a group of edits that is published

module _ (header : Header) (groups : List Group) (version : ℕ) (commands : List Command) (part : Part (Option Place)) (store : StoreState) (seen : List ℕ) (pending : Pending) (b : Builds header groups version commands part store seen pending) where
  body_made : made None as_runs (body_at store.log.gate) store.core (Body part.key.uuid version commands) ≡ Some (with_contents part.key.uuid part.subvolume store.core)
  unfolding made completed
  body_made =
      ap (λ (o : Option (State (Option Place))). elim o as (λ x. Option (Store (Option Place))) [ None ↦ None | Some state ↦ option_map completed (edits_made None as_runs version (frames_at (body_at store.log.gate)) state commands) ]) b.begins
      ∙ ap (λ (o : Option (State (Option Place))). option_map completed o) b.becomes

  pub completes : Makes None as_runs header.format (groups ++ new_group (Body part.key.uuid version commands) ∷ []) (with_contents part.key.uuid part.subvolume store.core)
  completes = makes_push None as_runs header groups store.core (with_contents part.key.uuid part.subvolume store.core) (new_group (Body part.key.uuid version commands)) store.log.gate b.makes b.grows.behind.place (new_is (Body part.key.uuid version commands) b.says) body_made

-- ---- a head

module _ (header : Header) (groups : List Group) (store : StoreState) (c : Command) (part : Part (Option Place)) (new : Store (Option Place)) (seen : List ℕ) (pending : Pending) (h : Holds header groups store seen pending) where
  mark_makes : (head : Head) → head_of c ≡ Some head → IsSpellable 1 c → Begins (Ok part) head store.core new → Makes None as_runs header.format (groups ++ new_group (Mark c) ∷ []) new
  unfolding made
  mark_makes head is spellable begins =
      makes_push None as_runs header groups store.core new (new_group (Mark c)) store.log.gate h.makes h.rests.behind.place (new_is (Mark c) spellable)
      (begun_marks store.core new c head part is begins.0 begins.1 begins.2)

  head_holds : (head : Head) (after : StoreState) (now : List ℕ) (known : Pending) → head_of c ≡ Some head → IsSpellable 1 c → Begins (Ok part) head store.core new → after.core ≡ new
      → Rests header (bodies_of groups ++ sealed (4 ∷ canonical 1 c) ∷ []) after.log now known → Holds header (groups ++ new_group (Mark c) ∷ []) after now known
  head_holds head after now known is spellable begins same rests = record {
    rests = more_rests header groups (new_group (Mark c)) (sealed (4 ∷ canonical 1 c)) now after.log known refl rests;
    makes = subst (λ (s : Store (Option Place)). Makes None as_runs header.format (groups ++ new_group (Mark c) ∷ []) s) (sym same) (mark_makes head is spellable begins);
  }

  pub mark_holds : (o : Option Head) (after : StoreState) (now : List ℕ) (known : Pending) → head_of c ≡ o → IsTrue (is_some o) → IsSpellable 1 c → IfSome o (λ head. Begins (Ok part) head store.core new) → after.core ≡ new
      → Rests header (bodies_of groups ++ sealed (4 ∷ canonical 1 c) ∷ []) after.log now known → Holds header (groups ++ new_group (Mark c) ∷ []) after now known
  mark_holds None after now known is there spellable begins same rests = cc
  mark_holds (Some head) after now known is there spellable begins same rests = head_holds head after now known is spellable begins same rests

-- the part that a head begins is the one that its entry is taken up again as
pub begun_again : (store new : Store (Option Place)) (o : Option Head) (part : Part (Option Place)) → IsTrue (is_some o) → IfSome o (λ head. Begins (Ok part) head store new) → resumed new part.key.uuid ≡ Some (open_state new part)
begun_again store new None part there begins = cc
begun_again store new (Some head) part there begins = begun_resumes store new head part begins.0 begins.1 begins.2

-- and it is kept, beside the others
pub begun_are_kept : (end : ℕ) (store new : Store (Option Place)) (o : Option Head) (part : Part (Option Place)) → IsTrue (is_some o) → IfSome o (λ head. Begins (Ok part) head store new) → AreKept end store → IsKept end part.subvolume × AreKept end new
begun_are_kept end store new None part there begins all = cc
begun_are_kept end store new (Some head) part there begins all =
    (begun_kept end store head part.subvolume all begins.0, subst (λ (s : Store (Option Place)). AreKept end s) (sym begins.2) (unfinished_kept end store head all))

-- ---- a group of edits that begins

pub start_builds : (header : Header) (groups : List Group) (version : ℕ) (part : Part (Option Place)) (store after : StoreState) (seen now : List ℕ) (pending known : Pending) → Holds header groups store seen pending
    → length part.key.uuid ≡ 16 → is_version version ≡ true → resumed store.core part.key.uuid ≡ Some (open_state store.core part) → after.core ≡ store.core
    → Grows header (bodies_of groups) (edits_head part.key.uuid version) after.log now known → Builds header groups version [] part after now known
unfolding edits_made canonical_all
start_builds header groups version part store after seen now pending known h sixteen known_version begins same grows = record {
  grows = subst (λ (l : List ℕ). Grows header (bodies_of groups) l after.log now known) (sym (append-nil (edits_head part.key.uuid version))) grows;
  makes = subst (λ (s : Store (Option Place)). Makes None as_runs header.format groups s) (sym same) h.makes;
  says = (sixteen, known_version, tt);
  start = open_state after.core part;
  begins = subst (λ (s : Store (Option Place)). resumed s part.key.uuid ≡ Some (open_state s part)) (sym same) begins;
  becomes = refl;
}

-- ---- an edit

pub edit_taken : {C : Type 0} (zero_cell : C) (put : List C) (store : Store C) (old new : Part C) (c : Command) → new.key ≡ old.key → edit_part zero_cell put store old c ≡ Ok new.subvolume
    → step_edit zero_cell put (record { store = store; part = Some old }) c ≡ record { state = record { store = store; part = Some new }; refusal = None }
unfolding step_edit
edit_taken zero_cell put store old new c same e =
    ap (edited store old) e ∙ (λ i. record { state = record { store = store; part = Some (record { key = sym same i; subvolume = new.subvolume }) }; refusal = None })

-- where the next frame stands
pub next_place : (header : Header) (bodies : List (List ℕ)) (uuid frames : List ℕ) (version : ℕ) (log : LogState) (seen : List ℕ) (pending : Pending) → Grows header bodies (edits_head uuid version ++ frames) log seen pending → length uuid ≡ 16 → log.size ≡ length seen
    → log.size ≡ frames_at (body_at log.gate) + length frames
next_place header bodies uuid frames version log seen pending grows sixteen size =
    let body : List ℕ = edits_head uuid version ++ frames in
    omega (
      arith,
      size,
      ap length grows.bytes,
      length-append (front_of header bodies) (grows.gate ∷ (grows.space ++ body)),
      length-append grows.space body,
      grows.eight,
      length-append (edits_head uuid version) frames,
      length-append uuid (version ∷ []),
      sixteen,
      grows.behind.place,
    )

module _ (header : Header) (groups : List Group) (version : ℕ) (commands : List Command) (part new : Part (Option Place)) (store after : StoreState) (seen now : List ℕ) (pending known : Pending) (b : Builds header groups version commands part store seen pending) where
  pub edit_builds : (c : Command) → IsEdit version c → store.log.size ≡ length seen → new.key ≡ part.key
      → edit_part None (as_runs (data_place version store.log.size (attributes_of c)) (bytes_of c)) store.core part c ≡ Ok new.subvolume
      → after.core ≡ store.core → after.log.gate ≡ store.log.gate
      → Grows header (bodies_of groups) ((edits_head part.key.uuid version ++ canonical_all version commands) ++ canonical version c) after.log now known
      → Builds header groups version (commands ++ c ∷ []) new after now known
  edit_builds c is size same taken_by core gate grows =
      let place : store.log.size ≡ frames_at (body_at store.log.gate) + length (canonical_all version commands) = next_place header (bodies_of groups) part.key.uuid (canonical_all version commands) version store.log seen pending b.grows b.says.0 size in
      let uuid : part.key.uuid ≡ new.key.uuid = ap (λ (k : Key). k.uuid) (sym same) in
      let stepped : taken (step_edit None (as_runs (data_place version store.log.size (attributes_of c)) (bytes_of c)) (record { store = store.core; part = Some part }) c) ≡ Some (record { store = store.core; part = Some new }) =
      ap (λ (s : Stepped (Option Place)). taken s) (edit_taken None (as_runs (data_place version store.log.size (attributes_of c)) (bytes_of c)) store.core part new c same taken_by) in
      let made_so : edits_made None as_runs version (frames_at (body_at store.log.gate)) b.start (commands ++ c ∷ []) ≡ Some (record { store = store.core; part = Some new }) =
      edits_push None as_runs version (frames_at (body_at store.log.gate)) commands c b.start (record { store = store.core; part = Some part }) (record { store = store.core; part = Some new }) b.becomes
      (subst (λ (n : ℕ). taken (step_edit None (as_runs (data_place version n (attributes_of c)) (bytes_of c)) (record { store = store.core; part = Some part }) c) ≡ Some (record { store = store.core; part = Some new })) place stepped) in
      let body : (edits_head part.key.uuid version ++ canonical_all version commands) ++ canonical version c ≡ edits_head new.key.uuid version ++ canonical_all version (commands ++ c ∷ []) =
      append_assoc (edits_head part.key.uuid version) (canonical_all version commands) (canonical version c)
      ∙ ap (λ (l : List ℕ). edits_head part.key.uuid version ++ l) (sym (canonical_push version commands c))
      ∙ ap (λ (u : List ℕ). edits_head u version ++ canonical_all version (commands ++ c ∷ [])) uuid in
      record {
        grows = subst (λ (l : List ℕ). Grows header (bodies_of groups) l after.log now known) body grows;
        makes = subst (λ (s : Store (Option Place)). Makes None as_runs header.format groups s) (sym core) b.makes;
        says = (ap length (sym uuid) ∙ b.says.0, b.says.1, all_push (IsEdit version) commands c b.says.2 is);
        start = b.start;
        begins = subst (λ (s : Store (Option Place)). resumed s new.key.uuid ≡ Some b.start) (sym core) (subst (λ (u : List ℕ). resumed store.core u ≡ Some b.start) uuid b.begins);
        becomes = subst (λ (s : Store (Option Place)). edits_made None as_runs version (frames_at (body_at after.log.gate)) b.start (commands ++ c ∷ []) ≡ Some (record { store = s; part = Some new })) (sym core)
            (subst (λ (n : ℕ). edits_made None as_runs version (frames_at (body_at n)) b.start (commands ++ c ∷ []) ≡ Some (record { store = store.core; part = Some new })) (sym gate) made_so);
      }

-- ---- a drop

pub drop_makes : (header : Header) (groups : List Group) (store : StoreState) (name seen : List ℕ) (new : Store (Option Place)) (pending : Pending) → Holds header groups store seen pending → has_name name store.core ≡ true
    → new ≡ filter (λ e. not (bytes_eq e.name name)) store.core → Makes None as_runs header.format (groups ++ new_group (Drop name) ∷ []) new
unfolding made dropped
drop_makes header groups store name seen new pending h there same =
    let one : (if has_name name store.core then Some (filter (λ e. not (bytes_eq e.name name)) store.core) else None) ≡ Some new =
    ap (λ (b : Bool). if b then Some (filter (λ e. not (bytes_eq e.name name)) store.core) else None) there ∙ ap (λ (s : Store (Option Place)). Some s) (sym same) in
    makes_push None as_runs header groups store.core new (new_group (Drop name)) store.log.gate h.makes h.rests.behind.place (new_is (Drop name) tt) one
