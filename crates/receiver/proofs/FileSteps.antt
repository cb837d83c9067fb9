-- What the loop over a file's commands keeps, and each of its ends.
use Rattle.std.specs.Prelude.{◌≡◌, ⊤, ℕ, ◌≤◌, Bool, true, false, List, [], ◌∷◌, ◌++◌, length, Option, None, Some, Ok, if◌then◌else◌}
use Rattle.std.specs.Io.KnownBytes.{Appends}
use Rattle.std.proofs.KnownBytes.{Appends-nil, Appends-trans}
use Rattle.std.proofs.Common.{refl, sym, ap, subst, ◌∙◌, append_assoc, arith}
use Rattle.send_model.specs.Command.{Command, End}
use Rattle.send_model.specs.Reading.{Item, Reading, CommandDue, due_after, with_item, reads}
use Rattle.send_model.specs.Store.{Head, Store, head_of}
use Rattle.send_model.specs.Guards.{Guard}
use Rattle.send_model.specs.Counts.{is_end}
use Rattle.send_model.specs.Overridden.{Override, overridden_as}
use Rattle.cmd_reader.specs.declared.item.Item as read
use Rattle.cmd_reader.specs.Places.{IfTold}
use Rattle.cmd_reader.specs.Left.{Reader, at_start, left}
use Rattle.cmd_reader.specs.Next.{item_of, IsNext, NextSays}
use Rattle.cmd_reader.proofs.Aheads.{next_item}
use Rattle.cmd_reader.proofs.Told.{told_both, told_always}
use Rattle.store_model.specs.Stored.{Group}
use Rattle.store_model.specs.Written.{Begun, and_command, begun_after_edit, begun_after, closed_by, begun_by}
use Rattle.store_model.proofs.PassedStates.{IsOn}
use Rattle.auditor.specs.Following.{beside, follow}
use Rattle.store_journal.specs.Shown.{StoreState}
use Rattle.receiver.specs.declared.opened.Opened.{Opened}
use Rattle.receiver.specs.Standing.{behind_close, place_of, IsReady}
use Rattle.receiver.specs.Disks.{HasVersion}
use Rattle.receiver.specs.Answers.{StepSays, PiecesSay}
use Rattle.receiver.specs.Steps.{blank_of, line_under}
use Rattle.receiver.specs.Running.{byte_step, Spot, IsAt}
use Rattle.receiver.proofs.Unpacked.{Leads}
use Rattle.receiver.proofs.NamedReads.{GivenFits, reading_with}
use Rattle.receiver.proofs.Leading.{next_at, leads_none, leads_on, leads_one}

-- Items, and then what else is read.
abbrev pub and_then : List Item → Reading → Reading
and_then items r = record { items = items ++ r.items; end = r.end }

-- The part that is open is of the version of which the next command is due.
abbrev pub VersionDue : Reader → Option Begun → Type 0
VersionDue reader None = ⊤
VersionDue reader (Some begun) = reader.fed.due ≡ CommandDue begun.version

-- These commands of the file, with the name that is given for its heads, were read and taken.
pub record Stands (override : Override) (file limit : ℕ) (base : Store ℕ) (spot : Spot) (reader : Reader) (guards : List Guard) (store : StoreState) (current : Option Opened) (old new : Option (List ℕ)) (K : List Group → Option Begun → Type 0) (bytes : List ℕ) : Type 0 where
  pub items : List Item
  pub read : reading_with override (reads file bytes) ≡ and_then items (reading_with override (left reader bytes))
  pub reached : reader.offset ≤ length bytes
  pub now : Spot
  pub at : IsAt now guards store current
  pub groups : List Group
  pub lines : List ℕ
  pub leads : Leads limit base spot now items groups lines
  pub wrote : Appends old new lines
  pub version : VersionDue reader now.begun
  pub disk : K groups now.begun

left_fresh : (file : ℕ) (name bytes : List ℕ) → left (at_start file name) bytes ≡ reads file bytes
unfolding left reads
left_fresh file name bytes = refl

pub stands_at_start : (told : Option (List (List ℕ × List ℕ))) (override : Override) (file limit : ℕ) (name : List ℕ) (base : Store ℕ) (spot : Spot) (reader : Reader) (guards : List Guard) (store : StoreState) (current : Option Opened) (out : Option (List ℕ)) (K : List Group → Option Begun → Type 0)
    → reader ≡ at_start file name → IsAt spot guards store current → IsOn base spot.watched.state.store spot.watched.state.part → spot.begun ≡ None → K [] None
    → IfTold told name (Stands override file limit base spot reader guards store current out out K)
stands_at_start told override file limit name base spot reader guards store current out K e at on none disk =
    told_always told name (Stands override file limit base spot reader guards store current out out K) (λ bytes. subst (λ (r : Reader). Stands override file limit base spot r guards store current out out K bytes) (sym e) (record {
      items = [];
      read = ap (reading_with override) (sym (left_fresh file name bytes));
      reached = omega (arith);
      now = spot;
      at = at;
      groups = [];
      lines = [];
      leads = leads_none limit base spot on;
      wrote = Appends-nil out;
      version = subst (λ (b : Option Begun). VersionDue (at_start file name) b) (sym none) tt;
      disk = subst (λ (b : Option Begun). K [] b) (sym none) disk;
    }))

-- ---- versions

pub fits_version : (old : Reader) (version : ℕ) (begun : Option Begun) → ((n : ℕ) → old.fed.due ≡ CommandDue n → version ≡ n) → VersionDue old begun → HasVersion version begun
fits_version old version None same due = tt
fits_version old version (Some b) same due = sym (same b.version due)

due_edit : (version : ℕ) (c : Command) → is_end c ≡ false → due_after version c ≡ CommandDue version
due_edit version End e = cc
due_edit version c e = refl

due_next : (new : Reader) (item : Item) (begun : Option Begun) → HasVersion item.version begun → new.fed.due ≡ due_after item.version item.command → VersionDue new (begun_after begun item)
due_next new item begun same due = one (head_of item.command) refl
  where
    shown : Option Head → Option Begun
    shown o = elim o as (λ x. Option Begun) [
      | Some head ↦ Some (record { uuid = head.key.uuid; version = item.version; commands = [] })
      | None ↦ begun_after_edit item begun
    ]

    no_end : (c : Command) (head : Head) → head_of c ≡ Some head → is_end c ≡ false
    no_end End head e = cc
    no_end c head e = refl

    edit : (b : Option Begun) → HasVersion item.version b → (ends : Bool) → is_end item.command ≡ ends → VersionDue new (if ends then None else (elim b as (λ x. Option Begun) [ None ↦ None | Some d ↦ Some (and_command item.command d) ]))
    edit b h true e = tt
    edit None h false e = tt
    edit (Some d) h false e = due ∙ due_edit item.version item.command e ∙ ap (λ (n : ℕ). CommandDue n) (sym h)

    one : (o : Option Head) → head_of item.command ≡ o → VersionDue new (elim (head_of item.command) as (λ x. Option Begun) [
      | Some head ↦ Some (record { uuid = head.key.uuid; version = item.version; commands = [] })
      | None ↦ begun_after_edit item begun
    ])
    one (Some head) e = subst (λ (x : Option Head). VersionDue new (elim x as (λ x. Option Begun) [
      | Some head ↦ Some (record { uuid = head.key.uuid; version = item.version; commands = [] })
      | None ↦ begun_after_edit item begun
    ])) (sym e) (due ∙ due_edit item.version item.command (no_end item.command head e))
    one None e = subst (λ (x : Option Head). VersionDue new (elim x as (λ x. Option Begun) [
      | Some head ↦ Some (record { uuid = head.key.uuid; version = item.version; commands = [] })
      | None ↦ begun_after_edit item begun
    ])) (sym e) (edit begun same (is_end item.command) refl)

then_item : (items : List Item) (item : Item) (r : Reading) → and_then items (with_item item r) ≡ and_then (items ++ item ∷ []) r
then_item items item r = ap (λ (is : List Item). record { items = is; end = r.end }) (sym (append_assoc items (item ∷ []) r.items))

-- ---- one command more

-- What was left is the item with the name that is given for its file, and what is left now.
pub left_named : (override : Override) (file : ℕ) (old new : Reader) (own item : read.Item) (bytes : List ℕ) → old.file ≡ file → item_of file item ≡ overridden_as override (item_of file own) → IsNext old new own bytes
    → reading_with override (left old bytes) ≡ with_item (item_of file item) (reading_with override (left new bytes))
left_named override file old new own item bytes file_is named n =
    ap (reading_with override) (n.left_is ∙ ap (λ (k : ℕ). with_item (item_of k own) (left new bytes)) file_is)
    ∙ ap (λ (i : Item). with_item i (reading_with override (left new bytes))) (sym named)

pub stands_after : (told inputs : Option (List (List ℕ × List ℕ))) (override : Override) (file limit len : ℕ) (name : List ℕ) (base : Store ℕ) (spot : Spot) (old new : Reader) (guards guards_now : List Guard) (store store_now : StoreState) (current current_now : Option Opened) (out out_now out_next : Option (List ℕ)) (K L : List Group → Option Begun → Type 0) (f0 f1 : ℕ) (o : Option read.Item) (own item : read.Item)
    → o ≡ Some own → inputs ≡ told → old.name ≡ name → old.file ≡ file → NextSays inputs old new f0 f1 (Ok o) → item_of file item ≡ overridden_as override (item_of file own) → GivenFits old new item → IsReady len current store
    → StepSays (Ok tt) (item_of file item) (beside guards_now (blank_of store_now current_now)) (follow (beside guards (blank_of store current)) (item_of file item))
    → PiecesSay (Ok tt) limit (behind_close current (item_of file item).command (place_of store current)) (place_of store_now current_now) (item_of file item)
    → Appends out_now out_next (line_under guards current (item_of file item).command)
    → ((groups : List Group) (begun : Option Begun) → HasVersion item.version begun → K groups begun → L (groups ++ (closed_by guards (item_of file item).command begun ++ begun_by (item_of file item).command)) (begun_after begun (item_of file item)))
    → IfTold told name (Stands override file limit base spot old guards store current out out_now K) → IfTold told name (Stands override file limit base spot new guards_now store_now current_now out out_next L)
stands_after told inputs override file limit len name base spot old new guards guards_now store store_now current current_now out out_now out_next K L f0 f1 o own item e same name_is file_is says named fits ready stepped pieces writes disk stands =
    told_both told name (IsNext old new own) (Stands override file limit base spot old guards store current out out_now K) (Stands override file limit base spot new guards_now store_now current_now out out_next L) step
    (next_item told inputs name old new f0 f1 o own e same name_is says) stands
  where
    meant_item : Item
    meant_item = item_of file item

    step : (bytes : List ℕ) → IsNext old new own bytes → Stands override file limit base spot old guards store current out out_now K bytes → Stands override file limit base spot new guards_now store_now current_now out out_next L bytes
    step bytes n s =
        let version = fits_version old item.version s.now.begun fits.same_stream s.version in
        let one = leads_one limit base s.now (item_of file item) guards len store current s.at s.leads.on ready guards_now store_now current_now stepped pieces in
        record {
          items = s.items ++ item_of file item ∷ [];
          read = s.read ∙ ap (and_then s.items) (left_named override file old new own item bytes file_is named n) ∙ then_item s.items (item_of file item) (reading_with override (left new bytes));
          reached = n.reached s.reached;
          now = record { watched = (byte_step s.now.watched (item_of file item)).state; place = place_of store_now current_now; begun = begun_after s.now.begun (item_of file item) };
          at = next_at limit base s.now (item_of file item) guards len store current s.at s.leads.on ready guards_now store_now current_now stepped pieces;
          groups = s.groups ++ (closed_by guards (item_of file item).command s.now.begun ++ begun_by (item_of file item).command);
          lines = s.lines ++ line_under guards current (item_of file item).command;
          leads = leads_on limit base spot s.now _ s.items (item_of file item ∷ []) s.groups _ s.lines _ s.leads one;
          wrote = Appends-trans out out_now out_next s.lines (line_under guards current (item_of file item).command) s.wrote writes;
          version = due_next new (item_of file item) s.now.begun version fits.due;
          disk = disk s.groups s.now.begun version s.disk;
        }
