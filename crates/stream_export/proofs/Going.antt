-- Commands that are taken, one after the other: where they lead and what is written of them.
use Rattle.std.specs.Prelude.{◌≡◌, ℕ, Bool, true, false, List, [], ◌∷◌, ◌++◌, map, if◌then◌else◌, not, ◌&&◌, Option, None, Some}
use Rattle.std.specs.Str.{bytes_eq}
use Rattle.std.proofs.Common.{refl, sym, ap, subst, ◌∙◌, append_assoc, append-nil}
use Rattle.std.proofs.KnownBytes.{Appends-nil, Appends-trans}
use Rattle.send_model.specs.Refusal.{Refusal}
use Rattle.send_model.specs.Command.{Command}
use Rattle.send_model.specs.Reading.{Item}
use Rattle.send_model.specs.Counts.{is_end}
use Rattle.send_model.specs.Store.{Part, State, After}
use Rattle.send_model.specs.Subvolume.{Subvolume}
use Rattle.send_model.specs.Guards.{refused_from, looked}
use Rattle.send_model.specs.Opened.{Opened, written_path, is_astray}
use Rattle.send_model.specs.Separated.{separator, separator_for, separator_in, touch, detour, names_file, free_name}
use Rattle.send_model.specs.Exported.{Exporting, exporting_after, items_before, then_separated, separated_by, AreSmallBy}
use Rattle.send_model.specs.Receivable.{receivable, header_before, exported_from}
use Rattle.auditor.specs.Following.{follow, beside}
use Rattle.auditor.proofs.Runs.{none, one, run_on}
use Rattle.stream_export.specs.Exporting.{Blank, blank_does, all_receivable, before, export_bytes, Point, written_from, SmallFrom, Goes}
use Rattle.stream_export.specs.Steps.{Passes, OneTaken, bytes_at}

-- ---- what goes before a command

-- Commands of which none is END.
abbrev AreInner : List Command → Type 0
AreInner [] = Unit {0}
AreInner (c ∷ cs) = (is_end c ≡ false) × AreInner cs

inner_before : (opened : Option Opened) (other : List ℕ) (state : State Blank) (c : Command) → AreInner (separator opened other state c)
unfolding separator separator_in detour
inner_before opened other state c = astray (is_astray opened state c)
  where
    within : (b : Bool) (s : Subvolume Blank) (path : List ℕ) → AreInner (if b then touch other ∷ [] else detour s (free_name s) path)
    within true s path = (refl, tt)
    within false s path = (refl, (refl, (refl, (refl, tt))))

    at : (part : Option (Part Blank)) (path : Option (List ℕ)) → AreInner (separator_for other part path)
    at None path = tt
    at (Some part) None = tt
    at (Some part) (Some path) = within (names_file part.subvolume other && not (bytes_eq other path)) part.subvolume path

    astray : (b : Bool) → AreInner (if b then separator_for other state.part (written_path c) else [])
    astray true = at state.part (written_path c)
    astray false = tt

-- Items of one stream that begin none, before others.
inner_items : (item : Item) (cs : List Command) (rest : List Item) → AreInner cs
    → exported_from false (map (λ command. record item { command = command }) cs ++ rest) ≡ all_receivable item.version cs ++ exported_from false rest
unfolding exported_from
inner_items item [] rest all = refl
inner_items item (c ∷ cs) rest (inner, all) =
    ap (λ (b : Bool). receivable item.version c ++ exported_from b (map (λ command. record item { command = command }) cs ++ rest)) inner
    ∙ ap (λ (l : List ℕ). receivable item.version c ++ l) (inner_items item cs rest all)
    ∙ sym (append_assoc (receivable item.version c) (all_receivable item.version cs) (exported_from false rest))

-- An item with what goes before it, and then others: the header comes first.
header_first : (begins : Bool) (item : Item) (cs : List Command) (rest : List Item) → AreInner cs
    → exported_from begins (map (λ command. record item { command = command }) cs ++ item ∷ rest)
    ≡ header_before begins item.version ++ exported_from false (map (λ command. record item { command = command }) cs ++ item ∷ rest)
unfolding exported_from
header_first begins item [] rest all = refl
header_first begins item (c ∷ cs) rest all = refl

one_written : (begins : Bool) (now : Exporting Blank) (item : Item) (rest : List Item)
    → exported_from begins (items_before now item ++ item ∷ rest) ≡ export_bytes begins now item.version item.command ++ exported_from (is_end item.command) rest
unfolding exported_from
one_written begins now item rest =
    let cs : List Command = before now item.command in
    let inner : AreInner cs = inner_before now.opened now.other now.state item.command in
    let header : List ℕ = header_before begins item.version in
    let last : List ℕ = receivable item.version item.command in
    let after : List ℕ = exported_from (is_end item.command) rest in
    header_first begins item cs rest inner
    ∙ ap (λ (l : List ℕ). header ++ l) (inner_items item cs (item ∷ rest) inner)
    ∙ ap (λ (l : List ℕ). header ++ l) (sym (append_assoc (all_receivable item.version cs) last after))
    ∙ sym (append_assoc header (all_receivable item.version cs ++ last) after)

-- ---- one command

-- An item does under no guards what it does.
pub follow_plain : (state : State Blank) (item : Item) → follow (beside [] state) item ≡ record { state = beside [] (blank_does state item).state; refusal = (blank_does state item).refusal }
unfolding refused_from looked
follow_plain state item = refl

-- The first of items, where it is taken.
then_taken : (now : Exporting Blank) (item : Item) (more : List Item) (state : State Blank) (after : After (State Blank)) → after ≡ record { state = state; refusal = None }
    → then_separated after.refusal (items_before now item ++ item ∷ separated_by blank_does (exporting_after now item.command after.state) more)
    ≡ items_before now item ++ item ∷ separated_by blank_does (exporting_after now item.command state) more
then_taken now item more state after is =
    ap (λ (a : After (State Blank)). then_separated a.refusal (items_before now item ++ item ∷ separated_by blank_does (exporting_after now item.command a.state) more)) is

taken_first : (now : Exporting Blank) (item : Item) (more : List Item) (state : State Blank) → blank_does now.state item ≡ record { state = state; refusal = None }
    → separated_by blank_does now (item ∷ more) ≡ items_before now item ++ item ∷ separated_by blank_does (exporting_after now item.command state) more
unfolding separated_by
taken_first now item more state is = then_taken now item more state (blank_does now.state item) is

-- The first of items, where it is refused: nothing is written any more.
refused_then : (o : Option Refusal) (refusal : Refusal) (rest : List Item) → o ≡ Some refusal → then_separated o rest ≡ []
refused_then None refusal rest e = cc
refused_then (Some r) refusal rest e = refl

refused_first : (now : Exporting Blank) (item : Item) (more : List Item) (refusal : Refusal) → (blank_does now.state item).refusal ≡ Some refusal → separated_by blank_does now (item ∷ more) ≡ []
unfolding separated_by
refused_first now item more refusal is = refused_then (blank_does now.state item).refusal refusal _ is

pub refused_writes : (old : Point) (item : Item) (more : List Item) (refusal : Refusal) → (blank_does old.now.state item).refusal ≡ Some refusal → written_from old (item ∷ more) ≡ []
unfolding exported_from
refused_writes old item more refusal is = ap (exported_from old.begins) (refused_first old.now item more refusal is)

taken_small : (state next : State Blank) (item : Item) (more : List Item) → blank_does state item ≡ record { state = next; refusal = None } → AreSmallBy blank_does next more → AreSmallBy blank_does (blank_does state item).state more
taken_small state next item more is small = subst (λ (a : After (State Blank)). AreSmallBy blank_does a.state more) (sym is) small

-- One command that is taken.
pub goes_one : (old new : Point) (item : Item) → OneTaken old new item → Goes old (item ∷ []) new (bytes_at old item)
unfolding AreSmallBy
goes_one old new item t = record {
  accepted = one follow item (beside [] old.now.state) (beside [] new.now.state)
      (follow_plain old.now.state item ∙ ap (λ (a : After (State Blank)). record { state = beside [] a.state; refusal = a.refusal }) t.stepped);
  written = λ more.
      ap (exported_from old.begins) (taken_first old.now item more new.now.state t.stepped)
      ∙ one_written old.begins old.now item (separated_by blank_does (exporting_after old.now item.command new.now.state) more)
      ∙ ap (λ (x : Exporting Blank). bytes_at old item ++ exported_from (is_end item.command) (separated_by blank_does x more)) (sym t.after)
      ∙ ap (λ (b : Bool). bytes_at old item ++ exported_from b (separated_by blank_does new.now more)) (sym t.begins_is);
  small = λ more small. (t.small, taken_small old.now.state new.now.state item more t.stepped small);
}

-- ---- several

pub goes_none : (point : Point) → Goes point [] point []
goes_none point = record { accepted = none follow (beside [] point.now.state); written = λ more. refl; small = λ more small. small }

pub goes_on : (old mid new : Point) (items others : List Item) (text more_text : List ℕ) → Goes old items mid text → Goes mid others new more_text → Goes old (items ++ others) new (text ++ more_text)
goes_on old mid new items others text more_text a b = record {
  accepted = run_on follow items others (beside [] old.now.state) (beside [] mid.now.state) a.accepted ∙ b.accepted;
  written = λ more.
      ap (written_from old) (append_assoc items others more) ∙ a.written (others ++ more) ∙ ap (λ (l : List ℕ). text ++ l) (b.written more)
      ∙ sym (append_assoc text more_text (written_from new more));
  small = λ more small. subst (SmallFrom old) (sym (append_assoc items others more)) (a.small (others ++ more) (b.small more small));
}

-- All of them.
pub goes_all : (old new : Point) (items : List Item) (text : List ℕ) → Goes old items new text → written_from old items ≡ text
unfolding separated_by exported_from
goes_all old new items text g = ap (written_from old) (sym (append-nil items)) ∙ g.written [] ∙ append-nil text

-- ---- bytes that are gathered

pub passes_none : (bytes : List ℕ) (taken : Option (List ℕ)) → Passes bytes bytes [] taken taken
passes_none bytes taken = record { sent = []; appends = Appends-nil taken; bytes_are = sym (append-nil bytes) }

pub passes_on : (old mid new text more : List ℕ) (taken_old taken_mid taken_now : Option (List ℕ)) → Passes old mid text taken_old taken_mid → Passes mid new more taken_mid taken_now
    → Passes old new (text ++ more) taken_old taken_now
passes_on old mid new text more taken_old taken_mid taken_now a b = record {
  sent = a.sent ++ b.sent;
  appends = Appends-trans taken_old taken_mid taken_now a.sent b.sent a.appends b.appends;
  bytes_are = append_assoc a.sent b.sent new ∙ ap (λ (l : List ℕ). a.sent ++ l) b.bytes_are ∙ sym (append_assoc a.sent mid more)
      ∙ ap (λ (l : List ℕ). l ++ more) a.bytes_are ∙ append_assoc old text more;
}
