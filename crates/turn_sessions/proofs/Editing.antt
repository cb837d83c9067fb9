-- The open part is edited, or the edit is refused.
use Rattle.std.specs.Prelude.{◌≡◌, ℕ, true, List, [], ◌∷◌, ◌++◌, Option, None, Some, Result, Ok, Err, is_some, if◌then◌else◌}
use Rattle.std.specs.List.{AllByRecursion}
use Rattle.std.proofs.Common.{refl, sym, ap, subst, ◌∙◌}
use Rattle.std.proofs.lemmas.List.{map-append}
use Rattle.sx_base.specs.Refusals.{refusal_of}
use Rattle.sx_base.specs.declared.refusal.Refusal as code
use Rattle.sx_base.specs.declared.refusal.Refusal.TheVariants as codes_of
use Rattle.send_model.specs.Refusal.{Refusal}
use Rattle.send_model.specs.Command.{Command}
use Rattle.send_model.specs.Spelling.{canonical, canonical_all, IsSpellable}
use Rattle.send_model.specs.Reading.{Item, is_version}
use Rattle.send_model.specs.Subvolume.{Subvolume}
use Rattle.send_model.specs.Store.{Head, Store, Part, edit_part, edited, step_edit}
use Rattle.send_model.specs.Cells.{recelled, recelled_result}
use Rattle.store_model.specs.Stored.{is_edit, IsEdit}
use Rattle.store_model.specs.Turns.{Receiving, Taken, part_of, taken_after, part_line}
use Rattle.store_model.proofs.WrittenGroups.{edit_facts}
use Rattle.clone_resolve.specs.Steps.{cells_put}
use Rattle.auditor.specs.Following.{blank}
use Rattle.group_replay.specs.declared.place.Place.{Place}
use Rattle.group_replay.specs.Placing.{further}
use Rattle.store_journal.proofs.Pushes.{all_push, canonical_push}
use Rattle.receiver.specs.declared.outcome.Received.{Received}
use Rattle.turn_sessions.specs.declared.part.OpenPart.{OpenPart}
use Rattle.turn_sessions.specs.Standing.{Blank, blank_cells, edits_of, IsPart, AreParts}
use Rattle.turn_sessions.specs.Turning.{EditSays, HasVersionOf}
use Rattle.turn_sessions.proofs.Blanks.{edit_blank}
use Rattle.turn_sessions.proofs.Closing.{none_is, one_is}

-- ---- no part is open

pub none_edited : (item : Item) (store : Store (Option Place)) (p : Option (Receiving Blank)) (current after : Option OpenPart) (refusal : code.Refusal) → None ≡ current → AreParts p current → refusal ≡ codes_of.NoSubvolume
    → EditSays item p (step_edit tt (blank_cells item) (record { store = blank store; part = part_of p }) item.command) after (Ok (Some refusal))
unfolding step_edit
none_edited item store p current after refusal e a is =
    subst (λ (q : Option (Receiving Blank)). EditSays item q (step_edit tt (blank_cells item) (record { store = blank store; part = part_of q }) item.command) after (Ok (Some refusal))) (sym (none_is p current e a))
    (record { refused = ap (λ (r : code.Refusal). Some (refusal_of r)) (sym is); part = tt })

-- ---- one is

pub version_of : (version : ℕ) (current : Option OpenPart) (o : OpenPart) → Some o ≡ current → HasVersionOf version current → o.version ≡ version
version_of version None o e v = cc
version_of version (Some x) o e v = ap (λ (y : OpenPart). y.version) (inside e) ∙ v
  where
    inside : {A : Type 0} {x y : A} → Some x ≡ Some y → x ≡ y
    inside q = cc

head_none : (item : Item) (r : Receiving Blank) → is_edit item.command ≡ true → taken_after item (Some r) ≡ record { head = r.taken.head; edits = r.taken.edits ++ item ∷ [] }
head_none item r edits =
    ap (λ (o : Option Head). if is_some o then record { head = item; edits = [] } else record { head = r.taken.head; edits = r.taken.edits ++ item ∷ [] }) (edit_facts item.command edits).0

line_same : (item : Item) (r : Receiving Blank) → part_line (record { head = r.taken.head; edits = r.taken.edits ++ item ∷ [] }) ≡ part_line r.taken
unfolding part_line
line_same item r = refl

-- what the edit says over cells that carry nothing
edit_said : (item : Item) (r : Receiving Blank) (o : OpenPart) (store : Store (Option Place)) (place : Place) (said : Result (Subvolume (Option Place)) Refusal) → IsPart r o → edit_part None (cells_put further place item.command) store o.part item.command ≡ said
    → edit_part tt (blank_cells item) (blank store) r.part item.command ≡ recelled_result (λ _. tt) said
edit_said item r o store place said is e =
    ap (λ (p : Part Blank). edit_part tt (blank_cells item) (blank store) p item.command) is.part
    ∙ edit_blank place store o.part item.command ∙ ap (recelled_result (λ _. tt)) e

module _ (item : Item) (edits : is_edit item.command ≡ true) (store : Store (Option Place)) (p : Option (Receiving Blank)) (current : Option OpenPart) (o : OpenPart) (at : Some o ≡ current) (are : AreParts p current) (place : Place) (new : Part (Option Place)) (same_key : new.key ≡ o.part.key) where
  abbrev Says : Option (Receiving Blank) → Option OpenPart → Result (Option code.Refusal) Received → Type 0
  Says q after result = EditSays item q (step_edit tt (blank_cells item) (record { store = blank store; part = part_of q }) item.command) after result

  pub one_edited : (version : ℕ) (frames : List ℕ) → edit_part None (cells_put further place item.command) store o.part item.command ≡ Ok new.subvolume
      → version ≡ o.version → IsSpellable version item.command → frames ≡ o.frames ++ canonical version item.command
      → Says p (Some (record { part = new; line = o.line; version = version; frames = frames })) (Ok None)
  unfolding step_edit
  one_edited version frames e v spells f =
      let q = one_is p current o at are in
      let r : Receiving Blank = q.r in
      let is : IsPart r o = q.part in
      let part : Part Blank = record { key = r.part.key; subvolume = recelled (λ _. tt) new.subvolume } in
      let commands : edits_of (record { taken = record { head = r.taken.head; edits = r.taken.edits ++ item ∷ [] }; part = part }) ≡ edits_of r ++ item.command ∷ [] = map-append (λ (i : Item). i.command) r.taken.edits (item ∷ []) in
      subst (λ (x : Option (Receiving Blank)). Says x (Some (record { part = new; line = o.line; version = version; frames = frames })) (Ok None)) (sym q.is)
      (subst (λ (s : Result (Subvolume Blank) Refusal). EditSays item (Some r) (edited (blank store) r.part s) (Some (record { part = new; line = o.line; version = version; frames = frames })) (Ok None)) (sym (edit_said item r o store place (Ok new.subvolume) is e)) (record {
        refused = refl;
        part = subst (λ (t : Taken). IsPart (record { taken = t; part = part }) (record { part = new; line = o.line; version = version; frames = frames })) (sym (head_none item r edits)) (record {
          part = λ i. record { key = (ap (λ (x : Part Blank). x.key) is.part ∙ sym same_key) i; subvolume = recelled (λ _. tt) new.subvolume };
          uuid = is.uuid;
          line = is.line ∙ sym (line_same item r);
          version = is.version ∙ sym v;
          known = subst (λ (n : ℕ). is_version n ≡ true) (sym v) is.known;
          lawful = subst (λ (l : List Command). AllByRecursion (IsEdit version) l) (sym commands)
              (all_push (IsEdit version) (edits_of r) item.command (subst (λ (n : ℕ). AllByRecursion (IsEdit n) (edits_of r)) (sym v) is.lawful) (edits, spells));
          frames = f ∙ ap (λ (l : List ℕ). l ++ canonical version item.command) (is.frames ∙ ap (λ (n : ℕ). canonical_all n (edits_of r)) (sym v))
              ∙ sym (canonical_push version (edits_of r) item.command) ∙ ap (canonical_all version) (sym commands);
        });
      }))

  pub one_refused : (refusal : code.Refusal) (after : Option OpenPart) → edit_part None (cells_put further place item.command) store o.part item.command ≡ Err (refusal_of refusal) → Says p after (Ok (Some refusal))
  unfolding step_edit
  one_refused refusal after e =
      let q = one_is p current o at are in
      subst (λ (x : Option (Receiving Blank)). Says x after (Ok (Some refusal))) (sym q.is)
      (subst (λ (s : Result (Subvolume Blank) Refusal). EditSays item (Some q.r) (edited (blank store) q.r.part s) after (Ok (Some refusal))) (sym (edit_said item q.r o store place (Err (refusal_of refusal)) q.part e)) (record { refused = refl; part = tt }))
