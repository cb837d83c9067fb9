-- What is composed with the part as a source can be spelled, where what the base finds under the outside keys can be said.
use Rattle.std.specs.Prelude.{◌≡◌, ℕ, ◌+◌, ◌<◌, true, false, not, List, [], ◌∷◌, None, Some}
use Rattle.std.specs.List.{AllByRecursion}
use Rattle.std.proofs.Common.{refl, sym, ap, subst, ◌∙◌, arith, inl, inr}
use Rattle.std.proofs.lemmas.Bool.{false≢true, leb-true}
use Rattle.send_model.specs.Attribute.{PATH, CLONE_PATH}
use Rattle.send_model.specs.Command.{Command, Subvol, Snapshot, Clone, End, row}
use Rattle.send_model.specs.Spelling.{IsSpellable}
use Rattle.send_model.specs.Reading.{Item}
use Rattle.send_model.specs.Subvolume.{Subvolume}
use Rattle.send_model.specs.Edit.{greatest_end}
use Rattle.send_model.specs.Store.{Key, Head, Store, find}
use Rattle.send_model.specs.Receive.{Run, run_items, byte_cells, start_of, IsAccepted}
use Rattle.send_model.specs.Order.{heads, commands_of, IsConsecutive}
use Rattle.send_model.specs.Outside.{IsAmong, is_among, part_uuids, base_of, all_keys_named, keys_outside, IsSayable, FindsSayable}
use Rattle.send_model.specs.Counts.{is_end}
use Rattle.send_model.specs.Composed.{first_head, last_head}
use Rattle.send_model.specs.Cells.{recelled}
use Rattle.send_model.proofs.ElementLaws.{all_take, all_drop}
use Rattle.send_model.proofs.Sorts.{is_plain, same_inside, plain_is_no_head}
use Rattle.send_model.proofs.Versions.{IsVersion}
use Rattle.send_model.proofs.Canonical.{spellable_first}
use Rattle.send_model.proofs.Runs.{takes_run}
use Rattle.send_model.proofs.Headlines.{among_all, without_finds}
use Rattle.send_model.proofs.Redirected.{cloned_facts}
use Rattle.send_model.proofs.SpelledPieces.{IsInside, KeyFits, path_first, pieces_inside}
use Rattle.send_model.proofs.SpelledRuns.{last_fits_of, heads_fit, keys_fit, kept_fit}
use Rattle.send_model.proofs.LawfulEdits.{cells_known}
use Rattle.send_model.proofs.Elsewhere.{AreApart}
use Rattle.send_model.proofs.ComposedClones.{all_ours, last_ours, outside_apart, items_any}
use Rattle.standing_model.specs.Births.{Tagged, byte_in, tagged_store}
use Rattle.standing_model.specs.Standing.{with_part, standing_commands, selfed_from, selfed_edits}
use Rattle.standing_model.specs.Promises.{IsThere, AreThere}
use Rattle.standing_model.proofs.TaggedBase.{celled, IsKnown, IsGoodItem, keeps, root_known, sayable_said}
use Rattle.standing_model.proofs.Sources.{finds_outside, finds_part}
use Rattle.standing_model.proofs.SelfHeadline.{PiecesFine, law}

pub plain_no_end : (c : Command) → is_plain c ≡ true → is_end c ≡ false
plain_no_end (Subvol uuid ctransid path) h = absurd (false≢true h)
plain_no_end (Snapshot uuid ctransid path clone_uuid clone_ctransid) h = absurd (false≢true h)
plain_no_end End h = absurd (false≢true h)
plain_no_end c h = refl

-- Items whose data stand, and whose commands a version can say.
pub said_items : (files : List (List ℕ)) (version : ℕ) (items : List Item) → AreThere files items → AllByRecursion (IsSpellable version) (commands_of items) → AllByRecursion (λ item. IsThere files item × IsSpellable version item.command) items
said_items files version [] a w = tt
said_items files version (item ∷ items) a w = ((a.0, w.0), said_items files version items a.1 w.1)

module _ (files : List (List ℕ)) (version : ℕ) (is : IsVersion version) (base : Store ℕ) (keys : List Key) (sayable : FindsSayable base keys) (parts : List (List ℕ)) (last : Key) (apart : AreApart keys last) (none : find base last ≡ None)
    (last_fits : KeyFits last) (key_fits : (key : Key) → IsAmong key keys → KeyFits key) where
  around_sayable : (part : Subvolume Tagged) → IsSayable (recelled byte_in part) → FindsSayable (with_part last part base) (last ∷ keys)
  around_sayable part said key s (inl own) f = subst IsSayable (same_inside (sym (finds_part files base keys last apart part 0) ∙ ap (find (with_part last part base)) own ∙ f)) said
  around_sayable part said key s (inr among) f = sayable key s among (sym (finds_outside files base keys last apart part 0 key among) ∙ f)

  around_fits : (key : Key) → IsAmong key (last ∷ keys) → KeyFits key
  around_fits key (inl own) = subst KeyFits own last_fits
  around_fits key (inr among) = key_fits key among

  pub pieces_fine : PiecesFine files base keys (λ k s among f. let y = sayable k s among f in y.lawful) parts last apart none (λ s. IsSayable s) (λ item. IsSpellable version item.command) (sayable_said files base keys version sayable) (IsInside version)
  unfolding row
  pieces_fine item s source path offset uuid ctransid clone_path from len range part pieces spelled said source_said same made covered =
      let facts = cloned_facts s source false path offset clone_path from len range made in
      let v = spelled.values in
      let IsByte : ℕ → Type 0 = λ b. b < 256 in
      let bytes : AllByRecursion IsByte range.cells = subst (λ (cs : List ℕ). AllByRecursion IsByte cs) (sym facts.cells_are) (all_take IsByte len _ (all_drop IsByte from _ (cells_known source facts.source_ino source_said))) in
      let end = leb-true (offset + len) greatest_end facts.fits in
      let long = facts.length_is in
      pieces_inside version is (with_part last part base) (last ∷ keys) around_fits (around_sayable part (subst IsSayable same said)) path (path_first version PATH path refl v.0) offset 0 pieces range.cells covered bytes (omega (arith, long, end))

  pub own_inside : (path : List ℕ) (offset : ℕ) (uuid : List ℕ) (ctransid : ℕ) (clone_path : List ℕ) (from len : ℕ) → IsSpellable version (Clone path offset uuid ctransid clone_path from len) → IsInside version (Clone path offset last.uuid last.ctransid clone_path from len)
  unfolding row
  own_inside path offset uuid ctransid clone_path from len s =
      let v = s.values in (
        spellable_first version (Clone path offset last.uuid last.ctransid clone_path from len) s.known
            (path_first version PATH path refl v.0, (v.1.0, (last_fits.0, (last_fits.1, (path_first version CLONE_PATH clone_path refl v.1.1.1.1.0, v.1.1.1.1.1))))),
        refl,
        refl,
      )

-- What is composed inside the one part, from items whose commands can be spelled.
pub self_inside : (files : List (List ℕ)) (version : ℕ) → IsVersion version → (store : Store ℕ) (items : List Item) (first last : Head) → first_head (heads items) ≡ Some first → last_head (heads items) ≡ Some last → IsConsecutive items
    → AllByRecursion (IsSpellable version) (commands_of items) → IsAccepted (run_items 0 byte_cells (start_of (base_of store items)) items) → FindsSayable (base_of store items) (keys_outside items) → AreThere files items
    → AllByRecursion (IsInside version) (selfed_edits (base_of store items) last.key items)
unfolding selfed_edits selfed_from
self_inside files version is store items first last first_is last_is consecutive w accepted sayable there =
    let parts : List (List ℕ) = part_uuids items in
    let keys : List Key = keys_outside items in
    let base : Store ℕ = base_of store items in
    let cs : List Command = commands_of items in
    let ran : Run ℕ = run_items 0 byte_cells (start_of base) items in
    let our_last : is_among parts last.key.uuid ≡ true = last_ours parts (heads items) last (all_ours (heads items)) last_is in
    let apart : AreApart keys last.key = outside_apart parts (all_keys_named cs) last.key our_last in
    let none : find base last.key ≡ None = without_finds parts store last.key our_last in
    let last_fit = last_fits_of (heads items) last (heads_fit version cs w) last_is in
    let key_fits : (key : Key) → IsAmong key keys → KeyFits key = λ key among. among_all KeyFits key keys (kept_fit KeyFits (λ key. not (is_among parts key.uuid)) (all_keys_named cs) (keys_fit version cs w)) among in
    let lawful = λ (k : Key) (s : Subvolume ℕ) (among : IsAmong k keys) (f : find base k ≡ Some s). let y = sayable k s among f in y.lawful in
    let Said : Subvolume ℕ → Type 0 = λ s. IsSayable s in
    let ItemSaid : Item → Type 0 = λ item. IsSpellable version item.command in
    let said = sayable_said files base keys version sayable in
    let k = items_any celled store items first last (tagged_store base) (IsKnown files base keys lawful Said ItemSaid said) (IsGoodItem files base keys lawful Said ItemSaid said) (keeps files base keys lawful Said ItemSaid said)
    (root_known files base keys lawful Said ItemSaid said) (standing_commands base last.key) (IsInside version)
    (record {
      plain = λ item g h. (g.1, plain_no_end item.command h, plain_is_no_head item.command h);
      own = λ item path offset uuid ctransid clone_path from len g. own_inside files version is base keys sayable parts last.key apart none last_fit.1 key_fits path offset uuid ctransid clone_path from len g.1;
      outside = λ item path offset uuid ctransid clone_path from len g among. (g.1, refl, refl);
    })
    (law files base keys lawful parts last.key apart none Said ItemSaid said (IsInside version) (pieces_fine files version is base keys sayable parts last.key apart none last_fit.1 key_fits))
    first_is last_is consecutive (said_items files version items there w) ran.state (takes_run items (start_of base) accepted) in
    k.fine
