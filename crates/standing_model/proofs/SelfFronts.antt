-- What stands for first items of others, with the part as a source, can be written where all of them can.
use Rattle.std.specs.Prelude.{◌≡◌, ℕ, true, false, not, List, [], ◌∷◌, ◌++◌, Option, None, Some}
use Rattle.std.specs.List.{AllByRecursion}
use Rattle.std.proofs.Common.{refl, sym, ap, subst, ◌∙◌}
use Rattle.send_model.specs.Command.{Command}
use Rattle.send_model.specs.Spelling.{IsSpellable}
use Rattle.send_model.specs.Reading.{Item}
use Rattle.send_model.specs.Subvolume.{Subvolume}
use Rattle.send_model.specs.Store.{Key, Head, head_of, Store, State, find}
use Rattle.send_model.specs.Receive.{Run, run_items, byte_cells, start_of}
use Rattle.send_model.specs.Order.{onto_heads, heads_of, heads, commands_of}
use Rattle.send_model.specs.Outside.{IsAmong, is_among, part_uuids, base_of, all_keys_named, keys_outside, IsSayable}
use Rattle.send_model.specs.Composed.{version_of}
use Rattle.send_model.specs.Laws.{CanWrite, AreInner}
use Rattle.send_model.proofs.ElementLaws.{all_first}
use Rattle.send_model.proofs.Sorts.{plain_is_no_head}
use Rattle.send_model.proofs.Versions.{IsVersion}
use Rattle.send_model.proofs.Runs.{Takes, takes_run}
use Rattle.send_model.proofs.Headlines.{among_all, without_finds}
use Rattle.send_model.proofs.ReadCommands.{is_output, writable_in_output}
use Rattle.send_model.proofs.SpelledPieces.{IsInside, KeyFits}
use Rattle.send_model.proofs.SpelledRuns.{first_fits, last_fits_of, heads_fit, keys_fit, kept_fit, are_spelled, are_inner, head_inner, head_spelled, commands_append}
use Rattle.send_model.proofs.Naming.{named_append}
use Rattle.send_model.proofs.Elsewhere.{AreApart}
use Rattle.send_model.proofs.MergingAny.{listed}
use Rattle.send_model.proofs.ComposingAny.{takes_cells, comes_any}
use Rattle.send_model.proofs.ComposedClones.{all_ours, all_outside, last_ours, outside_apart}
use Rattle.standing_model.specs.Births.{Tagged, tagged_store}
use Rattle.standing_model.specs.Standing.{standing_commands, selfed_from}
use Rattle.standing_model.specs.Promises.{SelfFrontsAreWritable}
use Rattle.standing_model.proofs.TaggedBase.{celled, IsKnown, IsGoodItem, keeps, root_known, sayable_said}
use Rattle.standing_model.proofs.SelfHeadline.{law}
use Rattle.standing_model.proofs.SelfSpelled.{plain_no_end, said_items, pieces_fine, own_inside}

-- The heads of first commands are among those of all.
heads_append : (P : Head → Type 0) (cs ds : List Command) → AllByRecursion P (heads_of (cs ++ ds)) → AllByRecursion P (heads_of cs)
unfolding heads_of
heads_append P [] ds a = tt
heads_append P (c ∷ cs) ds a = one (heads_append P cs ds) (head_of c) a
  where
    one : (AllByRecursion P (heads_of (cs ++ ds)) → AllByRecursion P (heads_of cs)) → (o : Option Head) → AllByRecursion P (onto_heads o (heads_of (cs ++ ds))) → AllByRecursion P (onto_heads o (heads_of cs))
    one more None a = more a
    one more (Some head) a = (a.0, more a.1)

pub self_fronts : SelfFrontsAreWritable
unfolding selfed_from
self_fronts files store all items more first last same consecutive accepted sayable there can_all first_is last_is =
    let version : ℕ = version_of all in
    let is : IsVersion version = is_output all in
    let base : Store ℕ = base_of store all in
    let parts : List (List ℕ) = part_uuids all in
    let keys : List Key = keys_outside all in
    let cs : List Command = commands_of items in
    let ds : List Command = commands_of all in
    let rest : List Command = commands_of more in
    let split : ds ≡ cs ++ rest = ap commands_of same ∙ commands_append items more in
    let w = writable_in_output all can_all in
    let can = all_first (CanWrite version) cs rest (subst (λ (xs : List Command). AllByRecursion (CanWrite version) xs) split w) in
    let spelled = are_spelled version cs can in
    let all_can = are_spelled version ds w in
    let last_fit = last_fits_of (heads all) last (heads_fit version ds all_can) last_is in
    let first_fit = first_fits (heads items) first (heads_fit version cs spelled) first_is in
    let key_fits : (key : Key) → IsAmong key keys → KeyFits key = λ key among. among_all KeyFits key keys (kept_fit KeyFits (λ key. not (is_among parts key.uuid)) (all_keys_named ds) (keys_fit version ds all_can)) among in
    let named : all_keys_named ds ≡ all_keys_named cs ++ all_keys_named rest = ap all_keys_named split ∙ named_append cs rest in
    let outside = all_first (λ k. is_among parts k.uuid ≡ false → IsAmong k keys) (all_keys_named cs) (all_keys_named rest) (subst (λ (ks : List Key). AllByRecursion (λ k. is_among parts k.uuid ≡ false → IsAmong k keys) ks) named (all_outside parts (all_keys_named ds))) in
    let ours = heads_append (λ head. is_among parts head.key.uuid ≡ true) cs rest (subst (λ (xs : List Command). AllByRecursion (λ (head : Head). is_among parts head.key.uuid ≡ true) (heads_of xs)) split (all_ours (heads all))) in
    let our_last : is_among parts last.key.uuid ≡ true = last_ours parts (heads all) last (all_ours (heads all)) last_is in
    let apart : AreApart keys last.key = outside_apart parts (all_keys_named ds) last.key our_last in
    let none : find base last.key ≡ None = without_finds parts store last.key our_last in
    let lawful = λ (k : Key) (s : Subvolume ℕ) (among : IsAmong k keys) (f : find base k ≡ Some s). let y = sayable k s among f in y.lawful in
    let Said : Subvolume ℕ → Type 0 = λ s. IsSayable s in
    let ItemSaid : Item → Type 0 = λ item. IsSpellable version item.command in
    let said = sayable_said files base keys version sayable in
    let kept = keeps files base keys lawful Said ItemSaid said in
    let Good : Subvolume Tagged → Type 0 = IsKnown files base keys lawful Said ItemSaid said in
    let ItemGood : Item → Type 0 = IsGoodItem files base keys lawful Said ItemSaid said in
    let instead : State Tagged → Command → List Command = standing_commands base last.key in
    let start : State Tagged = start_of (tagged_store base) in
    let ran : Run ℕ = run_items 0 byte_cells (start_of base) items in
    let tagged = takes_cells celled items start ran.state (subst (λ (st : Store ℕ). Takes (start_of st) cs ran.state) (sym kept.start_is) (takes_run items (start_of base) accepted)) in
    let come = comes_any celled base (tagged_store base) keys Good ItemGood kept (root_known files base keys lawful Said ItemSaid said) instead parts last.key (IsInside version) apart
    (record {
      plain = λ item g h. (g.1, plain_no_end item.command h, plain_is_no_head item.command h);
      own = λ item path offset uuid ctransid clone_path from len g. own_inside files version is base keys sayable parts last.key apart none last_fit.1 key_fits path offset uuid ctransid clone_path from len g.1;
      outside = λ item path offset uuid ctransid clone_path from len g among. (g.1, refl, refl);
    })
    (law files base keys lawful parts last.key apart none Said ItemSaid said (IsInside version) (pieces_fine files version is base keys sayable parts last.key apart none last_fit.1 key_fits))
    (λ q i. without_finds parts store q i) items None tagged.0 (said_items files version items there spelled) consecutive.0 consecutive.1 ours outside tagged.1 in (
      (record { spellable = head_spelled version is last.name last.key first.parent last_fit.0 last_fit.1 first_fit.2 }, head_inner last.name last.key first.parent),
      subst (λ (es : List Command). AreInner version es) (sym (listed celled instead parts last.key items start None)) (are_inner version _ come.merged.fine),
    )
