-- What the list of a catalogue has, by what its indexes find.
use Rattle.std.proofs.Common.{◌≡◌, ℕ, zero, suc, slice_get, ◌==◌, false, List, [], ◌∷◌, ◌++◌, ◌+◌, Some, None, Option, IfSome, IsTrue, is_some, Vec, refl, sym, ap, subst, ◌∙◌}
use Rattle.std.specs.Borrow.{Bor}
use Rattle.std.specs.BTreeMap.{insert_entry}
use Rattle.std.specs.Map.{lookup, remove_entry, set_value}
use Rattle.std.specs.Option.{option_map}
use Rattle.send_model.specs.Path.{is_name}
use Rattle.send_model.specs.Store as meant
use Rattle.send_model.specs.Store.{IsStore, has_name, has_uuid, find, with_contents}
use Rattle.subvol_catalog.specs.declared.entry.Entry.{Entry}
use Rattle.subvol_catalog.specs.Entries.{entry_of, listed, of_uuid, named, AreNamed}
use Rattle.subvol_catalog.specs.Admission.{without_name, without_uuid}
use Rattle.subvol_catalog.specs.Indexes.{led_to, number_led_to, numbered, AreListed, AreFound, under_uuids}
use Rattle.subvol_catalog.proofs.Pairs.{some≢none, some_same, uuid_finds, of_uuid_in, found_by, of_key, none_named, named_by, of_name, is_store, are_named, same_gone, value_set, left_over, at_uuid, no_name, kept, one_more}
use Rattle.subvol_catalog.proofs.Numbers.{seen, under_more, without_number, number_known, through_number, value_under, gone_under, numbers_left, numbers_kept, numbers_more}
use Rattle.subvol_catalog.proofs.OrderedRows.{by_bytes, at, put_apart, taken_apart}

module _ {A V : Type 0} (names : List (Vec ℕ A × List ℕ)) (uuids : List (List ℕ × ℕ)) (next : ℕ) (es : List (ℕ × Entry V)) (found : AreFound names uuids next es) where
  -- A UUID without a number is no entry's.
  pub of_none : (u : List ℕ) → numbered uuids es u ≡ None → of_uuid u (listed es) ≡ None
  of_none u e =
      ap (λ (r : List (meant.Entry V)). of_uuid u r) (sym (seen es)) ∙ of_uuid_in names u (under_uuids es) found.by_name
      ∙ ap (option_map entry_of) (without_number uuids next u es found.by_uuid e)

  -- The entry of a UUID is the one of its number.
  pub of_number : (u : List ℕ) (n : ℕ) → numbered uuids es u ≡ Some n → of_uuid u (listed es) ≡ option_map entry_of (lookup (λ k. n == k) es)
  of_number u n e =
      ap (λ (r : List (meant.Entry V)). of_uuid u r) (sym (seen es)) ∙ of_uuid_in names u (under_uuids es) found.by_name
      ∙ ap (option_map entry_of) (through_number uuids next u n es found.by_uuid e)

  pub absent : (u : List ℕ) → of_uuid u (listed es) ≡ None → has_uuid u (listed es) ≡ false
  absent u e = sym (uuid_finds u (listed es)) ∙ ap is_some e

  pub key_finds : (key : meant.Key) → find (listed es) key ≡ of_key key (of_uuid key.uuid (listed es))
  key_finds key = subst (λ (r : List (meant.Entry V)). find r key ≡ of_key key (of_uuid key.uuid r)) (seen es) (found_by names key (under_uuids es) found.by_name)

  pub unnamed : (name : List ℕ) → led_to names name ≡ None → named name (listed es) ≡ None
  unnamed name e = subst (λ (r : List (meant.Entry V)). named name r ≡ None) (seen es) (none_named names name (under_uuids es) found.by_name e)

  pub name_finds : (name u : List ℕ) → led_to names name ≡ Some u → named name (listed es) ≡ of_name name (of_uuid u (listed es))
  name_finds name u e = subst (λ (r : List (meant.Entry V)). named name r ≡ of_name name (of_uuid u r)) (seen es) (named_by names name u (under_uuids es) found.by_name e)

  pub stand_apart : IsStore (listed es)
  stand_apart = subst (λ (r : List (meant.Entry V)). IsStore r) (seen es) (is_store names (under_uuids es) found.by_name)

  pub have_names : AreNamed (listed es)
  have_names = subst (λ (r : List (meant.Entry V)). AreNamed r) (seen es) (are_named names (under_uuids es) found.by_name)

  -- Taking out a name is taking out the UUID of its entry.
  pub name_goes : (name : List ℕ) (e : meant.Entry V) → named name (listed es) ≡ Some e → without_name name (listed es) ≡ without_uuid e.key.uuid (listed es)
  name_goes name e is =
      subst (λ (r : List (meant.Entry V)). without_name name r ≡ without_uuid e.key.uuid r) (seen es)
      (same_gone names name (under_uuids es) e found.by_name (ap (λ (r : List (meant.Entry V)). named name r) (seen es) ∙ is))

  -- ---- a value that comes

  -- What is there once the entry of a UUID's number took its value.
  pub value_takes : (u : List ℕ) (n : ℕ) (v : V) (new : List (ℕ × Entry V)) → numbered uuids es u ≡ Some n → IfSome (lookup (λ k. n == k) es) (λ e. new ≡ set_value (λ k. n == k) es (record e { value = Some v }))
      → (listed new ≡ with_contents u v (listed es)) × AreFound names uuids next new
  value_takes u n v new is sets =
      let known = number_known uuids next u n es is in
      let e = known.entry in
      let became : new ≡ set_value (λ k. n == k) es (record e { value = Some v }) = rw known.at at sets in
      let under = value_under uuids next u n (record e { value = Some v }) e es found.by_uuid is known.at refl in
      let set = value_set names u v (under_uuids es) e found.by_name (through_number uuids next u n es found.by_uuid is ∙ known.at) in (
        ap listed became ∙ sym (seen _) ∙ ap listed under.0 ∙ set.0 ∙ ap (with_contents u v) (seen es),
        subst (AreFound names uuids next) (sym became) (record { by_name = subst (AreListed names) (sym under.0) set.2; by_uuid = under.1 }),
      )

  -- ---- an entry less

  -- What is left where the entry of a UUID's number goes.
  pub uuid_goes : (u : List ℕ) (n : ℕ) → numbered uuids es u ≡ Some n → listed (remove_entry (λ k. n == k) es) ≡ without_uuid u (listed es)
  uuid_goes u n e =
      sym (seen (remove_entry (λ k. n == k) es)) ∙ ap listed (gone_under uuids next u n es found.by_uuid e)
      ∙ (left_over names u (under_uuids es) found.by_name).0 ∙ ap (λ (r : List (meant.Entry V)). without_uuid u r) (seen es)

  -- The others are found where its name and its UUID were taken out of the indexes.
  pub others_left : (u : List ℕ) (n : ℕ) (e : Entry V) → numbered uuids es u ≡ Some n → lookup (λ k. n == k) es ≡ Some e
      → AreFound (remove_entry (at {K = Vec ℕ A} (λ k. k.items) e.name) names) (remove_entry (at {K = List ℕ} (λ k. k) u) uuids) next (remove_entry (λ k. n == k) es)
  others_left u n e is there =
      let left = left_over names u (under_uuids es) found.by_name in
      let own = at_uuid names u (under_uuids es) e found.by_name (through_number uuids next u n es found.by_uuid is ∙ there) in
      let gone = gone_under uuids next u n es found.by_uuid is in
      let apart : has_uuid u (listed (remove_entry (λ k. n == k) es)) ≡ false = ap (has_uuid u) (sym (seen (remove_entry (λ k. n == k) es)) ∙ ap listed gone) ∙ left.2 in
      record {
        by_name = subst (AreListed (remove_entry (at {K = Vec ℕ A} (λ k. k.items) e.name) names)) (sym gone)
            (kept names _ e.name (taken_apart (λ k. k.items) e.name names) _ (no_name names e.name u _ left.3 own.named left.2) left.3);
        by_uuid = numbers_kept uuids next _ u (taken_apart (λ k. k) u uuids) (remove_entry (λ k. n == k) es) apart (numbers_left uuids next n es found.by_uuid);
      }

  -- ---- an entry more

  -- A name, or a UUID, that no entry has may be put in.
  pub name_put : (k : Vec ℕ A) (u : List ℕ) → has_name k.items (listed es) ≡ false → AreFound (insert_entry (by_bytes {K = Vec ℕ A} (λ k. k.items)) names k u) uuids next es
  name_put k u f = record {
    by_name = kept names _ k.items (put_apart (λ k. k.items) k u names) (under_uuids es) (ap (has_name k.items) (seen es) ∙ f) found.by_name;
    by_uuid = found.by_uuid;
  }

  pub uuid_put : (u : List ℕ) (n : ℕ) → has_uuid u (listed es) ≡ false → AreFound names (insert_entry (by_bytes {K = List ℕ} (λ k. k)) uuids u n) next es
  uuid_put u n f = record {
    by_name = found.by_name;
    by_uuid = numbers_kept uuids next _ u (put_apart (λ k. k) u n uuids) es f found.by_uuid;
  }

  -- An entry under the next number, to which its name and its UUID lead already.
  pub entry_put : (e : Entry V) → led_to names e.name ≡ Some e.key.uuid → number_led_to uuids e.key.uuid ≡ Some next → IsTrue (is_name e.name) → has_uuid e.key.uuid (listed es) ≡ false
      → AreFound names uuids (next + 1) (es ++ (next, e) ∷ [])
  entry_put e named led lawful f = record {
    by_name = subst (AreListed names) (sym (under_more es next e))
        (one_more names e.key.uuid e (under_uuids es) found.by_name (record { keyed = refl; named = named; lawful = lawful }) (ap (has_uuid e.key.uuid) (seen es) ∙ f));
    by_uuid = numbers_more uuids next e es found.by_uuid led;
  }

-- The name of an entry at a place is lawful.
lawful_at : {S : Type 0} (entries : List (meant.Entry S)) (i : ℕ) (e : meant.Entry S) → AreNamed entries → slice_get entries i ≡ Some e → IsTrue (is_name e.name)
lawful_at [] i e all at = absurd (some≢none e (sym at))
lawful_at {S} (x ∷ entries) zero e all at = subst (λ (y : meant.Entry S). IsTrue (is_name y.name)) (some_same x e at) all.0
lawful_at (x ∷ entries) (suc i) e all at = lawful_at entries i e all.1 at

pub named_at : {V : Type 0} (entries : List (meant.Entry V)) (i : ℕ) (found : Option (Bor (Entry V))) → AreNamed entries → option_map (λ e. entry_of e.now) found ≡ slice_get entries i → IfSome found (λ e. IsTrue (is_name e.now.name))
named_at entries i None all at = tt
named_at entries i (Some e) all at = lawful_at entries i (entry_of e.now) all (sym at)
