-- Entries under their UUIDs: what is found among them, and what adding, completing and taking out
-- one makes of them.
use Rattle.std.proofs.Common.{◌≡◌, ℕ, Bool, true, false, cond, not, ◌&&◌, ◌||◌, ◌==◌, List, [], ◌∷◌, ◌++◌, Some, None, Option, is_some, Vec, refl, sym, ap, subst, ◌∙◌}
use Rattle.std.proofs.lemmas.Bool.{false≢true}
use Rattle.std.specs.Str.{bytes_eq}
use Rattle.std.specs.Map.{lookup, remove_entry, set_value}
use Rattle.send_model.specs.Store as meant
use Rattle.std.specs.Option.{option_map}
use Rattle.send_model.specs.Store.{IsStore, has_name, has_uuid, find, with_contents}
use Rattle.send_model.proofs.Stores.{bytes_eq_same, bytes_eq_true}
use Rattle.subvol_catalog.specs.declared.entry.Entry.{Entry}
use Rattle.subvol_catalog.specs.Entries.{entry_of, listed, of_uuid, named, AreNamed}
use Rattle.subvol_catalog.specs.Admission.{without_name, without_uuid}
use Rattle.subvol_catalog.specs.Indexes.{led_to, IsListed, AreListed}

pub some≢none : {X : Type 0} (x : X) → Some x ≡ None → ⊥
some≢none x e = cc

pub some_same : {X : Type 0} (x y : X) → Some x ≡ Some y → x ≡ y
some_same x y e = cc

-- Equal the other way round.
pub turned : (a b : List ℕ) → bytes_eq a b ≡ bytes_eq b a
turned a b = one (bytes_eq a b) refl (bytes_eq b a) refl
  where
    one : (p : Bool) → bytes_eq a b ≡ p → (q : Bool) → bytes_eq b a ≡ q → bytes_eq a b ≡ bytes_eq b a
    one true p true q = p ∙ sym q
    one false p false q = p ∙ sym q
    one true p false q = absurd (false≢true (sym q ∙ ap (λ (x : List ℕ). bytes_eq b x) (bytes_eq_true a b p) ∙ bytes_eq_same b))
    one false p true q = absurd (false≢true (sym p ∙ ap (λ (x : List ℕ). bytes_eq a x) (bytes_eq_true b a q) ∙ bytes_eq_same a))

is_some_cond : {X : Type 0} (b : Bool) (x : X) (o : Option X) → is_some (cond b (Some x) o) ≡ b || is_some o
is_some_cond true x o = refl
is_some_cond false x o = refl

-- A value is there before and after a function of it.
pub mapped : {X Y : Type 0} (f : X → Y) (o : Option X) → is_some (option_map f o) ≡ is_some o
mapped f None = refl
mapped f (Some x) = refl

-- Whether a name is there.
pub name_there : {S : Type 0} (name : List ℕ) (es : List (meant.Entry S)) → is_some (named name es) ≡ has_name name es
unfolding named
name_there name [] = refl
name_there name (e ∷ es) = is_some_cond (bytes_eq e.name name) e (named name es) ∙ ap (λ (b : Bool). bytes_eq e.name name || b) (name_there name es)

-- A UUID that no entry has finds nothing.
pub finds_none : {S : Type 0} (key : meant.Key) (es : List (meant.Entry S)) → has_uuid key.uuid es ≡ false → find es key ≡ None
unfolding find
finds_none key [] f = refl
finds_none {S} key (e ∷ es) f = one (bytes_eq e.key.uuid key.uuid) (e.key.ctransid == key.ctransid) f (finds_none key es)
  where
    one : (b c : Bool) → b || has_uuid key.uuid es ≡ false → (has_uuid key.uuid es ≡ false → find es key ≡ None) → cond (b && c) (elim e.contents as (λ x. Option S) [ None ↦ find es key | Some s ↦ Some s ]) (find es key) ≡ None
    one true c f more = absurd (false≢true (sym f))
    one false c f more = more f

pub or_false_left : (a b : Bool) → a || b ≡ false → a ≡ false
or_false_left true b f = f
or_false_left false b f = refl

pub or_false_right : (a b : Bool) → a || b ≡ false → b ≡ false
or_false_right true b f = absurd (false≢true (sym f))
or_false_right false b f = f

or_true : (a b : Bool) → b ≡ true → a || b ≡ true
or_true true b t = refl
or_true false b t = t

-- Where none has the UUID, or the name, none goes.
pub all_others : {S : Type 0} (u : List ℕ) (es : List (meant.Entry S)) → has_uuid u es ≡ false → without_uuid u es ≡ es
all_others u [] f = refl
all_others {S} u (e ∷ es) f =
    ap (λ (b : Bool). cond (not b) (e ∷ without_uuid u es) (without_uuid u es)) (or_false_left (bytes_eq e.key.uuid u) (has_uuid u es) f)
    ∙ ap (λ (r : List (meant.Entry S)). e ∷ r) (all_others u es (or_false_right (bytes_eq e.key.uuid u) (has_uuid u es) f))

pub all_else : {S : Type 0} (name : List ℕ) (es : List (meant.Entry S)) → has_name name es ≡ false → without_name name es ≡ es
all_else name [] f = refl
all_else {S} name (e ∷ es) f =
    ap (λ (b : Bool). cond (not b) (e ∷ without_name name es) (without_name name es)) (or_false_left (bytes_eq e.name name) (has_name name es) f)
    ∙ ap (λ (r : List (meant.Entry S)). e ∷ r) (all_else name es (or_false_right (bytes_eq e.name name) (has_name name es) f))

-- Whether a UUID is there.
pub uuid_finds : {S : Type 0} (u : List ℕ) (es : List (meant.Entry S)) → is_some (of_uuid u es) ≡ has_uuid u es
uuid_finds u [] = refl
uuid_finds u (e ∷ es) = is_some_cond (bytes_eq e.key.uuid u) e (of_uuid u es) ∙ ap (λ (b : Bool). bytes_eq e.key.uuid u || b) (uuid_finds u es)

-- The UUID of the entry that a name finds is there.
pub uuid_of_named : {S : Type 0} (name : List ℕ) (es : List (meant.Entry S)) (found : meant.Entry S) → named name es ≡ Some found → has_uuid found.key.uuid es ≡ true
unfolding named
uuid_of_named name [] found e = absurd (some≢none found (sym e))
uuid_of_named {S} name (x ∷ es) found e = one (bytes_eq x.name name) e (uuid_of_named name es found)
  where
    one : (b : Bool) → cond b (Some x) (named name es) ≡ Some found → (named name es ≡ Some found → has_uuid found.key.uuid es ≡ true) → bytes_eq x.key.uuid found.key.uuid || has_uuid found.key.uuid es ≡ true
    one true e more = let same : x ≡ found = some_same x found e in ap (λ (b : Bool). b || has_uuid found.key.uuid es) (ap (λ (y : meant.Entry S). bytes_eq y.key.uuid found.key.uuid) same ∙ bytes_eq_same found.key.uuid)
    one false e more = or_true (bytes_eq x.key.uuid found.key.uuid) (has_uuid found.key.uuid es) (more e)

-- What a key finds, by the entry of its UUID.
abbrev in_entry : {V : Type 0} → meant.Key → Option (Entry V) → Option V
in_entry key None = None
in_entry key (Some e) = cond (e.key.ctransid == key.ctransid) e.value None

-- What a key finds, by the entry of its UUID as the definitions have it.
abbrev pub of_key : {S : Type 0} → meant.Key → Option (meant.Entry S) → Option S
of_key key None = None
of_key key (Some e) = cond (e.key.ctransid == key.ctransid) e.contents None

-- What a name finds, by the entry of the UUID to which it leads.
abbrev if_named : {V : Type 0} → List ℕ → Option (Entry V) → Option (meant.Entry V)
if_named name None = None
if_named name (Some e) = cond (bytes_eq e.name name) (Some (entry_of e)) None

-- What a name finds, by the entry of its UUID as the definitions have it.
abbrev pub of_name : {S : Type 0} → List ℕ → Option (meant.Entry S) → Option (meant.Entry S)
of_name name None = None
of_name name (Some e) = cond (bytes_eq e.name name) (Some e) None

module _ {A V : Type 0} (names : List (Vec ℕ A × List ℕ)) where
  -- An entry has the UUID under which it stands.
  matched : (u : List ℕ) (p : List ℕ × Entry V) → IsListed names p.0 p.1 → bytes_eq p.1.key.uuid u ≡ bytes_eq u p.0
  matched u p l = ap (λ (x : List ℕ). bytes_eq x u) l.keyed ∙ turned p.0 u

  uuid_there : (u : List ℕ) (ps : List (List ℕ × Entry V)) → AreListed names ps → is_some (lookup (bytes_eq u) ps) ≡ has_uuid u (listed ps)
  uuid_there u [] l = refl
  uuid_there u (p ∷ ps) l =
      is_some_cond (bytes_eq u p.0) p.1 (lookup (bytes_eq u) ps)
      ∙ (λ i. sym (matched u p l.0) i || uuid_there u ps l.2 i)

  -- A UUID that is no entry's finds nothing.
  none_there : (u : List ℕ) (ps : List (List ℕ × Entry V)) → AreListed names ps → has_uuid u (listed ps) ≡ false → lookup (bytes_eq u) ps ≡ None
  none_there u ps l f = one (lookup (bytes_eq u) ps) (uuid_there u ps l ∙ f)
    where
      one : (o : Option (Entry V)) → is_some o ≡ false → o ≡ None
      one None e = refl
      one (Some x) e = absurd (false≢true (sym e))

  -- What a UUID finds.
  pub of_uuid_in : (u : List ℕ) (ps : List (List ℕ × Entry V)) → AreListed names ps → of_uuid u (listed ps) ≡ option_map entry_of (lookup (bytes_eq u) ps)
  of_uuid_in u [] l = refl
  of_uuid_in u (p ∷ ps) l =
      ap (λ (b : Bool). cond b (Some (entry_of p.1)) (of_uuid u (listed ps))) (matched u p l.0)
      ∙ one (bytes_eq u p.0) (of_uuid_in u ps l.2)
    where
      one : (b : Bool) → of_uuid u (listed ps) ≡ option_map entry_of (lookup (bytes_eq u) ps) → cond b (Some (entry_of p.1)) (of_uuid u (listed ps)) ≡ option_map entry_of (cond b (Some p.1) (lookup (bytes_eq u) ps))
      one true more = refl
      one false more = more

  found_in : (key : meant.Key) (ps : List (List ℕ × Entry V)) → AreListed names ps → find (listed ps) key ≡ in_entry key (lookup (bytes_eq key.uuid) ps)
  unfolding find
  found_in key [] l = refl
  found_in key (p ∷ ps) l = one (bytes_eq key.uuid p.0) refl (found_in key ps l.2)
    where
      rest : Option V
      rest = find (listed ps) key

      here : (c : Bool) (o r : Option V) → r ≡ None → cond c (elim o as (λ x. Option V) [ None ↦ r | Some s ↦ Some s ]) r ≡ cond c o None
      here true None r e = e
      here true (Some s) r e = refl
      here false o r e = e

      one : (b : Bool) → bytes_eq key.uuid p.0 ≡ b → rest ≡ in_entry key (lookup (bytes_eq key.uuid) ps) → find (listed (p ∷ ps)) key ≡ in_entry key (cond (bytes_eq key.uuid p.0) (Some p.1) (lookup (bytes_eq key.uuid) ps))
      one true t more =
          let alone : rest ≡ None = finds_none key (listed ps) (ap (λ (u : List ℕ). has_uuid u (listed ps)) (bytes_eq_true key.uuid p.0 t) ∙ l.1) in
          ap (λ (b : Bool). cond (b && (p.1.key.ctransid == key.ctransid)) (elim p.1.value as (λ x. Option V) [ None ↦ rest | Some s ↦ Some s ]) rest) (matched key.uuid p l.0 ∙ t)
          ∙ here (p.1.key.ctransid == key.ctransid) p.1.value rest alone
          ∙ sym (ap (λ (b : Bool). in_entry key (cond b (Some p.1) (lookup (bytes_eq key.uuid) ps))) t)
      one false t more =
          ap (λ (b : Bool). cond (b && (p.1.key.ctransid == key.ctransid)) (elim p.1.value as (λ x. Option V) [ None ↦ rest | Some s ↦ Some s ]) rest) (matched key.uuid p l.0 ∙ t)
          ∙ more ∙ sym (ap (λ (b : Bool). in_entry key (cond b (Some p.1) (lookup (bytes_eq key.uuid) ps))) t)

  -- What a key finds, by the entry that its UUID finds.
  pub found_by : (key : meant.Key) (ps : List (List ℕ × Entry V)) → AreListed names ps → find (listed ps) key ≡ of_key key (of_uuid key.uuid (listed ps))
  found_by key ps l = found_in key ps l ∙ same (lookup (bytes_eq key.uuid) ps) ∙ ap (of_key key) (sym (of_uuid_in key.uuid ps l))
    where
      same : (o : Option (Entry V)) → in_entry key o ≡ of_key key (option_map entry_of o)
      same None = refl
      same (Some e) = refl

  -- ---- names

  -- A name that leads nowhere is no entry's.
  pub none_named : (name : List ℕ) (ps : List (List ℕ × Entry V)) → AreListed names ps → led_to names name ≡ None → named name (listed ps) ≡ None
  unfolding named
  none_named name [] l e = refl
  none_named name (p ∷ ps) l e = one (bytes_eq p.1.name name) refl (none_named name ps l.2 e)
    where
      one : (b : Bool) → bytes_eq p.1.name name ≡ b → named name (listed ps) ≡ None → cond b (Some (entry_of p.1)) (named name (listed ps)) ≡ None
      one true t more = absurd (some≢none p.0 (sym l.0.named ∙ ap (led_to names) (bytes_eq_true p.1.name name t) ∙ e))
      one false t more = more

  named_in : (name u : List ℕ) (ps : List (List ℕ × Entry V)) → AreListed names ps → led_to names name ≡ Some u → named name (listed ps) ≡ if_named name (lookup (bytes_eq u) ps)
  unfolding named
  named_in name u [] l e = refl
  named_in name u (p ∷ ps) l e = one (bytes_eq u p.0) refl (named_in name u ps l.2 e)
    where
      rest : Option (meant.Entry V)
      rest = named name (listed ps)

      one : (b : Bool) → bytes_eq u p.0 ≡ b → rest ≡ if_named name (lookup (bytes_eq u) ps)
          → cond (bytes_eq p.1.name name) (Some (entry_of p.1)) rest ≡ if_named name (cond b (Some p.1) (lookup (bytes_eq u) ps))
      one true t more =
          let same : u ≡ p.0 = bytes_eq_true u p.0 t in
          let alone : lookup (bytes_eq u) ps ≡ None = none_there u ps l.2 (ap (λ (x : List ℕ). has_uuid x (listed ps)) same ∙ l.1) in
          ap (λ (r : Option (meant.Entry V)). cond (bytes_eq p.1.name name) (Some (entry_of p.1)) r) (more ∙ ap (if_named name) alone)
      one false t more = other (bytes_eq p.1.name name) refl
        where
          other : (b : Bool) → bytes_eq p.1.name name ≡ b → cond b (Some (entry_of p.1)) rest ≡ if_named name (lookup (bytes_eq u) ps)
          other true n =
              let led : Some p.0 ≡ Some u = sym l.0.named ∙ ap (led_to names) (bytes_eq_true p.1.name name n) ∙ e in
              let same : p.0 ≡ u = cc in
              absurd (false≢true (sym t ∙ ap (bytes_eq u) same ∙ bytes_eq_same u))
          other false n = more

  -- What a name finds, by the entry that its UUID finds.
  pub named_by : (name u : List ℕ) (ps : List (List ℕ × Entry V)) → AreListed names ps → led_to names name ≡ Some u → named name (listed ps) ≡ of_name name (of_uuid u (listed ps))
  named_by name u ps l e = named_in name u ps l e ∙ same (lookup (bytes_eq u) ps) ∙ ap (of_name name) (sym (of_uuid_in u ps l))
    where
      same : (o : Option (Entry V)) → if_named name o ≡ of_name name (option_map entry_of o)
      same None = refl
      same (Some e) = refl

  -- Where none has the UUID to which a name leads, none has the name.
  pub no_name : (name u : List ℕ) (ps : List (List ℕ × Entry V)) → AreListed names ps → led_to names name ≡ Some u → has_uuid u (listed ps) ≡ false → has_name name (listed ps) ≡ false
  no_name name u [] l e f = refl
  no_name name u (p ∷ ps) l e f = one (bytes_eq p.1.name name) refl (no_name name u ps l.2 e (or_false_right (bytes_eq p.1.key.uuid u) (has_uuid u (listed ps)) f))
    where
      one : (b : Bool) → bytes_eq p.1.name name ≡ b → has_name name (listed ps) ≡ false → b || has_name name (listed ps) ≡ false
      one true t more =
          let led : Some p.0 ≡ Some u = sym l.0.named ∙ ap (led_to names) (bytes_eq_true p.1.name name t) ∙ e in
          let same : p.0 ≡ u = cc in
          absurd (false≢true (sym (or_false_left (bytes_eq p.1.key.uuid u) (has_uuid u (listed ps)) f) ∙ ap (λ (x : List ℕ). bytes_eq x u) (l.0.keyed ∙ same) ∙ bytes_eq_same u))
      one false t more = more

  -- No name and no UUID stands twice.
  pub is_store : (ps : List (List ℕ × Entry V)) → AreListed names ps → IsStore (listed ps)
  is_store [] l = tt
  is_store (p ∷ ps) l = (no_name p.1.name p.0 ps l.2 l.0.named l.1, ap (λ (u : List ℕ). has_uuid u (listed ps)) l.0.keyed ∙ l.1, is_store ps l.2)

  pub are_named : (ps : List (List ℕ × Entry V)) → AreListed names ps → AreNamed (listed ps)
  are_named [] l = tt
  are_named (p ∷ ps) l = (l.0.lawful, are_named ps l.2)

  -- An entry that is found stands under its UUID.
  pub at_uuid : (u : List ℕ) (ps : List (List ℕ × Entry V)) (e : Entry V) → AreListed names ps → lookup (bytes_eq u) ps ≡ Some e → IsListed names u e
  at_uuid u [] e l f = absurd (some≢none e (sym f))
  at_uuid u (p ∷ ps) e l f = one (bytes_eq u p.0) refl f (at_uuid u ps e l.2)
    where
      one : (b : Bool) → bytes_eq u p.0 ≡ b → cond b (Some p.1) (lookup (bytes_eq u) ps) ≡ Some e → (lookup (bytes_eq u) ps ≡ Some e → IsListed names u e) → IsListed names u e
      one true t f more = let same : p.1 ≡ e = cc in subst (λ (x : List ℕ). IsListed names x e) (sym (bytes_eq_true u p.0 t)) (subst (λ (x : Entry V). IsListed names p.0 x) same l.0)
      one false t f more = more f

  -- ---- an entry more

  listed_more : (u x : List ℕ) (e : Entry V) (ps : List (List ℕ × Entry V)) → has_uuid x (listed ps) ≡ false → bytes_eq e.key.uuid x ≡ false → has_uuid x (listed (ps ++ (u, e) ∷ [])) ≡ false
  listed_more u x e [] f n = ap (λ (b : Bool). b || false) n
  listed_more u x e (p ∷ ps) f n =
      (λ i. or_false_left (bytes_eq p.1.key.uuid x) (has_uuid x (listed ps)) f i || listed_more u x e ps (or_false_right (bytes_eq p.1.key.uuid x) (has_uuid x (listed ps)) f) n i)

  pub one_more : (u : List ℕ) (e : Entry V) (ps : List (List ℕ × Entry V)) → AreListed names ps → IsListed names u e → has_uuid u (listed ps) ≡ false → AreListed names (ps ++ (u, e) ∷ [])
  one_more u e [] l new f = (new, refl, tt)
  one_more u e (p ∷ ps) l new f =
      let apart : bytes_eq p.1.key.uuid u ≡ false = or_false_left (bytes_eq p.1.key.uuid u) (has_uuid u (listed ps)) f in
      let other : bytes_eq e.key.uuid p.0 ≡ false = ap (λ (x : List ℕ). bytes_eq x p.0) new.keyed ∙ turned u p.0 ∙ ap (λ (x : List ℕ). bytes_eq x u) (sym l.0.keyed) ∙ apart in
      (l.0, listed_more u p.0 e ps l.1 other, one_more u e ps l.2 new (or_false_right (bytes_eq p.1.key.uuid u) (has_uuid u (listed ps)) f))

  -- ---- a value that comes

  pub value_set : (u : List ℕ) (v : V) (ps : List (List ℕ × Entry V)) (e : Entry V) → AreListed names ps → lookup (bytes_eq u) ps ≡ Some e
      → (listed (set_value (bytes_eq u) ps (record e { value = Some v })) ≡ with_contents u v (listed ps)) × ((x : List ℕ) → has_uuid x (listed (set_value (bytes_eq u) ps (record e { value = Some v }))) ≡ has_uuid x (listed ps)) × AreListed names (set_value (bytes_eq u) ps (record e { value = Some v }))
  unfolding with_contents
  value_set u v [] e l f = absurd (some≢none e (sym f))
  value_set u v (p ∷ ps) e l f = one (bytes_eq u p.0) refl f (value_set u v ps e l.2)
    where
      new : List (List ℕ × Entry V)
      new = set_value (bytes_eq u) ps (record e { value = Some v })

      Right : List (List ℕ × Entry V) → List (List ℕ × Entry V) → Type 0
      Right qs old = (listed qs ≡ with_contents u v (listed old)) × ((x : List ℕ) → has_uuid x (listed qs) ≡ has_uuid x (listed old)) × AreListed names qs

      one : (b : Bool) → bytes_eq u p.0 ≡ b → cond b (Some p.1) (lookup (bytes_eq u) ps) ≡ Some e → (lookup (bytes_eq u) ps ≡ Some e → Right new ps) → Right (cond b ((p.0, record e { value = Some v }) ∷ ps) (p ∷ new)) (p ∷ ps)
      one true t f more =
          let same : p.1 ≡ e = cc in
          let here : bytes_eq p.1.key.uuid u ≡ true = matched u p l.0 ∙ t in
          subst (λ (x : Entry V). Right ((p.0, record x { value = Some v }) ∷ ps) (p ∷ ps)) same (
            sym (ap (λ (b : Bool). cond b (record (entry_of p.1) { contents = Some v } ∷ listed ps) (entry_of p.1 ∷ with_contents u v (listed ps))) here),
            λ x. refl,
            (record { keyed = l.0.keyed; named = l.0.named; lawful = l.0.lawful }, l.1, l.2),
          )
      one false t f more =
          let m = more f in
          let here : bytes_eq p.1.key.uuid u ≡ false = matched u p l.0 ∙ t in (
            ap (λ (r : List (meant.Entry V)). entry_of p.1 ∷ r) m.0 ∙ sym (ap (λ (b : Bool). cond b (record (entry_of p.1) { contents = Some v } ∷ listed ps) (entry_of p.1 ∷ with_contents u v (listed ps))) here),
            λ x. ap (λ (b : Bool). bytes_eq p.1.key.uuid x || b) (m.1 x),
            (l.0, m.1 p.0 ∙ l.1, m.2),
          )

  -- ---- an entry less

  pub left_over : (u : List ℕ) (ps : List (List ℕ × Entry V)) → AreListed names ps
      → (listed (remove_entry (bytes_eq u) ps) ≡ without_uuid u (listed ps)) × ((x : List ℕ) → has_uuid x (listed ps) ≡ false → has_uuid x (listed (remove_entry (bytes_eq u) ps)) ≡ false) × (has_uuid u (listed (remove_entry (bytes_eq u) ps)) ≡ false) × AreListed names (remove_entry (bytes_eq u) ps)
  left_over u [] l = (refl, λ x f. refl, refl, tt)
  left_over u (p ∷ ps) l = one (bytes_eq u p.0) refl (left_over u ps l.2)
    where
      rest : List (List ℕ × Entry V)
      rest = remove_entry (bytes_eq u) ps

      Right : List (List ℕ × Entry V) → List (List ℕ × Entry V) → Type 0
      Right qs old = (listed qs ≡ without_uuid u (listed old)) × ((x : List ℕ) → has_uuid x (listed old) ≡ false → has_uuid x (listed qs) ≡ false) × (has_uuid u (listed qs) ≡ false) × AreListed names qs

      one : (b : Bool) → bytes_eq u p.0 ≡ b → Right rest ps → Right (cond b ps (p ∷ rest)) (p ∷ ps)
      one true t more =
          let alone : has_uuid u (listed ps) ≡ false = ap (λ (x : List ℕ). has_uuid x (listed ps)) (bytes_eq_true u p.0 t) ∙ l.1 in
          let gone : without_uuid u (listed (p ∷ ps)) ≡ listed ps = ap (λ (b : Bool). cond (not b) (entry_of p.1 ∷ without_uuid u (listed ps)) (without_uuid u (listed ps))) (matched u p l.0 ∙ t) ∙ all_others u (listed ps) alone in
          (sym gone, λ x f. or_false_right (bytes_eq p.1.key.uuid x) (has_uuid x (listed ps)) f, alone, l.2)
      one false t more =
          let other : bytes_eq p.1.key.uuid u ≡ false = matched u p l.0 ∙ t in
          let stays : without_uuid u (listed (p ∷ ps)) ≡ entry_of p.1 ∷ without_uuid u (listed ps) = ap (λ (b : Bool). cond (not b) (entry_of p.1 ∷ without_uuid u (listed ps)) (without_uuid u (listed ps))) other in (
            ap (λ (r : List (meant.Entry V)). entry_of p.1 ∷ r) more.0 ∙ sym stays,
            λ x f. (λ i. or_false_left (bytes_eq p.1.key.uuid x) (has_uuid x (listed ps)) f i || more.1 x (or_false_right (bytes_eq p.1.key.uuid x) (has_uuid x (listed ps)) f) i),
            (λ i. other i || more.2 i),
            (l.0, more.1 p.0 l.1, more.3),
          )

  -- The entry of a name is the one of its UUID.
  pub same_gone : (name : List ℕ) (ps : List (List ℕ × Entry V)) (found : meant.Entry V) → AreListed names ps → named name (listed ps) ≡ Some found → without_name name (listed ps) ≡ without_uuid found.key.uuid (listed ps)
  unfolding named
  same_gone name [] found l e = refl
  same_gone name (p ∷ ps) found l e = one (bytes_eq p.1.name name) refl e (same_gone name ps found l.2)
    where
      es : List (meant.Entry V)
      es = listed ps

      u : List ℕ
      u = found.key.uuid

      two : Bool → Bool → Type 0
      two a b = cond (not a) (entry_of p.1 ∷ without_name name es) (without_name name es) ≡ cond (not b) (entry_of p.1 ∷ without_uuid u es) (without_uuid u es)

      one : (b : Bool) → bytes_eq p.1.name name ≡ b → cond b (Some (entry_of p.1)) (named name es) ≡ Some found → (named name es ≡ Some found → without_name name es ≡ without_uuid u es) → two (bytes_eq p.1.name name) (bytes_eq p.1.key.uuid u)
      one true t e more =
          let here : entry_of p.1 ≡ found = some_same (entry_of p.1) found e in
          let same : p.1.key.uuid ≡ u = ap (λ (x : meant.Entry V). x.key.uuid) here in
          let alone : has_uuid u es ≡ false = ap (λ (x : List ℕ). has_uuid x es) (sym same ∙ l.0.keyed) ∙ l.1 in
          let led : led_to names name ≡ Some u = ap (led_to names) (sym (bytes_eq_true p.1.name name t)) ∙ l.0.named ∙ ap Some (sym l.0.keyed ∙ same) in
          let a : bytes_eq p.1.key.uuid u ≡ true = ap (λ (x : List ℕ). bytes_eq x u) same ∙ bytes_eq_same u in
          subst (λ (b : Bool). two b (bytes_eq p.1.key.uuid u)) (sym t) (subst (λ (b : Bool). two true b) (sym a)
          (all_else name es (no_name name u ps l.2 led alone) ∙ sym (all_others u es alone)))
      one false t e more =
          let there : has_uuid u es ≡ true = uuid_of_named name es found e in
          let other : bytes_eq p.1.key.uuid u ≡ false = apart (bytes_eq p.1.key.uuid u) refl there in
          subst (λ (b : Bool). two b (bytes_eq p.1.key.uuid u)) (sym t) (subst (λ (b : Bool). two false b) (sym other) (ap (λ (r : List (meant.Entry V)). entry_of p.1 ∷ r) (more e)))
        where
          apart : (b : Bool) → bytes_eq p.1.key.uuid u ≡ b → has_uuid u es ≡ true → bytes_eq p.1.key.uuid u ≡ false
          apart true h there = absurd (false≢true (sym (ap (λ (x : List ℕ). has_uuid x es) (sym (bytes_eq_true p.1.key.uuid u h) ∙ l.0.keyed) ∙ l.1) ∙ there))
          apart false h there = h

-- Nothing completes where none has the UUID.
pub completes_none : {S : Type 0} (u : List ℕ) (s : S) (es : List (meant.Entry S)) → has_uuid u es ≡ false → with_contents u s es ≡ es
unfolding with_contents
completes_none u s [] f = refl
completes_none {S} u s (e ∷ es) f =
    ap (λ (b : Bool). cond b (record e { contents = Some s } ∷ es) (e ∷ with_contents u s es)) (or_false_left (bytes_eq e.key.uuid u) (has_uuid u es) f)
    ∙ ap (λ (r : List (meant.Entry S)). e ∷ r) (completes_none u s es (or_false_right (bytes_eq e.key.uuid u) (has_uuid u es) f))

-- Maps of names that lead alike but for one name that no entry has.
pub kept : {A V : Type 0} (names names' : List (Vec ℕ A × List ℕ)) (gone : List ℕ) → ((n : List ℕ) → bytes_eq n gone ≡ false → led_to names' n ≡ led_to names n)
    → (ps : List (List ℕ × Entry V)) → has_name gone (listed ps) ≡ false → AreListed names ps → AreListed names' ps
kept names names' gone same [] f l = tt
kept names names' gone same (p ∷ ps) f l =
    let other : bytes_eq p.1.name gone ≡ false = or_false_left (bytes_eq p.1.name gone) (has_name gone (listed ps)) f in (
      record { keyed = l.0.keyed; named = same p.1.name other ∙ l.0.named; lawful = l.0.lawful },
      l.1,
      kept names names' gone same ps (or_false_right (bytes_eq p.1.name gone) (has_name gone (listed ps)) f) l.2,
    )
