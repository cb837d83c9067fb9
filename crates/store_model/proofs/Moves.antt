-- What turns keep: the store beside the one that receiving the completed parts alone leaves, and
-- the parts that sessions receive. Three moves keep it: an edit, a completion and a beginning.
use Rattle.std.specs.Prelude.{◌≡◌, ◌⊎◌, ℕ, Bool, true, false, not, List, [], ◌∷◌, ◌++◌, Option, None, Some, Ok, is_some}
use Rattle.std.specs.List.{AllByRecursion, list_any, flat_map}
use Rattle.std.specs.Str.{bytes_eq}
use Rattle.std.proofs.Common.{refl, sym, ap, subst, ◌∙◌, inl, inr, append_assoc, append-nil}
use Rattle.std.proofs.lemmas.Bool.{false≢true, true≢false}
use Rattle.send_model.specs.Reading.{Item}
use Rattle.send_model.specs.Subvolume.{Subvolume}
use Rattle.send_model.specs.Store.{Key, Head, head_of, Entry, Store, IsStore, has_name, has_uuid, with_contents, unfinished, begun}
use Rattle.send_model.specs.Receive.{start_of}
use Rattle.send_model.specs.Outside.{is_among}
use Rattle.send_model.proofs.Merging.{begun_begins}
use Rattle.send_model.proofs.ElementLaws.{all_both}
use Rattle.store_model.specs.Turns.{Taken, Receiving, Event, Begins, Completes, completed_parts, begun_entries, part_uuid, uuids_of, turn_groups, left_open, as_stream}
use Rattle.store_model.specs.TurnLaws.{IsIn, IsComplete, IsUnfinished, IsPart, PutsCells, AreEntriesOf}
use Rattle.store_model.specs.Stored.{Putting, made_all}
use Rattle.store_model.proofs.TurnGroups.{one_group_more, makes_body, makes_mark}
use Rattle.store_model.proofs.Entries.{in_left, in_right, in_either, none_passes, all_fail, passes, which_passes, kept, was_kept, differ, not_equal, one_name, one_uuid, one_more, finds_more, in_contents, others_stay, own_gets, same_uuids, still_distinct}
use Rattle.store_model.proofs.Replay.{FindsAll, start_again, Goes, goes_on, edits_shaped, Built, built_again, built_goes, entry_of}

-- ---- lists of events

pub parts_after : (events : List Event) (part : Taken) → completed_parts (events ++ Completes part ∷ []) ≡ completed_parts events ++ part ∷ []
unfolding completed_parts
parts_after [] part = refl
parts_after (Begins head ∷ events) part = parts_after events part
parts_after (Completes p ∷ events) part = ap (λ (l : List Taken). p ∷ l) (parts_after events part)

pub parts_same : (events : List Event) (head : Item) → completed_parts (events ++ Begins head ∷ []) ≡ completed_parts events
unfolding completed_parts
parts_same [] head = refl
parts_same (Begins h ∷ events) head = parts_same events head
parts_same (Completes p ∷ events) head = ap (λ (l : List Taken). p ∷ l) (parts_same events head)

uuids_after : (parts : List Taken) (part : Taken) → uuids_of (parts ++ part ∷ []) ≡ uuids_of parts ++ part_uuid part ∷ []
unfolding uuids_of
uuids_after [] part = refl
uuids_after (p ∷ parts) part = ap (λ (l : List (List ℕ)). part_uuid p ∷ l) (uuids_after parts part)

streams_after : (parts : List Taken) (part : Taken) → flat_map as_stream (parts ++ part ∷ []) ≡ flat_map as_stream parts ++ as_stream part
streams_after [] part = append-nil (as_stream part)
streams_after (p ∷ parts) part = ap (λ (l : List Item). as_stream p ++ l) (streams_after parts part) ∙ sym (append_assoc (as_stream p) (flat_map as_stream parts) (as_stream part))

-- the uuids of completed parts
abbrev pub done : List Event → List (List ℕ)
done events = uuids_of (completed_parts events)

done_after : (events : List Event) (part : Taken) → done (events ++ Completes part ∷ []) ≡ done events ++ part_uuid part ∷ []
done_after events part = ap (λ (l : List Taken). uuids_of l) (parts_after events part) ∙ uuids_after (completed_parts events) part

not_false : (b : Bool) → not b ≡ true → b ≡ false
not_false true e = absurd (false≢true e)
not_false false e = refl

module _ {S : Type 0} where
  begun_same : (events : List Event) (part : Taken) → begun_entries {S = S} (events ++ Completes part ∷ []) ≡ begun_entries events
  unfolding begun_entries
  begun_same [] part = refl
  begun_same (Begins head ∷ events) part = ap (λ (l : List (Entry S)). elim (head_of head.command) as (λ o. List (Entry S)) [ None ↦ l | Some h ↦ unfinished h ∷ l ]) (begun_same events part)
  begun_same (Completes p ∷ events) part = begun_same events part

  begun_after : (events : List Event) (item : Item) (h : Head) → head_of item.command ≡ Some h → begun_entries {S = S} (events ++ Begins item ∷ []) ≡ begun_entries events ++ unfinished h ∷ []
  unfolding begun_entries
  begun_after [] item h e = ap (λ (o : Option Head). elim o as (λ o. List (Entry S)) [ None ↦ [] | Some h ↦ unfinished h ∷ [] ]) e
  begun_after (Begins head ∷ events) item h e = ap (λ (l : List (Entry S)). elim (head_of head.command) as (λ o. List (Entry S)) [ None ↦ l | Some h ↦ unfinished h ∷ l ]) (begun_after events item h e) ∙ one (head_of head.command)
    where
      one : (o : Option Head) → ◌≡◌ {A = List (Entry S)} (elim o as (λ o. List (Entry S)) [ None ↦ begun_entries events ++ unfinished h ∷ [] | Some k ↦ unfinished k ∷ (begun_entries events ++ unfinished h ∷ []) ])
          ((elim o as (λ o. List (Entry S)) [ None ↦ begun_entries events | Some k ↦ unfinished k ∷ begun_entries events ]) ++ unfinished h ∷ [])
      one None = refl
      one (Some k) = refl
  begun_after (Completes p ∷ events) item h e = begun_after events item h e

  -- what is left open: what began and did not complete
  pub is_left : (events : List Event) (e : Entry S) → IsIn e (begun_entries events) → is_among (done events) e.key.uuid ≡ false → IsIn e (left_open events)
  unfolding left_open
  is_left events e h n = kept (λ x. not (is_among (done events) x.key.uuid)) e (begun_entries events) h (ap not n)

  pub was_left : (events : List Event) (e : Entry S) → IsIn e (left_open events) → IsIn e (begun_entries events) × (is_among (done events) e.key.uuid ≡ false)
  unfolding left_open
  was_left events e h = let r = was_kept (λ x. not (is_among (done events) x.key.uuid)) e (begun_entries events) h in (r.0, not_false (is_among (done events) e.key.uuid) r.1)

turned_around : (xs ys : List ℕ) → bytes_eq xs ys ≡ false → bytes_eq ys xs ≡ false
turned_around xs ys n = not_equal ys xs (λ e. differ xs ys n (sym e))

-- among those of one part more
among_fewer : (events : List Event) (part : Taken) (u : List ℕ) → is_among (done (events ++ Completes part ∷ [])) u ≡ false → (is_among (done events) u ≡ false) × (bytes_eq (part_uuid part) u ≡ false)
among_fewer events part u n =
    let test : List ℕ → Bool = λ x. bytes_eq x u in
    let m : list_any test (done events ++ part_uuid part ∷ []) ≡ false = ap (list_any test) (sym (done_after events part)) ∙ n in (
      all_fail test (done events) (λ x h. none_passes test x (done events ++ part_uuid part ∷ []) m (in_left x (done events) (part_uuid part ∷ []) h)),
      none_passes test (part_uuid part) (done events ++ part_uuid part ∷ []) m (in_right (part_uuid part) (done events) (part_uuid part ∷ []) (inl refl)),
    )

among_more : (events : List Event) (part : Taken) (u : List ℕ) → is_among (done events) u ≡ false → bytes_eq (part_uuid part) u ≡ false → is_among (done (events ++ Completes part ∷ [])) u ≡ false
among_more events part u n m =
    let test : List ℕ → Bool = λ x. bytes_eq x u in
    ap (list_any test) (done_after events part) ∙ all_fail test (done events ++ part_uuid part ∷ []) (λ x h. elim (in_either x (done events) (part_uuid part ∷ []) h) [
      | inl q ↦ none_passes test x (done events) n q
      | inr q ↦ elim q [ inl e ↦ ap test e ∙ m | inr e ↦ absurd e ]
    ])

among_which : (events : List Event) (part : Taken) (u : List ℕ) → is_among (done (events ++ Completes part ∷ [])) u ≡ true → (is_among (done events) u ≡ true) ⊎ (bytes_eq (part_uuid part) u ≡ true)
among_which events part u h =
    let test : List ℕ → Bool = λ x. bytes_eq x u in
    let r = which_passes test (done events ++ part_uuid part ∷ []) (ap (list_any test) (sym (done_after events part)) ∙ h) in
    elim (in_either r.0 (done events) (part_uuid part ∷ []) r.1) [
      | inl q ↦ inl (passes test r.0 (done events) q r.2)
      | inr q ↦ elim q [ inl e ↦ inr (ap test (sym e) ∙ r.2) | inr e ↦ absurd e ]
    ]

one_entry_more : {S : Type 0} (parts : List Taken) (part : Taken) (entries : List (Entry S)) (e : Entry S) → AreEntriesOf parts entries
    → head_of part.head.command ≡ Some (record { name = e.name; key = e.key; parent = e.parent }) → IsComplete e → AreEntriesOf (parts ++ part ∷ []) (entries ++ e ∷ [])
one_entry_more [] part [] e a h c = (h, c, tt)
one_entry_more [] part (x ∷ entries) e a h c = absurd a
one_entry_more (p ∷ parts) part [] e a h c = absurd a
one_entry_more (p ∷ parts) part (x ∷ entries) e a h c = (a.0, a.1, one_entry_more parts part entries e a.2 h c)

module _ {C : Type 0} (zero_cell : C) (cells : Item → List C) where
  -- A part that a session receives: its items make it over what the completed parts leave, where
  -- its name and uuid are new; in the store its entry stands unfinished.
  pub record Open (store alone : Store C) (r : Receiving C) : Type 0 where
    pub built : Built zero_cell cells alone r.taken r.part
    pub stands : IsIn (unfinished built.head) store
    pub new_name : has_name built.head.name alone ≡ false
    pub new_uuid : has_uuid built.head.key.uuid alone ≡ false

  -- After some turns: `alone` is what receiving the completed parts one after the other leaves,
  -- `held` the current part of each session.
  pub record Stands (base store alone : Store C) (events : List Event) (held : ℕ → Option (Receiving C)) : Type 0 where
    pub distinct : IsStore store
    pub alone_distinct : IsStore alone
    pub goes : Goes zero_cell cells (start_of base) (flat_map as_stream (completed_parts events)) (start_of alone)
    pub inside : (e : Entry (Subvolume C)) → IsIn e alone → IsIn e store
    pub back : (e : Entry (Subvolume C)) → IsComplete e → IsIn e store → IsIn e alone
    pub parts : (n : ℕ) (r : Receiving C) → held n ≡ Some r → Open store alone r
    pub apart : (n m : ℕ) (r q : Receiving C) → held n ≡ Some r → held m ≡ Some q → (n ≡ m → ⊥) → r.part.key.uuid ≡ q.part.key.uuid → ⊥
    pub new : Store C
    pub alone_is : alone ≡ base ++ new
    pub entries : AreEntriesOf (completed_parts events) new
    pub shaped : AllByRecursion IsPart (completed_parts events)
    pub groups : (put : Putting C) → PutsCells put cells → (gate : ℕ) → made_all zero_cell put gate base (turn_groups events) ≡ Some store
    pub left : (e : Entry (Subvolume C)) → IsUnfinished e → IsIn e store → IsIn e base ⊎ IsIn e (left_open events)
    pub left_back : (e : Entry (Subvolume C)) → IsUnfinished e → IsIn e (left_open events) → IsIn e store
    pub known : (u : List ℕ) → is_among (done events) u ≡ true → has_uuid u store ≡ true

  pub finds_alone : (base store alone : Store C) (events : List Event) (held : ℕ → Option (Receiving C)) → Stands base store alone events held → FindsAll store alone
  finds_alone base store alone events held w = finds_more store alone w.alone_distinct w.back

  -- Sessions with parts of the same uuids, or with none.
  pub edits_stand : (base store alone : Store C) (events : List Event) (held new : ℕ → Option (Receiving C)) → Stands base store alone events held
      → ((n : ℕ) (r : Receiving C) → new n ≡ Some r → Open store alone r × ((q : Receiving C) × (held n ≡ Some q) × (q.part.key.uuid ≡ r.part.key.uuid)))
      → Stands base store alone events new
  edits_stand base store alone events held new w f = record {
    distinct = w.distinct;
    alone_distinct = w.alone_distinct;
    goes = w.goes;
    inside = w.inside;
    back = w.back;
    parts = λ n r e. (f n r e).0;
    apart = λ n m r q e d other same. let a = (f n r e).1 in let b = (f m q d).1 in w.apart n m a.0 b.0 a.1 b.1 other (a.2 ∙ same ∙ sym b.2);
    new = w.new;
    alone_is = w.alone_is;
    entries = w.entries;
    shaped = w.shaped;
    groups = w.groups;
    left = w.left;
    left_back = w.left_back;
    known = w.known;
  }

  -- The part of a session is complete.
  pub completes_stand : (base store alone : Store C) (events : List Event) (held new : ℕ → Option (Receiving C)) (i : ℕ) (r : Receiving C) → Stands base store alone events held
      → held i ≡ Some r → ((n : ℕ) (q : Receiving C) → new n ≡ Some q → (held n ≡ Some q) × (n ≡ i → ⊥))
      → (more : Store C) × Stands base (with_contents r.part.key.uuid r.part.subvolume store) more (events ++ Completes r.taken ∷ []) new
  completes_stand base store alone events held new i r w at others =
      let o = w.parts i r at in
      let head : Head = o.built.head in
      let s : Subvolume C = r.part.subvolume in
      let uuid : List ℕ = r.part.key.uuid in
      let key_is : uuid ≡ head.key.uuid = ap (λ (k : Key). k.uuid) o.built.key_is in
      let part_is : part_uuid r.taken ≡ uuid = ap (λ (x : Option Head). elim x as (λ x. List ℕ) [ None ↦ [] | Some h ↦ h.key.uuid ]) o.built.is_head ∙ sym key_is in
      let entry : Entry (Subvolume C) = entry_of zero_cell cells head s in
      let more : Store C = alone ++ entry ∷ [] in
      let now : Store C = with_contents uuid s store in
      let more_distinct : IsStore more = one_more alone entry w.alone_distinct o.new_name o.new_uuid in
      let entry_in : IsIn entry now = own_gets uuid s store (unfinished head) w.distinct o.stands (sym key_is) in
      let new_for : (e : Entry (Subvolume C)) → IsIn e alone → bytes_eq e.key.uuid uuid ≡ false =
      λ e h. subst (λ (u : List ℕ). bytes_eq e.key.uuid u ≡ false) (sym key_is) (none_passes (λ x. bytes_eq x.key.uuid head.key.uuid) e alone o.new_uuid h) in (
        more,
        record {
          distinct = still_distinct uuid s store w.distinct;
          alone_distinct = more_distinct;
          goes = subst (λ (l : List Item). Goes zero_cell cells (start_of base) l (start_of more)) (sym (ap (flat_map as_stream) (parts_after events r.taken) ∙ streams_after (completed_parts events) r.taken))
              (goes_on zero_cell cells (flat_map as_stream (completed_parts events)) (as_stream r.taken) (start_of base) (start_of alone) (start_of more) w.goes
              (built_goes zero_cell cells alone r.taken r.part o.built o.new_name o.new_uuid));
          inside = λ e h. elim (in_either e alone (entry ∷ []) h) [
            | inl q ↦ others_stay uuid s store e (w.inside e q) (new_for e q)
            | inr q ↦ elim q [ inl p ↦ subst (λ (x : Entry (Subvolume C)). IsIn x now) (sym p) entry_in | inr p ↦ absurd p ]
          ];
          back = λ e c h. elim (in_contents uuid s store e w.distinct h) [
            | inl q ↦ in_left e alone (entry ∷ []) (w.back e c q.0)
            | inr q ↦ in_right e alone (entry ∷ []) (inl (q.3 ∙ ap (λ (x : Entry (Subvolume C)). record x { contents = Some s }) (one_uuid store q.0 (unfinished head) w.distinct q.1 o.stands (q.2 ∙ key_is))))
          ];
          parts = λ n q e.
              let was = others n q e in
              let p = w.parts n q was.0 in
              let other : Head = p.built.head in
              let far : bytes_eq other.key.uuid uuid ≡ false = not_equal other.key.uuid uuid (λ x. w.apart n i q r was.0 at was.1 (ap (λ (k : Key). k.uuid) p.built.key_is ∙ x)) in
              record {
                built = built_again zero_cell cells alone more q.taken q.part (finds_more alone more more_distinct (λ x c h. in_left x alone (entry ∷ []) h)) p.built;
                stands = others_stay uuid s store (unfinished other) p.stands far;
                new_name = all_fail (λ x. bytes_eq x.name other.name) more (λ x h. elim (in_either x alone (entry ∷ []) h) [
                  | inl y ↦ none_passes (λ z. bytes_eq z.name other.name) x alone p.new_name y
                  | inr y ↦ elim y [
                    | inl z ↦ not_equal x.name other.name (λ same. differ other.key.uuid uuid far
                        (ap (λ (k : Entry (Subvolume C)). k.key.uuid) (one_name store (unfinished other) (unfinished head) w.distinct p.stands o.stands (sym same ∙ ap (λ (k : Entry (Subvolume C)). k.name) z)) ∙ sym key_is))
                    | inr z ↦ absurd z
                  ]
                ]);
                new_uuid = all_fail (λ x. bytes_eq x.key.uuid other.key.uuid) more (λ x h. elim (in_either x alone (entry ∷ []) h) [
                  | inl y ↦ none_passes (λ z. bytes_eq z.key.uuid other.key.uuid) x alone p.new_uuid y
                  | inr y ↦ elim y [
                    | inl z ↦ not_equal x.key.uuid other.key.uuid (λ same. differ other.key.uuid uuid far (sym same ∙ ap (λ (k : Entry (Subvolume C)). k.key.uuid) z ∙ sym key_is))
                    | inr z ↦ absurd z
                  ]
                ]);
              };
          apart = λ n m a b e d. w.apart n m a b (others n a e).0 (others m b d).0;
          new = w.new ++ entry ∷ [];
          alone_is = ap (λ (l : Store C). l ++ entry ∷ []) w.alone_is ∙ append_assoc base w.new (entry ∷ []);
          entries = subst (λ (l : List Taken). AreEntriesOf l (w.new ++ entry ∷ [])) (sym (parts_after events r.taken)) (one_entry_more (completed_parts events) r.taken w.new entry w.entries o.built.is_head refl);
          shaped = subst (λ (l : List Taken). AllByRecursion IsPart l) (sym (parts_after events r.taken)) (all_both IsPart (completed_parts events) (r.taken ∷ []) w.shaped
              (record { head = head; is_head = o.built.is_head; edits = edits_shaped zero_cell cells alone head.key o.built.start s r.taken.edits o.built.edits }, tt));
          groups = λ put puts gate. one_group_more zero_cell put events (Completes r.taken) base store now gate (w.groups put puts)
              (λ place. makes_body zero_cell cells put puts store r.taken r.part uuid part_is
              (built_again zero_cell cells alone store r.taken r.part (finds_more alone store w.distinct (λ e c h. w.inside e h)) o.built) w.distinct o.stands key_is place);
          left = λ e c h. elim (in_contents uuid s store e w.distinct h) [
            | inl q ↦ elim (w.left e c q.0) [
              | inl x ↦ inl x
              | inr x ↦
                  let y = was_left events e x in
                  inr (is_left (events ++ Completes r.taken ∷ []) e (subst (λ (l : List (Entry (Subvolume C))). IsIn e l) (sym (begun_same events r.taken)) y.0)
                  (among_more events r.taken e.key.uuid y.1 (ap (λ (u : List ℕ). bytes_eq u e.key.uuid) part_is ∙ turned_around e.key.uuid uuid q.1)))
            ]
            | inr q ↦ absurd (true≢false (sym (ap is_some (sym c ∙ ap (λ (x : Entry (Subvolume C)). x.contents) q.3))))
          ];
          left_back = λ e c h.
              let y = was_left (events ++ Completes r.taken ∷ []) e h in
              let z = among_fewer events r.taken e.key.uuid y.1 in
              others_stay uuid s store e (w.left_back e c (is_left events e (subst (λ (l : List (Entry (Subvolume C))). IsIn e l) (begun_same events r.taken) y.0) z.0))
              (turned_around uuid e.key.uuid (ap (λ (u : List ℕ). bytes_eq u e.key.uuid) (sym part_is) ∙ z.1));
          known = λ u h. same_uuids uuid s store u ∙ elim (among_which events r.taken u h) [
            | inl q ↦ w.known u q
            | inr q ↦ passes (λ x. bytes_eq x.key.uuid u) (unfinished head) store o.stands (ap (λ (x : List ℕ). bytes_eq x u) (sym key_is ∙ sym part_is) ∙ q)
          ];
        },
      )

  -- A session whose part is complete begins another one.
  pub begins_stand : (base store alone : Store C) (events : List Event) (held new : ℕ → Option (Receiving C)) (i : ℕ) (item : Item) (head : Head) (start : Subvolume C) → Stands base store alone events held
      → head_of item.command ≡ Some head → begun store head ≡ Ok start
      → ((n : ℕ) (q : Receiving C) → new n ≡ Some q → ((n ≡ i) × (q ≡ record { taken = record { head = item; edits = [] }; part = record { key = head.key; subvolume = start } })) ⊎ (held n ≡ Some q))
      → Stands base (store ++ unfinished head ∷ []) alone (events ++ Begins item ∷ []) new
  begins_stand base store alone events held new i item head start w is_head ok which =
      let b = begun_begins store head start ok in
      let r : Receiving C = record { taken = record { head = item; edits = [] }; part = record { key = head.key; subvolume = start } } in
      let now : Store C = store ++ unfinished head ∷ [] in
      let mine : Open now alone r = record {
        built = record { head = head; is_head = is_head; key_is = refl; named = b.named; start = start; from = start_again store alone head.parent start (finds_alone base store alone events held w) b.from; edits = refl };
        stands = in_right (unfinished head) store (unfinished head ∷ []) (inl refl);
        new_name = all_fail (λ x. bytes_eq x.name head.name) alone (λ x h. none_passes (λ y. bytes_eq y.name head.name) x store b.new_name (w.inside x h));
        new_uuid = all_fail (λ x. bytes_eq x.key.uuid head.key.uuid) alone (λ x h. none_passes (λ y. bytes_eq y.key.uuid head.key.uuid) x store b.new_uuid (w.inside x h));
      } in
      let far : (m : ℕ) (q : Receiving C) → held m ≡ Some q → q.part.key.uuid ≡ head.key.uuid → ⊥ =
      λ m q e same. let p = w.parts m q e in differ p.built.head.key.uuid head.key.uuid
      (none_passes (λ y. bytes_eq y.key.uuid head.key.uuid) (unfinished p.built.head) store b.new_uuid p.stands) (ap (λ (k : Key). k.uuid) (sym p.built.key_is) ∙ same) in
      let more : List Event = events ++ Begins item ∷ [] in
      let done_is : done more ≡ done events = ap (λ (l : List Taken). uuids_of l) (parts_same events item) in
      record {
        distinct = one_more store (unfinished head) w.distinct b.new_name b.new_uuid;
        alone_distinct = w.alone_distinct;
        goes = subst (λ (l : List Taken). Goes zero_cell cells (start_of base) (flat_map as_stream l) (start_of alone)) (sym (parts_same events item)) w.goes;
        inside = λ e h. in_left e store (unfinished head ∷ []) (w.inside e h);
        back = λ e c h. elim (in_either e store (unfinished head ∷ []) h) [
          | inl q ↦ w.back e c q
          | inr q ↦ elim q [ inl p ↦ absurd (true≢false (sym c ∙ ap (λ (x : Entry (Subvolume C)). is_some x.contents) p)) | inr p ↦ absurd p ]
        ];
        parts = λ n q e. elim (which n q e) [
          | inl y ↦ subst (λ (x : Receiving C). Open now alone x) (sym y.1) mine
          | inr y ↦ let p = w.parts n q y in record { built = p.built; stands = in_left (unfinished p.built.head) store (unfinished head ∷ []) p.stands; new_name = p.new_name; new_uuid = p.new_uuid }
        ];
        apart = λ n m a c e d other same. elim (which n a e) [
          | inl y ↦ elim (which m c d) [
            | inl z ↦ other (y.0 ∙ sym z.0)
            | inr z ↦ far m c z (sym same ∙ ap (λ (x : Receiving C). x.part.key.uuid) y.1)
          ]
          | inr y ↦ elim (which m c d) [
            | inl z ↦ far n a y (same ∙ ap (λ (x : Receiving C). x.part.key.uuid) z.1)
            | inr z ↦ w.apart n m a c y z other same
          ]
        ];
        new = w.new;
        alone_is = w.alone_is;
        entries = subst (λ (l : List Taken). AreEntriesOf l w.new) (sym (parts_same events item)) w.entries;
        shaped = subst (λ (l : List Taken). AllByRecursion IsPart l) (sym (parts_same events item)) w.shaped;
        groups = λ put puts gate. one_group_more zero_cell put events (Begins item) base store now gate (w.groups put puts) (λ place. makes_mark zero_cell put place store item head start is_head ok);
        left = λ e c h. elim (in_either e store (unfinished head ∷ []) h) [
          | inl q ↦ elim (w.left e c q) [
            | inl x ↦ inl x
            | inr x ↦
                let y = was_left events e x in
                inr (is_left more e (subst (λ (l : List (Entry (Subvolume C))). IsIn e l) (sym (begun_after events item head is_head)) (in_left e (begun_entries events) (unfinished head ∷ []) y.0))
                (ap (λ (l : List (List ℕ)). is_among l e.key.uuid) done_is ∙ y.1))
          ]
          | inr q ↦ elim q [
            | inl p ↦
                let free : (x : Bool) → is_among (done events) head.key.uuid ≡ x → x ≡ false =
                λ x is. elim x as (λ x. is_among (done events) head.key.uuid ≡ x → x ≡ false) [ true ↦ λ t. absurd (true≢false (sym (w.known head.key.uuid t) ∙ b.new_uuid)) | false ↦ λ t. refl ] is in
                inr (subst (λ (x : Entry (Subvolume C)). IsIn x (left_open more)) (sym p) (is_left more (unfinished head)
                (subst (λ (l : List (Entry (Subvolume C))). IsIn (unfinished head) l) (sym (begun_after events item head is_head)) (in_right (unfinished head) (begun_entries events) (unfinished head ∷ []) (inl refl)))
                (ap (λ (l : List (List ℕ)). is_among l head.key.uuid) done_is ∙ free (is_among (done events) head.key.uuid) refl)))
            | inr p ↦ absurd p
          ]
        ];
        left_back = λ e c h.
            let y = was_left more e h in
            elim (in_either e (begun_entries events) (unfinished head ∷ []) (subst (λ (l : List (Entry (Subvolume C))). IsIn e l) (begun_after events item head is_head) y.0)) [
              | inl q ↦ in_left e store (unfinished head ∷ []) (w.left_back e c (is_left events e q (ap (λ (l : List (List ℕ)). is_among l e.key.uuid) (sym done_is) ∙ y.1)))
              | inr q ↦ in_right e store (unfinished head ∷ []) q
            ];
        known = λ u h.
            let r = which_passes (λ x. bytes_eq x.key.uuid u) store (w.known u (ap (λ (l : List (List ℕ)). is_among l u) (sym done_is) ∙ h)) in
            passes (λ x. bytes_eq x.key.uuid u) r.0 now (in_left r.0 store (unfinished head ∷ []) r.1) r.2;
      }
