-- The chain that a number gives is lawful: its parts are taken in order, over no store.
use Rattle.std.specs.Prelude.{◌≡◌, ℕ, zero, suc, ◌+◌, ◌-◌, ◌*◌, ◌<◌, ◌≤◌, ◌==◌, ◌%◌, Bool, true, false, not, List, [], ◌∷◌, ◌++◌, map, length, take, drop, replicate, Option, None, Some, Ok, nat_le, nat_lt, codes}
use Rattle.std.specs.List.{flat_map, list_any, AllByRecursion}
use Rattle.std.specs.Int.{w64, to_le_bytes, from_le_bytes}
use Rattle.std.specs.Fmt.{decimal, digits}
use Rattle.std.specs.Str.{bytes_eq}
use Rattle.std.proofs.Common.{refl, sym, ap, subst, ◌∙◌, arith, append-nil, eqb-true, eq-eqb}
use Rattle.std.proofs.lemmas.Grind.{flat_map-append}
use Rattle.std.proofs.lemmas.Bool.{le-leb, ltb-true}
use Rattle.std.proofs.lemmas.Fmt.{decimal_injective, decimal_by_steps, length-decimal-le}
use Rattle.std.proofs.Math.Nat.{mod-lt}
use Rattle.std.proofs.lemmas.Nat.{from_le_bytes-to_le_bytes_8}
use Rattle.std.proofs.lemmas.List.{append_cancel_left, length-take-le, length-drop, length-replicate, map-append}
use Rattle.send_model.specs.Refusal.{NoParent}
use Rattle.send_model.specs.Chain.{found}
use Rattle.send_model.specs.Command.{Command, Subvol, Snapshot, MkFile, Rename, Write, Clone, End}
use Rattle.send_model.specs.Path.{slash, is_name}
use Rattle.send_model.specs.Subvolume.{Subvolume}
use Rattle.send_model.specs.Edit.{greatest_end, overwritten, written_at, rename, edit}
use Rattle.send_model.specs.Clone.{is_aligned, clone, clone_values}
use Rattle.send_model.specs.Store.{Key, Head, head_of, Entry, Store, State, Stepped, has_name, has_uuid, find, completed, unfinished, begun, start_from, entered, step_head, edit_part, edited, step_edit, step}
use Rattle.send_model.specs.Reading.{Item, Verdict}
use Rattle.send_model.specs.Receive.{bytes_of, byte_cells, start_of, first_of}
use Rattle.send_model.specs.Order.{heads, heads_of, commands_of, judge_items, judge_reading, without_parts}
use Rattle.send_model.specs.Generated.{number_after, drawn, draw, part_name, part_uuid, file_name, files, first_part, later_part, parts_of, chain_items}
use Rattle.send_model.specs.Laws.{ChainIsLawful}
use Rattle.send_model.proofs.ExampleWords.{edit_words}
use Rattle.send_model.proofs.Sorts.{is_plain, plain_step, head_step}
use Rattle.send_model.proofs.Stores.{bytes_eq_true, same_key_same, completes_new, finds_contents, key_of_new, finds_unfinished}
use Rattle.send_model.proofs.Runs.{step_of, Takes, Takes-append}
use Rattle.send_model.proofs.Judging.{previous_after, AreOrdered, AreOrdered-append, previous_after-append, judged_all}
use Rattle.send_model.proofs.ElementLaws.{all_both}
use Rattle.send_model.proofs.LawfulStores.{none_last}
use Rattle.send_model.proofs.EightFiles.{by_eight, eight, changed, AreFull, changed_full, writes_file, clones_file, moves_back, written_len, overwritten_len, filled_len}

-- ---- names and identifiers of parts

either : (b : Bool) → (b ≡ true → b ≡ false) → b ≡ false
either true n = n refl
either false n = refl

-- Two parts have neither a name nor an identifier in common.
pub other_name : (i j : ℕ) → i < j → j ≤ 4_096 → bytes_eq (part_name i) (part_name j) ≡ false
other_name i j less low = either (bytes_eq (part_name i) (part_name j)) (λ e.
    let same : i ≡ j = decimal_injective i j (omega (arith, less, low)) (omega (arith, low)) (append_cancel_left (codes "g") (decimal i) (decimal j) (bytes_eq_true (part_name i) (part_name j) e)) in
    absurd (omega (arith, same, less)))

pub other_uuid : (seed i j : ℕ) → i < j → j ≤ 4_096 → bytes_eq (part_uuid seed i) (part_uuid seed j) ≡ false
other_uuid seed i j less low = either (bytes_eq (part_uuid seed i) (part_uuid seed j)) (λ e.
    let bytes : to_le_bytes w64 i ≡ to_le_bytes w64 j = append_cancel_left (to_le_bytes w64 seed) (to_le_bytes w64 i) (to_le_bytes w64 j) (bytes_eq_true (part_uuid seed i) (part_uuid seed j) e) in
    let same : i ≡ j = sym (from_le_bytes-to_le_bytes_8 i (omega (arith, less, low))) ∙ ap (from_le_bytes w64) bytes ∙ from_le_bytes-to_le_bytes_8 j (omega (arith, low)) in
    absurd (omega (arith, same, less)))

abbrev AreDigits : List ℕ → Type 0
AreDigits ds = AllByRecursion (λ b. (48 ≤ b) × (b ≤ 57)) ds

decimal_digits : (n : ℕ) → n ≤ 4_096 → AreDigits (decimal n)
decimal_digits n low =
    decimal_by_steps (λ m ds. AreDigits ds) (λ m h. ((omega (arith, h), omega (arith, h)), tt))
    (λ m ds h more. all_both (λ b. (48 ≤ b) × (b ≤ 57)) ds ((48 + m % 10) ∷ []) more ((omega arith, omega arith), tt)) n (omega (arith, low))

no_byte : (n : ℕ) (ds : List ℕ) → n < 48 → AreDigits ds → list_any (λ b. b == n) ds ≡ false
no_byte n [] low all = refl
no_byte n (d ∷ ds) low all =
    let apart : (d == n) ≡ false = either (d == n) (λ e. let same = eqb-true d n e in absurd (omega (arith, low, all.0.0, same))) in
    rw apart (no_byte n ds low all.1)

pub lawful_name : (part : ℕ) → part ≤ 4_096 → is_name (part_name part) ≡ true
unfolding is_name
lawful_name part low =
    let ds : List ℕ = decimal part in
    let name : List ℕ = 103 ∷ ds in
    let all = decimal_digits part low in
    let len : length ds ≤ 4 = length-decimal-le 4 part (omega arith) (omega (arith, low)) (omega (arith, low)) in
    let a : nat_le 1 (length name) ≡ true = le-leb 1 (length name) (omega arith) in
    let b : nat_le (length name) 255 ≡ true = le-leb (length name) 255 (omega (arith, len)) in
    rw (a, b, no_byte slash ds (omega arith) all, no_byte 0 ds (omega arith) all) refl

-- ---- one command

one_taken : (c : Command) (cs : List Command) (state next end : State ℕ) → step_of state c ≡ record { state = next; refusal = None } → Takes next cs end → Takes state (c ∷ cs) end
one_taken c cs state next end e t = subst (λ (x : Stepped ℕ). (x.refusal ≡ None) × Takes x.state cs end) (sym e) (refl, t)

abbrev inside : Store ℕ → Key → Subvolume ℕ → State ℕ
inside store key s = record { store = store; part = Some (record { key = key; subvolume = s }) }

edit_step : (store : Store ℕ) (key : Key) (s after : Subvolume ℕ) (c : Command) → is_plain c ≡ true → edit 0 (bytes_of c) c s ≡ Ok after → step_of (inside store key s) c ≡ record { state = inside store key after; refusal = None }
edit_step store key s after c plain e = plain_step 0 (bytes_of c) store (record { key = key; subvolume = s }) c plain ∙ ap (edited store (record { key = key; subvolume = s })) e

clone_step : (store : Store ℕ) (key source : Key) (s other after : Subvolume ℕ) (path : List ℕ) (offset : ℕ) (clone_path : List ℕ) (from len : ℕ) → bytes_eq source.uuid key.uuid ≡ false → find store source ≡ Some other
    → clone 0 s (Some other) false (clone_values path offset clone_path from len) ≡ Ok after
    → step_of (inside store key s) (Clone path offset source.uuid source.ctransid clone_path from len) ≡ record { state = inside store key after; refusal = None }
unfolding step step_edit edit_part
clone_step store key source s other after path offset clone_path from len own f e =
    rw (own, f) (ap (edited store (record { key = key; subvolume = s })) e)

head_taken : (store : Store ℕ) (c : Command) (head : Head) (start : Subvolume ℕ) → head_of c ≡ Some head → is_name head.name ≡ true → has_name head.name store ≡ false → has_uuid head.key.uuid store ≡ false → start_from store head.parent ≡ Ok start
    → step_of (start_of store) c ≡ record { state = inside (store ++ unfinished head ∷ []) head.key start; refusal = None }
unfolding step_head completed begun
head_taken store c head start is name new_name new_uuid from = head_step 0 (bytes_of c) (start_of store) c head is ∙ (rw (name, new_name, new_uuid) (ap (entered store head) from))

abbrev complete : Head → Subvolume ℕ → Entry (Subvolume ℕ)
complete head s = record { name = head.name; key = head.key; parent = head.parent; contents = Some s }

end_taken : (store : Store ℕ) (head : Head) (s : Subvolume ℕ) → has_uuid head.key.uuid store ≡ false
    → step_of (inside (store ++ unfinished head ∷ []) head.key s) End ≡ record { state = start_of (store ++ complete head s ∷ []); refusal = None }
unfolding step completed
end_taken store head s h = ap (λ (t : Store ℕ). record { state = start_of t; refusal = None }) (completes_new head s store h)

-- ---- what stands after a part

abbrev part_key : ℕ → ℕ → Key
part_key seed part = record { uuid = part_uuid seed part; ctransid = part }

record IsReady (seed part : ℕ) (store : Store ℕ) : Type 0 where
  free_name : (j : ℕ) → part < j → j ≤ 4_096 → has_name (part_name j) store ≡ false
  free_uuid : (j : ℕ) → part < j → j ≤ 4_096 → has_uuid (part_uuid seed j) store ≡ false
  contents : ℕ → List ℕ
  full : AreFull contents
  there : find store (part_key seed part) ≡ Some (eight contents)

next_ready : (seed part : ℕ) (store : Store ℕ) (head : Head) (f : ℕ → List ℕ) → AreFull f → head.name ≡ part_name part → head.key ≡ part_key seed part
    → ((j : ℕ) → part ≤ j → j ≤ 4_096 → has_name (part_name j) store ≡ false) → ((j : ℕ) → part ≤ j → j ≤ 4_096 → has_uuid (part_uuid seed j) store ≡ false) → part ≤ 4_096
    → IsReady seed part (store ++ complete head (eight f) ∷ [])
next_ready seed part store head f full name key names uuids low =
    let uuid : head.key.uuid ≡ part_uuid seed part = ap (λ (k : Key). k.uuid) key in
    let own : has_uuid head.key.uuid store ≡ false = ap (λ (u : List ℕ). has_uuid u store) uuid ∙ uuids part (omega arith) low in
    let found_own : find (store ++ complete head (eight f) ∷ []) head.key ≡ Some (eight f) =
    ap (λ (t : Store ℕ). find t head.key) (sym (completes_new head (eight f) store own)) ∙ finds_contents head.key (eight f) (store ++ unfinished head ∷ []) (key_of_new head store own) in
    record {
      free_name = λ j less high. none_last (λ e. bytes_eq e.name (part_name j)) store (complete head (eight f)) (names j (omega (arith, less)) high) (ap (λ (n : List ℕ). bytes_eq n (part_name j)) name ∙ other_name part j less high);
      free_uuid = λ j less high. none_last (λ e. bytes_eq e.key.uuid (part_uuid seed j)) store (complete head (eight f)) (uuids j (omega (arith, less)) high) (ap (λ (n : List ℕ). bytes_eq n (part_uuid seed j)) uuid ∙ other_uuid seed part j less high);
      contents = f;
      full = full;
      there = ap (λ (k : Key). find (store ++ complete head (eight f) ∷ []) k) (sym key) ∙ found_own;
    }

-- ---- a later part

le-not : (m n : ℕ) → m ≤ n → nat_lt n m ≡ false
le-not m n h = either (nat_lt n m) (λ e. absurd (omega (arith, h, ltb-true n m e)))

aligned : (g d : ℕ) → g < 3 → d < 3 → is_aligned (4_096 * g) (4_096 * d) 4_096 12_288 ≡ true
aligned g d lg ld = rw (eq-eqb (4_096 * g % 4_096) 0 (omega arith), eq-eqb (4_096 * d % 4_096) 0 (omega arith)) refl

abbrev later_head : ℕ → ℕ → ℕ → Head
later_head seed n p = record { name = part_name p; key = part_key seed p; parent = Some (part_key seed n) }

abbrev later_with : (seed n p a b : ℕ) (put : List ℕ) (c d e g : ℕ) → List Command
later_with seed n p a b put c d e g =
    Snapshot (part_uuid seed p) p (part_name p) (part_uuid seed n) n
    ∷ Write (file_name a) (4_096 * b) put
    ∷ Clone (file_name e) (4_096 * g) (part_uuid seed n) n (file_name c) (4_096 * d) 4_096
    ∷ Rename (file_name a) (codes "t") ∷ Rename (codes "t") (file_name a) ∷ End ∷ []

later_taken : (seed n p a b : ℕ) (put : List ℕ) (c d e g : ℕ) (store : Store ℕ) → n < p → p ≤ 4_096 → a < 8 → b < 3 → length put ≡ 4_096 → c < 8 → d < 3 → e < 8 → g < 3 → IsReady seed n store
    → (next : Store ℕ) × (Takes (start_of store) (later_with seed n p a b put c d e g) (start_of next) × IsReady seed p next)
unfolding edit
later_taken seed n p a b put c d e g store up low la lb len lc ld le lg r = (store ++ complete head (eight f2) ∷ [], (taken, ready))
  where
    head : Head
    head = later_head seed n p

    f0 : ℕ → List ℕ
    f0 = r.contents

    f1 : ℕ → List ℕ
    f1 = changed a (written_at 0 (4_096 * b) put) f0

    f2 : ℕ → List ℕ
    f2 = changed e (overwritten 0 (4_096 * g) (take 4_096 (drop (4_096 * d) (f0 c)))) f1

    full1 : AreFull f1
    full1 = changed_full a (written_at 0 (4_096 * b) put) f0 (λ cells l. written_len (4_096 * b) put cells (omega (arith, l, len, lb)) ∙ l) r.full

    cloned_len : length (take 4_096 (drop (4_096 * d) (f0 c))) ≡ 4_096
    cloned_len = length-take-le 4_096 (drop (4_096 * d) (f0 c)) (rw length-drop (omega (arith, r.full c lc, ld)))

    full2 : AreFull f2
    full2 = changed_full e (overwritten 0 (4_096 * g) (take 4_096 (drop (4_096 * d) (f0 c)))) f1 (λ cells l. overwritten_len (4_096 * g) (take 4_096 (drop (4_096 * d) (f0 c))) cells (omega (arith, l, cloned_len, lg)) ∙ l) full1

    new_name : has_name (part_name p) store ≡ false
    new_name = r.free_name p up low

    new_uuid : has_uuid (part_uuid seed p) store ≡ false
    new_uuid = r.free_uuid p up low

    begun_store : Store ℕ
    begun_store = store ++ unfinished head ∷ []

    moved : (s : Subvolume ℕ) × ((rename (file_name a) (codes "t") (eight f2) ≡ Ok s) × (rename (codes "t") (file_name a) s ≡ Ok (eight f2)))
    moved = moves_back f2 a la

    taken : Takes (start_of store) (later_with seed n p a b put c d e g) (start_of (store ++ complete head (eight f2) ∷ []))
    taken =
        let key : Key = head.key in
        let last : State ℕ = start_of (store ++ complete head (eight f2) ∷ []) in
        let w : Command = Write (file_name a) (4_096 * b) put in
        let k : Command = Clone (file_name e) (4_096 * g) (part_uuid seed n) n (file_name c) (4_096 * d) 4_096 in
        let m : Command = Rename (file_name a) (codes "t") in
        let m' : Command = Rename (codes "t") (file_name a) in
        one_taken (Snapshot (part_uuid seed p) p (part_name p) (part_uuid seed n) n) (w ∷ k ∷ m ∷ m' ∷ End ∷ []) (start_of store) (inside begun_store key (eight f0)) last
        (head_taken store (Snapshot (part_uuid seed p) p (part_name p) (part_uuid seed n) n) head (eight f0) refl (lawful_name p low) new_name new_uuid (ap (λ (o : Option (Subvolume ℕ)). found o NoParent) r.there))
        (one_taken w (k ∷ m ∷ m' ∷ End ∷ []) (inside begun_store key (eight f0)) (inside begun_store key (eight f1)) last
        (edit_step begun_store key (eight f0) (eight f1) w refl (writes_file f0 a (4_096 * b) put la (le-leb (4_096 * b + length put) greatest_end (omega (arith, len, lb)))))
        (one_taken k (m ∷ m' ∷ End ∷ []) (inside begun_store key (eight f1)) (inside begun_store key (eight f2)) last
        (clone_step begun_store key (part_key seed n) (eight f1) (eight f0) (eight f2) (file_name e) (4_096 * g) (file_name c) (4_096 * d) 4_096 (other_uuid seed n p up low)
        (finds_unfinished head store (part_key seed n) ∙ r.there)
        (clones_file f1 f0 e c (4_096 * g) (4_096 * d) le lc (r.full c lc) (aligned g d lg ld) (le-not (4_096 * d + 4_096) 12_288 (omega (arith, ld))) (le-leb (4_096 * g + 4_096) greatest_end (omega (arith, lg)))))
        (one_taken m (m' ∷ End ∷ []) (inside begun_store key (eight f2)) (inside begun_store key moved.0) last (edit_step begun_store key (eight f2) moved.0 m refl moved.1.0)
        (one_taken m' (End ∷ []) (inside begun_store key moved.0) (inside begun_store key (eight f2)) last (edit_step begun_store key moved.0 (eight f2) m' refl moved.1.1)
        (one_taken End [] (inside begun_store key (eight f2)) last last (end_taken store head (eight f2) new_uuid) refl)))))

    ready : IsReady seed p (store ++ complete head (eight f2) ∷ [])
    ready = next_ready seed p store head f2 full2 refl refl (λ j less high. r.free_name j (omega (arith, up, less)) high) (λ j less high. r.free_uuid j (omega (arith, up, less)) high) low

-- ---- the first part

abbrev first_head_of : ℕ → Head
first_head_of seed = record { name = part_name 1; key = part_key seed 1; parent = None }

abbrev empty : ℕ → List ℕ
empty i = []

abbrev filled_by : (ℕ → List ℕ) → List ℕ → (ℕ → List ℕ) → ℕ → List ℕ
filled_by fill [] f = f
filled_by fill (i ∷ is) f = filled_by fill is (changed i (written_at 0 0 (fill i)) f)

writes_taken : (fill : ℕ → List ℕ) → ((i : ℕ) → length (fill i) ≡ 12_288) → (store : Store ℕ) (key : Key) (is : List ℕ) (f : ℕ → List ℕ) → AllByRecursion (λ i. i < 8) is
    → Takes (inside store key (eight f)) (map (λ i. Write (file_name i) 0 (fill i)) is) (inside store key (eight (filled_by fill is f)))
writes_taken fill len store key [] f low = refl
writes_taken fill len store key (i ∷ is) f low =
    let next : ℕ → List ℕ = changed i (written_at 0 0 (fill i)) f in
    one_taken (Write (file_name i) 0 (fill i)) (map (λ j. Write (file_name j) 0 (fill j)) is) (inside store key (eight f)) (inside store key (eight next)) (inside store key (eight (filled_by fill (i ∷ is) f)))
    (edit_step store key (eight f) (eight next) (Write (file_name i) 0 (fill i)) refl (writes_file f i 0 (fill i) low.0 (le-leb (0 + length (fill i)) greatest_end (omega (arith, len i)))))
    (writes_taken fill len store key is next low.1)

filled_full : (fill : ℕ → List ℕ) → ((i : ℕ) → length (fill i) ≡ 12_288) → AreFull (filled_by fill files empty)
filled_full fill len = by_eight (λ i. length (filled_by fill files empty i) ≡ 12_288) (one 0) (one 1) (one 2) (one 3) (one 4) (one 5) (one 6) (one 7)
  where
    one : (i : ℕ) → length (written_at 0 0 (fill i) []) ≡ 12_288
    one i = filled_len (fill i) ∙ len i

-- The first part, with the bytes that its writes carry.
abbrev first_with : (ℕ → List ℕ) → ℕ → List Command
first_with fill seed = (Subvol (part_uuid seed 1) 1 (part_name 1) ∷ map (λ i. MkFile (file_name i)) files) ++ (map (λ i. Write (file_name i) 0 (fill i)) files ++ End ∷ [])

files_made : (seed : ℕ) → Takes (start_of []) (Subvol (part_uuid seed 1) 1 (part_name 1) ∷ map (λ i. MkFile (file_name i)) files) (inside (unfinished (first_head_of seed) ∷ []) (part_key seed 1) (eight empty))
unfolding edit_words step step_head step_edit edit_part begun completed digits
files_made seed = (refl, (refl, (refl, (refl, (refl, (refl, (refl, (refl, (refl, refl)))))))))

first_taken : (fill : ℕ → List ℕ) → ((i : ℕ) → length (fill i) ≡ 12_288) → (seed : ℕ) → (next : Store ℕ) × (Takes (start_of []) (first_with fill seed) (start_of next) × IsReady seed 1 next)
first_taken fill len seed = (complete head (eight f) ∷ [], (taken, ready))
  where
    head : Head
    head = first_head_of seed

    f : ℕ → List ℕ
    f = filled_by fill files empty

    made : State ℕ
    made = inside (unfinished head ∷ []) head.key (eight empty)

    written : State ℕ
    written = inside (unfinished head ∷ []) head.key (eight f)

    taken : Takes (start_of []) (first_with fill seed) (start_of (complete head (eight f) ∷ []))
    taken =
        Takes-append (Subvol (part_uuid seed 1) 1 (part_name 1) ∷ map (λ i. MkFile (file_name i)) files) (map (λ i. Write (file_name i) 0 (fill i)) files ++ End ∷ []) (start_of []) made (start_of (complete head (eight f) ∷ []))
        (files_made seed)
        (Takes-append (map (λ i. Write (file_name i) 0 (fill i)) files) (End ∷ []) made written (start_of (complete head (eight f) ∷ []))
        (writes_taken fill len (unfinished head ∷ []) head.key files empty (omega arith, (omega arith, (omega arith, (omega arith, (omega arith, (omega arith, (omega arith, (omega arith, tt)))))))))
        (one_taken End [] written (start_of (complete head (eight f) ∷ [])) (start_of (complete head (eight f) ∷ [])) (end_taken [] head (eight f) refl) refl))

    ready : IsReady seed 1 (complete head (eight f) ∷ [])
    ready = next_ready seed 1 [] head f (filled_full fill len) refl refl (λ j less high. refl) (λ j less high. refl) (omega arith)

-- ---- the chain

abbrev all_commands : ℕ → ℕ → List Command
all_commands seed count = flat_map (λ part. part) (parts_of seed count)

one_more_part : (parts : List (List Command)) (part : List Command) → flat_map (λ p. p) (parts ++ part ∷ []) ≡ flat_map (λ p. p) parts ++ part
one_more_part parts part = flat_map-append (λ (p : List Command). p) parts (part ∷ []) ∙ ap (λ (cs : List Command). flat_map (λ p. p) parts ++ cs) (append-nil part)

abbrev item_of : Command → Item
item_of command = record { file = 1; number = 1; offset = 0; version = 1; data_at = 0; command = command }

commands_back : (cs : List Command) → commands_of (map item_of cs) ≡ cs
commands_back [] = refl
commands_back (c ∷ cs) = ap (λ (ds : List Command). c ∷ ds) (commands_back cs)

record IsBuilt (seed count : ℕ) (cs : List Command) : Type 0 where
  store : Store ℕ
  taken : Takes (start_of []) cs (start_of store)
  ready : IsReady seed count store
  ordered : AreOrdered None (map item_of cs)
  previous : previous_after None (map item_of cs) ≡ Some (part_key seed count)
  rest : List Command
  begins : cs ≡ Subvol (part_uuid seed 1) 1 (part_name 1) ∷ rest

first_built : (seed : ℕ) → IsBuilt seed 1 (all_commands seed 1)
unfolding parts_of first_part
first_built seed =
    let t = first_taken (λ i. replicate 12_288 i) (λ i. length-replicate 12_288 i) seed in
    record {
      store = t.0;
      taken = t.1.0;
      ready = t.1.1;
      ordered = (refl, (refl, (refl, (refl, (refl, (refl, (refl, (refl, (refl, (refl, (refl, (refl, (refl, (refl, (refl, (refl, (refl, (refl, tt))))))))))))))))));
      previous = refl;
      rest = _;
      begins = refl;
    }

below : (seed turn n : ℕ) → 0 < n → draw seed turn n < n
below seed turn n some = mod-lt (drawn (number_after turn seed)) some

later_ordered : (seed n p a b : ℕ) (put : List ℕ) (c d e g : ℕ) → AreOrdered (Some (part_key seed n)) (map item_of (later_with seed n p a b put c d e g))
later_ordered seed n p a b put c d e g = (ap not (same_key_same (part_key seed n)), (refl, (refl, (refl, (refl, (refl, tt))))))

later_built : (seed count : ℕ) → suc (suc count) ≤ 4_096 → IsBuilt seed (suc count) (all_commands seed (suc count)) → IsBuilt seed (suc (suc count)) (all_commands seed (suc (suc count)))
unfolding parts_of later_part
later_built seed count low k =
    let p : ℕ = suc (suc count) in
    let n : ℕ = p - 1 in
    let before : ℕ = 7 * (p - 2) in
    let same : suc count ≡ n = omega arith in
    let a : ℕ = draw seed (before + 1) 8 in
    let b : ℕ = draw seed (before + 2) 3 in
    let put : List ℕ = replicate 4_096 (draw seed (before + 3) 256) in
    let c : ℕ = draw seed (before + 4) 8 in
    let d : ℕ = draw seed (before + 5) 3 in
    let e : ℕ = draw seed (before + 6) 8 in
    let g : ℕ = draw seed (before + 7) 3 in
    let now : List Command = later_with seed n p a b put c d e g in
    let old : List Command = all_commands seed (suc count) in
    let t = later_taken seed n p a b put c d e g k.store (omega arith) low (below seed (before + 1) 8 (omega arith)) (below seed (before + 2) 3 (omega arith)) (length-replicate 4_096 (draw seed (before + 3) 256))
    (below seed (before + 4) 8 (omega arith)) (below seed (before + 5) 3 (omega arith)) (below seed (before + 6) 8 (omega arith)) (below seed (before + 7) 3 (omega arith)) (subst (λ (m : ℕ). IsReady seed m k.store) same k.ready) in
    let is : all_commands seed (suc (suc count)) ≡ old ++ now = one_more_part (parts_of seed (suc count)) now in
    let items : map item_of (old ++ now) ≡ map item_of old ++ map item_of now = map-append item_of old now in
    subst (λ (cs : List Command). IsBuilt seed (suc (suc count)) cs) (sym is)
    (record {
      store = t.0;
      taken = Takes-append old now (start_of []) (start_of k.store) (start_of t.0) k.taken t.1.0;
      ready = t.1.1;
      ordered = subst (λ (xs : List Item). AreOrdered None xs) (sym items) (AreOrdered-append None (map item_of old) (map item_of now) k.ordered
          (subst (λ (p : Option Key). AreOrdered p (map item_of now)) (sym (k.previous ∙ ap (λ (m : ℕ). Some (part_key seed m)) same)) (later_ordered seed n p a b put c d e g)));
      previous = ap (previous_after None) items ∙ previous_after-append None (map item_of old) (map item_of now) ∙ ap (λ (p : Option Key). previous_after p (map item_of now)) k.previous;
      rest = k.rest ++ now;
      begins = ap (λ (cs : List Command). cs ++ now) k.begins;
    })

built : (seed count : ℕ) → suc count ≤ 4_096 → IsBuilt seed (suc count) (all_commands seed (suc count))
built seed zero low = first_built seed
built seed (suc count) low = later_built seed count low (built seed count (omega (arith, low)))

pub chain_is_lawful : ChainIsLawful
unfolding judge_reading heads_of
chain_is_lawful seed zero some low = absurd (omega (arith, some))
chain_is_lawful seed (suc count) some low =
    let k = built seed count low in
    let items : List Item = chain_items seed (suc count) in
    let commands : commands_of items ≡ all_commands seed (suc count) = commands_back (all_commands seed (suc count)) in
    let judged : judge_items 0 byte_cells (start_of []) None items ≡ None = judged_all items (start_of k.store) (subst (λ (cs : List Command). Takes (start_of []) cs (start_of k.store)) (sym commands) k.taken) k.ordered in
    let there : heads items ≡ first_head_of seed ∷ heads_of k.rest = ap heads_of (commands ∙ k.begins) in
    ap (λ (o : Option Verdict). first_of o (without_parts items (heads items))) judged ∙ ap (without_parts items) there
