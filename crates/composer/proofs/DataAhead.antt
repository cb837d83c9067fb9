-- The data of a command that is read stand at the place that its item says, in the file that it is
-- read from.
use Rattle.std.specs.Prelude.{◌≡◌, ◌⊎◌, ℕ, zero, suc, ◌+◌, ◌-◌, ◌<◌, ◌≤◌, ◌==◌, Bool, true, false, ◌&&◌, List, [], ◌∷◌, ◌++◌, length, take, drop, get_or, Option, None, Some, Result, Ok, Err, nat_le, nat_lt, if◌then◌else◌}
use Rattle.std.specs.Option.{unwrap_or}
use Rattle.std.proofs.Common.{refl, sym, ap, subst, ◌∙◌, arith, inl, inr, ⊎_elim, eqb-true, leb-true, length-drop, length-append, drop-drop}
use Rattle.std.proofs.lemmas.List.{take-append-drop, take-append-le, drop-append-le, length-take-le}
use Rattle.send_model.specs.Refusal.{Refusal, Truncated, LongCommand, BadChecksum}
use Rattle.send_model.specs.Chain.{◌>>=◌, ◌>>◌, require}
use Rattle.send_model.specs.Attribute.{DATA}
use Rattle.send_model.specs.Command.{Kind, SUBVOL, WRITE, Command, command_with}
use Rattle.send_model.specs.Spelling.{Attribute, value_of, frame_checksum, greatest_body}
use Rattle.send_model.specs.Receive.{bytes_of}
use Rattle.send_model.specs.Reading.{Item, Reading, Frame, Front, Due, HeaderDue, CommandDue, ended, faulty, go_on, with_item, header_len, frame_header_len, number16, number32, attribute_head, attribute_len, attribute_end, attribute_in, attributes_from, attributes_at, bytes_at, command_of, place_of, item_at, stream_version, frame_with, frame_at, front_of, reads_from}
use Rattle.sx_base.specs.Asks.{IsData}
use Rattle.send_model.proofs.Fuel.{required, not_refused, bound, ok_same, header_there}
use Rattle.cmd_reader.proofs.CommandFacts.{first_read, unplaced, made_with}
use Rattle.send_model.proofs.Sorts.{same_inside}
use Rattle.cmd_reader.specs.Left.{Reader, is_header_due, is_empty, left}
use Rattle.composer.specs.Taking.{DataStand}

-- Bytes stand at a place among others.
pub record IsThere (place : ℕ) (bytes written : List ℕ) : Type 0 where
  pub there : take (length written) (drop place bytes) ≡ written
  pub within : place + length written ≤ length bytes

-- More bytes before them, or behind.
there_before : (k place : ℕ) (bytes written : List ℕ) → k ≤ length bytes → IsThere place (drop k bytes) written → IsThere (k + place) bytes written
there_before k place bytes written less t = record {
  there = ap (take (length written)) (sym (drop-drop place k bytes)) ∙ t.there;
  within = let w = t.within in omega (arith, w, less, length-drop k bytes);
}

there_behind : (place : ℕ) (bytes more written : List ℕ) → IsThere place bytes written → IsThere place (bytes ++ more) written
there_behind place bytes more written t =
    let w = t.within in
    record {
      there = ap (take (length written)) (drop-append-le place bytes more (omega (arith, w)))
          ∙ take-append-le (length written) (drop place bytes) more (omega (arith, w, length-drop place bytes)) ∙ t.there;
      within = omega (arith, w, length-append bytes more);
    }

nothing_there : (place : ℕ) (bytes : List ℕ) → place ≤ length bytes → IsThere place bytes []
nothing_there place bytes less = record { there = refl; within = omega (arith, less) }

-- ---- attributes

one_there : (b : Bool) (own head len : ℕ) (body bytes : List ℕ) (value : Option (List ℕ)) (there : Option ℕ) (place : ℕ)
    → (b ≡ true → own ≡ head) → bytes ≡ take len (drop head body) → head + len ≤ length body
    → ((p : ℕ) → there ≡ Some p → IsThere p (drop (head + len) body) (unwrap_or value []))
    → (if b then Some own else (elim there as (λ x. Option ℕ) [ None ↦ None | Some p ↦ Some (head + length bytes + p) ])) ≡ Some place
    → IsThere place body (unwrap_or (if b then Some bytes else value) [])
one_there true own head len body bytes value there place own_is is less more q =
    let place_is : head ≡ place = sym (own_is refl) ∙ same_inside q in
    let size : length bytes ≡ len = ap length is ∙ length-take-le len (drop head body) (omega (arith, less, length-drop head body)) in
    subst (λ (p : ℕ). IsThere p body bytes) place_is (record {
      there = ap (λ (n : ℕ). take n (drop head body)) size ∙ sym is;
      within = omega (arith, less, size);
    })
one_there false own head len body bytes value None place own_is is less more q = cc
one_there false own head len body bytes value (Some p) place own_is is less more q =
    let size : length bytes ≡ len = ap length is ∙ length-take-le len (drop head body) (omega (arith, less, length-drop head body)) in
    let place_is : head + len + p ≡ place = ap (λ (n : ℕ). head + n + p) (sym size) ∙ same_inside q in
    subst (λ (k : ℕ). IsThere k body (unwrap_or value [])) place_is (there_before (head + len) p body (unwrap_or value []) less (more p refl))

AreThere : ℕ → Type 0
AreThere n = (version kind : ℕ) (seen body : List ℕ) (attributes : List Attribute) (place : ℕ) → attributes_from n version seen body ≡ Ok attributes → place_of version kind attributes ≡ Some place → IsThere place body (bytes_at attributes kind)

none_placed : (version kind place : ℕ) (body : List ℕ) (attributes : List Attribute) → [] ≡ attributes → place_of version kind attributes ≡ Some place → IsThere place body (bytes_at attributes kind)
none_placed version kind place body attributes e there = absurd (let q : None ≡ Some place = ap (place_of version kind) e ∙ there in cc)

are_there : (n : ℕ) → AreThere n
unfolding AreThere attributes_from
are_there zero version kind seen body attributes place e there = none_placed version kind place body attributes (ok_same e) there
are_there (suc n) version kind seen [] attributes place e there = none_placed version kind place [] attributes (ok_same e) there
are_there (suc n) version kind seen (x ∷ xs) attributes place e there =
    let body : List ℕ = x ∷ xs in
    let one : Attribute = attribute_in version body in
    let first = first_read n version seen x xs attributes e in
    let placed : place_of version kind (one ∷ first.others) ≡ Some place = ap (place_of version kind) first.are ∙ there in
    subst (λ (list : List Attribute). IsThere place body (bytes_at list kind)) first.are
    (one_there (one.kind == kind) (attribute_head version kind) (attribute_head version (number16 body)) (attribute_len version body) body one.bytes (value_of kind first.others) (place_of version kind first.others) place
    (λ q. ap (attribute_head version) (sym (eqb-true one.kind kind q))) refl first.fits
    (λ p q. are_there n version kind (number16 body ∷ seen) (drop (attribute_end version body) body) first.others p first.read q) placed)

-- ---- a command

data_with : (kind : Kind) (values : ℕ → List ℕ) → (bytes_of (command_with kind values) ≡ []) ⊎ (bytes_of (command_with kind values) ≡ values DATA)
data_with WRITE values = inr refl
data_with SUBVOL values = inl refl
data_with _ values = inl refl

-- The data of a command are none, or the bytes of the attribute DATA.
data_of_command : (version number : ℕ) (attributes : List Attribute) (c : Command) → command_of version number attributes ≡ Ok c → (bytes_of c ≡ []) ⊎ (bytes_of c ≡ bytes_at attributes DATA)
data_of_command version number attributes c e =
    let made = made_with version number attributes c e in
    subst (λ (x : Command). (bytes_of x ≡ []) ⊎ (bytes_of x ≡ bytes_at attributes DATA)) made.2 (data_with made.0 (bytes_at attributes))

-- The body of the frame in front stands behind its header.
frame_behind : (bytes : List ℕ) (frame : Frame) → frame_at bytes ≡ Ok frame → (rest : List ℕ) × (drop frame_header_len bytes ≡ frame.body ++ rest) × (frame_header_len ≤ length bytes)
unfolding frame_at frame_with
frame_behind bytes frame e =
    let after : List ℕ = drop frame_header_len bytes in
    let len : ℕ = number32 bytes in
    let number : ℕ = number16 (drop 4 bytes) in
    let stored : ℕ = number32 (drop 6 bytes) in
    let made : Frame = record { number = number; body = take len after; rest = drop len after } in
    let summed : Result Frame Refusal = require (stored == frame_checksum len number (take len after)) (BadChecksum stored (frame_checksum len number (take len after))) >> Ok made in
    let a = required (nat_le frame_header_len (length bytes)) Truncated (frame_with len number stored after) frame e in
    let b = not_refused (nat_lt greatest_body len) (LongCommand len) (require (nat_le len (length after)) Truncated >> summed) frame a.1 in
    let c = required (nat_le len (length after)) Truncated summed frame b.1 in
    let d = required (stored == frame_checksum len number (take len after)) (BadChecksum stored (frame_checksum len number (take len after))) (Ok made) frame c.1 in
    (drop len after, sym (take-append-drop len after) ∙ ap (λ (f : Frame). f.body ++ drop len after) (ok_same d.1), leb-true _ _ a.0)

-- The data by the place of the attribute.
place_after : ℕ → Option ℕ → ℕ
place_after at there = elim there as (λ x. ℕ) [ None ↦ 0 | Some place ↦ at + frame_header_len + place ]

data_by_place : (version at : ℕ) (attributes : List Attribute) (file body rest written : List ℕ) (o : Option ℕ) → place_of version DATA attributes ≡ o → at ≤ length file → frame_header_len ≤ length (drop at file)
    → drop frame_header_len (drop at file) ≡ body ++ rest → attributes_at version body ≡ Ok attributes → (written ≡ []) ⊎ (written ≡ bytes_at attributes DATA) → IsThere (place_after at o) file written
unfolding attributes_at AreThere place_after
data_by_place version at attributes file body rest written None e less long behind read w =
    let none : written ≡ [] = ⊎_elim (λ (q : written ≡ []). q) (λ (q : written ≡ bytes_at attributes DATA). q ∙ unplaced version DATA attributes e) w in
    subst (λ (bs : List ℕ). IsThere 0 file bs) (sym none) (nothing_there 0 file (omega arith))
data_by_place version at attributes file body rest written (Some place) e less long behind read w =
    let t : IsThere place body (bytes_at attributes DATA) = are_there (length body) version DATA [] body attributes place read e in
    let whole : (bs : List ℕ) → IsThere place body bs → IsThere (at + frame_header_len + place) file bs = λ bs u.
    (let v : IsThere (frame_header_len + place) (drop at file) bs = there_before frame_header_len place (drop at file) bs long (subst (λ (xs : List ℕ). IsThere place xs bs) (sym behind) (there_behind place body rest bs u)) in
    let all : IsThere (at + (frame_header_len + place)) file bs = there_before at (frame_header_len + place) file bs less v in
    let same : at + (frame_header_len + place) ≡ at + frame_header_len + place = omega arith in
    subst (λ (k : ℕ). IsThere k file bs) same all) in
    ⊎_elim (λ (q : written ≡ []). subst (λ (bs : List ℕ). IsThere (at + frame_header_len + place) file bs) (sym q) (whole [] (let i = t.within in nothing_there place body (omega (arith, i)))))
    (λ (q : written ≡ bytes_at attributes DATA). subst (λ (bs : List ℕ). IsThere (at + frame_header_len + place) file bs) (sym q) (whole (bytes_at attributes DATA) t)) w

front_data : (number_of_file version number offset : ℕ) (file : List ℕ) (front : Front) → offset ≤ length file → front_of number_of_file version number offset (drop offset file) ≡ Ok front → IsThere front.item.data_at file (bytes_of front.item.command)
unfolding front_of place_after
front_data number_of_file version number offset file front less e =
    let made : Frame → List Attribute → Command → Front = λ frame attributes command. record { item = item_at number_of_file version number offset attributes command; rest = frame.rest } in
    let last : Frame → List Attribute → Result Front Refusal = λ frame attributes. command_of version frame.number attributes >>= λ command. Ok (made frame attributes command) in
    let a = bound (frame_at (drop offset file)) (λ frame. attributes_at version frame.body >>= last frame) front e in
    let b = bound (attributes_at version a.0.body) (last a.0) front a.2 in
    let d = bound (command_of version a.0.number b.0) (λ command. Ok (made a.0 b.0 command)) front b.2 in
    let back : Front = made a.0 b.0 d.0 in
    let same : back ≡ front = ok_same {x = back} d.2 in
    let h = frame_behind (drop offset file) a.0 a.1 in
    subst (λ (f : Front). IsThere f.item.data_at file (bytes_of f.item.command)) {x = back} same
    (data_by_place version offset b.0 file a.0.body h.0 (bytes_of d.0) (place_of version DATA b.0) refl less h.2 h.1 b.1 (data_of_command version a.0.number b.0 d.0 d.1))

-- ---- what is left to read

abbrev Stands : List ℕ → Item → Type 0
Stands file item = IsThere item.data_at file (bytes_of item.command)

first_item : (r : Reading) (item x : Item) (more next : Reading) → r ≡ with_item item more → r ≡ with_item x next → x ≡ item
first_item r item x more next e f = ap (λ (q : Reading). first_or q.items) (sym f ∙ e)
  where
    first_or : List Item → Item
    first_or [] = item
    first_or (y ∷ ys) = y

no_item : (r : Reading) (item : Item) (more : Reading) → r.items ≡ [] → r ≡ with_item item more → ⊥
no_item r item more none e = let q : [] ≡ item ∷ more.items = sym none ∙ ap (λ (x : Reading). x.items) e in cc

by_front : (more : Front → Reading) (stop : Refusal → Reading) (r : Result Front Refusal) (file : List ℕ) (item : Item) (next : Reading) → ((refusal : Refusal) → (stop refusal).items ≡ [])
    → ((front : Front) → r ≡ Ok front → Stands file front.item) → go_on (λ front. with_item front.item (more front)) stop r ≡ with_item item next → Stands file item
by_front more stop (Ok front) file item next none there e = subst (Stands file) (first_item (with_item front.item (more front)) item front.item next (more front) e refl) (there front refl)
by_front more stop (Err refusal) file item next none there e = absurd (no_item (stop refusal) item next (none refusal) e)

by_version : (more : ℕ → Reading) (stop : Refusal → Reading) (r : Result ℕ Refusal) (file : List ℕ) (item : Item) (next : Reading) → ((refusal : Refusal) → (stop refusal).items ≡ [])
    → ((version : ℕ) → r ≡ Ok version → more version ≡ with_item item next → Stands file item) → go_on more stop r ≡ with_item item next → Stands file item
by_version more stop (Ok version) file item next none there e = there version refl e
by_version more stop (Err refusal) file item next none there e = absurd (no_item (stop refusal) item next (none refusal) e)

data_from : (n number_of_file : ℕ) (due : Due) (number offset : ℕ) (file : List ℕ) (item : Item) (next : Reading) → offset ≤ length file → reads_from n number_of_file due number offset (drop offset file) ≡ with_item item next → Stands file item
unfolding reads_from
data_from zero number_of_file due number offset file item next less e = absurd (no_item _ item next refl e)
data_from (suc n) number_of_file HeaderDue number offset file item next less e =
    by_version _ (faulty number_of_file number offset) (stream_version (drop offset file)) file item next (λ refusal. refl) (λ version h q.
    let long = header_there (drop offset file) version h in
    data_from n number_of_file (CommandDue version) number (offset + header_len) file item next (omega (arith, less, long, length-drop offset file))
    (ap (reads_from n number_of_file (CommandDue version) number (offset + header_len)) (sym (drop-drop header_len offset file)) ∙ q)) e
data_from (suc n) number_of_file (CommandDue version) number offset file item next less e =
    by_front _ (faulty number_of_file number offset) (front_of number_of_file version number offset (drop offset file)) file item next (λ refusal. refl)
    (λ front h. front_data number_of_file version number offset file front less h) e

-- What is left to a reader begins with an item whose data stand in the file.
pub data_left : (r : Reader) (file : List ℕ) (item : Item) (next : Reading) → r.offset ≤ length file → left r file ≡ with_item item next → IsThere item.data_at file (bytes_of item.command)
unfolding left
data_left r file item next less e = by_end ((is_header_due r.fed.due && r.fed.ended) && is_empty (drop r.offset file)) e
  where
    by_end : (b : Bool) → (if b then ended else reads_from (suc (length (drop r.offset file))) r.file r.fed.due r.number r.offset (drop r.offset file)) ≡ with_item item next → Stands file item
    by_end true q = absurd (no_item ended item next refl q)
    by_end false q = data_from (suc (length (drop r.offset file))) r.file r.fed.due r.number r.offset file item next less q

-- So they stand there in one of several files.
pub data_stand : (files : List (List ℕ)) (number : ℕ) (item : Item) → item.file ≡ number + 1 → IsThere item.data_at (get_or files number []) (bytes_of item.command)
    → ((k : ℕ) → k < length (bytes_of item.command) → IsData (number + 1) (get_or files number []) (item.data_at + k)) → DataStand files item
data_stand files number item is t own =
    let same : number ≡ item.file - 1 = omega (arith, is) in
    let u : IsThere item.data_at (get_or files (item.file - 1) []) (bytes_of item.command) = subst (λ (n : ℕ). IsThere item.data_at (get_or files n []) (bytes_of item.command)) same t in
    record {
      there = u.there;
      within = u.within;
      are_data = λ k less. subst (λ (n : ℕ). IsData (n + 1) (get_or files n []) (item.data_at + k)) same (own k less);
    }
