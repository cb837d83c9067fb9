-- What is read of the first bytes of a file is what is read first of the whole file: so it is of
-- files that are read up to the limit.
use Rattle.std.specs.Prelude.{◌≡◌, ℕ, zero, suc, ◌+◌, ◌-◌, ◌<◌, Bool, true, false, List, [], ◌∷◌, ◌++◌, length, take, drop, Result, Ok, Err, nat_le, if◌then◌else◌}
use Rattle.std.specs.List.{AllByRecursion}
use Rattle.std.specs.Str.{bytes_eq}
use Rattle.std.specs.Int.{w32, from_le_bytes}
use Rattle.std.proofs.Common.{refl, sym, ap, subst, ◌∙◌, append_assoc, append-nil, arith, length-append, length-drop, le-leb}
use Rattle.std.proofs.lemmas.Bool.{true≢false}
use Rattle.std.proofs.lemmas.List.{map-append, take-append-le, drop-append-le, take-append-drop}
use Rattle.send_model.specs.Refusal.{Refusal, Truncated, BadMagic, BadVersion}
use Rattle.send_model.specs.Chain.{require, ◌>>◌}
use Rattle.send_model.specs.Attribute.{IsBytes}
use Rattle.send_model.specs.Spelling.{magic}
use Rattle.send_model.specs.Reading.{Item, Front, Ending, Whole, Faulty, Reading, Due, HeaderDue, CommandDue, header_len, is_version, number32, stream_version, front_of, due_after, with_item, may_end, ended, faulty, go_on, reads_from, reads, joined, input_from, input}
use Rattle.send_model.specs.Lengths.{limit, is_too_long}
use Rattle.send_model.specs.Due.{AtLimit, then_limited, limited_from}
use Rattle.send_model.specs.Overridden.{overridden_item, overridden_items}
use Rattle.send_model.proofs.Fuel.{header_there, front_shorter}
use Rattle.send_model.proofs.Canonical.{spelled_front}
use Rattle.send_model.proofs.ReadSpelled.{read_was_spelled}
use Rattle.send_model.proofs.Sound.{bytes_take, bytes_drop}
use Rattle.send_model.proofs.ElementLaws.{all_rest}
use Rattle.store_model.specs.StateLaws.{LimitedIsFront}

abbrev Begins : List Item → List Item → Type 0
Begins first all = (rest : List Item) × (all ≡ first ++ rest)

-- ---- a header

abbrev version_by : Bool → List ℕ → ℕ → Result ℕ Refusal
version_by long text number = require long Truncated >> (require (bytes_eq text magic) BadMagic >> (require (is_version number) (BadVersion number) >> Ok number))

version_more : (bytes more : List ℕ) (version : ℕ) → stream_version bytes ≡ Ok version → stream_version (bytes ++ more) ≡ Ok version
unfolding stream_version number32
version_more bytes more version e =
    let long = header_there bytes version e in
    let both = length-append bytes more in
    let enough : nat_le header_len (length (bytes ++ more)) ≡ nat_le header_len (length bytes) =
    le-leb header_len (length (bytes ++ more)) (omega (arith, long, both)) ∙ sym (le-leb header_len (length bytes) long) in
    let text : take 13 (bytes ++ more) ≡ take 13 bytes = take-append-le 13 bytes more (omega (arith, long)) in
    let number : take 4 (drop 13 (bytes ++ more)) ≡ take 4 (drop 13 bytes) =
    ap (λ (l : List ℕ). take 4 l) (drop-append-le 13 bytes more (omega (arith, long))) ∙ take-append-le 4 (drop 13 bytes) more (omega (arith, long, length-drop 13 bytes)) in
    ap (λ (b : Bool). version_by b (take 13 (bytes ++ more)) (from_le_bytes w32 (take 4 (drop 13 (bytes ++ more))))) enough
    ∙ ap (λ (l : List ℕ). version_by (nat_le header_len (length bytes)) l (from_le_bytes w32 (take 4 (drop 13 (bytes ++ more))))) text
    ∙ ap (λ (l : List ℕ). version_by (nat_le header_len (length bytes)) (take 13 bytes) (from_le_bytes w32 l)) number ∙ e

-- ---- a command

front_more : (file version number offset : ℕ) (bytes more : List ℕ) (front : Front) → IsBytes bytes → front_of file version number offset bytes ≡ Ok front
    → front_of file version number offset (bytes ++ more) ≡ Ok (record { item = front.item; rest = front.rest ++ more })
front_more file version number offset bytes more front are e =
    let w = read_was_spelled file version number offset bytes front are e in
    ap (λ (l : List ℕ). front_of file version number offset (l ++ more)) w.whole
    ∙ ap (λ (l : List ℕ). front_of file version number offset l) (append_assoc w.frame front.rest more)
    ∙ spelled_front file version number offset w.frame (front.rest ++ more) front.item.command w.spells
    ∙ ap (λ (item : Item). Ok (record { item = item; rest = front.rest ++ more })) (sym w.item_is)

-- ---- one file

by_result : {A : Type 0} (P : Reading → Type 0) (more : A → Reading) (stop : Refusal → Reading) (r : Result A Refusal) → ((x : A) → r ≡ Ok x → P (more x)) → ((refusal : Refusal) → P (stop refusal)) → P (go_on more stop r)
by_result P more stop (Ok x) m s = m x refl
by_result P more stop (Err refusal) m s = s refusal

may_more : (due : Due) (rest more : List ℕ) → may_end due rest ≡ false → may_end due (rest ++ more) ≡ false
may_more HeaderDue [] more e = absurd (true≢false e)
may_more HeaderDue (byte ∷ rest) more e = refl
may_more (CommandDue version) rest more e = refl

fronts : (n m file : ℕ) (due : Due) (number offset : ℕ) (bytes more : List ℕ) → IsBytes bytes → length (bytes ++ more) < m
    → Begins (reads_from n file due number offset bytes).items (reads_from m file due number offset (bytes ++ more)).items
unfolding reads_from
fronts zero m file due number offset bytes more are enough = (_, refl)
fronts (suc n) zero file due number offset bytes more are enough = absurd (omega (arith, enough))
fronts (suc n) (suc m) file HeaderDue number offset bytes more are enough =
    let all : Reading = reads_from (suc m) file HeaderDue number offset (bytes ++ more) in
    by_result (λ r. Begins r.items all.items) _ _ (stream_version bytes)
    (λ version e.
    let long = header_there bytes version e in
    let behind = drop-append-le header_len bytes more long in
    let next : ℕ → List ℕ → Reading = λ v l. reads_from m file (CommandDue v) number (offset + header_len) l in
    let is : all ≡ next version (drop header_len bytes ++ more) =
    ap (λ (r : Result ℕ Refusal). go_on (λ v. next v (drop header_len (bytes ++ more))) (faulty file number offset) r) (version_more bytes more version e) ∙ ap (next version) behind in
    let rest = fronts n m file (CommandDue version) number (offset + header_len) (drop header_len bytes) more (bytes_drop header_len bytes are)
    (omega (arith, enough, long, length-append bytes more, length-append (drop header_len bytes) more, length-drop header_len bytes)) in
    (rest.0, ap (λ (r : Reading). r.items) is ∙ rest.1))
    (λ refusal. (all.items, refl))
fronts (suc n) (suc m) file (CommandDue version) number offset bytes more are enough =
    let all : Reading = reads_from (suc m) file (CommandDue version) number offset (bytes ++ more) in
    by_result (λ r. Begins r.items all.items) _ _ (front_of file version number offset bytes)
    (λ front e.
    let w = read_was_spelled file version number offset bytes front are e in
    let shorter = front_shorter file version number offset bytes front e in
    let due : Due = due_after version front.item.command in
    let next : ℕ → Reading = λ place. reads_from m file due (number + 1) place (front.rest ++ more) in
    let step : ℕ → Reading = λ place. with_item front.item (if may_end due (front.rest ++ more) then ended else next place) in
    let same_place : offset + (length (bytes ++ more) - length (front.rest ++ more)) ≡ offset + (length bytes - length front.rest) =
    omega (arith, length-append bytes more, length-append front.rest more, shorter) in
    let is : all ≡ step (offset + (length bytes - length front.rest)) =
    ap (λ (r : Result Front Refusal). go_on (λ f. with_item f.item (
    if may_end (due_after version f.item.command) f.rest then ended
    else reads_from m file (due_after version f.item.command) (number + 1) (offset + (length (bytes ++ more) - length f.rest)) f.rest)) (faulty file number offset) r)
    (front_more file version number offset bytes more front are e) ∙ ap step same_place in
    let rest = fronts n m file due (number + 1) (offset + (length bytes - length front.rest)) front.rest more (all_rest (λ b. b < 256) w.frame front.rest (subst IsBytes w.whole are))
    (omega (arith, enough, shorter, length-append bytes more, length-append front.rest more)) in
    let place : ℕ = offset + (length bytes - length front.rest) in
    one front.item (may_end due front.rest) all.items (reads_from n file due (number + 1) place front.rest) (next place) rest (may_end due (front.rest ++ more))
    (λ q. may_more due front.rest more q) (ap (λ (r : Reading). r.items) is))
    (λ refusal. (all.items, refl))
  where
    one : (item : Item) (b : Bool) (whole : List Item) (short : Reading) (long : Reading) → Begins short.items long.items → (c : Bool) → (b ≡ false → c ≡ false)
        → whole ≡ (with_item item (if c then ended else long)).items → Begins (with_item item (if b then ended else short)).items whole
    one item true whole short long rest c goes is = (_, is)
    one item false whole short long rest true goes is = absurd (true≢false (goes refl))
    one item false whole short long rest false goes is = (rest.0, is ∙ ap (λ (l : List Item). item ∷ l) rest.1)

pub read_front : (file n : ℕ) (bytes : List ℕ) → IsBytes bytes → Begins (reads file (take n bytes)).items (reads file bytes).items
unfolding reads
read_front file n bytes are =
    let whole = take-append-drop n bytes in
    let all : List ℕ → List Item = λ l. (reads_from (suc (length l)) file HeaderDue 1 0 l).items in
    subst (λ (l : List ℕ). Begins (reads_from (suc (length (take n bytes))) file HeaderDue 1 0 (take n bytes)).items (all l)) whole
    (fronts (suc (length (take n bytes))) (suc (length (take n bytes ++ drop n bytes))) file HeaderDue 1 0 (take n bytes) (drop n bytes) (bytes_take n bytes are) (omega arith))

-- ---- several files

limited_front : (number : ℕ) (files : List (List ℕ)) → AllByRecursion IsBytes files → Begins (limited_from number files).items (input_from number files).items
unfolding limited_from input_from
limited_front number [] are = ([], refl)
limited_front number (bytes ∷ files) are = one (is_too_long number bytes) (reads number bytes) (read_front number limit bytes are.0) (limited_front (number + 1) files are.1)
  where
    one : (b : Bool) (r : Reading) → Begins (reads number (take limit bytes)).items r.items → Begins (limited_from (number + 1) files).items (input_from (number + 1) files).items
        → Begins (if b then record { items = (reads number (take limit bytes)).items; stop = AtLimit number } else then_limited r.items r.end (limited_from (number + 1) files)).items
        (joined r (input_from (number + 1) files)).items
    one b r cut more = by_end b r.items r.end cut more
      where
        by_end : (b : Bool) (items : List Item) (end : Ending) → Begins (reads number (take limit bytes)).items items → Begins (limited_from (number + 1) files).items (input_from (number + 1) files).items
            → Begins (if b then record { items = (reads number (take limit bytes)).items; stop = AtLimit number } else then_limited items end (limited_from (number + 1) files)).items
            (joined (record { items = items; end = end }) (input_from (number + 1) files)).items
        by_end true items Whole cut more = (
          cut.0 ++ (input_from (number + 1) files).items,
          ap (λ (l : List Item). l ++ (input_from (number + 1) files).items) cut.1 ∙ append_assoc (reads number (take limit bytes)).items cut.0 (input_from (number + 1) files).items,
        )
        by_end true items (Faulty verdict) cut more = cut
        by_end false items Whole cut more = (more.0, ap (λ (l : List Item). items ++ l) more.1 ∙ sym (append_assoc items (limited_from (number + 1) files).items more.0))
        by_end false items (Faulty verdict) cut more = ([], sym (append-nil items))

pub limited_is_front : LimitedIsFront
unfolding input
limited_is_front files are =
    let front = limited_front 1 files.bytes are.bytes in
    let named : List Item → List Item = overridden_items files.overrides in
    (named front.0, ap named front.1 ∙ map-append (overridden_item files.overrides) (limited_from 1 files.bytes).items front.0)
